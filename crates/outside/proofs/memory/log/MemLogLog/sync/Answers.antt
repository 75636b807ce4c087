use Rattle.std.proofs.Common.{◌≡◌, ℕ, List, [], ◌∷◌, length, take, drop, refl, sym, ap, ◌∙◌, take-append-drop, arith}
use Rattle.outside.proofs.memory.log.MemLogLog.sync.Goals as goal

whole_taken : (l : List ℕ) → take (length l) l ≡ l
whole_taken [] = refl
whole_taken (x ∷ l) = ap (λ (m : List ℕ). x ∷ m) (whole_taken l)

pub returns-clause-more : goal.returns-clause-more
returns-clause-more c =
    let items = c.args.self.now.bytes.items in
    let counted = c.len-self.ensures in
    let kept = c.args.self.now.bytes.ok.0 in
    let long : c.len-self.result ≡ length items = omega (arith, counted, kept) in
    let whole : take c.len-self.result items ≡ items = ap (λ (n : ℕ). take n items) long ∙ whole_taken items in
    (drop c.args.self.now.synced items, whole ∙ sym (take-append-drop c.args.self.now.synced items))

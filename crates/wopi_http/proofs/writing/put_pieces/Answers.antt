use Rattle.std.proofs.Common.{ℕ, List, [], ◌++◌, ◌∙◌, take, get_or, Bor, subst, arith}
use Rattle.std.specs.List.{flat_map}
use Rattle.wopi_http.specs.Replies.{Gathers}
use Rattle.wopi_http.proofs.WriteLemmas.{Gathers-then, part_then, part_more, text_more}
use Rattle.wopi_http.proofs.writing.put_pieces.Goals as goal

pub returns-in-Err-clause-bytes : goal.returns-in-Err-clause-bytes
returns-in-Err-clause-bytes g c =
    let xs = c.args.pieces.now in
    let i = c.loop-piece.piece-index in
    let d : Bor (List ℕ) = record { ref_ptr = (0, 0); now = [] } in
    let text : Bor (List ℕ) → List ℕ = λ p. p.now in
    let before = c.args.waiting.now.items in
    part_more text xs i d _ _ before c.loop-piece-test.true
    (part_then _ _ _ c.loop-piece.waiting.items (before ++ flat_map text (take i xs)) (text (get_or xs i d)) c.loop-piece.invariant.put c.in-Err.ensures.bytes)

pub loop-piece-preserved : goal.loop-piece-preserved
loop-piece-preserved g c =
    let xs = c.args.pieces.now in
    let i = c.loop-piece.piece-index in
    let d : Bor (List ℕ) = record { ref_ptr = (0, 0); now = [] } in
    let text : Bor (List ℕ) → List ℕ = λ p. p.now in
    let before = c.args.waiting.now.items in
    let waiting = c.put.new.waiting.items in
    let old = g.K.Sink.held c.args.sink.now in
    let new = g.K.Sink.held c.put.new.sink in
    record {
      put = subst (λ (t : List ℕ). Gathers old new waiting t) (text_more text xs i d before c.loop-piece-test.true)
          (Gathers-then old _ new c.loop-piece.waiting.items waiting (before ++ flat_map text (take i xs)) (text (get_or xs i d))
          c.loop-piece.invariant.put c.in-Ok.ensures.bytes);
      beside = c.in-Ok.ensures.beside ∙ c.loop-piece.invariant.beside;
      never_falls = omega (arith, c.in-Ok.ensures.never_falls, c.loop-piece.invariant.never_falls);
    }

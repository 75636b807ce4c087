use Rattle.std.proofs.Common.{◌≡◌, List, ℕ, ◌++◌, take, drop, sym, ap, ◌∙◌, refl}
use Rattle.std.proofs.Math.Seq.{take-add}
use Rattle.outside.proofs.asking.read_more.Goals as goal

pub returns-in-Ok-read_behind-clause-taken : goal.returns-in-Ok-read_behind-clause-taken
returns-in-Ok-read_behind-clause-taken g c =
    let at = c.len-at.result in
    let n = c.in-Ok-read_behind.count in
    let old = c.args.bytes.now.items in
    let mid = c.read_behind.new.space.items in
    let front : take at mid ≡ old = c.in-Ok-read_behind.ensures.front ∙ ap (λ k. take k c.open_room.new.bytes.items) c.len-at.ensures ∙ c.in-Ok.ensures.front in (
      take n (drop at mid),
      c.truncate.ensures.items ∙ take-add at n mid ∙ ap (λ z. z ++ take n (drop at mid)) front,
      c.in-Ok-read_behind.ensures.bytes,
    )

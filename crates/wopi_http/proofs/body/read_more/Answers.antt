use Rattle.std.proofs.Common.{◌≡◌, ◌+◌, ◌-◌, ◌<◌, List, ℕ, length, vec_len, arith}
use Rattle.std.proofs.lemmas.List.{length-append}
use Rattle.wopi_http.proofs.CutLemmas.{cut_after}
use Rattle.wopi_http.proofs.body.read_more.Goals as goal

pub returns-in-Err-clause-cut : goal.returns-in-Err-clause-cut
returns-in-Err-clause-cut g c =
    let taken = c.growing.invariant.taken in
    let wire = taken.wire in
    let count : length wire ≡ vec_len c.growing.body - c.len-start.result = taken.count in
    let P : List ℕ → Type 0 = λ bytes. c.len-have.result + length bytes < vec_len c.open_place.new.body in
    let Q : List ℕ → Type 0 = λ bytes. length bytes < c.args.count in
    cut_after (g.S.Source.left c.args.source.now) (g.S.Source.left c.growing.source) (g.S.Source.left c.read_to_end.new.source) wire P Q taken.consumed c.in-Err.ensures.cut
    (λ bytes less. omega (arith, less, count, length-append wire bytes, c.len-have.ensures, c.len-start.ensures, c.next_goal-goal.ensures.within, c.open_place.ensures.len, c.growing.invariant.from))

use Rattle.std.proofs.Common.{◌≡◌, ◌++◌, ◌∷◌, [], Some, take, ap, ◌∙◌}
use Rattle.host_core.specs.Entries.{Made, Asked, asked_in, ruled}
use Rattle.host_core.specs.Written.{Written}
use Rattle.host_core.proofs.Ending.{begun_at, begun_inside, begun_is, ended_behind}
use Rattle.host_core.proofs.entries.Entries.end.Goals as goal

pub returns-clause-made : goal.returns-clause-made
returns-clause-made c = λ one is.
    let l = c.self.inside.list.items in
    let n = c.self.inside.ended in
    let ruling = c.args.ruling.now in
    let x = c.end.new.self in
    let here : begun_at l n ≡ Some one = ap (λ (w : Written). w.begun) c.self.view_is ∙ is in
    let asked : asked_in c.index_mut.result.now ≡ one = ap asked_in c.index_mut.ensures.value ∙ begun_is l n one c.index_mut.result.now here in
    let ends : x ≡ ruled ruling one = c.end.ensures ∙ ap (λ (a : Asked). ruled ruling a) asked in
    (ended_behind l n x (begun_inside l n one here) c.self.invariant.one).0
    ∙ ap (λ (m : Made). take n l ++ m ∷ []) ends ∙ ap (λ (w : Written). w.made ++ ruled ruling one ∷ []) c.self.view_is

pub returns-clause-ended : goal.returns-clause-ended
returns-clause-ended c =
    let l = c.self.inside.list.items in
    let n = c.self.inside.ended in
    let (one, is, saved) = c.requires.begun in
    let here : begun_at l n ≡ Some one = ap (λ (w : Written). w.begun) c.self.view_is ∙ is in
    (ended_behind l n c.end.new.self (begun_inside l n one here) c.self.invariant.one).1

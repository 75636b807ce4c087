use Rattle.std.proofs.Common.{◌≡◌, Some, None, List, take, vec_capacity, ap, ◌∙◌}
use Rattle.wopi_model.specs.Step.{bare}
use Rattle.host_core.specs.Entries.{Made, asked_as, ruled}
use Rattle.host_core.specs.Written.{Written}
use Rattle.host_core.proofs.Ending.{begun_at, all_ended, put_behind}
use Rattle.host_core.proofs.entries.Entries.begin.Goals as goal

pub returns : goal.returns
returns c =
    let l = c.self.inside.list.items in
    let n = c.self.inside.ended in
    let beginning = c.args.beginning.now in
    let asked = asked_as beginning.stamp beginning.pass beginning.moment beginning.time beginning.call.now in
    let new = c.put.new.entries in
    let none : begun_at l n ≡ None = ap (λ (w : Written). w.begun) c.self.view_is ∙ c.requires.begun in
    let behind = put_behind l n (ruled (bare 401) asked) (all_ended l n c.self.invariant.inside none) in
    let made : take n new.items ≡ c.args.self.now.made = ap (λ (items : List Made). take n items) c.put.ensures.items ∙ behind.0 ∙ ap (λ (w : Written). w.made) c.self.view_is in
    let begun : begun_at new.items n ≡ Some asked = ap (λ (items : List Made). begun_at items n) c.put.ensures.items ∙ behind.1 in
    let most : vec_capacity new ≡ c.args.self.now.most = c.put.ensures.slots ∙ ap (λ (w : Written). w.most) c.self.view_is in
    λ i. record { made = made i; begun = begun i; most = most i }

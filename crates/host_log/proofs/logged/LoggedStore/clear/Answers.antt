use Rattle.std.proofs.Common.{◌≡◌, ◌∙◌, None, Some, ap, sym}
use Rattle.wopi_model.specs.Act.{is_stored}
use Rattle.host_core.specs.Entries.{Asked, brought_by, ruled}
use Rattle.host_core.specs.Notes.{accepted}
use Rattle.host_log.specs.Logs.{LogView}
use Rattle.host_log.proofs.Keeping.{back_logged, own_standing, cleared_logged, refused_logged, unsaved}
use Rattle.host_log.proofs.logged.LoggedStore.clear.Goals as goal

pub stand_ahead-requires-clause-own : goal.stand_ahead-requires-clause-own
stand_ahead-requires-clause-own g c = λ some. own_standing c.self.inside c.in-Some.begun c.self.invariant c.in-Some.is some

pub stand_ahead-requires-clause-contents : goal.stand_ahead-requires-clause-contents
stand_ahead-requires-clause-contents g c =
    let (one, is, none, name, removes) = c.requires.begun in
    let begun : c.self.inside.begun ≡ Some one = ap (λ (v : LogView _). v.notes.begun) c.self.view_is ∙ is in
    let same : one ≡ c.in-Some.begun = cc (c.in-Some.is, begun) in
    sym (ap (λ (a : Asked). brought_by a.call.act) (sym same) ∙ ap brought_by removes)

pub invariant_of-self : goal.invariant_of-self
invariant_of-self g c =
    let (one, is, none, name, act) = c.requires.begun in
    let nothing = unsaved c.self.inside.saved (ap (λ (v : LogView _). v.notes.saved) c.self.view_is ∙ none) in
    refused_logged c.self.inside c.stand_ahead.new.lines _ c.in-Some.begun c.self.invariant c.in-Some.is c.stand_ahead.ensures.told c.stand_ahead.ensures.goes_on c.in-Err.ensures.lost
    c.in-Err.ensures.free c.in-Err.ensures.doubt c.stand_ahead.ensures.still nothing

pub invariant_of-self-in-Ok-remove : goal.invariant_of-self-in-Ok-remove
invariant_of-self-in-Ok-remove g c =
    let (one, is, none, name, removes) = c.requires.begun in
    let begun : c.self.inside.begun ≡ Some one = ap (λ (v : LogView _). v.notes.begun) c.self.view_is ∙ is in
    let same : c.in-Some.begun ≡ one = cc (c.in-Some.is, begun) in
    let nothing = unsaved c.self.inside.saved (ap (λ (v : LogView _). v.notes.saved) c.self.view_is ∙ none) in
    let stands = c.in-Ok.ensures.standing ∙ ap (λ (a : Asked). Some (ruled (accepted None) a)) same in
    cleared_logged c.self.inside c.remove.new.self c.stand_ahead.new.lines one c.self.invariant c.stand_ahead.ensures.told c.in-Ok.ensures.fine c.stand_ahead.ensures.goes_on nothing
    begun (ap is_stored removes) stands

pub invariant_of-self-in-Err-remove : goal.invariant_of-self-in-Err-remove
invariant_of-self-in-Err-remove g c =
    let (one, is, none, name, removes) = c.requires.begun in
    let nothing = unsaved c.self.inside.saved (ap (λ (v : LogView _). v.notes.saved) c.self.view_is ∙ none) in
    back_logged c.self.inside c.remove.new.self c.stand_ahead.new.lines c.take_back.new.self (accepted None) c.in-Some.begun c.self.invariant c.in-Some.is
    c.stand_ahead.ensures.told c.take_back.ensures.told c.in-Ok.ensures.fine c.stand_ahead.ensures.goes_on c.take_back.ensures.goes_on nothing c.take_back.ensures.free
    c.in-Ok.ensures.standing c.take_back.ensures.doubt

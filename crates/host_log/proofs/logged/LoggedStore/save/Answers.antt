use Rattle.std.proofs.Common.{◌≡◌, ◌∙◌, Some, ap, sym}
use Rattle.host_core.specs.Entries.{Asked, brought_by, ruled}
use Rattle.host_core.specs.Notes.{accepted}
use Rattle.host_log.specs.Logs.{LogView}
use Rattle.host_log.proofs.Keeping.{back_logged, own_standing, refused_logged, saved_logged, unsaved}
use Rattle.host_log.proofs.Noting.{brought_stored}
use Rattle.host_log.proofs.logged.LoggedStore.save.Goals as goal

pub stand_ahead-requires-clause-own : goal.stand_ahead-requires-clause-own
stand_ahead-requires-clause-own g c = λ some. own_standing c.self.inside c.in-Some.begun c.self.invariant c.in-Some.is some

pub stand_ahead-requires-clause-contents : goal.stand_ahead-requires-clause-contents
stand_ahead-requires-clause-contents g c =
    let (one, is, none, name, brings) = c.requires.begun in
    let begun : c.self.inside.begun ≡ Some one = ap (λ (v : LogView _). v.notes.begun) c.self.view_is ∙ is in
    let same : one ≡ c.in-Some.begun = cc (c.in-Some.is, begun) in
    ap Some c.as_slice.ensures ∙ sym brings ∙ ap (λ (a : Asked). brought_by a.call.act) same

pub invariant_of-self : goal.invariant_of-self
invariant_of-self g c =
    let (one, is, none, name, act) = c.requires.begun in
    let nothing = unsaved c.self.inside.saved (ap (λ (v : LogView _). v.notes.saved) c.self.view_is ∙ none) in
    refused_logged c.self.inside c.stand_ahead.new.lines _ c.in-Some.begun c.self.invariant c.in-Some.is c.stand_ahead.ensures.told c.stand_ahead.ensures.goes_on c.in-Err.ensures.lost
    c.in-Err.ensures.free c.in-Err.ensures.doubt c.stand_ahead.ensures.still nothing

pub invariant_of-self-in-Ok-replace : goal.invariant_of-self-in-Ok-replace
invariant_of-self-in-Ok-replace g c =
    let (one, is, none, name, brings) = c.requires.begun in
    let begun : c.self.inside.begun ≡ Some one = ap (λ (v : LogView _). v.notes.begun) c.self.view_is ∙ is in
    let same : c.in-Some.begun ≡ one = cc (c.in-Some.is, begun) in
    let stands = c.in-Ok.ensures.standing ∙ ap (λ (a : Asked). Some (ruled (accepted (Some c.args.version)) a)) same in
    saved_logged c.self.inside c.replace.new.self c.stand_ahead.new.lines _ one c.self.invariant c.stand_ahead.ensures.told c.in-Ok.ensures.fine c.stand_ahead.ensures.goes_on
    begun (brought_stored one.call.act _ brings) stands

pub invariant_of-self-in-Err-replace : goal.invariant_of-self-in-Err-replace
invariant_of-self-in-Err-replace g c =
    let (one, is, none, name, brings) = c.requires.begun in
    let nothing = unsaved c.self.inside.saved (ap (λ (v : LogView _). v.notes.saved) c.self.view_is ∙ none) in
    back_logged c.self.inside c.replace.new.self c.stand_ahead.new.lines c.take_back.new.self (accepted (Some c.args.version)) c.in-Some.begun c.self.invariant c.in-Some.is
    c.stand_ahead.ensures.told c.take_back.ensures.told c.in-Ok.ensures.fine c.stand_ahead.ensures.goes_on c.take_back.ensures.goes_on nothing c.take_back.ensures.free
    c.in-Ok.ensures.standing c.take_back.ensures.doubt

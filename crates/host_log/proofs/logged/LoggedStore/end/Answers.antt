use Rattle.std.proofs.Common.{◌≡◌, ◌∙◌, ◌+◌, ◌==◌, Bool, None, Some, Option, option_map, ap, refl, subst, sym}
use Rattle.wopi_model.specs.declared.calls.Ruling.{Ruling}
use Rattle.host_core.specs.Entries.{Asked, ruled}
use Rattle.host_core.specs.Notes.{IsToldAhead, accepted, saved_in, told_version}
use Rattle.host_log.specs.declared.logged.Saved.{Saved}
use Rattle.host_log.specs.Logs.{LogView, brought_as}
use Rattle.host_log.proofs.Keeping.{ended_logged, ended_made, missing_bare, nothing_saved, own_standing}
use Rattle.host_log.proofs.Noting.{nothing_accepted}
use Rattle.host_log.proofs.logged.LoggedStore.end.Goals as goal

pub conclude-requires-clause-standing : goal.conclude-requires-clause-standing
conclude-requires-clause-standing g c = λ some status.
    let i = c.self.inside in
    let (one, is, stored, stands) = c.self.invariant.ahead some in
    let begun : i.begun ≡ Some c.in-Some.begun = sym c.in-Some.ensures.value in
    let same : one ≡ c.in-Some.begun = cc (is, begun) in
    let told = subst (λ (v : LogView _). IsToldAhead v.notes c.args.ruling.now) (sym c.self.view_is) c.requires.ahead in
    let ahead : c.args.ruling.now ≡ accepted (told_version (option_map brought_as i.saved)) = told one is stored status in
    stands ∙ ap (λ (r : Ruling). Some (ruled r one)) (sym ahead) ∙ ap (λ (a : Asked). Some (ruled c.args.ruling.now a)) same

pub conclude-requires-clause-own : goal.conclude-requires-clause-own
conclude-requires-clause-own g c = λ some. own_standing c.self.inside c.in-Some.begun c.self.invariant (sym c.in-Some.ensures.value) some

pub conclude-requires-clause-bare : goal.conclude-requires-clause-bare
conclude-requires-clause-bare g c = λ fine none.
    let i = c.self.inside in
    let nothing = nothing_saved i.saved i.lines.standing (c.self.invariant.stands fine) none in
    let (one, is, kept) = c.requires.begun in
    let begun : i.begun ≡ Some c.in-Some.begun = sym c.in-Some.ensures.value in
    let was : i.begun ≡ Some one = ap (λ (v : LogView _). v.notes.begun) c.self.view_is ∙ is in
    let same : one ≡ c.in-Some.begun = cc (was, begun) in
    let empty : saved_in (ruled c.args.ruling.now one) ≡ None = sym kept ∙ sym (ap (λ (v : LogView _). v.notes.saved) c.self.view_is) ∙ ap (λ (s : Option Saved). option_map brought_as s) nothing in
    nothing_accepted (ruled c.args.ruling.now c.in-Some.begun) (subst (λ (a : Asked). saved_in (ruled c.args.ruling.now a) ≡ None) same empty)

pub invariant_of-self : goal.invariant_of-self
invariant_of-self g c =
    let begun : c.self.inside.begun ≡ Some c.in-Some.begun = sym c.in-Some.ensures.value in
    let (one, is, kept) = c.requires.begun in
    let was : c.self.inside.begun ≡ Some one = ap (λ (v : LogView _). v.notes.begun) c.self.view_is ∙ is in
    let same : one ≡ c.in-Some.begun = cc (was, begun) in
    let here : option_map brought_as c.self.inside.saved ≡ saved_in (ruled c.args.ruling.now one) = ap (λ (v : LogView _). v.notes.saved) c.self.view_is ∙ kept in
    let saves : option_map brought_as c.self.inside.saved ≡ saved_in (ruled c.args.ruling.now c.in-Some.begun) = here ∙ ap (λ (a : Asked). saved_in (ruled c.args.ruling.now a)) same in
    ended_logged c.self.inside c.conclude.new.lines c.conclude.new.missing _ _ _ c.args.ruling.now c.in-Some.begun c.self.invariant c.replace.ensures.after begun
    c.conclude.ensures.goes_on c.conclude.ensures.made c.conclude.ensures.told c.conclude.ensures.stays c.conclude.ensures.present c.conclude.ensures.late c.conclude.ensures.doubt c.conclude.ensures.still
    c.conclude.ensures.free refl refl
    (missing_bare c.self.inside c.conclude.new.lines.lost c.args.ruling.now c.in-Some.begun c.self.invariant saves c.conclude.ensures.settled)

pub returns-clause-made : goal.returns-clause-made
returns-clause-made g c = λ one is.
    let begun : c.self.inside.begun ≡ Some c.in-Some.begun = sym c.in-Some.ensures.value in
    let was : c.self.inside.begun ≡ Some one = ap (λ (v : LogView _). v.notes.begun) c.self.view_is ∙ is in
    let same : c.in-Some.begun ≡ one = cc (was, begun) in
    let spent : Bool = c.self.inside.count + 1 == 4611686018427387904 in
    ended_made _ _ _ c.conclude.new.lines.lost spent c.args.ruling.now c.in-Some.begun one c.conclude.ensures.made (ap (λ (v : LogView _). v.notes.made) c.self.view_is) same

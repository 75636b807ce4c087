use Rattle.std.proofs.Common.{◌≡◌, ℕ, [], not, ◌==◌, true, Option, option_map, unwrap_or, sym, ap, subst, ◌∙◌, arith}
use Rattle.wopi_model.specs.File.{File, never_met}
use Rattle.wopi_model.specs.Settle.{settled}
use Rattle.wopi_model.specs.Step.{decision}
use Rattle.host_core.specs.Facts.{date_in, is_accept, late_if}
use Rattle.host_core.specs.Files.{BeganAtMoment, decision_of, file_of, files_of}
use Rattle.host_core.specs.Whole.{Whole, joined}
use Rattle.host_core.proofs.Dates.{date_at}
use Rattle.host_core.proofs.Late.{absent_put, file_found, late_accepted, late_refused, refuses}
use Rattle.host_core.proofs.Meeting.{found_first, found_none, place_below}
use Rattle.host_core.proofs.files.Rack.is_late.Goals as goal

pub returns-in-None : goal.returns-in-None
returns-in-None c = λ first.
    let files = c.args.self.now.files.items in
    let call = c.args.call.now in
    let none = found_none files c.args.self.now.locks.files c.args.self.now.index call.name c.requires.numbered c.in-None.ensures in
    let put = sym c.is_put.ensures ∙ c.if-not-is_put.false in
    sym (
    late_refused call.act c.args.known _ (date_in files call.name) (
    ap (λ (o : Option Whole). is_accept (decision (settled (unwrap_or (option_map file_of o) (never_met first)) c.args.now) call c.args.opened c.args.now)) none
    ∙ absent_put first call c.args.opened c.args.now put
    )
    )

pub index-file-requires : goal.index-file-requires
index-file-requires c =
    let files = c.args.self.now.files.items in
    let name = c.args.call.now.name in
    let first = found_first files [] c.args.self.now.index name c.in-Some-find.number c.requires.numbered c.in-Some-find.ensures in
    let lt = place_below files [] name c.in-Some-find.number first in
    omega (arith, lt, c.args.self.now.files.ok.0)

pub decide-requires-clause-here : goal.decide-requires-clause-here
decide-requires-clause-here c =
    let files = c.args.self.now.files.items in
    let name = c.args.call.now.name in
    let first = found_first files [] c.args.self.now.index name c.in-Some-find.number c.requires.numbered c.in-Some-find.ensures in
    let lt = place_below files [] name c.in-Some-find.number first in
    let long = c.requires.locked.1.long in
    omega (arith, lt, long)

pub decide-requires-clause-moment : goal.decide-requires-clause-moment
decide-requires-clause-moment c =
    let (first, moment) = c.requires.moments in
    subst (λ (f : File). BeganAtMoment f.lock)
    (file_found first c.args.self.now.files.items c.args.self.now.locks.files c.args.self.now.index c.args.call.now.name c.in-Some-find.number c.index-file.result.now c.requires.numbered c.in-Some-find.ensures c.index-file.ensures)
    moment

pub returns-in-Accept : goal.returns-in-Accept
returns-in-Accept c = λ first.
    let files = c.args.self.now.files.items in
    let call = c.args.call.now in
    let k = c.index-file.result.now in
    let number = c.in-Some-find.number in
    let here = file_found first files c.args.self.now.locks.files c.args.self.now.index call.name number k c.requires.numbered c.in-Some-find.ensures c.index-file.ensures in
    let date = date_at files call.name number k (sym (c.requires.numbered call.name) ∙ sym c.in-Some-find.ensures) c.index-file.ensures in
    let accepted = is_accept (decision (settled (files_of first (joined files c.args.self.now.locks.files) call.name) c.args.now) call c.args.opened c.args.now) in
    let accepts : accepted ≡ true = ap is_accept (ap (λ (f : File). decision (settled f c.args.now) call c.args.opened c.args.now) here ∙ sym c.decide.ensures ∙ ap decision_of c.in-Accept.is) in
    ap (λ (n : ℕ). not (n == c.in-Some.known)) (sym date)
    ∙ sym (ap (λ (o : Option ℕ). late_if call.act o accepted (date_in files call.name)) c.in-Some.is ∙ late_accepted call.act c.in-Some.known accepted (date_in files call.name) (sym c.is_put.ensures ∙ c.if-not-is_put.false) accepts)

pub returns-in_default-decide : goal.returns-in_default-decide
returns-in_default-decide c = λ first.
    let files = c.args.self.now.files.items in
    let call = c.args.call.now in
    let number = c.in-Some-find.number in
    let here = file_found first files c.args.self.now.locks.files c.args.self.now.index call.name number c.index-file.result.now c.requires.numbered c.in-Some-find.ensures c.index-file.ensures in
    let refused = ap is_accept (ap (λ (f : File). decision (settled f c.args.now) call c.args.opened c.args.now) here ∙ sym c.decide.ensures) ∙ refuses c.decide.result c.in_default-decide.not-Accept in
    sym (late_refused call.act c.args.known _ (date_in files call.name) refused)

use Rattle.std.proofs.Common.{◌≡◌, Option, option_map, unwrap_or, refl, sym, ap, subst, ◌∙◌, arith}
use Rattle.wopi_model.specs.Settle.{settled}
use Rattle.wopi_model.specs.Step.{decision}
use Rattle.wopi_model.specs.Host.{begins_lock}
use Rattle.wopi_model.specs.File.{File, never_met}
use Rattle.host_core.specs.Files.{BeganAtMoment, decision_of, file_of, files_of}
use Rattle.host_core.specs.Steps.{WantsPlace}
use Rattle.host_core.specs.Whole.{Whole, joined, whole, standing_at}
use Rattle.host_core.proofs.Absent.{absent_place}
use Rattle.host_core.proofs.Decisions.{accepted_only}
use Rattle.host_core.proofs.Meeting.{found_first, found_none, met_file, place_below}
use Rattle.host_core.proofs.files.Rack.wants_place.Goals as goal

pub index-file-requires : goal.index-file-requires
index-file-requires c =
    let files = c.args.self.now.files.items in
    let ss = c.args.self.now.locks.files in
    let name = c.args.call.now.name in
    let number = c.in-Some.number in
    let first = found_first files ss c.args.self.now.index name number c.requires.numbered c.in-Some.ensures in
    let lt = place_below files ss name number first in
    let long = c.args.self.now.files.ok.0 in
    omega (arith, lt, long)

pub begins_lock-requires-clause-here : goal.begins_lock-requires-clause-here
begins_lock-requires-clause-here c =
    let files = c.args.self.now.files.items in
    let ss = c.args.self.now.locks.files in
    let name = c.args.call.now.name in
    let number = c.in-Some.number in
    let first = found_first files ss c.args.self.now.index name number c.requires.numbered c.in-Some.ensures in
    let lt = place_below files ss name number first in
    omega (arith, lt, c.requires.long)

pub begins_lock-requires-clause-moment : goal.begins_lock-requires-clause-moment
begins_lock-requires-clause-moment c =
    let files = c.args.self.now.files.items in
    let ss = c.args.self.now.locks.files in
    let name = c.args.call.now.name in
    let number = c.in-Some.number in
    let first = found_first files ss c.args.self.now.index name number c.requires.numbered c.in-Some.ensures in
    let call = c.args.call.now in
    let k = c.index-file.result.now in
    let is = met_file c.args.first files ss name number k first c.index-file.ensures in
    subst (λ (f : File). BeganAtMoment f.lock) is c.requires.moment

pub decide-requires-clause-here : goal.decide-requires-clause-here
decide-requires-clause-here c =
    let files = c.args.self.now.files.items in
    let ss = c.args.self.now.locks.files in
    let name = c.args.call.now.name in
    let number = c.in-Some.number in
    let first = found_first files ss c.args.self.now.index name number c.requires.numbered c.in-Some.ensures in
    let lt = place_below files ss name number first in
    omega (arith, lt, c.requires.long)

pub decide-requires-clause-moment : goal.decide-requires-clause-moment
decide-requires-clause-moment c =
    let files = c.args.self.now.files.items in
    let ss = c.args.self.now.locks.files in
    let name = c.args.call.now.name in
    let number = c.in-Some.number in
    let first = found_first files ss c.args.self.now.index name number c.requires.numbered c.in-Some.ensures in
    let call = c.args.call.now in
    let k = c.index-file.result.now in
    let is = met_file c.args.first files ss name number k first c.index-file.ensures in
    subst (λ (f : File). BeganAtMoment f.lock) is c.requires.moment

pub returns-in-None : goal.returns-in-None
returns-in-None c =
    let call = c.args.call.now in
    let none = found_none c.args.self.now.files.items c.args.self.now.locks.files c.args.self.now.index call.name c.requires.numbered c.in-None.ensures in
    let is = ap (λ (o : Option Whole). unwrap_or (option_map file_of o) (never_met c.args.first)) none in
    (λ h. absurd (cc (h)), λ wants. absurd (absent_place c.args.first call c.args.opened c.args.now (subst (λ (f : File). WantsPlace f call c.args.opened c.args.now) is wants)))

pub returns-in-Some : goal.returns-in-Some
returns-in-Some c =
    let files = c.args.self.now.files.items in
    let ss = c.args.self.now.locks.files in
    let name = c.args.call.now.name in
    let number = c.in-Some.number in
    let first = found_first files ss c.args.self.now.index name number c.requires.numbered c.in-Some.ensures in
    let call = c.args.call.now in
    let k = c.index-file.result.now in
    let is = met_file c.args.first files ss name number k first c.index-file.ensures in
    let begins : c.begins_lock.result ≡ begins_lock (settled (files_of c.args.first (joined files ss) name) c.args.now) call.act =
    c.begins_lock.ensures (settled (file_of (whole k (standing_at ss number))) c.args.now) refl ∙ sym (ap (λ (f : File). begins_lock (settled f c.args.now) call.act) is) in
    (λ h. absurd (cc (h)), λ wants. absurd (cc (begins, wants.1, c.if-begins_lock.false)))

pub returns-in-Accept : goal.returns-in-Accept
returns-in-Accept c =
    let files = c.args.self.now.files.items in
    let ss = c.args.self.now.locks.files in
    let name = c.args.call.now.name in
    let number = c.in-Some.number in
    let first = found_first files ss c.args.self.now.index name number c.requires.numbered c.in-Some.ensures in
    let call = c.args.call.now in
    let k = c.index-file.result.now in
    let is = met_file c.args.first files ss name number k first c.index-file.ensures in
    let begins : c.begins_lock.result ≡ begins_lock (settled (files_of c.args.first (joined files ss) name) c.args.now) call.act =
    c.begins_lock.ensures (settled (file_of (whole k (standing_at ss number))) c.args.now) refl ∙ sym (ap (λ (f : File). begins_lock (settled f c.args.now) call.act) is) in
    let decides : decision_of c.decide.result ≡ decision (settled (files_of c.args.first (joined files ss) name) c.args.now) call c.args.opened c.args.now =
    c.decide.ensures ∙ sym (ap (λ (f : File). decision (settled f c.args.now) call c.args.opened c.args.now) is) in
    (λ _. (sym decides ∙ ap decision_of c.in-Accept.is, sym begins ∙ c.if-begins_lock.true), λ _. refl)

pub returns-in_default : goal.returns-in_default
returns-in_default c =
    let files = c.args.self.now.files.items in
    let ss = c.args.self.now.locks.files in
    let name = c.args.call.now.name in
    let number = c.in-Some.number in
    let first = found_first files ss c.args.self.now.index name number c.requires.numbered c.in-Some.ensures in
    let call = c.args.call.now in
    let k = c.index-file.result.now in
    let is = met_file c.args.first files ss name number k first c.index-file.ensures in
    let begins : c.begins_lock.result ≡ begins_lock (settled (files_of c.args.first (joined files ss) name) c.args.now) call.act =
    c.begins_lock.ensures (settled (file_of (whole k (standing_at ss number))) c.args.now) refl ∙ sym (ap (λ (f : File). begins_lock (settled f c.args.now) call.act) is) in
    let decides : decision_of c.decide.result ≡ decision (settled (files_of c.args.first (joined files ss) name) c.args.now) call c.args.opened c.args.now =
    c.decide.ensures ∙ sym (ap (λ (f : File). decision (settled f c.args.now) call c.args.opened c.args.now) is) in
    (λ h. absurd (cc (h)), λ wants. absurd (c.in_default.not-Accept (accepted_only c.decide.result (decides ∙ wants.0))))

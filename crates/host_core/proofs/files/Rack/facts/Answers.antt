use Rattle.std.proofs.Common.{ℕ, [], Option, option_map, unwrap_or, sym, ap, ◌∙◌, arith}
use Rattle.wopi_model.specs.File.{File, never_met}
use Rattle.host_core.specs.Facts.{bare_file, date_in, facts_of}
use Rattle.host_core.specs.Files.{file_of}
use Rattle.host_core.specs.Whole.{Whole, whole, standing_at, joined}
use Rattle.host_core.proofs.Dates.{date_at}
use Rattle.host_core.proofs.Digesting.{digested_at, digested_set, undigested_set}
use Rattle.host_core.proofs.FileLists.{file_at}
use Rattle.host_core.proofs.Joining.{get_joined}
use Rattle.host_core.proofs.Meeting.{found_first, found_none, place_below}
use Rattle.host_core.proofs.files.Rack.facts.Goals as goal

pub index_mut-file-requires : goal.index_mut-file-requires
index_mut-file-requires c =
    let files = c.args.self.now.files.items in
    let first = found_first files [] c.args.self.now.index c.args.name.now c.in-Some.number c.requires.numbered c.in-Some.ensures in
    let lt = place_below files [] c.args.name.now c.in-Some.number first in
    omega (arith, lt, c.args.self.now.files.ok.0)

pub facts_in-requires : goal.facts_in-requires
facts_in-requires c =
    let files = c.args.self.now.files.items in
    let first = found_first files [] c.args.self.now.index c.args.name.now c.in-Some.number c.requires.numbered c.in-Some.ensures in
    digested_at files c.in-Some.number c.index_mut-file.result.now c.requires.digests c.index_mut-file.ensures.value (place_below files [] c.args.name.now c.in-Some.number first)

pub returns-in-None-clause-facts : goal.returns-in-None-clause-facts
returns-in-None-clause-facts c = λ first locks.
    let files = c.args.self.now.files.items in
    let none = found_none files locks c.args.self.now.index c.args.name.now c.requires.numbered c.in-None.ensures in
    sym (ap (λ (o : Option Whole). facts_of c.args.digest (date_in files c.args.name.now) (unwrap_or (option_map file_of o) (never_met first)).contents) none)

pub returns-in-Some-clause-facts : goal.returns-in-Some-clause-facts
returns-in-Some-clause-facts c = λ first locks.
    let files = c.args.self.now.files.items in
    let name = c.args.name.now in
    let number = c.in-Some.number in
    let k = c.index_mut-file.result.now in
    let place = found_first files locks c.args.self.now.index name number c.requires.numbered c.in-Some.ensures in
    let at = get_joined files number k locks c.index_mut-file.ensures.value in
    let here = file_at file_of (never_met first) (joined files locks) name number (whole k (standing_at locks number)) place at in
    let date = date_at files name number k (sym (c.requires.numbered name) ∙ sym c.in-Some.ensures) c.index_mut-file.ensures.value in
    c.facts_in.ensures.facts
    ∙ sym (ap (λ (d : ℕ). facts_of c.args.digest d k.contents) date)
    ∙ sym (ap (λ (f : File). facts_of c.args.digest (date_in files name) f.contents) here)

pub returns-in-Some-clause-files : goal.returns-in-Some-clause-files
returns-in-Some-clause-files c =
    let files = c.args.self.now.files.items in
    undigested_set files c.in-Some.number c.index_mut-file.result.now c.facts_in.new.file c.index_mut-file.ensures.value (ap bare_file c.facts_in.ensures.same)

pub returns-in-Some-clause-digests : goal.returns-in-Some-clause-digests
returns-in-Some-clause-digests c = digested_set c.args.self.now.files.items c.in-Some.number c.facts_in.new.file c.requires.digests c.facts_in.ensures.digested

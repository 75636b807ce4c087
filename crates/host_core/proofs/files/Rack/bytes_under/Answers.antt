use Rattle.std.proofs.Common.{Option, option_map, unwrap_or, sym, ap, ◌∙◌, arith}
use Rattle.wopi_model.specs.File.{File, never_met}
use Rattle.wopi_model.specs.Lives.{bytes_of}
use Rattle.host_core.specs.Files.{file_of}
use Rattle.host_core.specs.Whole.{Whole}
use Rattle.host_core.proofs.Meeting.{found_first, found_none, met_file, place_below}
use Rattle.host_core.proofs.files.Rack.bytes_under.Goals as goal

pub index-file-requires : goal.index-file-requires
index-file-requires c =
    let files = c.args.self.now.files.items in
    let ss = c.args.self.now.locks.files in
    let first = found_first files ss c.args.self.now.index c.args.name.now c.in-Some.number c.requires.numbered c.in-Some.ensures in
    let lt = place_below files ss c.args.name.now c.in-Some.number first in
    let long = c.args.self.now.files.ok.0 in
    omega (arith, lt, long)

pub returns-in-None : goal.returns-in-None
returns-in-None c =
    let none = found_none c.args.self.now.files.items c.args.self.now.locks.files c.args.self.now.index c.args.name.now c.requires.numbered c.in-None.ensures in
    sym (ap (λ (o : Option Whole). bytes_of (unwrap_or (option_map file_of o) (never_met c.args.first)).contents) none)

pub returns-in-Some : goal.returns-in-Some
returns-in-Some c =
    let files = c.args.self.now.files.items in
    let ss = c.args.self.now.locks.files in
    let first = found_first files ss c.args.self.now.index c.args.name.now c.in-Some.number c.requires.numbered c.in-Some.ensures in
    c.bytes_in.ensures ∙ sym (ap (λ (f : File). bytes_of f.contents) (met_file c.args.first files ss c.args.name.now c.in-Some.number c.index-file.result.now first c.index-file.ensures))

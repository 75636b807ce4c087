use Rattle.std.proofs.Common.{◌≡◌, [], length, inl, inr, refl, sym, ap, ◌∙◌, arith}
use Rattle.journal_text.specs.declared.reading.Taken.TheVariants as taken
use Rattle.journal_text.specs.Reader.{Takes, with_file, with_line}
use Rattle.journal_text.specs.Words.{words_of}
use Rattle.journal_text.proofs.Fronts.{no_items}
use Rattle.journal_text.proofs.pieces.read_next.Goals as goal

pub returns-in-File : goal.returns-in-File
returns-in-File g c = λ text entries number kept.
    let takes : Takes (words_of c.args.row.now) c.args.reader.now (taken.File c.in-File.file) c.take.new.self = rw c.in-File.is at c.in_ok-file.ensures in
    let none = takes.none in
    (with_file text c.in-File.file, c.in_ok-keep_file-in-File.ensures text (no_items text.lines (omega (arith, entries, none))) kept, inl (c.in-File.file, takes, refl))

pub keep_line-requires : goal.keep_line-requires
keep_line-requires g c =
    let takes : Takes (words_of c.args.row.now) c.args.reader.now (taken.Entry c.in-Entry.line) c.take.new.self = rw c.in-Entry.is at c.in_ok-file.ensures in
    (c.args.reader.now.form, takes.form_is)

pub returns-in-Entry : goal.returns-in-Entry
returns-in-Entry g c = λ text entries number kept.
    let takes : Takes (words_of c.args.row.now) c.args.reader.now (taken.Entry c.in-Entry.line) c.take.new.self = rw c.in-Entry.is at c.in_ok-file.ensures in
    (with_line text c.in-Entry.line, c.in_ok-keep_line-in-Entry.ensures text number kept, inr (c.in-Entry.line, takes, refl))

use Rattle.std.proofs.Common.{◌≡◌, Err, inl, ap}
use Rattle.line_text.specs.declared.input.InputFault.TheVariants.{Text}
use Rattle.journal_segments.specs.declared.walking.SegmentFault.TheVariants as fault
use Rattle.journal_segments.proofs.Coming.{ended, missing, watched}
use Rattle.journal_segments.proofs.reading.watch_segment.Goals as goal

pub returns-in-Err-clause-head : goal.returns-in-Err-clause-head
returns-in-Err-clause-head g c = λ is.
    let same : c.in-Err.fault ≡ Text fault.Head = cc is in
    let so = c.in-Err.ensures.refused fault.Head (ap (λ f. Err f) same) in
    record { bytes = so.bytes; read = so.read; says = inl so.says }

pub returns-in-Err-clause-bad : goal.returns-in-Err-clause-bad
returns-in-Err-clause-bad g c = λ line is.
    let same : c.in-Err.fault ≡ Text (fault.Bad line) = cc is in c.in-Err.ensures.refused (fault.Bad line) (ap (λ f. Err f) same)

pub returns-in-Err-clause-long : goal.returns-in-Err-clause-long
returns-in-Err-clause-long g c = λ line is.
    let same : c.in-Err.fault ≡ Text (fault.Long line) = cc is in c.in-Err.ensures.refused (fault.Long line) (ap (λ f. Err f) same)

pub returns-in-Err-clause-too_long : goal.returns-in-Err-clause-too_long
returns-in-Err-clause-too_long g c = λ is.
    let same : c.in-Err.fault ≡ Text fault.TooLong = cc is in c.in-Err.ensures.refused fault.TooLong (ap (λ f. Err f) same)

pub finish-requires : goal.finish-requires
finish-requires g c = let so = c.in-Ok-read_text.ensures.whole in (so.bytes, so.says)

pub returns-in-Ok-finish-clause-watched : goal.returns-in-Ok-finish-clause-watched
returns-in-Ok-finish-clause-watched g c =
    watched g.W.Watcher.has_seen (g.S.Source.left c.args.source.now) (g.S.Source.left c.read_text.new.source) c.read_text.new.text c.in-Ok-finish.read.0 c.in-Ok-finish.read.1
    c.in-Ok-read_text.ensures.whole c.in-Ok-read_text.ensures.end c.in-Ok-finish.ensures.seen

pub returns-in-Err-finish-clause-head : goal.returns-in-Err-finish-clause-head
returns-in-Err-finish-clause-head g c = λ is.
    let same : c.in-Err-finish.fault ≡ fault.Head = cc is in
    missing g.W.Watcher.has_seen (g.S.Source.left c.args.source.now) (g.S.Source.left c.read_text.new.source) c.read_text.new.text c.in-Err-finish.fault c.in-Ok-read_text.ensures.whole
    c.in-Ok-read_text.ensures.end c.in-Err-finish.ensures.head same

pub returns-in-Err-finish-clause-bad : goal.returns-in-Err-finish-clause-bad
returns-in-Err-finish-clause-bad g c = λ line is.
    let same : c.in-Err-finish.fault ≡ fault.Bad line = cc is in
    let end = ended g.W.Watcher.has_seen (g.S.Source.left c.args.source.now) (g.S.Source.left c.read_text.new.source) c.read_text.new.text c.in-Err-finish.fault (fault.Bad line) c.in-Ok-read_text.ensures.whole
    c.in-Err-finish.ensures.head same in
    absurd end.1

pub returns-in-Err-finish-clause-long : goal.returns-in-Err-finish-clause-long
returns-in-Err-finish-clause-long g c = λ line is.
    let same : c.in-Err-finish.fault ≡ fault.Long line = cc is in
    let end = ended g.W.Watcher.has_seen (g.S.Source.left c.args.source.now) (g.S.Source.left c.read_text.new.source) c.read_text.new.text c.in-Err-finish.fault (fault.Long line) c.in-Ok-read_text.ensures.whole
    c.in-Err-finish.ensures.head same in
    absurd end.1

pub returns-in-Err-finish-clause-too_long : goal.returns-in-Err-finish-clause-too_long
returns-in-Err-finish-clause-too_long g c = λ is.
    let same : c.in-Err-finish.fault ≡ fault.TooLong = cc is in
    let end = ended g.W.Watcher.has_seen (g.S.Source.left c.args.source.now) (g.S.Source.left c.read_text.new.source) c.read_text.new.text c.in-Err-finish.fault fault.TooLong c.in-Ok-read_text.ensures.whole
    c.in-Err-finish.ensures.head same in
    absurd end.1

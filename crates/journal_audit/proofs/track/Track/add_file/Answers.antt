use Rattle.std.proofs.Common.{◌≡◌, ◌∷◌, ◌++◌, [], refl, subst, sym, ap, ◌∙◌}
use Rattle.name_index.specs.Index.{number_of}
use Rattle.journal_audit.specs.Judging.{Placed}
use Rattle.journal_audit.specs.Tracks.{IsOpened, Tracked}
use Rattle.journal_audit.proofs.Auditing.{none_of, opened_push, opened_twice, some_of}
use Rattle.journal_audit.proofs.track.Track.add_file.Goals as goal

pub returns-then-is_some : goal.returns-then-is_some
returns-then-is_some c opening contents opened first long is =
    let inside = c.self.inside in
    let old : Tracked = record { opened = inside.opened; first = inside.first; now = inside.now; names = inside.names; files = inside.files.items; spent = inside.spent } in
    let view : old ≡ c.args.self.now = c.self.view_is in
    opened_twice c.args.self.now opening c.args.name.now contents opened first is
    (λ none. some_of c.find.result (sym c.is_some.ensures ∙ c.if-is_some.true) (c.find.ensures ∙ ap (λ (t : Tracked). number_of t.names c.args.name.now) view ∙ none))

pub returns-in-Ok : goal.returns-in-Ok
returns-in-Ok c opening contents opened first long is =
    let inside = c.self.inside in
    let old : Tracked = record { opened = inside.opened; first = inside.first; now = inside.now; names = inside.names; files = inside.files.items; spent = inside.spent } in
    let new : Tracked = record { opened = inside.opened; first = inside.first; now = inside.now; names = c.add_file.new.names; files = c.add_file.new.files.items; spent = inside.spent } in
    let view : old ≡ c.args.self.now = c.self.view_is in
    opened_push old new opening c.args.name.now contents c.args.size opened first long (subst (λ (t : Tracked). IsOpened t opening opened first) (sym view) is)
    (sym c.find.ensures ∙ none_of c.find.result (sym c.is_some.ensures ∙ c.if-is_some.false)) c.in-Ok.ensures.names
    (c.in-Ok.ensures.files ∙ ap (λ (p : Placed). inside.files.items ++ p ∷ []) c.opened-file.ensures) refl refl refl refl

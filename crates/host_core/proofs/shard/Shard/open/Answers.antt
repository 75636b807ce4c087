use Rattle.std.proofs.Common.{ℕ, List, map, sym, subst, ap, ◌∙◌}
use Rattle.outside.specs.Folder.{Keeps}
use Rattle.host_core.specs.Notes.{opening_listed}
use Rattle.host_core.specs.Opening.{AreDatesOf}
use Rattle.wopi_model.specs.File.{File}
use Rattle.host_core.specs.Value.{Book}
use Rattle.host_core.proofs.Dating.{names_dated}
use Rattle.host_core.proofs.Gathering.{keeps_both}
use Rattle.host_core.proofs.shard.Shard.open.Goals as goal

pub returns-in-Ok-take_room-clause-told : goal.returns-in-Ok-take_room-clause-told
returns-in-Ok-take_room-clause-told g c =
    subst (λ (b : Book _). AreDatesOf (g.F.Store.times c.args.folder) b.dates) (sym c.assemble-shard.ensures.value) c.in-Ok.ensures.dates

pub returns-in-Ok-take_room-clause-dates : goal.returns-in-Ok-take_room-clause-dates
returns-in-Ok-take_room-clause-dates g c =
    let value = c.assemble-shard.ensures.value in
    ap (λ (b : Book _). map (λ (one : List ℕ × ℕ). one.0) b.dates) value
    ∙ names_dated c.in-Ok.stock.files.items c.args.opened c.args.first
    ∙ sym (ap (λ (b : Book _). map (λ (one : List ℕ × File). one.0) b.begin.files) value)

pub returns-in-Ok-take_room-clause-same : goal.returns-in-Ok-take_room-clause-same
returns-in-Ok-take_room-clause-same g c =
    let files = g.F.Store.files in
    let both = keeps_both (files c.args.folder) (files c.gather.new.folder) (files c.open.new.self) c.in-Ok.ensures.same c.in-Ok-open.ensures.files in
    subst (λ (b : Book _). Keeps (files c.args.folder) (files b.folder)) (sym c.assemble-shard.ensures.value) both

pub returns-in-Ok-take_room-clause-opening : goal.returns-in-Ok-take_room-clause-opening
returns-in-Ok-take_room-clause-opening g c =
    (opening_listed c.in-Ok.stock.files.items, ap (λ (b : Book _). b.begin) c.assemble-shard.ensures.value, c.in-Ok.ensures.opening, c.in-Ok.ensures.fits)

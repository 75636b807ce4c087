use Rattle.std.proofs.Common.{◌≡◌, ◌≤◌, List, ℕ, Option, option_map, refl, sym, ap, subst, ◌∙◌, arith}
use Rattle.outside.specs.Folder.{Files, Keeps}
use Rattle.host_core.specs.Facts.{dates_of}
use Rattle.host_core.specs.Life.{IfLarge, IsOfLife, as_reopening, mended}
use Rattle.host_core.specs.declared.life.ReopenFault.{ReopenFault}
use Rattle.host_core.specs.Notes.{opening_listed}
use Rattle.host_core.specs.Opening.{IsTooLarge}
use Rattle.host_core.proofs.Mends.{dates_beside, doubt_then, folder_as, large_as, large_from, large_why, life_as, life_why, mends_then, names_of_dates, opening_from}
use Rattle.host_core.proofs.Reading.{too_large_map}
use Rattle.host_core.proofs.shard.reopening.take_up.Goals as goal

pub returns-in-Err-clause-large : goal.returns-in-Err-clause-large
returns-in-Err-clause-large g c = large_why c.in-Err.fault _ c.in-Err.ensures.why

pub returns-in-Err-clause-none : goal.returns-in-Err-clause-none
returns-in-Err-clause-none g c = life_why c.in-Err.fault c.in-Err.ensures.why

pub returns-in-Err-gather-clause-large : goal.returns-in-Err-gather-clause-large
returns-in-Err-gather-clause-large g c =
    let files = g.F.Store.files in
    let before = option_map (mended c.args.life.now.files.items) (files c.args.folder.now) in
    subst (λ (why : ReopenFault). IfLarge why (IsTooLarge c.args.only before)) (sym c.as_reopening.ensures)
    (large_as c.in-Err-gather.fault (IsTooLarge c.args.only before)
    (too_large_map c.in-Err-gather.fault (IsTooLarge c.args.only (files c.mend.new.folder)) (IsTooLarge c.args.only before)
    (λ name large. large_from c.args.only before (files c.mend.new.folder) name c.in-Ok.ensures.mends large) c.in-Err-gather.ensures.too_large))

pub returns-in-Err-gather-clause-none : goal.returns-in-Err-gather-clause-none
returns-in-Err-gather-clause-none g c = λ of. life_as c.in-Err-gather.fault (subst IsOfLife c.as_reopening.ensures of)

pub returns-in-Err-gather-clause-doubt : goal.returns-in-Err-gather-clause-doubt
returns-in-Err-gather-clause-doubt g c =
    let files = g.F.Store.files in
    doubt_then c.args.life.now.files.items (files c.args.folder.now) (files c.mend.new.folder) (files c.gather.new.folder) c.mend.ensures.doubt c.gather.ensures.same

pub returns-in-Ok-join-clause-going : goal.returns-in-Ok-join-clause-going
returns-in-Ok-join-clause-going g c =
    let files = g.F.Store.files in
    let times = g.F.Store.times in
    let life = c.args.life.now in
    let found = c.in-Ok-gather.ensures in
    let stock = c.in-Ok-gather.stock in
    record {
      opening = opening_listed stock.files.items;
      found = dates_of stock.files.items;
      read = opening_from c.args.only (option_map (mended life.files.items) (files c.args.folder.now)) (files c.mend.new.folder) (opening_listed stock.files.items) c.in-Ok.ensures.mends found.opening;
      fits = found.fits;
      found_are = dates_beside life.files.items (times c.args.folder.now) (times c.mend.new.folder) (dates_of stock.files.items) c.mend.ensures.other_times found.dates;
      found_names = names_of_dates stock.files.items;
      going_is = c.in-Ok-join.ensures;
    }

pub returns-in-Ok-join-clause-mends : goal.returns-in-Ok-join-clause-mends
returns-in-Ok-join-clause-mends g c =
    let files = g.F.Store.files in
    mends_then c.args.life.now.files.items (files c.args.folder.now) (files c.mend.new.folder) (files c.gather.new.folder) c.in-Ok.ensures.mends c.gather.ensures.same

pub returns-in-Ok-join-clause-doubt : goal.returns-in-Ok-join-clause-doubt
returns-in-Ok-join-clause-doubt g c =
    let files = g.F.Store.files in
    doubt_then c.args.life.now.files.items (files c.args.folder.now) (files c.mend.new.folder) (files c.gather.new.folder) c.mend.ensures.doubt c.gather.ensures.same

pub returns-in-Err-join-clause-doubt : goal.returns-in-Err-join-clause-doubt
returns-in-Err-join-clause-doubt g c =
    let files = g.F.Store.files in
    doubt_then c.args.life.now.files.items (files c.args.folder.now) (files c.mend.new.folder) (files c.gather.new.folder) c.mend.ensures.doubt c.gather.ensures.same

pub join-requires-clause-life : goal.join-requires-clause-life
join-requires-clause-life g c = (c.args.only, c.requires.good)

pub join-requires-clause-ordered : goal.join-requires-clause-ordered
join-requires-clause-ordered g c = c.in-Ok-gather.ensures.opening.ordered

pub gather-requires : goal.gather-requires
gather-requires g c = c.requires.good.first.0

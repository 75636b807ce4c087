use Rattle.std.proofs.Common.{◌≡◌, ◌<◌, ◌≤◌, ℕ, List, Option, option_map, refl, sym, ap, subst, ◌∙◌, arith}
use Rattle.outside.specs.Folder.{Files, Keeps}
use Rattle.wopi_model.specs.Lives.{live_ids}
use Rattle.wopi_model.specs.File.{File}
use Rattle.host_core.specs.Facts.{dates_of}
use Rattle.host_core.specs.Life.{Mends, OpensDoubt, goes_on}
use Rattle.host_core.specs.Value.{Book}
use Rattle.host_core.specs.Going.{ids_told}
use Rattle.host_core.proofs.Goods.{not_enough}
use Rattle.host_core.proofs.Mends.{bad_none, bad_why, doubt_then, large_why, many_none, many_why, mends_then}
use Rattle.host_core.proofs.Reopens.{ids_on}
use Rattle.host_core.proofs.shard.Shard.go_on.Goals as goal

pub hold-requires-clause-few : goal.hold-requires-clause-few
hold-requires-clause-few g c =
    let is = c.in-Ok.ensures.going.going_is in
    let few = is.few in
    let long = is.long in
    omega (arith, few, long)

pub hold-requires-clause-settled : goal.hold-requires-clause-settled
hold-requires-clause-settled g c = c.in-Ok.ensures.going.going_is.settled

pub returns-then-not-are_enough-clause-too_many : goal.returns-then-not-are_enough-clause-too_many
returns-then-not-are_enough-clause-too_many g c = λ _.
    let taken = c.in-Ok.ensures.going in
    let life = c.args.life.now in
    let files = c.in-Ok.going.stock.files.items in
    let told = c.in-Ok.going.told.items in
    let counted = ids_on files told taken.going_is.long in
    let listed = ap (λ (l : List (List ℕ × File)). live_ids l) taken.going_is.listed in
    let more = not_enough (ids_told told) c.args.ids (sym c.are_enough.ensures ∙ c.if-not-are_enough.true) in (
      goes_on life taken.opening,
      dates_of files,
      record {
        opening = taken.opening;
        read = taken.read;
        fits = taken.fits;
        begin_is = refl;
        found = taken.found;
        found_are = taken.found_are;
        found_names = taken.found_names;
        dates_are = taken.going_is.dates_are;
      },
      omega (arith, counted, listed, more),
    )

pub returns-in-Err-clause-too_many : goal.returns-in-Err-clause-too_many
returns-in-Err-clause-too_many g c = λ e. absurd (many_none c.in-Err.fault c.in-Err.ensures.none e)

pub returns-in-Err-clause-not_bad : goal.returns-in-Err-clause-not_bad
returns-in-Err-clause-not_bad g c = bad_none c.in-Err.fault c.in-Err.ensures.none

pub returns-in-Err-begin_on-clause-too_many : goal.returns-in-Err-begin_on-clause-too_many
returns-in-Err-begin_on-clause-too_many g c = λ e. absurd (many_why c.in-Err-begin_on.fault c.in-Err-begin_on.ensures.why e)

pub returns-in-Err-begin_on-clause-not_bad : goal.returns-in-Err-begin_on-clause-not_bad
returns-in-Err-begin_on-clause-not_bad g c = bad_why c.in-Err-begin_on.fault c.in-Err-begin_on.ensures.why

pub returns-in-Err-begin_on-clause-too_large : goal.returns-in-Err-begin_on-clause-too_large
returns-in-Err-begin_on-clause-too_large g c = large_why c.in-Err-begin_on.fault _ c.in-Err-begin_on.ensures.why

pub returns-in-Err-begin_on-clause-handed : goal.returns-in-Err-begin_on-clause-handed
returns-in-Err-begin_on-clause-handed g c =
    let files = g.F.Store.files in
    doubt_then c.args.life.now.files.items (files c.args.folder) (files c.take_up.new.folder) (files c.begin_on.new.folder) c.take_up.ensures.doubt c.begin_on.ensures.files

pub assemble_on-shard-requires-clause-mends : goal.assemble_on-shard-requires-clause-mends
assemble_on-shard-requires-clause-mends g c =
    let files = g.F.Store.files in
    subst (λ (o : Option Files). Mends c.args.life.now.files.items o (files c.begin_on.new.folder)) (sym (ap files c.of-before.ensures))
    (mends_then c.args.life.now.files.items (files c.args.folder) (files c.take_up.new.folder) (files c.begin_on.new.folder) c.in-Ok.ensures.mends c.begin_on.ensures.files)

pub returns-in-Ok-begin_on-clause-mends : goal.returns-in-Ok-begin_on-clause-mends
returns-in-Ok-begin_on-clause-mends g c =
    let files = g.F.Store.files in
    subst (λ (b : Book _). Mends c.args.life.now.files.items (files c.args.folder) (files b.folder)) (sym c.assemble_on-shard.ensures.value)
    (mends_then c.args.life.now.files.items (files c.args.folder) (files c.take_up.new.folder) (files c.begin_on.new.folder) c.in-Ok.ensures.mends c.begin_on.ensures.files)

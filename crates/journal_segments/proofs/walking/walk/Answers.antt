use Rattle.std.proofs.Common.{◌+◌, refl, subst, arith}
use Rattle.journal_segments.specs.declared.walking.Front.{Front}
use Rattle.journal_segments.specs.Reading.{HasLine, IsLong, IsUnfit, IsWhole, Stands, Waits}
use Rattle.journal_segments.proofs.Fronts.{text_some}
use Rattle.journal_segments.proofs.Going.{overlong_row, shorter, stopped_row, walks_none, walks_row}
use Rattle.journal_segments.proofs.walking.walk.Goals as goal

pub rows-init : goal.rows-init
rows-init g c = record { on = walks_none g.W.Watcher.has_seen c.args.watcher.now c.args.state c.args.text.now c.args.number; timed = c.requires.timed; few = omega arith }

pub front_of-requires : goal.front_of-requires
front_of-requires g c =
    let few = c.requires.few in
    let less = c.rows.invariant.few in
    omega (arith, few, less)

pub returns-in-Cut-clause-on : goal.returns-in-Cut-clause-on
returns-in-Cut-clause-on g c = c.rows.invariant.on

pub returns-in-Cut-clause-waits : goal.returns-in-Cut-clause-waits
returns-in-Cut-clause-waits g c =
    let waits : Waits c.rows.state c.rows.left.now c.in-Cut.wanted = subst (λ (found : Front). Stands c.rows.state c.rows.left.now found) c.in-Cut.is c.in-Ok.ensures in waits

pub returns-in-Bad-clause-stops : goal.returns-in-Bad-clause-stops
returns-in-Bad-clause-stops g c =
    let bad : HasLine c.rows.left.now × IsUnfit c.rows.state c.rows.left.now = subst (λ (found : Front). Stands c.rows.state c.rows.left.now found) c.in-Bad.is c.in-Ok.ensures in
    stopped_row c.args.state c.rows.state c.args.text.now c.rows.left.now c.args.number c.rows.number (c.rows.number + 1) c.rows.invariant.on.goes bad.0 bad.1 refl

pub returns-in-Long-clause-stops : goal.returns-in-Long-clause-stops
returns-in-Long-clause-stops g c =
    let long : IsLong c.rows.left.now = subst (λ (found : Front). Stands c.rows.state c.rows.left.now found) c.in-Long.is c.in-Ok.ensures in
    overlong_row c.args.state c.rows.state c.args.text.now c.rows.left.now c.args.number c.rows.number (c.rows.number + 1) c.rows.invariant.on.goes long refl

pub take_row-requires-clause-form : goal.take_row-requires-clause-form
take_row-requires-clause-form g c =
    let whole : IsWhole c.rows.state c.rows.left.now c.in-Whole.one c.in-Whole.behind.now = subst (λ (found : Front). Stands c.rows.state c.rows.left.now found) c.in-Whole.is c.in-Ok.ensures in
    whole.form_is

pub take_row-requires-clause-comes : goal.take_row-requires-clause-comes
take_row-requires-clause-comes g c =
    let whole : IsWhole c.rows.state c.rows.left.now c.in-Whole.one c.in-Whole.behind.now = subst (λ (found : Front). Stands c.rows.state c.rows.left.now found) c.in-Whole.is c.in-Ok.ensures in
    whole.comes

pub take_row-requires-clause-few : goal.take_row-requires-clause-few
take_row-requires-clause-few g c =
    let few = c.requires.few in
    let less = c.rows.invariant.few in
    omega (arith, few, less)

pub rows-smaller : goal.rows-smaller
rows-smaller g c =
    let whole : IsWhole c.rows.state c.rows.left.now c.in-Whole.one c.in-Whole.behind.now = subst (λ (found : Front). Stands c.rows.state c.rows.left.now found) c.in-Whole.is c.in-Ok.ensures in
    shorter c.rows.state c.rows.left.now c.in-Whole.one c.in-Whole.behind.now whole (text_some c.in-Whole.one)

pub rows-preserved : goal.rows-preserved
rows-preserved g c =
    let whole : IsWhole c.rows.state c.rows.left.now c.in-Whole.one c.in-Whole.behind.now = subst (λ (found : Front). Stands c.rows.state c.rows.left.now found) c.in-Whole.is c.in-Ok.ensures in
    let less = shorter c.rows.state c.rows.left.now c.in-Whole.one c.in-Whole.behind.now whole (text_some c.in-Whole.one) in
    let few = c.rows.invariant.few in
    record {
      on = walks_row g.W.Watcher.has_seen c.args.watcher.now c.rows.watcher c.take_row.new.watcher c.args.state c.rows.state c.in-Ok-take_row.next c.args.text.now c.rows.left.now
          c.in-Whole.behind.now c.in-Whole.one c.args.number c.rows.number (c.rows.number + 1) c.rows.invariant.on whole c.in-Ok-take_row.ensures.state refl c.in-Ok-take_row.ensures.seen;
      timed = c.in-Ok-take_row.ensures.timed;
      few = omega (arith, few, less);
    }

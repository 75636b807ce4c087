use Rattle.std.proofs.Common.{◌≡◌, ◌<◌, ◌++◌, ℕ, List, length, subst, ap, ◌∙◌, arith}
use Rattle.journal_segments.specs.declared.rows.Head.{Head}
use Rattle.journal_segments.specs.declared.rows.Row.{Row}
use Rattle.journal_segments.specs.declared.reading.Stage.{Stage}
use Rattle.journal_segments.specs.declared.reading.Stage.TheVariants as stage
use Rattle.journal_segments.specs.declared.state.State.{State}
use Rattle.journal_segments.specs.Reading.{HasSeen, Reaches, Refuses}
use Rattle.journal_segments.proofs.Coming.{reach_first, reach_fresh, reach_short, taken_here}
use Rattle.journal_segments.proofs.reading.go.Goals as goal

pub returns-then-len-wanted-clause-on : goal.returns-then-len-wanted-clause-on
returns-then-len-wanted-clause-on g c = λ text piece before reaches is.
    let few = c.if-len-wanted.true in
    let less : length c.args.held.items < c.args.wanted = omega (arith, few) in
    reach_short g.W.Watcher.has_seen c.args.watcher.now text piece before c.args.held.items c.args.stage c.args.number c.args.wanted reaches is less

pub returns-in-Ok-clause-on : goal.returns-in-Ok-clause-on
returns-in-Ok-clause-on g c = λ text piece before reaches is.
    let reached = c.in-Ok.reached in
    let at : Reaches g.W.Watcher.has_seen c.args.watcher.now text stage.First c.args.number before c.args.wanted = subst (λ (s : Stage). Reaches g.W.Watcher.has_seen c.args.watcher.now text s c.args.number before c.args.wanted) c.in-First.is reaches in
    subst (λ (l : List ℕ). Reaches g.W.Watcher.has_seen c.begin.new.watcher l reached.stage reached.number reached.held.items reached.wanted)
    (reach_first g.W.Watcher.has_seen c.args.watcher.now text piece before c.args.held.items c.args.number c.args.wanted at is) c.in-Ok.ensures.on

pub returns-in-Ok-clause-few : goal.returns-in-Ok-clause-few
returns-in-Ok-clause-few g c = let few = c.in-Ok.ensures.few in omega (arith, few)

pub returns-in-Err-clause-stops : goal.returns-in-Err-clause-stops
returns-in-Err-clause-stops g c = λ text piece before reaches is.
    let at : Reaches g.W.Watcher.has_seen c.args.watcher.now text stage.First c.args.number before c.args.wanted = subst (λ (s : Stage). Reaches g.W.Watcher.has_seen c.args.watcher.now text s c.args.number before c.args.wanted) c.in-First.is reaches in
    subst (λ (l : List ℕ). Refuses l c.in-Err.fault) (reach_first g.W.Watcher.has_seen c.args.watcher.now text piece before c.args.held.items c.args.number c.args.wanted at is) c.in-Err.ensures.stops

pub begin-requires-clause-fresh : goal.begin-requires-clause-fresh
begin-requires-clause-fresh g c =
    let (text, piece, before, reaches, is) = c.requires.at in
    reach_fresh g.W.Watcher.has_seen c.args.watcher.now text before c.args.number c.args.wanted
    (subst (λ (s : Stage). Reaches g.W.Watcher.has_seen c.args.watcher.now text s c.args.number before c.args.wanted) c.in-First.is reaches)

-- what is held behind whole lines
held_here : {W : Type 0} (has_seen : W → Head → List Row → Type 0) (watcher : W) (text piece before held other : List ℕ) (at : Stage) (number wanted : ℕ) (state : State) → at ≡ stage.Rows state
    → other ≡ held → Reaches has_seen watcher text at number before wanted → held ≡ before ++ piece → HasSeen has_seen watcher (text ++ piece) other number state
held_here has_seen watcher text piece before held other at number wanted state here same reaches is =
    taken_here has_seen watcher text piece before other state number wanted (subst (λ (s : Stage). Reaches has_seen watcher text s number before wanted) here reaches) (same ∙ is)

pub go_on-requires-clause-few : goal.go_on-requires-clause-few
go_on-requires-clause-few g c =
    let few = c.requires.few in
    let len = ap length c.deref.ensures.value in
    omega (arith, few, len)

pub go_on-requires-clause-at : goal.go_on-requires-clause-at
go_on-requires-clause-at g c =
    let (text, piece, before, reaches, is) = c.requires.at in
    (text ++ piece, held_here g.W.Watcher.has_seen c.args.watcher.now text piece before c.args.held.items c.deref.result.now c.args.stage c.args.number c.args.wanted c.in-Rows.state c.in-Rows.is c.deref.ensures.value reaches is)

pub returns-in-Ok-go_on-clause-on : goal.returns-in-Ok-go_on-clause-on
returns-in-Ok-go_on-clause-on g c = λ text piece before reaches is.
    c.in-Ok-go_on.ensures.on (text ++ piece)
    (held_here g.W.Watcher.has_seen c.args.watcher.now text piece before c.args.held.items c.deref.result.now c.args.stage c.args.number c.args.wanted c.in-Rows.state c.in-Rows.is c.deref.ensures.value reaches is)

pub returns-in-Ok-go_on-clause-few : goal.returns-in-Ok-go_on-clause-few
returns-in-Ok-go_on-clause-few g c =
    let few = c.in-Ok-go_on.ensures.few in
    let len = ap length c.deref.ensures.value in
    omega (arith, few, len)

pub returns-in-Err-go_on-clause-stops : goal.returns-in-Err-go_on-clause-stops
returns-in-Err-go_on-clause-stops g c = λ text piece before reaches is.
    c.in-Err-go_on.ensures.stops (text ++ piece)
    (held_here g.W.Watcher.has_seen c.args.watcher.now text piece before c.args.held.items c.deref.result.now c.args.stage c.args.number c.args.wanted c.in-Rows.state c.in-Rows.is c.deref.ensures.value reaches is)

use Rattle.std.proofs.Common.{◌≡◌, ◌∷◌, None, Some, List, length, refl, sym, ap, ◌∙◌, arith}
use Rattle.std.proofs.lemmas.List.{length-map}
use Rattle.kept_locks.specs.Locks.{Standing, all_ended, ended_at}
use Rattle.wopi_model.specs.declared.locks.Lock.{Lock}
use Rattle.host_core.specs.Whole.{standing_at}
use Rattle.host_core.proofs.Regains.{free_began, free_by, id_here, id_others}
use Rattle.host_core.proofs.Turning.{long_set}
use Rattle.host_core.proofs.relocking.put_id.Goals as goal

pub set-requires-clause-since : goal.set-requires-clause-since
set-requires-clause-since c = free_began c.args.locks.now.files c.args.number 0 (record { id = c.args.one.id; since = 0; until = c.args.one.until }) refl c.requires.free

pub returns-clause-here : goal.returns-clause-here
returns-clause-here c =
    let files = c.args.locks.now.files in
    ap (λ (l : List Standing). standing_at l c.args.number) (c.settle.ensures.files ∙ ap (all_ended 1800000) c.set.ensures.files)
    ∙ id_here files c.args.number c.args.one c.requires.number c.requires.live

pub returns-clause-others : goal.returns-clause-others
returns-clause-others c = λ other differ.
    let files = c.args.locks.now.files in
    let lock : Lock = record { id = c.args.one.id; since = 0; until = c.args.one.until } in
    ap (λ (l : List Standing). standing_at l other) (c.settle.ensures.files ∙ ap (all_ended 1800000) c.set.ensures.files)
    ∙ id_others files c.args.number other lock c.requires.free differ

pub returns-clause-free : goal.returns-clause-free
returns-clause-free c =
    free_by c.args.locks.now.files c.settle.new.self.files c.args.number (c.args.one ∷ (standing_at c.args.locks.now.files c.args.number).spent) c.requires.free
    (returns-clause-here c) (returns-clause-others c)

pub returns-clause-long : goal.returns-clause-long
returns-clause-long c =
    ap (λ (l : List Standing). length l) c.settle.ensures.files ∙ length-map c.set.new.self.files (ended_at 1800000)
    ∙ ap (λ (l : List Standing). length l) c.set.ensures.files ∙ long_set c.args.locks.now.files c.args.number (Some (record { id = c.args.one.id; since = 0; until = c.args.one.until })) None 0

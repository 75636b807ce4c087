use Rattle.std.proofs.Common.{◌≡◌, ◌<◌, List, Option, length, sym, ap, subst, ◌∙◌, arith}
use Rattle.std.specs.Prelude.{option_map}
use Rattle.std.proofs.lemmas.List.{length-map}
use Rattle.wopi_model.specs.declared.locks.Lock.{Lock}
use Rattle.wopi_model.specs.declared.locks.Spent.{Spent}
use Rattle.wopi_model.specs.Settle.{standing}
use Rattle.kept_locks.specs.Locks.{Standing, all_ended, ended_at, stepped, with_lock}
use Rattle.kept_locks.specs.Ties.{BeganBy, GoesOn}
use Rattle.lock_machine.specs.Changes.{left_by, spent_as}
use Rattle.host_core.specs.Turns.{AllStand}
use Rattle.host_core.specs.Whole.{standing_at}
use Rattle.host_core.proofs.Joining.{stands_ended}
use Rattle.host_core.proofs.Turning.{goes_on, began_ended, began_set, new_by, stands_set, stands_beside, long_set, stand_ended, stand_set, follower_stands, left_ended, spent_ended}
use Rattle.host_core.proofs.held.apply.Goals as goal

pub change_lock-requires-clause-number : goal.change_lock-requires-clause-number
change_lock-requires-clause-number c =
    let long : length c.settle.new.self.files ≡ length c.args.locks.now.files = ap (λ (l : List Standing). length l) c.settle.ensures.files ∙ length-map c.args.locks.now.files (ended_at c.args.now) in
    let here = c.requires.ready.here in
    omega (arith, long, here)

pub change_lock-requires-clause-since : goal.change_lock-requires-clause-since
change_lock-requires-clause-since c =
    let old = c.args.locks.now.files in
    let number = c.args.number in
    let becomes = c.args.effect.change in
    let taken = option_map (λ id. id.now) c.args.taken in
    subst (λ (l : List Standing). GoesOn l number (left_by becomes (standing_at l number).lock taken)) (sym c.settle.ensures.files)
    (subst (GoesOn (all_ended c.args.now old) number) (sym (left_ended old number c.args.now becomes taken))
    (goes_on old number c.args.now (left_by becomes (standing (standing_at old number).lock c.args.now) taken) c.requires.ready.here c.requires.ready.as_of.began c.requires.ends))

pub returns : goal.returns
returns c =
    let old = c.args.locks.now.files in
    let mid = all_ended c.args.now old in
    let number = c.args.number in
    let effect = c.args.effect in
    let taken = option_map (λ id. id.now) c.args.taken in
    let held = standing (standing_at old number).lock c.args.now in
    let lock = left_by effect.change held taken in
    let spend = spent_as held effect.spend in
    let lt = c.requires.ready.here in
    let same : length mid ≡ length old = length-map old (ended_at c.args.now) in
    let lt' : number < length mid = omega (arith, lt, same) in
    let is : c.change_lock.new.locks.files ≡ with_lock mid number lock spend c.args.now =
    c.change_lock.ensures.files
    ∙ ap (λ (l : List Standing). with_lock l number (left_by effect.change (standing_at l number).lock taken) (spent_as (standing_at l number).lock effect.spend) c.args.now) c.settle.ensures.files
    ∙ ap (λ (l : Option Lock). with_lock mid number l (spent_as (standing_at mid number).lock effect.spend) c.args.now) (left_ended old number c.args.now effect.change taken)
    ∙ ap (λ (s : Option Spent). with_lock mid number lock s c.args.now) (spent_ended old number c.args.now effect.spend) in
    let settled = c.settle.ensures.spare in
    let set = c.change_lock.ensures.spare in
    let by = c.requires.ready.as_of.stepped in
    let fell = c.settle.ensures.latest in
    let rose = c.change_lock.ensures.latest in
    record {
      standing = ap (λ (l : List Standing). standing_at l number) is ∙ stands_set mid number lock spend c.args.now lt'
          ∙ ap (stepped lock spend c.args.now) (stands_ended c.args.now old number);
      turns = record {
        others = λ other differ. ap (λ (l : List Standing). standing_at l other) is ∙ stands_beside mid number lock spend c.args.now other differ ∙ stands_ended c.args.now old other;
        long = ap (λ (l : List Standing). length l) is ∙ long_set mid number lock spend c.args.now ∙ same;
        as_of = record {
          began = subst (BeganBy c.args.now) (sym is) (began_set mid number lock spend c.args.now (began_ended old c.args.now c.args.now c.requires.ready.as_of.began)
              (new_by old number c.args.now lock lt c.requires.ready.as_of.began c.requires.ends));
          stepped = omega (arith, by, fell, rose);
          chains = c.change_lock.ensures.chains;
        };
        stand = subst (AllStand c.args.now) (sym is) (stand_set mid number lock spend c.args.now lt'
            (follower_stands (standing_at old number).lock lock c.args.now c.requires.ends) (stand_ended old c.args.now));
        spare = omega (arith, settled, set);
        room = c.change_lock.ensures.room ∙ c.settle.ensures.room;
      };
    }

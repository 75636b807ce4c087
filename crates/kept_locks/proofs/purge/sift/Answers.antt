use Rattle.std.proofs.Common.{List, sym, ap, ◌∙◌, arith}
use Rattle.wopi_model.specs.Settle.{still_spent}
use Rattle.wopi_model.specs.declared.locks.Spent.{Spent}
use Rattle.expiry_queue.specs.Chains.{spent_of}
use Rattle.std.proofs.lemmas.Bool.{lt-ltb, le-ltb}
use Rattle.kept_locks.specs.Refusals.{onto}
use Rattle.kept_locks.proofs.Entries.{only_dropped, only_moved, sheds_one}
use Rattle.kept_locks.proofs.Parting.{taken_one, moved_one, sifted_kept, sifted_over}
use Rattle.kept_locks.proofs.purge.sift.Goals as goal

pub rest-smaller-then-now-one : goal.rest-smaller-then-now-one
rest-smaller-then-now-one c =
    let first = c.args.chains.now in
    let now = c.rest.chains in
    let one = c.take-one.result.0 in
    let after = c.take-one.result.1 in
    let t = taken_one first now c.take-one.new.self c.args.chain c.rest.rest c.rest.kept after c.in-Some.place one c.rest.invariant.parts c.in-Some.is c.take-one.ensures.spent c.take-one.ensures.chain in
    let m = moved_one first now c.take-one.new.self c.add-kept.new.self c.args.chain c.rest.rest c.rest.kept after c.add-kept.result one t c.add-kept.ensures.chain in
    let longer = m.longer in
    omega (arith, longer)

pub rest-preserved-then-now-one : goal.rest-preserved-then-now-one
rest-preserved-then-now-one c =
    let first = c.args.chains.now in
    let now = c.rest.chains in
    let one = c.take-one.result.0 in
    let after = c.take-one.result.1 in
    let t = taken_one first now c.take-one.new.self c.args.chain c.rest.rest c.rest.kept after c.in-Some.place one c.rest.invariant.parts c.in-Some.is c.take-one.ensures.spent c.take-one.ensures.chain in
    let m = moved_one first now c.take-one.new.self c.add-kept.new.self c.args.chain c.rest.rest c.rest.kept after c.add-kept.result one t c.add-kept.ensures.chain in
    let longer = m.longer in
    let kept_long = m.kept_long in
    let taken = c.take-one.ensures.used in
    let added = c.add-kept.ensures.used in
    let freed = c.take-one.ensures.spare in
    let filled = c.add-kept.ensures.spare in
    let used = c.rest.invariant.used in
    let room = c.rest.invariant.room in
    record {
      parts = m.parts;
      ids = ap (λ (l : List Spent). onto l (still_spent (spent_of c.add-kept.new.self after) c.args.now)) m.kept_is
          ∙ sifted_kept one (spent_of c.add-kept.new.self after) (spent_of now c.rest.kept) c.args.now (lt-ltb c.args.now one.until c.if-now-one.true)
          ∙ sym (ap (λ (l : List Spent). onto (spent_of now c.rest.kept) (still_spent l c.args.now)) m.rest_is) ∙ c.rest.invariant.ids;
      used = omega (arith, longer, kept_long, taken, added, used);
      room = omega (arith, taken, added, freed, filled, room);
      sheds = c.rest.invariant.sheds;
      only = only_moved c.rest.index c.args.file one (spent_of now c.rest.rest) (spent_of now c.rest.kept) (spent_of c.add-kept.new.self after) (spent_of c.add-kept.new.self c.add-kept.result) m.rest_is m.kept_is c.rest.invariant.only;
    }

pub rest-preserved : goal.rest-preserved
rest-preserved c =
    let first = c.args.chains.now in
    let now = c.rest.chains in
    let one = c.take-one.result.0 in
    let after = c.take-one.result.1 in
    let t = taken_one first now c.take-one.new.self c.args.chain c.rest.rest c.rest.kept after c.in-Some.place one c.rest.invariant.parts c.in-Some.is c.take-one.ensures.spent c.take-one.ensures.chain in
    let longer = t.longer in
    let kept_long = t.kept_long in
    let taken = c.take-one.ensures.used in
    let freed = c.take-one.ensures.spare in
    let used = c.rest.invariant.used in
    let room = c.rest.invariant.room in
    record {
      parts = t.parts;
      ids = ap (λ (l : List Spent). onto l (still_spent (spent_of c.take-one.new.self after) c.args.now)) t.kept_is
          ∙ sifted_over one (spent_of c.take-one.new.self after) (spent_of now c.rest.kept) c.args.now (le-ltb c.args.now one.until c.if-now-one.false)
          ∙ sym (ap (λ (l : List Spent). onto (spent_of now c.rest.kept) (still_spent l c.args.now)) t.rest_is) ∙ c.rest.invariant.ids;
      used = omega (arith, longer, kept_long, taken, used);
      room = omega (arith, taken, freed, room);
      sheds = sheds_one c.args.index.now c.rest.index c.forget.new.index c.args.file one.id c.args.now c.rest.invariant.sheds c.forget.ensures.forgets c.forget.ensures.spare;
      only = only_dropped c.rest.index c.forget.new.index c.args.file one (spent_of now c.rest.rest) (spent_of now c.rest.kept) (spent_of c.take-one.new.self after) (spent_of c.take-one.new.self c.rest.kept) c.args.now
          c.forget.ensures.forgets (omega (arith, c.if-now-one.false)) t.rest_is t.kept_is c.rest.invariant.only;
    }

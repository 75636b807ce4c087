use Rattle.std.proofs.Common.{List, ap, sym, subst, ◌∙◌, arith}
use Rattle.kept_locks.specs.Locks.{Standing}
use Rattle.kept_locks.specs.Ties.{BeganBy}
use Rattle.host_core.specs.Whole.{standing_at}
use Rattle.host_core.proofs.Turning.{stands_push, began_push}
use Rattle.host_core.proofs.files.make_lock_place.Goals as goal

pub returns-in-Ok-clause-stands : goal.returns-in-Ok-clause-stands
returns-in-Ok-clause-stands c = λ n. ap (λ (l : List Standing). standing_at l n) c.in-Ok.ensures.ok ∙ stands_push c.args.locks.now.files n

pub returns-in-Ok-clause-as_of : goal.returns-in-Ok-clause-as_of
returns-in-Ok-clause-as_of c = λ time as_of. record {
  began = subst (BeganBy time) (sym c.in-Ok.ensures.ok) (began_push c.args.locks.now.files time as_of.began);
  stepped = let by = as_of.stepped in omega (arith, by, c.add_file.ensures.latest);
  chains = c.add_file.ensures.chains;
}

pub returns-in-Err-clause-as_of : goal.returns-in-Err-clause-as_of
returns-in-Err-clause-as_of c = λ time as_of. record {
  began = subst (BeganBy time) (sym c.in-Err.ensures.err) as_of.began;
  stepped = let by = as_of.stepped in omega (arith, by, c.add_file.ensures.latest);
  chains = c.add_file.ensures.chains;
}

use Rattle.std.proofs.Common.{refl, arith}
use Rattle.host_core.proofs.Regains.{none_began, partly}
use Rattle.host_core.proofs.relocking.put_turns.Goals as goal

pub turns-init : goal.turns-init
turns-init c = (
  omega arith,
  partly c.args.told.now.items c.args.locks.now.files c.requires.none,
  none_began c.args.told.now.items c.args.locks.now.files 0 c.requires.none,
  refl,
  c.requires.latest,
  c.requires.chains,
  refl,
)

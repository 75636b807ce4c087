-- A host and its passes as the definitions see them.
use Rattle.std.specs.Prelude.{map}
use Rattle.host_table.specs.declared.pass.Pass.TheInside as pass
use Rattle.host_table.specs.declared.host.Host.TheInside as host
use Rattle.host_table.specs.Histories.{as_opened}
use Rattle.host_table.specs.Passes.{PassView, HostView}
use Rattle.host_table.specs.Start.{limits_of}

abbrev pub pass_of : {F : Type 0} → pass.Inside F → PassView F
pass_of p = record { number = p.number; last = p.last; weight = p.weight; opened = p.opened.value; first = p.first.value; limits = limits_of p.most.value; seats = p.seats.items }

abbrev pub host_of : {F : Type 0} → host.Inside F → HostView F
host_of h = record { locks = h.locks.items; bases = map as_opened h.shards.value.items; opened = h.opened; first = h.first; limits = limits_of h.most; made = h.made }

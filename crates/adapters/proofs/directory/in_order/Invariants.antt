use Rattle.std.proofs.Common.{◌≡◌, ◌++◌, map, string_bytes}
use Rattle.adapters.proofs.directory.in_order.Given as goal

-- the names so far, and those that are left, are all
abbrev pub invariant-loop-name : goal.invariant-loop-name
invariant-loop-name l = l.names ++ map string_bytes l.name-iterator ≡ map string_bytes l.fn.found.keys

use Rattle.std.proofs.Common.{map, drop, string_bytes}
use Rattle.adapters.proofs.LogLemmas.{IsNextSoFar}
use Rattle.adapters.proofs.log_folder.next_number.Given as goal

abbrev pub invariant-names : goal.invariant-names
invariant-names l = IsNextSoFar (map string_bytes l.names) (map string_bytes (drop l.name-index l.names)) l.next

-- What a log in memory shows.
use Rattle.std.specs.Prelude.{ℕ, List, take}
use Rattle.outside.specs.declared.memory.log.MemLog.{MemLog}
use Rattle.outside.specs.declared.memory.failing.Failing.{Failing}

abbrev pub bytes_held : MemLog → List ℕ
bytes_held l = l.bytes.items

abbrev pub bytes_synced : MemLog → List ℕ
bytes_synced l = take l.synced l.bytes.items

abbrev pub most_at_once : MemLog → ℕ
most_at_once l = l.most

abbrev pub room_of : MemLog → ℕ
room_of l = l.room

abbrev pub script : MemLog → Failing
script l = l.failing

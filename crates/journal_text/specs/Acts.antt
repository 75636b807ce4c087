-- Acts that are asked under one lock.
use Rattle.std.specs.Prelude.{◌≡◌, ℕ, List, codes}
use Rattle.host_core.specs.declared.entry.EntryAct.{EntryAct}
use Rattle.host_core.specs.declared.entry.EntryAct.TheVariants as act

-- the word asks for this act, under whatever lock
abbrev pub IsNamed : List ℕ → EntryAct → Type 0
IsNamed word (act.Lock id) = word ≡ codes "lock"
IsNamed word (act.Refresh id) = word ≡ codes "refresh"
IsNamed word (act.Unlock id) = word ≡ codes "unlock"
IsNamed word _ = ⊥

-- the word asks for this act under just that lock
abbrev pub IsLocking : List ℕ → List ℕ → EntryAct → Type 0
IsLocking word given (act.Lock id) = (word ≡ codes "lock") × (id ≡ given)
IsLocking word given (act.Refresh id) = (word ≡ codes "refresh") × (id ≡ given)
IsLocking word given (act.Unlock id) = (word ≡ codes "unlock") × (id ≡ given)
IsLocking word given _ = ⊥

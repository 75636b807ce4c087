-- A folder in memory of which no call fails. (Own.)
use Rattle.std.specs.Prelude.{◌≡◌, []}
use Rattle.outside.specs.declared.memory.folder.MemFolder.{MemFolder}
use Rattle.outside.specs.MemFolderParts.{script}

-- no call of the folder was told to fail
abbrev pub NeverFails : MemFolder → Type 0
NeverFails folder = (script folder).numbers.items ≡ []

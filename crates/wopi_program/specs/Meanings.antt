-- What contracts see of the parts of the outside world. (Own.)
use Rattle.std.specs.Prelude.{ℕ, List, Option}
use Rattle.outside.specs.Folder.{Files, Times}
use Rattle.outside.specs.declared.dialer.Exchange.{Exchange}
use Rattle.host_server.specs.WorkMeanings.{WorkMeanings}

-- The meanings of a source S, a sink K, a folder F, a listener N with its links L, a dialer D, a clock C and a log G: what each tells of
-- itself, and the counts of its faults. A worker's are those of a listener, its links and a clock.
pub record Meanings (S K F N D C G L : Type 0) : Type 0 where
  pub left : S → Option (List ℕ)
  pub read_faults : S → ℕ
  pub held : K → Option (List ℕ)
  pub write_faults : K → ℕ
  pub files : F → Option Files
  pub times : F → Option Times
  pub folder_faults : F → ℕ
  pub work : WorkMeanings N L C
  pub exchanges : D → Option (List Exchange)
  pub dialer_faults : D → ℕ
  pub log_held : G → Option (List ℕ)
  pub log_synced : G → Option (List ℕ)
  pub log_faults : G → ℕ

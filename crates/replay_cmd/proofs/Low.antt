-- An entry raises a version by one at most, and brings no more than its act's contents.
use Rattle.std.proofs.Common.{◌==◌, ◌≤◌, ◌+◌, ℕ, List, [], ◌∷◌, length, map, Option, None, Some, unwrap_or, arith}
use Rattle.std.proofs.lemmas.Bool.{cond_both}
use Rattle.std.specs.List.{AllByRecursion}
use Rattle.std.specs.Str.{bytes_eq}
use Rattle.wopi_model.specs.declared.calls.Act.{Act}
use Rattle.wopi_model.specs.declared.calls.Act.TheVariants as act
use Rattle.wopi_model.specs.declared.calls.Call.{Call}
use Rattle.wopi_model.specs.declared.calls.Ruling.{Ruling}
use Rattle.wopi_model.specs.File.{File, opened_with}
use Rattle.wopi_model.specs.Host.{new_bytes}
use Rattle.wopi_model.specs.Step.{Decision, Refuse, Conflict, Accept, decision, contents_after, version_after, file_of, after_step}
use Rattle.wopi_model.specs.Shard.{Shard, Step, Entry, opening_file, at_moment, happens}
use Rattle.wopi_world.specs.History.{reopened, restarted, greatest}
use Rattle.wopi_world.specs.World.{first_world}
use Rattle.schedule_text.specs.declared.schedule.FileLine.{FileLine}
use Rattle.schedule_text.specs.Schedules.{IsSchedule, Lines, most_contents}
use Rattle.replay_cmd.specs.Runs.{setting_of}
use Rattle.replay_cmd.specs.Limits.{IsLow}

-- the same of one file
record IsLowFile (most : ℕ) (file : File) : Type 0 where
  pub version : file.version ≤ most
  pub short : length (unwrap_or file.contents []) ≤ most_contents

low_act : (most : ℕ) (file : File) (asked : Act) → IsLowFile most file → new_bytes asked ≤ most_contents
    → (version_after file asked ≤ most + 1) × (length (unwrap_or (contents_after file asked) []) ≤ most_contents)
low_act most file act.Info h new = let version = h.version in (omega (arith, version), h.short)
low_act most file (act.Get size) h new = let version = h.version in (omega (arith, version), h.short)
low_act most file (act.Put lock contents) h new = let version = h.version in (omega (arith, version), new)
low_act most file (act.Lock id) h new = let version = h.version in (omega (arith, version), h.short)
low_act most file act.GetLock h new = let version = h.version in (omega (arith, version), h.short)
low_act most file (act.Refresh id) h new = let version = h.version in (omega (arith, version), h.short)
low_act most file (act.Unlock id) h new = let version = h.version in (omega (arith, version), h.short)
low_act most file (act.Relock old id) h new = let version = h.version in (omega (arith, version), h.short)
low_act most file act.Look h new = let version = h.version in (omega (arith, version), h.short)
low_act most file (act.Create overwrite contents) h new = let version = h.version in (omega (arith, version), new)
low_act most file act.Delete h new = let version = h.version in (omega (arith, version), omega arith)

low_same : (most : ℕ) (file : File) → IsLowFile most file → IsLowFile (most + 1) file
low_same most file h = let version = h.version in record { version = omega (arith, version); short = h.short }

low_by : (most : ℕ) (d : Decision) (file : File) (call : Call) (now : ℕ) → IsLowFile most file → new_bytes call.act ≤ most_contents
    → IsLowFile (most + 1) (file_of d file call now)
low_by most (Refuse status) file call now h new = low_same most file h
low_by most (Conflict reason) file call now h new = low_same most file h
low_by most Accept file call now h new = let after = low_act most file call.act h new in record { version = after.0; short = after.1 }

low_step : (most : ℕ) (file : File) (call : Call) (opened now : ℕ) (ruling : Ruling) → IsLowFile most file → new_bytes call.act ≤ most_contents
    → IsLowFile (most + 1) (after_step file call opened now ruling)
low_step most file call opened now ruling h new =
    cond_both (ruling.status == 500) file (file_of (decision file call opened now) file call now) (IsLowFile (most + 1)) (λ e. low_same most file h)
    (λ e. low_by most (decision file call opened now) file call now h new)

module _ (most : ℕ) (shard : Shard) (low : IsLow most shard) where
  low_file : (name : List ℕ) → IsLowFile most (shard.files name)
  low_file name = record { version = low.versions name; short = low.short name }

  -- time changes nothing of this
  pub low_later : (moment : ℕ) → IsLow most (at_moment shard moment)
  low_later moment = record { first = low.first; versions = λ name. low.versions name; short = λ name. low.short name }

  -- an entry more
  module _ (entry : Entry) (new : new_bytes entry.call.act ≤ most_contents) where
    abbrev at : Shard
    at = at_moment shard entry.moment

    at_file : (name : List ℕ) → IsLowFile most (at.files name)
    at_file name = record { version = low.versions name; short = low.short name }

    low_entered : (name : List ℕ) → IsLowFile (most + 1) ((happens shard (Step entry)).files name)
    low_entered name =
        cond_both (bytes_eq entry.call.name name) (after_step (at.files entry.call.name) entry.call at.opened at.now entry.ruling) (at.files name) (IsLowFile (most + 1))
        (λ e. low_step most (at.files entry.call.name) entry.call at.opened at.now entry.ruling (at_file entry.call.name) new) (λ e. low_same most (at.files name) (at_file name))

    pub low_entry : IsLow (most + 1) (happens shard (Step entry))
    low_entry =
        record {
          first = let first = low.first in omega (arith, first);
          versions = λ name. (low_entered name).version;
          short = λ name. (low_entered name).short;
        }

  reopened_low : (next first : ℕ) (contents : Option (List ℕ)) → first ≤ next → length (unwrap_or contents []) ≤ most_contents → IsLowFile next (reopened first contents)
  reopened_low next first None within short = record { version = omega (arith, within); short = omega arith }
  reopened_low next first (Some bytes) within short = record { version = within; short = short }

  -- a restart, after which files begin with that version
  pub low_restarted : (next moment first : ℕ) → first ≤ next → IsLow next (restarted shard moment first)
  low_restarted next moment first within =
      record {
        first = within;
        versions = λ name. (reopened_low next first (shard.files name).contents within (low.short name)).version;
        short = λ name. (reopened_low next first (shard.files name).contents within (low.short name)).short;
      }

  pub greatest_low : (names : List (List ℕ)) → greatest shard names ≤ most
  greatest_low [] = let first = low.first in omega (arith, first)
  greatest_low (name ∷ names) = let rest = greatest_low names in let version = low.versions name in omega (arith, rest, version)

pub low_wider : (most next : ℕ) (shard : Shard) → IsLow most shard → most ≤ next → IsLow next shard
low_wider most next shard low more =
    record {
      first = let first = low.first in omega (arith, first, more);
      versions = λ name. let version = low.versions name in omega (arith, version, more);
      short = low.short;
    }

-- ---- the opening of a schedule

opening_low : (files : List FileLine) (name : List ℕ) → AllByRecursion (λ (file : FileLine). length file.contents ≤ most_contents) files
    → IsLowFile 1 (opening_file 1 (map (λ (file : FileLine). (file.name, file.contents)) files) name)
opening_low [] name short = record { version = omega arith; short = omega arith }
opening_low (file ∷ files) name short =
    cond_both (bytes_eq file.name name) (opened_with 1 file.contents) (opening_file 1 (map (λ (f : FileLine). (f.name, f.contents)) files) name) (IsLowFile 1)
    (λ e. record { version = omega arith; short = short.0 }) (λ e. opening_low files name short.1)

pub first_low : (lines : Lines) → IsSchedule lines → IsLow 1 (first_world (setting_of lines)).shard
first_low lines form =
    record {
      first = omega arith;
      versions = λ name. (opening_low lines.files name form.contents).version;
      short = λ name. (opening_low lines.files name form.contents).short;
    }

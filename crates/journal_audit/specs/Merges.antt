-- What legal lines say, as the entries of a merge. (Own.)
use Rattle.std.specs.Prelude.{◌≡◌, ◌⊎◌, ⊤, ℕ, ◌<◌, ◌==◌, List, Option, None, Some, filter, map, if◌then◌else◌}
use Rattle.std.specs.List.{AllByRecursion}
use Rattle.wopi_model.specs.Shard.{Along, Entry, IsAllowed, Opening, RisesFrom, Step, happens, opened_shard, stamps}
use Rattle.wopi_model.specs.Host.{IsInOrder, LegalHost, opening_of, part_of, shard_of_entry}
use Rattle.wopi_model.specs.Safety.{KeepsContents, TellsWhy}
use Rattle.host_core.specs.Entries.{Made}
use Rattle.host_core.specs.Times.{IsTimely, steps_of}
use Rattle.journal_text.specs.declared.text.JournalText.{JournalText}
use Rattle.journal_text.specs.Told.{line_of}
use Rattle.journal_audit.specs.Lines.{Begun}

-- by stamp, and at one stamp by shard
abbrev pub ComesBehind : Option (ℕ × ℕ) → Entry → Type 0
ComesBehind None entry = ⊤
ComesBehind (Some last) entry = (last.0 < entry.stamp) ⊎ ((last.0 ≡ entry.stamp) × (last.1 < shard_of_entry entry))

-- the entries of one shard, with their times
abbrev pub made_in : ℕ → List Made → List Made
made_in shard made = filter (λ one. shard_of_entry one.step == shard) made

-- each shard's time goes on with its entries
abbrev pub AreTimely : (ℕ → ℕ) → List Made → Type 0
AreTimely times made = (shard : ℕ) → shard < 16 → IsTimely (times shard) (made_in shard made)

-- entries that may be made from there on
pub record GoesOn (begun : Begun) (made : List Made) : Type 0 where
  pub ordered : IsInOrder (steps_of made)
  pub behind : AllByRecursion (ComesBehind begun.last) (steps_of made)
  pub shards : (shard : ℕ) → shard < 16 → Along IsAllowed (begun.shards shard) (part_of shard (steps_of made))
  pub passes : (pass : ℕ) → RisesFrom (begun.passes pass) (stamps (filter (λ entry. entry.pass == pass) (steps_of made)))
  pub times : AreTimely (λ shard. (begun.shards shard).now) made

-- what an entry leaves
abbrev pub behind_entry : Begun → Entry → Begun
behind_entry begun entry =
    record {
      shards = λ shard. if shard_of_entry entry == shard then happens (begun.shards (shard_of_entry entry)) (Step entry) else begun.shards shard;
      last = Some (entry.stamp, shard_of_entry entry);
      passes = λ pass. if entry.pass == pass then entry.stamp else begun.passes pass;
    }

-- the text tells of these entries, which a host may have made
pub record IsOfHost (text : JournalText) (made : List Made) : Type 0 where
  pub lines : text.lines ≡ map line_of made
  pub legal : LegalHost text.files text.opened text.first (steps_of made)
  pub times : AreTimely (λ shard. text.opened) made

-- in each shard non-empty contents are kept, and each 409 tells why
pub record IsSafe (opening : Opening) (opened first : ℕ) (made : List Made) : Type 0 where
  pub contents : (shard : ℕ) → shard < 16 → Along KeepsContents (opened_shard (opening_of shard opening) opened first) (part_of shard (steps_of made))
  pub conflicts : (shard : ℕ) → shard < 16 → Along TellsWhy (opened_shard (opening_of shard opening) opened first) (part_of shard (steps_of made))

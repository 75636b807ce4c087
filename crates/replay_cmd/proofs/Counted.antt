-- A file that has contents was met, and no version is lower than that of a name never met.
use Rattle.std.proofs.Common.{◌≡◌, ◌==◌, ℕ, ◌+◌, ◌-◌, ◌≤◌, Bool, true, false, nat_lt, List, [], ◌∷◌, length, Option, None, Some, IsSome, is_some, unwrap_or, refl, sym, ap, subst, ◌∙◌, arith}
use Rattle.std.proofs.lemmas.Bool.{cond_both, false≢true, ltb-true, ltb-false}
use Rattle.std.specs.Str.{bytes_eq}
use Rattle.wopi_model.specs.declared.calls.Act.{Act}
use Rattle.wopi_model.specs.declared.calls.Act.TheVariants as act
use Rattle.wopi_model.specs.declared.calls.Call.{Call}
use Rattle.wopi_model.specs.declared.calls.Ruling.{Ruling}
use Rattle.wopi_model.specs.File.{File, opened_with}
use Rattle.wopi_model.specs.Step.{Decision, Refuse, Conflict, Accept, decision, contents_after, version_after, file_of, after_step}
use Rattle.wopi_model.specs.Shard.{Shard, Opening, Item, Tick, Step, Entry, opening_file, begun, opened_shard, at_moment, after_entry, happens, after}
use Rattle.wopi_model.specs.Begin.{Begin}
use Rattle.host_core.specs.Entries.{history_of}
use Rattle.host_core.specs.Value.{Book}
use Rattle.replay_cmd.specs.Begun.{IsNew, opening_in}
use Rattle.replay_cmd.specs.Replying.{file_in}

-- the version that files begin with is no greater than the next of this file, and no greater than its own where it has contents
pub record IsCounted (first : ℕ) (file : File) : Type 0 where
  pub least : first ≤ file.version + 1
  pub there : (contents : List ℕ) → file.contents ≡ Some contents → first ≤ file.version

counted_act : (first : ℕ) (file : File) (asked : Act) → IsCounted first file → (first ≤ version_after file asked + 1)
    × ((contents : List ℕ) → contents_after file asked ≡ Some contents → first ≤ version_after file asked)
counted_act first file act.Info h = (h.least, h.there)
counted_act first file (act.Get most) h = (h.least, h.there)
counted_act first file (act.Put lock new) h = let least = h.least in (omega (arith, least), λ contents e. omega (arith, least))
counted_act first file (act.Lock id) h = (h.least, h.there)
counted_act first file act.GetLock h = (h.least, h.there)
counted_act first file (act.Refresh id) h = (h.least, h.there)
counted_act first file (act.Unlock id) h = (h.least, h.there)
counted_act first file (act.Relock old id) h = (h.least, h.there)
counted_act first file act.Look h = (h.least, h.there)
counted_act first file (act.Create overwrite new) h = let least = h.least in (omega (arith, least), λ contents e. omega (arith, least))
counted_act first file act.Delete h = (h.least, λ contents e. cc)

counted_by : (first : ℕ) (d : Decision) (file : File) (call : Call) (now : ℕ) → IsCounted first file → IsCounted first (file_of d file call now)
counted_by first (Refuse status) file call now h = h
counted_by first (Conflict reason) file call now h = h
counted_by first Accept file call now h = let after = counted_act first file call.act h in record { least = after.0; there = after.1 }

counted_step : (first : ℕ) (file : File) (call : Call) (opened now : ℕ) (ruling : Ruling) → IsCounted first file → IsCounted first (after_step file call opened now ruling)
counted_step first file call opened now ruling h =
    cond_both (ruling.status == 500) file (file_of (decision file call opened now) file call now) (IsCounted first) (λ e. h)
    (λ e. counted_by first (decision file call opened now) file call now h)

-- each file is counted
abbrev pub AreCounted : ℕ → Shard → Type 0
AreCounted first shard = (name : List ℕ) → IsCounted first (shard.files name)

counted_entry : (first : ℕ) (at : Shard) (entry : Entry) → AreCounted first at → AreCounted first (after_entry at entry)
counted_entry first at entry h name =
    cond_both (bytes_eq entry.call.name name) (after_step (at.files entry.call.name) entry.call at.opened at.now entry.ruling) (at.files name) (IsCounted first)
    (λ e. counted_step first (at.files entry.call.name) entry.call at.opened at.now entry.ruling (h entry.call.name)) (λ e. h name)

-- a file is as counted at a later moment
counted_later : (first : ℕ) (shard : Shard) (moment : ℕ) → AreCounted first shard → AreCounted first (at_moment shard moment)
counted_later first shard moment h name = record { least = (h name).least; there = (h name).there }

counted_item : (first : ℕ) (shard : Shard) (item : Item) → AreCounted first shard → AreCounted first (happens shard item)
counted_item first shard (Tick moment) h = counted_later first shard moment h
counted_item first shard (Step entry) h = counted_entry first (at_moment shard entry.moment) entry (counted_later first shard entry.moment h)

counted_after : (first : ℕ) (shard : Shard) (items : List Item) → AreCounted first shard → AreCounted first (after shard items)
counted_after first shard [] h = h
counted_after first shard (item ∷ items) h = counted_after first (happens shard item) items (counted_item first shard item h)

counted_opening : (first : ℕ) (opening : Opening) (name : List ℕ) → IsCounted first (opening_file first opening name)
counted_opening first [] name = record { least = omega arith; there = λ contents e. cc }
counted_opening first ((one, bytes) ∷ rest) name =
    cond_both (bytes_eq one name) (opened_with first bytes) (opening_file first rest name) (IsCounted first)
    (λ e. record { least = omega arith; there = λ contents e2. omega arith }) (λ e. counted_opening first rest name)

pub counted_in : {F : Type 0} (book : Book F) (name : List ℕ) → IsNew book.begin → IsCounted book.begin.first (file_in book name)
counted_in book name new =
    let first = book.begin.first in
    let began : AreCounted first (begun book.begin) = subst (λ (b : Begin). AreCounted first (begun b)) (sym new) (counted_opening first (opening_in book.begin)) in
    counted_after first (begun book.begin) (history_of book.made book.time) began name

-- a name that wasn't met stands one below, without contents
pub uncounted : (first : ℕ) (file : File) → IsCounted first file → ((first ≤ file.version) → ⊥) → (first - 1 ≡ file.version) × (0 ≡ length (unwrap_or file.contents []))
uncounted first file h none = (by_less (nat_lt file.version first) refl, by_contents file.contents h.there)
  where
    by_less : (test : Bool) → nat_lt file.version first ≡ test → first - 1 ≡ file.version
    by_less true e = let below = ltb-true file.version first e in let least = h.least in omega (arith, below, least)
    by_less false e = absurd (none (ltb-false file.version first e))

    by_contents : (contents : Option (List ℕ)) → ((bytes : List ℕ) → contents ≡ Some bytes → first ≤ file.version) → 0 ≡ length (unwrap_or contents [])
    by_contents None h = refl
    by_contents (Some bytes) h = absurd (none (h bytes refl))

-- what is there isn't absent
pub not_there : {A : Type 0} (found : Option A) → found ≡ None → IsSome found → ⊥
not_there found none there = false≢true (sym (ap is_some none) ∙ there)

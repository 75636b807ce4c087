-- What no history may do.
use Rattle.std.specs.Prelude.{◌≡◌, ◌≢◌, ◌⊎◌, ⊤, ℕ, ◌≤◌, true, false, List, [], ◌∷◌, Option, None, Some}
use Rattle.wopi_text.specs.declared.reason.Reason.{Reason}
use Rattle.wopi_text.specs.declared.reason.Reason.TheVariants as reason
use Rattle.wopi_model.specs.declared.locks.Lock.{Lock}
use Rattle.wopi_model.specs.declared.locks.Spent.{Spent}
use Rattle.wopi_model.specs.File.{File, exists}
use Rattle.wopi_model.specs.declared.calls.Act.{Act}
use Rattle.wopi_model.specs.Act.{presents_spent}
use Rattle.wopi_model.specs.declared.calls.Act.TheVariants as act
use Rattle.wopi_model.specs.Step.{lock_field}
use Rattle.wopi_model.specs.Shard.{Shard, Item, Tick, Step, at_moment, happens}

-- Contents may be replaced by a Put under the lock that is held, and, where none is held, by a Create that
-- overwrites and by a Delete.
abbrev pub MayReplace : Option Lock → Act → Type 0
MayReplace lock (act.Put id contents) = (held : Lock) × (lock ≡ Some held) × (id ≡ Some held.id)
MayReplace lock (act.Create overwrite contents) = (overwrite ≡ true) × (lock ≡ None)
MayReplace lock act.Delete = lock ≡ None
MayReplace lock _ = ⊥

-- the item is an accepted act on the file of that name, which may replace its contents
abbrev pub Replaces : Shard → Item → List ℕ → Type 0
Replaces shard (Tick moment) name = ⊥
Replaces shard (Step entry) name =
    (entry.call.name ≡ name) × (entry.ruling.status ≡ 200)
    × MayReplace ((at_moment shard entry.moment).files name).lock entry.call.act

-- contents that aren't empty stay, unless the item may replace them
abbrev pub KeepsContents : Shard → Item → Type 0
KeepsContents shard item =
    (name bytes : List ℕ) → bytes ≢ [] → (shard.files name).contents ≡ Some bytes →
    ((happens shard item).files name).contents ≢ Some bytes → Replaces shard item name

-- the lock that the act uses, and not only names
abbrev pub used_lock : Act → Option (List ℕ)
used_lock (act.Put lock contents) = lock
used_lock (act.Lock id) = Some id
used_lock (act.Refresh id) = Some id
used_lock (act.Unlock id) = Some id
used_lock (act.Relock old id) = Some old
used_lock _ = None

-- what a reason says of the settled file
abbrev pub ReasonHolds : File → Act → Reason → Type 0
ReasonHolds file asked reason.Spent = presents_spent file.spent asked ≡ true
ReasonHolds file asked reason.NotLocked = file.lock ≡ None
ReasonHolds file asked reason.Locked = (held : Lock) × (file.lock ≡ Some held) × (used_lock asked ≢ Some held.id)
ReasonHolds file asked reason.Taken = (exists file ≡ true) × (contents : List ℕ) × (asked ≡ act.Create false contents)
ReasonHolds file asked reason.Changed = ⊥

-- a conflict tells the lock that stands, and a reason that holds
abbrev pub TellsWhy : Shard → Item → Type 0
TellsWhy shard (Tick moment) = ⊤
TellsWhy shard (Step entry) =
    let file = (at_moment shard entry.moment).files entry.call.name in
    entry.ruling.status ≡ 409 →
    (entry.ruling.lock ≡ lock_field file.lock)
    × (reason : Reason) × (entry.ruling.reason ≡ Some reason) × ReasonHolds file entry.call.act reason

-- the act names that id
abbrev pub Presents : Act → List ℕ → Type 0
Presents (act.Put (Some id) contents) given = id ≡ given
Presents (act.Lock id) given = id ≡ given
Presents (act.Refresh id) given = id ≡ given
Presents (act.Unlock id) given = id ≡ given
Presents (act.Relock old id) given = (old ≡ given) ⊎ (id ≡ given)
Presents _ given = ⊥

-- the id stands among the spent ones, at least until that moment
abbrev pub IsSpentUntil : List Spent → List ℕ → ℕ → Type 0
IsSpentUntil [] id moment = ⊥
IsSpentUntil (one ∷ spent) id moment = ((one.id ≡ id) × (moment ≤ one.until)) ⊎ IsSpentUntil spent id moment

-- no token that expires by that moment can use the id any more
abbrev pub HasEnded : List ℕ → List ℕ → ℕ → Shard → Type 0
HasEnded name id moment shard = (moment ≤ shard.now) ⊎ IsSpentUntil (shard.files name).spent id moment

-- an act on that file that names the id under such a token isn't accepted
abbrev pub RefusesEnded : List ℕ → List ℕ → ℕ → Shard → Item → Type 0
RefusesEnded name id moment shard (Tick other) = ⊤
RefusesEnded name id moment shard (Step entry) =
    entry.call.name ≡ name → entry.call.token.expires ≤ moment → Presents entry.call.act id → entry.ruling.status ≢ 200

-- What a shard's history says of saves under a lock id, whoever made the id and whatever client they use.
use Rattle.std.specs.Prelude.{◌≡◌, ℕ, List, ◌∷◌, ◌++◌, Some}
use Rattle.wopi_model.specs.declared.calls.Act.TheVariants as act
use Rattle.wopi_model.specs.declared.locks.Lock.{Lock}
use Rattle.wopi_model.specs.Safety.{RefusesEnded}
use Rattle.wopi_model.specs.Shard.{Shard, Item, Tick, Step, happens, after, Along}

-- the id is held on the file of that name
abbrev pub IsHeldOn : List ℕ → List ℕ → Shard → Type 0
IsHeldOn name id shard = (lock : Lock) × ((shard.files name).lock ≡ Some lock) × (lock.id ≡ id)

-- the item accepts a Put under the id, with these contents and under a token that expires then
abbrev pub IsSaveUnder : List ℕ → List ℕ → List ℕ → ℕ → Item → Type 0
IsSaveUnder name id contents expires (Tick moment) = ⊥
IsSaveUnder name id contents expires (Step entry) =
    (entry.call.name ≡ name) × (entry.call.act ≡ act.Put (Some id) contents) × (entry.call.token.expires ≡ expires) × (entry.ruling.status ≡ 200)

-- the item accepts no Put under the id, and leaves the id held
abbrev pub LeavesHeld : List ℕ → List ℕ → Shard → Item → Type 0
LeavesHeld name id shard item = ((contents : List ℕ) (expires : ℕ) → IsSaveUnder name id contents expires item → ⊥) × IsHeldOn name id (happens shard item)

-- What holds of the saves under one id on one file; start is the shard at its opening. The history is cut behind a save that was accepted
-- while the id was held, and again further on.
pub record SavesStand (name id : List ℕ) (start : Shard) (history : List Item) : Type 0 where
  -- what the save wrote stands for as long as the id is held and no other save is accepted under it
  pub stands : (first middle last : List Item) (p : Item) (contents : List ℕ) (expires : ℕ) → first ++ (p ∷ (middle ++ last)) ≡ history →
      IsSaveUnder name id contents expires p → IsHeldOn name id (happens (after start first) p) → Along (LeavesHeld name id) (happens (after start first) p) middle →
      ((after (happens (after start first) p) middle).files name).contents ≡ Some contents
  -- once the id isn't held any more, no act that presents it is accepted, under the save's token or one that expires earlier
  pub over : (first middle last : List Item) (p : Item) (contents : List ℕ) (expires : ℕ) → first ++ (p ∷ (middle ++ last)) ≡ history →
      IsSaveUnder name id contents expires p → IsHeldOn name id (happens (after start first) p) → (IsHeldOn name id (after (happens (after start first) p) middle) → ⊥) →
      Along (RefusesEnded name id expires) (after (happens (after start first) p) middle) last

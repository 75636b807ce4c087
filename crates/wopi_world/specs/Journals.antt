-- A history of a running shard, as events of a world.
use Rattle.std.specs.Prelude.{◌≡◌, ⊤, ℕ, ◌+◌, List, [], ◌∷◌, ◌==◌, if◌then◌else◌}
use Rattle.wopi_model.specs.Shard.{Item, Tick, Step}
use Rattle.wopi_model.specs.Shard as shard
use Rattle.wopi_world.specs.History.{Ran}
use Rattle.wopi_world.specs.History as world
use Rattle.wopi_world.specs.World.{Event, Ticks, Entry, Fault}

-- the call of an entry comes at its moment; where it was answered 500 the store failed
abbrev pub entry_events : shard.Entry → List Event → List Event
entry_events entry events =
    if entry.ruling.status == 500 then Fault ∷ Entry entry.call entry.moment ∷ events else Entry entry.call entry.moment ∷ events

abbrev pub events_of : List Item → List Event
events_of [] = []
events_of (Tick moment ∷ items) = Ticks moment ∷ events_of items
events_of (Step entry ∷ items) = entry_events entry (events_of items)

-- the same item, but for an entry's stamp and the number of its pass
abbrev pub IsSameItem : Item → world.Item → Type 0
IsSameItem (Tick moment) (Ran (Tick other)) = moment ≡ other
IsSameItem (Step entry) (Ran (Step other)) = (entry.moment ≡ other.moment) × (entry.call ≡ other.call) × (entry.ruling ≡ other.ruling)
IsSameItem _ _ = ⊥

abbrev pub AreSameItems : List Item → List world.Item → Type 0
AreSameItems [] [] = ⊤
AreSameItems (item ∷ items) (other ∷ others) = IsSameItem item other × AreSameItems items others
AreSameItems _ _ = ⊥

-- the entries are of pass 0, and their stamps count them, on from that number
abbrev pub AreCounted : ℕ → List shard.Entry → Type 0
AreCounted count [] = ⊤
AreCounted count (entry ∷ entries) = (entry.stamp ≡ count + 1) × (entry.pass ≡ 0) × AreCounted (count + 1) entries

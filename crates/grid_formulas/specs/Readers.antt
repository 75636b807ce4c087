-- Which formulas may read a cell. (Own: places are the leaves of a binary tree. Its nodes are numbered, and half of a
-- node's number is that of the node above it.)
use Rattle.std.specs.Prelude.{ℕ, zero, suc, ◌≡◌, ◌⊎◌, ◌+◌, ◌*◌, ◌-◌, ◌/◌, ◌≤◌, Bool, true, false, List, Option, Some, None}
use Rattle.std.specs.BTreeSet.{BTreeSet, contains}
use Rattle.std.specs.Ordering.{nat_cmp}
use Rattle.grid_formulas.specs.declared.formula.Span.{Span}
use Rattle.grid_formulas.specs.Cells.{reads}
use Rattle.grid_formulas.specs.Places.{has}

-- the last place of a span, where it has one
abbrev pub last_of : Span → ℕ
last_of span = span.first + 1024 * ((span.size - 1) / (span.last_column + 1)) + span.last_column

-- the node so many levels above the leaf of a place
unfoldable pub above : ℕ → ℕ → ℕ
above zero place = 134217728 + place
above (suc level) place = above level place / 2

-- each place from the first to the last stands below one of the two nodes, or is its leaf
abbrev pub Covers : ℕ → ℕ → ℕ → ℕ → Type 0
Covers first last low high =
    (level : ℕ) × ((q : ℕ) → first ≤ q → q ≤ last → (above level q ≡ low) ⊎ (above level q ≡ high))

-- the place stands below one of the nodes, or is its leaf
abbrev pub IsBelow : List ℕ → ℕ → Type 0
IsBelow nodes q = (level : ℕ) × (has nodes (above level q) ≡ true)

-- each of these places does
abbrev pub AreBelow : List ℕ → List ℕ → Type 0
AreBelow nodes places = (q : ℕ) → has places q ≡ true → IsBelow nodes q

abbrev pub kept_in : Option (BTreeSet ℕ) → ℕ → Bool
kept_in None reader = false
kept_in (Some readers) reader = contains nat_cmp readers reader

-- the reader is kept at the node
abbrev pub is_kept : (ℕ → Option (BTreeSet ℕ)) → ℕ → ℕ → Bool
is_kept readers node reader = kept_in (readers node) reader

-- each reader stays at each node where it was kept
abbrev pub Grows : (ℕ → Option (BTreeSet ℕ)) → (ℕ → Option (BTreeSet ℕ)) → Type 0
Grows old new = (node reader : ℕ) → is_kept old node reader ≡ true → is_kept new node reader ≡ true

-- the reader is kept at each of these nodes
abbrev pub IsKeptAt : (ℕ → Option (BTreeSet ℕ)) → List ℕ → ℕ → Type 0
IsKeptAt readers nodes reader = (node : ℕ) → has nodes node ≡ true → is_kept readers node reader ≡ true

-- each formula is kept above each place that it reads
abbrev pub IsIndexed : (ℕ → List ℕ) → (ℕ → Option (BTreeSet ℕ)) → Type 0
IsIndexed text readers = (p q : ℕ) → has (reads (text p)) q ≡ true → (level : ℕ) × (is_kept readers (above level q) p ≡ true)

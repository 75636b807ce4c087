-- When a shard is nearly full, by what its code counts.
use Rattle.std.proofs.Common.{◌≡◌, ◌⊎◌, ◌↔◌, ℕ, ◌*◌, ◌≤◌, Bool, true, false, IsTrue, List, length, Option, None, Some, refl, sym, ap, subst, ◌∙◌}
use Rattle.wopi_model.specs.Begin.{Begin}
use Rattle.wopi_model.specs.Lives.{left_of, live_bytes}
use Rattle.wopi_model.specs.Host.{kept_from, most_kept}
use Rattle.wopi_model.specs.Shard.{Item, entries}
use Rattle.host_core.specs.Entries.{Made}
use Rattle.host_core.specs.Fullness.{AreBytes, IsNearlyFull}
use Rattle.host_core.specs.Notes.{TakesCalls}
use Rattle.host_core.specs.Times.{GoesByEntries, happened_of, untimed}
use Rattle.host_core.specs.Value.{KeepsWithin}
use Rattle.host_core.proofs.Finding.{live_ticked}
use Rattle.host_core.proofs.History.{kept_timed, long_timed}
use Rattle.host_core.proofs.Timing.{kept-untimed, left-untimed, length-untimed}

-- the bytes that count don't depend on ticks
pub bytes_happened : (calls : Option ℕ) (ids : ℕ) (begin : Begin) (made : List Made) (time last bytes : ℕ) (ticked : Bool) → (ticked ≡ false → GoesByEntries begin.now made time)
    → KeepsWithin calls ids begin made time last bytes → AreBytes calls begin (happened_of ticked made time) bytes
bytes_happened (Some calls) ids begin made time last bytes true goes within = within.bytes_are ∙ sym (kept_timed begin made time)
bytes_happened (Some calls) ids begin made time last bytes false goes within = within.bytes_are ∙ kept-untimed begin made
bytes_happened None ids begin made time last bytes true goes within = within.bytes_are ∙ sym (live_ticked begin made time)
bytes_happened None ids begin made time last bytes false goes within = within.bytes_are ∙ ap (λ (b : Begin). live_bytes b.files) (left-untimed begin made (goes refl).timely)

-- those of a shard over a store that keeps all
pub bytes_kept : (calls : Option ℕ) (most : ℕ) (begin : Begin) (made : List Made) (time bytes : ℕ) (ticked : Bool) → TakesCalls calls (Some most) → AreBytes calls begin (happened_of ticked made time) bytes
    → bytes ≡ kept_from begin (untimed made)
bytes_kept None most begin made time bytes ticked takes are = absurd (cc (takes))
bytes_kept (Some calls) most begin made time bytes true takes are = are ∙ kept_timed begin made time ∙ kept-untimed begin made
bytes_kept (Some calls) most begin made time bytes false takes are = are

pub length_happened : (ticked : Bool) (made : List Made) (time : ℕ) → length (entries (happened_of ticked made time)) ≡ length made
length_happened true made time = long_timed made time
length_happened false made time = length-untimed made

pub nearly_all : (calls count bytes : ℕ) (answer : Bool) (begin : Begin) (history : List Item) → count ≡ length (entries history) → bytes ≡ kept_from begin history
    → (IsTrue answer ↔ ((9 * calls ≤ 10 * count) ⊎ (9 * most_kept ≤ 10 * bytes))) → IsTrue answer ↔ IsNearlyFull (Some calls) begin history
nearly_all calls count bytes answer begin history many are tested =
    let all : (count, bytes) ≡ (length (entries history), kept_from begin history) = λ i. (many i, are i) in
    subst (λ (z : ℕ × ℕ). IsTrue answer ↔ ((9 * calls ≤ 10 * z.0) ⊎ (9 * most_kept ≤ 10 * z.1))) all tested

pub nearly_live : (bytes : ℕ) (answer : Bool) (begin : Begin) (history : List Item) → bytes ≡ live_bytes (left_of begin history).files
    → (IsTrue answer ↔ (9 * most_kept ≤ 10 * bytes)) → IsTrue answer ↔ IsNearlyFull None begin history
nearly_live bytes answer begin history are tested = subst (λ (n : ℕ). IsTrue answer ↔ (9 * most_kept ≤ 10 * n)) are tested

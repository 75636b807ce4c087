-- Ids that are refused.
use Rattle.std.proofs.Common.{◌≡◌, ℕ, Bool, true, false, cond, ◌&&◌, ◌||◌, List, [], ◌∷◌, Option, None, Some, refl, ap, ◌∙◌}
use Rattle.std.specs.Prelude.{nat_lt}
use Rattle.std.specs.List.{list_any}
use Rattle.std.specs.Str.{bytes_eq}
use Rattle.wopi_model.specs.declared.locks.Lock.{Lock}
use Rattle.wopi_model.specs.declared.locks.Spent.{Spent}
use Rattle.wopi_model.specs.Act.{is_spent}
use Rattle.wopi_model.specs.Settle.{expired, is_over, still_spent, with_spent}
use Rattle.journal_segments.specs.Told.{ends_in}

-- the id is one of these, and still refused then
abbrev pub stands_refused : List Spent → List ℕ → ℕ → Bool
stands_refused spent id now = list_any (λ one. nat_lt now one.until && bytes_eq one.id id) spent

first_any : (late same : Bool) (one : Spent) (rest : List Spent) (id : List ℕ) → bytes_eq one.id id ≡ same →
    is_spent (cond late (one ∷ rest) rest) id ≡ (late && same) || is_spent rest id
first_any true same one rest id e = ap (λ (b : Bool). b || is_spent rest id) e
first_any false same one rest id e = refl

pub still_refused : (spent : List Spent) (id : List ℕ) (now : ℕ) → is_spent (still_spent spent now) id ≡ stands_refused spent id now
still_refused [] id now = refl
still_refused (one ∷ spent) id now =
    first_any (nat_lt now one.until) (bytes_eq one.id id) one (still_spent spent now) id refl
    ∙ ap (λ (b : Bool). (nat_lt now one.until && bytes_eq one.id id) || b) (still_refused spent id now)

pub refused_then : (lock : Option Lock) (spent : List Spent) (id : List ℕ) (now : ℕ) → is_spent (still_spent (with_spent (expired lock now) spent) now) id ≡ ends_in lock id now || stands_refused spent id now
refused_then None spent id now = still_refused spent id now
refused_then (Some lock) spent id now = by_over (is_over lock now)
  where
    by_over : (over : Bool) → is_spent (still_spent (with_spent (cond over (Some (record { id = lock.id; until = lock.until })) None) spent) now) id
        ≡ (over && (nat_lt now lock.until && bytes_eq lock.id id)) || stands_refused spent id now
    by_over true = still_refused (record { id = lock.id; until = lock.until } ∷ spent) id now
    by_over false = still_refused spent id now

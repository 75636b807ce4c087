-- Locks that are ended when they are over.
use Rattle.std.proofs.Common.{◌≡◌, ◌≤◌, ℕ, Bool, true, false, if◌then◌else◌, List, ◌∷◌, Option, None, Some, refl, sym, ap, ◌∙◌, arith}
use Rattle.std.proofs.lemmas.Bool.Decides.{nat_tests}
use Rattle.wopi_model.specs.File.{File}
use Rattle.wopi_model.specs.Settle.{settled, is_over, standing, expired, with_spent, still_spent}
use Rattle.wopi_model.specs.declared.locks.Lock.{Lock}
use Rattle.wopi_model.specs.declared.locks.Spent.{Spent}
use Rattle.wopi_model.proofs.Settling.{still-still}
use Rattle.std.specs.Prelude.{nat_lt}
use Rattle.kept_locks.specs.Whole.{ended_file, purged_file}

over_later : (lock : Lock) (early late : ℕ) → early ≤ late → is_over lock early ≡ true → is_over lock late ≡ true
over_later lock early late le over = grind (arith, nat_tests)

-- by the lock, and by whether it was over
by_lock : (contents : Option (List ℕ)) (version : ℕ) (spent : List Spent) (early late : ℕ) → early ≤ late → (lock : Option Lock)
    → settled (ended_file early (record { contents = contents; version = version; lock = lock; spent = spent })) late ≡ settled (record { contents = contents; version = version; lock = lock; spent = spent }) late
by_lock contents version spent early late le None = refl
by_lock contents version spent early late le (Some lock) = by_test (is_over lock early) refl
  where
    one : Spent
    one = record { id = lock.id; until = lock.until }

    whole : Option Lock → List Spent → File
    whole held ids = record { contents = contents; version = version; lock = standing held late; spent = still_spent (with_spent (expired held late) ids) late }

    by_test : (over : Bool) → is_over lock early ≡ over
        → whole (if is_over lock early then None else Some lock) (with_spent (if is_over lock early then Some one else None) spent) ≡ whole (Some lock) spent
    by_test true is =
        ap (λ b. whole (if b then None else Some lock) (with_spent (if b then Some one else None) spent)) is
        ∙ sym (ap (λ b. record { contents = contents; version = version; lock = if b then None else Some lock; spent = still_spent (with_spent (if b then Some one else None) spent) late })
        (over_later lock early late le is))
    by_test false is = ap (λ b. whole (if b then None else Some lock) (with_spent (if b then Some one else None) spent)) is

-- a file whose lock was ended early shows the same at each later moment
pub ended_shows : (file : File) (early late : ℕ) → early ≤ late → settled (ended_file early file) late ≡ settled file late
ended_shows file early late le = by_lock file.contents file.version file.spent early late le file.lock

with_purged : (held : Option Spent) (spent : List Spent) (early late : ℕ) → early ≤ late → still_spent (with_spent held (still_spent spent early)) late ≡ still_spent (with_spent held spent) late
with_purged None spent early late le = still-still spent early late le
with_purged (Some one) spent early late le = ap (λ (l : List Spent). if nat_lt late one.until then one ∷ l else l) (still-still spent early late le)

-- a file whose ids went early shows the same at each later moment
pub purged_shows : (file : File) (early late : ℕ) → early ≤ late → settled (purged_file early file) late ≡ settled file late
purged_shows file early late le =
    ap (λ (l : List Spent). record { contents = file.contents; version = file.version; lock = standing file.lock late; spent = l })
    (with_purged (expired file.lock late) file.spent early late le)

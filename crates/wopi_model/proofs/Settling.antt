-- What settling leaves, at one moment and at two.
use Rattle.std.proofs.Common.{◌≡◌, ℕ, ◌≤◌, true, List, [], ◌∷◌, Option, None, Some, refl, arith}
use Rattle.std.proofs.lemmas.Bool.Decides.{nat_tests}
use Rattle.wopi_model.specs.declared.locks.Lock.{Lock}
use Rattle.wopi_model.specs.declared.locks.Spent.{Spent}
use Rattle.wopi_model.specs.File.{File}
use Rattle.wopi_model.specs.Settle.{is_over, standing, expired, with_spent, still_spent, settled}

-- to drop what is over twice is to drop it at the later moment
pub still-still : (spent : List Spent) (early late : ℕ) → early ≤ late → still_spent (still_spent spent early) late ≡ still_spent spent late
still-still [] early late le = refl
still-still (one ∷ spent) early late le =
    let rest = still-still spent early late le in
    grind (arith, nat_tests)

-- a lock that is over stays so
over_later : (lock : Lock) (early late : ℕ) → early ≤ late → is_over lock early ≡ true → is_over lock late ≡ true
over_later lock early late le h = grind (arith, nat_tests)

pub standing-standing : (lock : Option Lock) (early late : ℕ) → early ≤ late → standing (standing lock early) late ≡ standing lock late
standing-standing None early late le = refl
standing-standing (Some lock) early late le =
    let later = over_later lock early late le in
    grind (arith, nat_tests)

spent_twice : (lock : Option Lock) (spent : List Spent) (early late : ℕ) → early ≤ late →
    still_spent (with_spent (expired (standing lock early) late) (still_spent (with_spent (expired lock early) spent) early)) late
    ≡ still_spent (with_spent (expired lock late) spent) late
spent_twice None spent early late le = still-still spent early late le
spent_twice (Some lock) spent early late le =
    let one : Spent = record { id = lock.id; until = lock.until } in
    let more = still-still (one ∷ spent) early late le in
    let rest = still-still spent early late le in
    let later = over_later lock early late le in
    grind (arith, nat_tests)

pub settled-settled : (file : File) (early late : ℕ) → early ≤ late → settled (settled file early) late ≡ settled file late
settled-settled file early late le =
    let locks = standing-standing file.lock early late le in
    let ids = spent_twice file.lock file.spent early late le in
    λ i. record { contents = file.contents; version = file.version; lock = locks i; spent = ids i }

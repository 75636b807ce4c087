-- A host's first pass.
use Rattle.std.proofs.Common.{◌≡◌, ℕ, suc, ◌+◌, ◌^◌, Option, Some, false, List, [], ◌∷◌, map, length, refl, ap, sym, subst, ◌∙◌, arith}
use Rattle.std.specs.List.{AllByRecursion}
use Rattle.atomic_table.specs.Seated.{TableId}
use Rattle.outside.specs.Folder.{Files, Times}
use Rattle.wopi_model.specs.File.{File}
use Rattle.wopi_model.specs.Begin.{Begin, new_life}
use Rattle.wopi_model.specs.Host.{Limits}
use Rattle.wopi_model.specs.Shard.{RisesFrom}
use Rattle.host_core.specs.Opening.{MayKeep}
use Rattle.host_core.specs.Value.{Book}
use Rattle.host_table.specs.Histories.{as_opened}
use Rattle.host_table.specs.Passes.{Own, stamp_of, by_stamp, owned_from, top, AreByName, AreBases, AreSeats, IsPass, IsPassOf}
use Rattle.host_table.specs.Start.{first_seats, start_of, AreBegun}
use Rattle.host_table.proofs.Locking.{first_locks, first_bases}
use Rattle.host_table.proofs.NewLives.{life_ordered, life_kept}

module _ {F : Type 0} where
  pub first_long : (locks : List TableId) (bases : List (Book F)) → length bases ≡ length locks → length (first_seats locks bases) ≡ length locks
  first_long [] bases e = refl
  first_long (lock ∷ locks) [] e = absurd (omega arith)
  first_long (lock ∷ locks) (base ∷ bases) e = ap suc (first_long locks bases (omega arith))

  first_are : (opened oldest : ℕ) (limits : Limits) (shard : ℕ) (locks : List TableId) (bases : List (Book F)) → AreBases opened oldest limits shard bases → AreSeats 0 (2 ^ 62) opened oldest limits shard (first_seats locks bases)
  first_are opened oldest limits shard [] bases are = tt
  first_are opened oldest limits shard (lock ∷ locks) [] are = tt
  first_are opened oldest limits shard (lock ∷ locks) (base ∷ bases) are =
      (record { free = refl; weight_is = refl; base = base; based = refl; is_base = are.0; seen = record { legal = record { allowed = tt; stamps = tt }; named = tt }; owns = tt }, first_are opened oldest limits (shard + 1) locks bases are.1)

  first_own : (j : ℕ) (locks : List TableId) (bases : List (Book F)) → owned_from j (first_seats locks bases) ≡ []
  first_own j [] bases = refl
  first_own j (lock ∷ locks) [] = refl
  first_own j (lock ∷ locks) (base ∷ bases) = first_own (j + 1) locks bases

  pub pass_first : (opened oldest : ℕ) (limits : Limits) (locks : List TableId) (bases : List (Book F)) → length locks ≡ 16 → length bases ≡ 16 → AreBases opened oldest limits 0 bases
      → IsPass (record { number = 0; last = top (first_seats locks bases); weight = 2 ^ 62; opened = opened; first = oldest; limits = limits; seats = first_seats locks bases })
  pass_first opened oldest limits locks bases wide many are = record {
    seats = first_are opened oldest limits 0 locks bases are;
    last_is = refl;
    wide = first_long locks bases (many ∙ sym wide) ∙ wide;
    rises = subst (λ (own : List Own). RisesFrom 0 (map stamp_of (by_stamp own))) (sym (first_own 0 locks bases)) tt;
  }

  pub of_first : (opened oldest : ℕ) (limits : Limits) (locks : List TableId) (bases : List (Book F)) → length locks ≡ 16 → length bases ≡ 16
      → IsPassOf (record { locks = locks; bases = bases; opened = opened; first = oldest; limits = limits; made = 1 }) (record { number = 0; last = top (first_seats locks bases); weight = 2 ^ 62; opened = opened; first = oldest; limits = limits; seats = first_seats locks bases })
  of_first opened oldest limits locks bases wide many = record { locks = first_locks locks bases (many ∙ sym wide); bases = first_bases locks bases (many ∙ sym wide) }

module _ {F : Type 0} (files : F → Option Files) (times : F → Option Times) (faults : F → ℕ) (opened oldest : ℕ) (limits : Limits) where
  pub begun_opened : (number : ℕ) (folders : List F) (books : List (Book F)) → AreBegun files times faults opened oldest limits number folders books → AreBegun files times faults opened oldest limits number folders (map as_opened books)
  begun_opened number [] [] a = tt
  begun_opened number [] (b ∷ books) a = absurd a
  begun_opened number (f ∷ folders) [] a = absurd a
  begun_opened number (f ∷ folders) (b ∷ books) a =
      let life = new_life a.0.stood opened oldest in
      let is : as_opened b ≡ record { only = Some number; begin = life; limits = limits; dates = b.dates; made = []; time = opened; ticked = false; start = f; folder = f } = ap as_opened a.0.book in (
        record {
          stood = a.0.stood;
          book = is ∙ (λ i. record { only = Some number; begin = life; limits = limits; dates = b.dates; made = []; time = opened; ticked = false; start = f; folder = sym (ap start_of a.0.book) i });
          opening = a.0.opening;
          fits = a.0.fits;
          dated = a.0.dated;
          told = a.0.told;
        },
        begun_opened (number + 1) folders books a.1,
      )

  pub begun_bases : (number : ℕ) (folders : List F) (books : List (Book F)) → AreBegun files times faults opened oldest limits number folders books → AreBases opened oldest limits number (map as_opened books)
  begun_bases number [] [] a = tt
  begun_bases number [] (b ∷ books) a = absurd a
  begun_bases number (f ∷ folders) [] a = absurd a
  begun_bases number (f ∷ folders) (b ∷ books) a =
      let only : b.only ≡ Some number = ap (λ (z : Book F). z.only) a.0.book in
      let life : b.begin ≡ new_life a.0.stood opened oldest = ap (λ (z : Book F). z.begin) a.0.book in
      let P : Option ℕ × Begin → Type 0 = λ z. AllByRecursion (λ (file : List ℕ × File). MayKeep z.0 file.0) z.1.files in
      let both : (Some number, new_life a.0.stood opened oldest) ≡ (b.only, b.begin) = λ i. (sym only i, sym life i) in (
        record {
          only = only;
          opened_is = ap (λ (z : Begin). z.opened) life;
          first_is = ap (λ (z : Begin). z.first) life;
          limits_is = ap (λ (z : Book F). z.limits) a.0.book;
          unticked = ap (λ (z : Book F). z.ticked) a.0.book;
          ordered = λ _. subst (λ (z : Begin). AreByName z.files) (sym life) (life_ordered oldest a.0.stood a.0.opening.ordered);
          names = subst P both (life_kept (Some number) oldest a.0.stood a.0.opening.taken);
        },
        begun_bases (number + 1) folders books a.1,
      )

  -- shards that begin a new life have made no entry before
  pub begun_top : (number : ℕ) (locks : List TableId) (folders : List F) (books : List (Book F)) → AreBegun files times faults opened oldest limits number folders books → top (first_seats locks (map as_opened books)) ≡ 0
  begun_top number [] folders books a = refl
  begun_top number (l ∷ locks) [] [] a = refl
  begun_top number (l ∷ locks) [] (b ∷ books) a = absurd a
  begun_top number (l ∷ locks) (f ∷ folders) [] a = absurd a
  begun_top number (l ∷ locks) (f ∷ folders) (b ∷ books) a =
      let here : b.begin.last ≡ 0 = ap (λ (z : Book F). z.begin.last) a.0.book in
      let rest = begun_top (number + 1) locks folders books a.1 in omega (arith, here, rest)

  -- the same shards, opened over the same folders
  pub starts_same : (xs ys : List (Book F)) → map as_opened xs ≡ map as_opened ys → map start_of xs ≡ map start_of ys
  starts_same [] [] e = refl
  starts_same [] (y ∷ ys) e = absurd (cc e)
  starts_same (x ∷ xs) [] e = absurd (cc e)
  starts_same (x ∷ xs) (y ∷ ys) e =
      let first : as_opened x ≡ as_opened y = cc e in let same : x.start ≡ y.start = ap start_of first in let rest = starts_same xs ys (cc e) in
      λ i. same i ∷ rest i

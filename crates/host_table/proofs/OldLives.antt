-- The shards that a host goes on with.
use Rattle.std.specs.Prelude.{is_some}
use Rattle.std.proofs.Common.{◌≡◌, ℕ, ◌+◌, ◌≤◌, max, Bool, true, false, true≢false, if◌then◌else◌, Option, Some, None, List, [], ◌∷◌, ◌++◌, map, filter, length, refl, ap, sym, subst, ◌∙◌, arith}
use Rattle.std.specs.List.{AllByRecursion}
use Rattle.atomic_table.specs.Seated.{TableId}
use Rattle.outside.specs.Folder.{Files, Times}
use Rattle.wopi_model.specs.Begin.{Begin}
use Rattle.wopi_model.specs.File.{File}
use Rattle.wopi_model.specs.Host.{Limits}
use Rattle.wopi_model.specs.Moment.{IsMoment}
use Rattle.wopi_model.specs.Shard.{Opening}
use Rattle.host_core.specs.declared.life.Life.{Life}
use Rattle.host_core.specs.declared.life.LifeFile.{LifeFile}
use Rattle.host_core.specs.Entries.{Made}
use Rattle.host_core.specs.Life.{found_on, goes_on, gone_on, is_gone}
use Rattle.host_core.specs.Notes.{Notes}
use Rattle.host_core.specs.Opening.{IsFirstVersion, MayKeep}
use Rattle.host_core.specs.Value.{Book}
use Rattle.host_table.specs.Histories.{as_opened, last_stamp}
use Rattle.host_table.specs.Passes.{AreBases, top}
use Rattle.host_table.specs.Reopen.{AllGoOn, AreOfOne, GoesOn, IsOf, endless, greatest_last}
use Rattle.host_table.specs.Start.{first_seats, start_of}

-- ---- the names of a life that goes on

both_all : {A : Type 0} (P : A → Type 0) (xs ys : List A) → AllByRecursion P xs → AllByRecursion P ys → AllByRecursion P (xs ++ ys)
both_all P [] ys all more = more
both_all P (x ∷ xs) ys all more = (all.0, both_all P xs ys all.1 more)

abbrev IsOwn : Option ℕ → List ℕ × File → Type 0
IsOwn only file = MayKeep only file.0

found_own : (only : Option ℕ) (life : Life) (opening : Opening) → AllByRecursion (λ (file : List ℕ × List ℕ). MayKeep only file.0) opening → AllByRecursion (IsOwn only) (map (found_on life) opening)
found_own only life [] all = tt
found_own only life (file ∷ opening) all = (all.0, found_own only life opening all.1)

gone_own : (only : Option ℕ) (life : Life) (opening : Opening) (files : List LifeFile) → AllByRecursion (λ (file : LifeFile). MayKeep only file.name) files
    → AllByRecursion (IsOwn only) (map (gone_on life) (filter (is_gone opening) files))
gone_own only life opening [] all = tt
gone_own only life opening (file ∷ files) all = go (is_gone opening file) (gone_own only life opening files all.1)
  where
    rest : List LifeFile
    rest = filter (is_gone opening) files

    go : (b : Bool) → AllByRecursion (IsOwn only) (map (gone_on life) rest) → AllByRecursion (IsOwn only) (map (gone_on life) (if b then file ∷ rest else rest))
    go true more = (all.0, more)
    go false more = more

own_on : (only : Option ℕ) (life : Life) (opening : Opening) → AllByRecursion (λ (file : List ℕ × List ℕ). MayKeep only file.0) opening → AllByRecursion (λ (file : LifeFile). MayKeep only file.name) life.files.items
    → AllByRecursion (IsOwn only) (goes_on life opening).files
own_on only life opening taken own =
    both_all (IsOwn only) (map (found_on life) opening) (map (gone_on life) (filter (is_gone opening) life.files.items)) (found_own only life opening taken) (gone_own only life opening life.files.items own)

-- ---- lives of one host

pub one_of_all : (opened first oldest version : ℕ) (life : Life) (lives : List Life) → IsOf opened first life → IsOf oldest version life → AreOfOne opened first lives → AreOfOne oldest version lives
one_of_all opened first oldest version life lives is other all =
    subst (λ (z : ℕ × ℕ). AreOfOne z.0 z.1 lives) (λ i. ((sym is.0 ∙ other.0) i, (sym is.1 ∙ other.1) i)) all

module _ {F : Type 0} (files : F → Option Files) (times : F → Option Times) (faults : F → ℕ) (notes : F → Notes) (ids opened first : ℕ) where
  -- each shard as it was opened
  opened_one : (number : ℕ) (life : Life) (folder : F) (book : Book F) → GoesOn files times faults notes ids number life folder book → GoesOn files times faults notes ids number life folder (as_opened book)
  opened_one number life folder book goes =
      let now : book.begin.now ≡ life.now = ap (λ (b : Begin). b.now) goes.reopened.begin_is in
      let is : as_opened book ≡ record { only = Some number; begin = book.begin; limits = endless ids; dates = book.dates; made = []; time = book.begin.now; ticked = false; start = book.start; folder = book.start } = ap as_opened goes.book in
      record {
        good = goes.good;
        book = is ∙ (λ i. record { only = Some number; begin = book.begin; limits = endless ids; dates = book.dates; made = []; time = now i; ticked = false; start = book.start; folder = book.start });
        reopened = goes.reopened;
        mends = goes.mends;
        enough = goes.enough;
        counts = goes.counts;
        log = goes.log;
      }

  pub going_opened : (number : ℕ) (lives : List Life) (folders : List F) (books : List (Book F)) → AllGoOn files times faults notes ids number lives folders books → AllGoOn files times faults notes ids number lives folders (map as_opened books)
  going_opened number [] [] [] going = tt
  going_opened number [] [] (book ∷ books) going = absurd going
  going_opened number [] (folder ∷ folders) [] going = absurd going
  going_opened number [] (folder ∷ folders) (book ∷ books) going = absurd going
  going_opened number (life ∷ lives) [] [] going = absurd going
  going_opened number (life ∷ lives) [] (book ∷ books) going = absurd going
  going_opened number (life ∷ lives) (folder ∷ folders) [] going = absurd going
  going_opened number (life ∷ lives) (folder ∷ folders) (book ∷ books) going = (opened_one number life folder book going.0, going_opened (number + 1) lives folders books going.1)

  base_one : (number : ℕ) (life : Life) (folder : F) (book : Book F) → GoesOn files times faults notes ids number life folder book → IsOf opened first life → AreBases opened first (endless ids) number (as_opened book ∷ [])
  base_one number life folder book goes of =
      let only : book.only ≡ Some number = ap (λ (z : Book F). z.only) goes.book in
      let begins = goes.reopened.begin_is in
      let limits : book.limits ≡ endless ids = ap (λ (z : Book F). z.limits) goes.book in
      let none : is_some book.limits.calls ≡ false = ap (λ (l : Limits). is_some l.calls) limits in
      let P : Option ℕ × Begin → Type 0 = λ z. AllByRecursion (λ (file : List ℕ × File). MayKeep z.0 file.0) z.1.files in
      let both : (Some number, goes_on life goes.reopened.opening) ≡ (book.only, book.begin) = λ i. (sym only i, sym begins i) in (
        record {
          only = only;
          opened_is = ap (λ (b : Begin). b.opened) begins ∙ of.0;
          first_is = ap (λ (b : Begin). b.first) begins ∙ of.1;
          limits_is = limits;
          unticked = ap (λ (z : Book F). z.ticked) goes.book;
          ordered = λ some. absurd (true≢false (sym some ∙ none));
          names = subst P both (own_on (Some number) life goes.reopened.opening goes.reopened.read.taken goes.good.own);
        },
        tt,
      )

  pub going_bases : (number : ℕ) (lives : List Life) (folders : List F) (books : List (Book F)) → AllGoOn files times faults notes ids number lives folders books → AreOfOne opened first lives → AreBases opened first (endless ids) number (map as_opened books)
  going_bases number [] [] [] going of = tt
  going_bases number [] [] (book ∷ books) going of = absurd going
  going_bases number [] (folder ∷ folders) [] going of = absurd going
  going_bases number [] (folder ∷ folders) (book ∷ books) going of = absurd going
  going_bases number (life ∷ lives) [] [] going of = absurd going
  going_bases number (life ∷ lives) [] (book ∷ books) going of = absurd going
  going_bases number (life ∷ lives) (folder ∷ folders) [] going of = absurd going
  going_bases number (life ∷ lives) (folder ∷ folders) (book ∷ books) going of = ((base_one number life folder book going.0 of.0).0, going_bases (number + 1) lives folders books going.1 of.1)

  -- no shard has made an entry, so the greatest stamp is that of the first pass
  pub going_top : (number : ℕ) (locks : List TableId) (lives : List Life) (folders : List F) (books : List (Book F)) → AllGoOn files times faults notes ids number lives folders books → length locks ≡ length books
      → greatest_last books ≡ top (first_seats locks (map as_opened books))
  going_top number [] [] [] [] going e = refl
  going_top number (lock ∷ locks) [] [] [] going e = absurd (omega (arith, e))
  going_top number locks [] [] (book ∷ books) going e = absurd going
  going_top number locks [] (folder ∷ folders) [] going e = absurd going
  going_top number locks [] (folder ∷ folders) (book ∷ books) going e = absurd going
  going_top number locks (life ∷ lives) [] [] going e = absurd going
  going_top number locks (life ∷ lives) [] (book ∷ books) going e = absurd going
  going_top number locks (life ∷ lives) (folder ∷ folders) [] going e = absurd going
  going_top number [] (life ∷ lives) (folder ∷ folders) (book ∷ books) going e = absurd (omega (arith, e))
  going_top number (lock ∷ locks) (life ∷ lives) (folder ∷ folders) (book ∷ books) going e =
      let none : book.made ≡ [] = ap (λ (z : Book F). z.made) going.0.book in
      let here : last_stamp book.begin.last book.made ≡ last_stamp book.begin.last [] = ap (λ (made : List Made). last_stamp book.begin.last made) none in
      let rest = going_top (number + 1) locks lives folders books going.1 (omega (arith, e)) in
      λ i. max (here i) (rest i)

  -- what the first life says of the host's opening
  pub going_one : (number : ℕ) (lives : List Life) (folders : List F) (books : List (Book F)) → AllGoOn files times faults notes ids number lives folders books → AreOfOne opened first lives → 1 ≤ length lives → IsMoment opened × IsFirstVersion first
  going_one number [] [] [] going of some = absurd (omega (arith, some))
  going_one number [] [] (book ∷ books) going of some = absurd going
  going_one number [] (folder ∷ folders) [] going of some = absurd going
  going_one number [] (folder ∷ folders) (book ∷ books) going of some = absurd going
  going_one number (life ∷ lives) [] [] going of some = absurd going
  going_one number (life ∷ lives) [] (book ∷ books) going of some = absurd going
  going_one number (life ∷ lives) (folder ∷ folders) [] going of some = absurd going
  going_one number (life ∷ lives) (folder ∷ folders) (book ∷ books) going of some = (subst IsMoment of.0.0 going.0.good.opened, subst IsFirstVersion of.0.1 going.0.good.first)

-- What a log holds, as more is appended to it.
use Rattle.std.proofs.Common.{◌≡◌, ◌≤◌, ℕ, Bool, List, [], ◌∷◌, ◌++◌, Option, None, Some, refl, sym, ap, subst, ◌∙◌, append_assoc, append-nil, arith}
use Rattle.std.specs.List.{AllByRecursion}
use Rattle.std.specs.Io.KnownBytes.{Appends}
use Rattle.std.proofs.KnownBytes.{Appends-nil, Appends-trans}
use Rattle.std.proofs.lemmas.Grind.{flat_map-append}
use Rattle.outside.specs.Faults.{Rose}
use Rattle.outside.specs.Log.{IsFront}
use Rattle.host_core.specs.Entries.{Made}
use Rattle.host_log.specs.Rows.{Row, Counts, TakenBack, IsIdle, IsInDoubt, IsLog, IsOpeningCut, counted, entry_text, off_line, row_text, rows_text}

all_append : {X : Type 0} (P : X → Type 0) (xs ys : List X) → AllByRecursion P xs → AllByRecursion P ys → AllByRecursion P (xs ++ ys)
all_append P [] ys first second = second
all_append P (x ∷ xs) ys first second = (first.0, all_append P xs ys first.1 second)

counted_append : (xs ys : List Row) → counted (xs ++ ys) ≡ counted xs ++ counted ys
counted_append [] ys = refl
counted_append (Counts one ∷ xs) ys = ap (λ (l : List Made). one ∷ l) (counted_append xs ys)
counted_append (TakenBack one ∷ xs) ys = counted_append xs ys

text_more : (rows : List Row) (row : Row) → rows_text (rows ++ row ∷ []) ≡ rows_text rows ++ row_text row
text_more rows row = flat_map-append row_text rows (row ∷ []) ∙ ap (λ (l : List ℕ). rows_text rows ++ l) (append-nil (row_text row))

-- nothing was appended yet
pub log_new : (all : Bool) (start : Option (List ℕ)) → IsLog all start start start [] [] []
log_new all start = record { sure = []; loose = []; told_are = refl; idle = tt; grew = Appends-nil start; more = []; reached = Appends-nil start }

-- a front of a beginning was appended, and some of it was synced
pub log_cut : (all : Bool) (start held synced : Option (List ℕ)) (front : List ℕ) → Appends start held front → IsFront start synced → IsLog all start held synced [] [] front
log_cut all start held synced front grew reached = record { sure = []; loose = []; told_are = refl; idle = tt; grew = grew; more = reached.0; reached = reached.1 }

-- a beginning was appended, and all is synced
pub log_begun : (all : Bool) (start held : Option (List ℕ)) (head : List ℕ) → Appends start held head → IsLog all start held held head [] []
log_begun all start held head grew =
    let whole : Appends start held (head ++ []) = subst (Appends start held) (sym (append-nil head)) grew in
    record { sure = []; loose = []; told_are = refl; idle = tt; grew = whole; more = []; reached = whole }

-- more behind the rest of a text
behind : (head text tail more : List ℕ) → (head ++ (text ++ tail)) ++ more ≡ head ++ (text ++ (tail ++ more))
behind head text tail more = append_assoc head (text ++ tail) more ∙ ap (λ (l : List ℕ). head ++ l) (append_assoc text tail more)

-- more was appended
pub log_longer : (all : Bool) (start held held' synced : Option (List ℕ)) (head : List ℕ) (told : List Made) (tail more : List ℕ) → IsLog all start held synced head told tail → Appends held held' more
    → IsLog all start held' synced head told (tail ++ more)
log_longer all start held held' synced head told tail more log grew = record {
  sure = log.sure;
  loose = log.loose;
  told_are = log.told_are;
  idle = log.idle;
  grew = subst (Appends start held') (behind head (rows_text (log.sure ++ log.loose)) tail more)
      (Appends-trans start held held' (head ++ (rows_text (log.sure ++ log.loose) ++ tail)) more log.grew grew);
  more = log.more;
  reached = log.reached;
}

-- all of it was synced
pub log_synced : (all : Bool) (start held synced : Option (List ℕ)) (head : List ℕ) (told : List Made) (tail : List ℕ) → IsLog all start held synced head told tail → IsLog all start held held head told tail
log_synced all start held synced head told tail log =
    let rows = log.sure ++ log.loose in
    record {
      sure = rows;
      loose = [];
      told_are = ap counted (append-nil rows) ∙ log.told_are;
      idle = tt;
      grew = subst (λ (l : List Row). Appends start held (head ++ (rows_text l ++ tail))) (sym (append-nil rows)) log.grew;
      more = tail;
      reached = log.grew;
    }

-- some more of it was synced
pub log_reached : (all : Bool) (start held synced synced' : Option (List ℕ)) (head : List ℕ) (told : List Made) (tail : List ℕ) → IsLog all start held synced head told tail → IsFront synced synced'
    → IsLog all start held synced' head told tail
log_reached all start held synced synced' head told tail log front = record {
  sure = log.sure;
  loose = log.loose;
  told_are = log.told_are;
  idle = log.idle;
  grew = log.grew;
  more = log.more ++ front.0;
  reached = subst (Appends start synced') (behind head (rows_text log.sure) log.more front.0)
      (Appends-trans start synced synced' (head ++ (rows_text log.sure ++ log.more)) front.0 log.reached front.1);
}

counts_more : (sure loose : List Row) (row : Row) (told : List Made) → counted (sure ++ loose) ≡ told → counted ((sure ++ loose) ++ row ∷ []) ≡ told ++ counted (row ∷ [])
counts_more sure loose row told are = counted_append (sure ++ loose) (row ∷ []) ∙ ap (λ (l : List Made). l ++ counted (row ∷ [])) are

-- a row that changed nothing stands in it
pub log_idle : (all : Bool) (start held synced : Option (List ℕ)) (head : List ℕ) (told : List Made) (row : Row) → IsIdle all row → IsLog all start held synced head told (row_text row)
    → IsLog all start held synced head (told ++ counted (row ∷ [])) []
log_idle all start held synced head told row idle log =
    let assoc : log.sure ++ (log.loose ++ row ∷ []) ≡ (log.sure ++ log.loose) ++ row ∷ [] = sym (append_assoc log.sure log.loose (row ∷ [])) in
    let text : rows_text (log.sure ++ (log.loose ++ row ∷ [])) ++ [] ≡ rows_text (log.sure ++ log.loose) ++ row_text row =
    append-nil (rows_text (log.sure ++ (log.loose ++ row ∷ []))) ∙ ap (λ (l : List Row). rows_text l) assoc ∙ text_more (log.sure ++ log.loose) row in
    record {
      sure = log.sure;
      loose = log.loose ++ row ∷ [];
      told_are = ap (λ (l : List Row). counted l) assoc ∙ counts_more log.sure log.loose row told log.told_are;
      idle = all_append (IsIdle all) log.loose (row ∷ []) log.idle (idle, tt);
      grew = subst (λ (l : List ℕ). Appends start held (head ++ l)) (sym text) log.grew;
      more = log.more;
      reached = log.reached;
    }

-- a row stands in it, and all is synced
pub log_sure : (all : Bool) (start held : Option (List ℕ)) (head : List ℕ) (told : List Made) (row : Row) → IsLog all start held held head told (row_text row)
    → IsLog all start held held head (told ++ counted (row ∷ [])) []
log_sure all start held head told row log =
    let rows = (log.sure ++ log.loose) ++ row ∷ [] in
    let text : rows_text rows ++ [] ≡ rows_text (log.sure ++ log.loose) ++ row_text row = append-nil (rows_text rows) ∙ text_more (log.sure ++ log.loose) row in
    let synced : Appends start held (head ++ (rows_text rows ++ [])) = subst (λ (l : List ℕ). Appends start held (head ++ l)) (sym text) log.grew in
    record {
      sure = rows;
      loose = [];
      told_are = ap (λ (l : List Row). counted l) (append-nil rows) ∙ counts_more log.sure log.loose row told log.told_are;
      idle = tt;
      grew = subst (λ (l : List Row). Appends start held (head ++ (rows_text l ++ []))) (sym (append-nil rows)) synced;
      more = [];
      reached = synced;
    }

-- A front of a text is in doubt, and so is a text and a front of what takes it back.
pub front_in_doubt : (head : List ℕ) (told : List Made) (doubt : Option Made) (one : Made) (front rest : List ℕ) → doubt ≡ Some one → entry_text one ≡ front ++ rest → IsInDoubt head told doubt front
front_in_doubt head told doubt one front rest is parts =
    let more : entry_text one ++ off_line ≡ front ++ (rest ++ off_line) = ap (λ (l : List ℕ). l ++ off_line) parts ∙ append_assoc front rest off_line in
    subst (λ (d : Option Made). IsInDoubt head told d front) (sym is) (rest ++ off_line, more)

pub back_in_doubt : (head : List ℕ) (told : List Made) (doubt : Option Made) (one : Made) (front rest : List ℕ) → doubt ≡ Some one → off_line ≡ front ++ rest
    → IsInDoubt head told doubt (entry_text one ++ front)
back_in_doubt head told doubt one front rest is parts =
    let more : entry_text one ++ off_line ≡ (entry_text one ++ front) ++ rest = ap (λ (l : List ℕ). entry_text one ++ l) parts ∙ sym (append_assoc (entry_text one) front rest) in
    subst (λ (d : Option Made). IsInDoubt head told d (entry_text one ++ front)) (sym is) (rest, more)

-- so is a front of a beginning, where nothing was told
pub cut_in_doubt : (head : List ℕ) (told : List Made) (doubt : Option Made) (front : List ℕ) → doubt ≡ None → head ≡ [] → told ≡ [] → IsOpeningCut front → IsInDoubt head told doubt front
cut_in_doubt head told doubt front is none empty cut = subst (λ (d : Option Made). IsInDoubt head told d front) (sym is) (none, empty, cut)

pub rose_from : (began before now : ℕ) → began ≤ before → Rose before now → Rose began now
rose_from began before now le rose = omega (arith, le, rose)

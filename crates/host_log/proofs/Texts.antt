-- The text of an entry in its parts, and of the files that a shard begins with.
use Rattle.std.proofs.Common.{◌≡◌, ◌<◌, ◌≤◌, ◌+◌, ◌∙◌, ℕ, zero, suc, Bool, List, [], ◌∷◌, ◌++◌, length, take, get_or, slice_get, Option, None, Some, Result, refl, sym, ap, subst, append_assoc, append-nil, arith}
use Rattle.std.specs.Prelude.{unwrap_or}
use Rattle.std.specs.List.{flat_map}
use Rattle.std.proofs.lemmas.List.{take_all}
use Rattle.outside.specs.Stream.{GrewByPrefix}
use Rattle.wopi_model.specs.declared.calls.Ruling.{Ruling}
use Rattle.host_core.specs.declared.file.KeptFile.{KeptFile}
use Rattle.kept_locks.specs.Locks.{Standing, unlocked}
use Rattle.host_core.specs.Life.{listed_on}
use Rattle.host_core.specs.Whole.{Whole, joined, standing_at, whole}
use Rattle.host_core.specs.Entries.{Asked, Made, accepted_contents, asked_in, ruled, ruled_as}
use Rattle.host_table.specs.Text.{call_text, ruling_text, space}
use Rattle.host_table.specs.Writing.{Gathers, IsGathered}
use Rattle.host_table.proofs.WritingLemmas.{cut_longer, gathers_then, lines_cut, lines_more}
use Rattle.host_log.specs.Begins.{files_as}
use Rattle.host_log.specs.Rows.{asked_text, at_line, brought_text, entry_text, file_text, opened_text, whole_text}

-- the ruling, and what was accepted
abbrev pub told_text : Made → List ℕ
told_text one = (space ∷ ruling_text one.step.ruling) ++ brought_text (accepted_contents one)

-- the text is the call's, and this
entry_halves : (one : Made) → asked_text (asked_in one) ++ told_text one ≡ entry_text one
unfolding entry_text call_text
entry_halves one = grind (arith, append_assoc, append-nil)

-- whether it may be told is no part of it
pub entry_as : (told : Bool) (ruling : Ruling) (one : Asked) → entry_text (ruled ruling one) ≡ entry_text (ruled_as told ruling one)
unfolding entry_text
entry_as told ruling one = refl

pub entry_cut : (a b : Option (List ℕ)) (p : List ℕ) (one : Made) → GrewByPrefix a b (p ++ asked_text (asked_in one)) → GrewByPrefix a b (p ++ entry_text one)
entry_cut a b p one cut = subst (λ (l : List ℕ). GrewByPrefix a b (p ++ l)) (entry_halves one) (cut_longer a b p (asked_text (asked_in one)) (told_text one) cut)

pub entry_gathered : {T E : Type 0} (a b c : Option (List ℕ)) (p q r : List ℕ) (result : Result T E) (one : Made)
    → IsGathered a b p q (asked_text (asked_in one)) → Gathers b c q r result (told_text one) → Gathers a c p r result (entry_text one)
entry_gathered a b c p q r result one first second =
    subst (Gathers a c p r result) (entry_halves one) (gathers_then a b c p q r result (asked_text (asked_in one)) (told_text one) first second)

-- the lines of files of an opening are those of what a shard then begins with
pub opened_files : (first : ℕ) (files : List KeptFile) → flat_map (opened_text first) files ≡ flat_map file_text (files_as first files None)
opened_files first [] = refl
opened_files first (file ∷ files) = ap (λ (l : List ℕ). opened_text first file ++ l) (opened_files first files)

-- and so are those of files that go on
pub whole_files : (files : List Whole) → flat_map whole_text files ≡ flat_map file_text (listed_on files)
whole_files [] = refl
whole_files (file ∷ files) = ap (λ (l : List ℕ). whole_text file ++ l) (whole_files files)

pub none_locked : (first : ℕ) (files : List KeptFile) (locks : Option (List Standing)) → locks ≡ None → flat_map (opened_text first) files ≡ flat_map file_text (files_as first files locks)
none_locked first files locks none = opened_files first files ∙ ap (λ (o : Option (List Standing)). flat_map file_text (files_as first files o)) (sym none)

pub some_locked : (first : ℕ) (files : List KeptFile) (locks : Option (List Standing)) (given : List Standing) → locks ≡ Some given
    → flat_map whole_text (joined files given) ≡ flat_map file_text (files_as first files locks)
some_locked first files locks given some = whole_files (joined files given) ∙ ap (λ (o : Option (List Standing)). flat_map file_text (files_as first files o)) (sym some)

-- a file of an opening has no locks
pub opened_at : (first : ℕ) (file : KeptFile) → at_line file.name first (Some (length (unwrap_or file.contents []))) ≡ opened_text first file
opened_at first file = sym (append-nil (at_line file.name first (Some (length (unwrap_or file.contents [])))))

-- what stands at a place among locks
pub standing_got : (locks : List Standing) (k : ℕ) → standing_at locks k ≡ unwrap_or (slice_get locks k) unlocked
standing_got [] k = refl
standing_got (one ∷ locks) zero = refl
standing_got (one ∷ locks) (suc k) = standing_got locks k

-- and among files with their locks
joined_got : (files : List KeptFile) (locks : List Standing) (k : ℕ) (x d : KeptFile) → k < length files → x ≡ get_or files k d
    → slice_get (joined files locks) k ≡ Some (whole x (standing_at locks k))
joined_got [] locks k x d inside is = absurd (omega arith)
joined_got (file ∷ files) [] zero x d inside is = ap (λ (f : KeptFile). Some (whole f unlocked)) (sym is)
joined_got (file ∷ files) [] (suc k) x d inside is = joined_got files [] k x d (omega arith) is
joined_got (file ∷ files) (one ∷ locks) zero x d inside is = ap (λ (f : KeptFile). Some (whole f one)) (sym is)
joined_got (file ∷ files) (one ∷ locks) (suc k) x d inside is = joined_got files locks k x d (omega arith) is

joined_long : (files : List KeptFile) (locks : List Standing) → length (joined files locks) ≡ length files
joined_long [] locks = refl
joined_long (file ∷ files) [] = ap suc (joined_long files [])
joined_long (file ∷ files) (one ∷ locks) = ap suc (joined_long files locks)

-- a file with its locks is written behind those before it
pub whole_more : (files : List KeptFile) (locks : List Standing) (k : ℕ) (x d : KeptFile) (one : Standing) (a b c : Option (List ℕ)) (p q r : List ℕ) → k < length files → x ≡ get_or files k d
    → one ≡ unwrap_or (slice_get locks k) unlocked → IsGathered a b p q (flat_map whole_text (take k (joined files locks))) → IsGathered b c q r (whole_text (whole x one))
    → IsGathered a c p r (flat_map whole_text (take (k + 1) (joined files locks)))
whole_more files locks k x d one a b c p q r inside is at first next =
    let same : standing_at locks k ≡ one = standing_got locks k ∙ sym at in
    let got : slice_get (joined files locks) k ≡ Some (whole x one) = joined_got files locks k x d inside is ∙ ap (λ (s : Standing). Some (whole x s)) same in
    lines_more whole_text (joined files locks) k (whole x one) a b c p q r got first next

pub whole_cut : (files : List KeptFile) (locks : List Standing) (k : ℕ) (x d : KeptFile) (one : Standing) (a b c : Option (List ℕ)) (p q : List ℕ) → k < length files → x ≡ get_or files k d
    → one ≡ unwrap_or (slice_get locks k) unlocked → IsGathered a b p q (flat_map whole_text (take k (joined files locks))) → GrewByPrefix b c (q ++ whole_text (whole x one))
    → GrewByPrefix a c (p ++ flat_map whole_text (joined files locks))
whole_cut files locks k x d one a b c p q inside is at first next =
    let same : standing_at locks k ≡ one = standing_got locks k ∙ sym at in
    let got : slice_get (joined files locks) k ≡ Some (whole x one) = joined_got files locks k x d inside is ∙ ap (λ (s : Standing). Some (whole x s)) same in
    lines_cut whole_text (joined files locks) k (whole x one) a b c p q got first next

-- all were written
pub whole_all : (files : List KeptFile) (locks : List Standing) (k : ℕ) (a b : Option (List ℕ)) (p q : List ℕ) → length files ≤ k
    → IsGathered a b p q (flat_map whole_text (take k (joined files locks))) → IsGathered a b p q (flat_map whole_text (joined files locks))
whole_all files locks k a b p q past gathered =
    let long = joined_long files locks in
    subst (λ (l : List Whole). IsGathered a b p q (flat_map whole_text l)) (take_all k (joined files locks) (omega (arith, long, past))) gathered

-- Paths of files and their parts.
use Rattle.std.proofs.Common.{◌≡◌, ◌≢◌, ℕ, zero, suc, ◌-◌, Bool, true, false, ◌||◌, ◌==◌, List, [], ◌∷◌, ◌++◌, length, take, drop, get_or, codes, Option, Some, None, refl, sym, ap, ◌∙◌, arith, length-append, take-append-drop, append-nil, Bor, ◌+◌, ◌/◌, ◌%◌}
use Rattle.std.specs.Prelude.{MatchOption}
use Rattle.std.proofs.lemmas.List.{append_cancel_left, append_cancel_right}
use Rattle.std.specs.List.{list_any}
use Rattle.std.specs.Str.{bytes_eq}
use Rattle.std.proofs.lemmas.Slice.Eq.{bytes_eq-Decides}
use Rattle.std.proofs.lemmas.List.Folds.{list_any-append}
use Rattle.std.proofs.Math.Bool.{or-true}
use Rattle.std.proofs.Math.Seq.{drop-append_seam}
use Rattle.hex.specs.Hex.{encode_with, lower_digits}
use Rattle.wopi_text.specs.Ids.{id_of}
use Rattle.wopi_headers.specs.Paths.{ending, file_path, IsFilePath, IsPlace, IsIdIn}

-- a text that ends with the back, and one that doesn't
backed : (back text : List ℕ) → bytes_eq (drop (length text - length back) text) back ≡ true → text ≡ take (length text - length back) text ++ back
backed back text e =
    let n = length text - length back in
    sym (take-append-drop n text) ∙ ap (λ b. take n text ++ b) ((bytes_eq-Decides (drop n text) back).0 e)

not_backed : (back text : List ℕ) → bytes_eq (drop (length text - length back) text) back ≡ false → (front : List ℕ) → text ≢ front ++ back
not_backed back text e front is =
    let len : length text - length back ≡ length front = omega (arith, ap length is, length-append front back) in
    let same : bytes_eq (drop (length text - length back) text) back ≡ true =
    (bytes_eq-Decides (drop (length text - length back) text) back).1 (ap (λ k. drop k text) len ∙ ap (drop (length front)) is ∙ drop-append_seam front back) in
    cc

-- ids have no slash
abbrev has_slash : List ℕ → Bool
has_slash xs = list_any (λ b. b == 47) xs

neither : (a b : Bool) → (a || b) ≡ false → (a ≡ false) × (b ≡ false)
neither true b e = absurd (cc e)
neither false b e = (refl, e)

neither_of : (a b : Bool) → a ≡ false → b ≡ false → (a || b) ≡ false
neither_of a b e f = ap (λ c. c || b) e ∙ f

none_at : (xs : List ℕ) (i : ℕ) → has_slash xs ≡ false → (get_or xs i 0 == 47) ≡ false
none_at [] i e = refl
none_at (x ∷ xs) zero e = (neither (x == 47) (has_slash xs) e).0
none_at (x ∷ xs) (suc i) e = none_at xs i (neither (x == 47) (has_slash xs) e).1

no_slash : (name : List ℕ) → has_slash (encode_with lower_digits name) ≡ false
unfolding encode_with
no_slash [] = refl
no_slash (b ∷ name) = neither_of _ _ (none_at lower_digits (b / 16) refl) (neither_of _ _ (none_at lower_digits (b % 16) refl) (no_slash name))

pub id_has_no_ending : (name id : List ℕ) → id_of name ≢ id ++ codes "/contents"
id_has_no_ending name id e =
    let yes : has_slash (id ++ codes "/contents") ≡ true = list_any-append (λ b. b == 47) id (codes "/contents") ∙ or-true (has_slash id) in
    let no = no_slash name in
    let across = ap has_slash e in
    cc

-- what `strip_suffix` finds
pub suffix_found : (back text : List ℕ) (o : Option (Bor (List ℕ)))
    → MatchOption o (bytes_eq (drop (length text - length back) text) back ≡ false)
    (λ x. (bytes_eq (drop (length text - length back) text) back ≡ true) × (x.now ≡ take (length text - length back) text) × (length x.now + length back ≡ length text))
    → MatchOption o ((front : List ℕ) → text ≢ front ++ back) (λ x. text ≡ x.now ++ back)
suffix_found back text None h = not_backed back text h
suffix_found back text (Some x) h = backed back text h.0 ∙ ap (λ front. front ++ back) (sym h.1)

abbrev files : List ℕ
files = codes "/wopi/files/"

-- no path begins otherwise
pub no_path : (path : List ℕ) → ((rest : List ℕ) → path ≢ files ++ rest) → (name : List ℕ) (contents : Bool) → ¬ (IsFilePath path name contents)
unfolding file_path
no_path path none name contents h = none (id_of name ++ ending contents) h.path_is

-- what a path that begins so has behind
behind : (path rest name : List ℕ) (contents : Bool) → path ≡ files ++ rest → IsFilePath path name contents → rest ≡ id_of name ++ ending contents
unfolding file_path
behind path rest name contents is h = append_cancel_left files rest (id_of name ++ ending contents) (sym is ∙ h.path_is)

contents_only : (path id name : List ℕ) (contents : Bool) → path ≡ files ++ (id ++ codes "/contents") → IsFilePath path name contents
    → IsPlace id name × (contents ≡ true)
contents_only path id name true is h =
    ((h.form, append_cancel_right id (id_of name) (codes "/contents") (behind path (id ++ codes "/contents") name true is h)), refl)
contents_only path id name false is h =
    absurd (id_has_no_ending name id (sym (behind path (id ++ codes "/contents") name false is h ∙ append-nil (id_of name))))

file_only : (path rest name : List ℕ) (contents : Bool) → path ≡ files ++ rest → ((id : List ℕ) → rest ≢ id ++ codes "/contents") → IsFilePath path name contents
    → IsPlace rest name × (contents ≡ false)
file_only path rest name true is none h = absurd (none (id_of name) (behind path rest name true is h))
file_only path rest name false is none h = ((h.form, behind path rest name false is h ∙ append-nil (id_of name)), refl)

is_path : (path rest id name : List ℕ) (contents : Bool) → path ≡ files ++ rest → rest ≡ id ++ ending contents → IsPlace id name → IsFilePath path name contents
unfolding file_path
is_path path rest id name contents is back place = record {
  form = place.0;
  path_is = is ∙ ap (λ r. files ++ r) (back ∙ ap (λ i. i ++ ending contents) place.1);
}

-- a path of contents
pub contents_path : (path rest id : List ℕ) → path ≡ files ++ rest → rest ≡ id ++ codes "/contents" → IsIdIn path id true
contents_path path rest id is back =
    λ name c. (contents_only path id name c (is ∙ ap (λ r. files ++ r) back), λ h. is_path path rest id name c is (back ∙ ap (λ k. id ++ ending k) (sym h.1)) h.0)

-- a path of a file
pub file_path_found : (path rest : List ℕ) → path ≡ files ++ rest → ((id : List ℕ) → rest ≢ id ++ codes "/contents") → IsIdIn path rest false
file_path_found path rest is none =
    λ name c. (file_only path rest name c is none, λ h. is_path path rest rest name c is (sym (append-nil rest) ∙ ap (λ k. rest ++ ending k) (sym h.1)) h.0)

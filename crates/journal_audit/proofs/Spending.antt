-- What the table of spent ids says, as contracts see it, and once it was thinned.
use Rattle.std.proofs.Common.{◌≡◌, ℕ, ◌≤◌, Bool, true, false, cond, ◌&&◌, List, [], ◌∷◌, Option, None, Some, map, filter, refl, ap, sym, ◌∙◌, subst, arith, true≢false}
use Rattle.std.specs.Prelude.{nat_eq, nat_lt, bytes_eq}
use Rattle.std.specs.List.{AllByRecursion, IsDistinct}
use Rattle.std.specs.Map.{keys_of, lookup}
use Rattle.std.specs.HashMap.{HashMap}
use Rattle.std.proofs.lemmas.Bool.Decides.{nat_tests}
use Rattle.std.proofs.lemmas.Bool.{eq-eqb}
use Rattle.std.proofs.lemmas.Slice.Eq.{bytes_eq-Decides}
use Rattle.journal_audit.specs.declared.spent.SpentOn.{SpentOn}
use Rattle.journal_audit.specs.Spent.{end_of, ends_after, is_same, pairs_of, refused_in, refuses, same_parts}

abbrev pair_of : SpentOn × ℕ → (ℕ × List ℕ) × ℕ
pair_of one = ((one.0.file, one.0.id), one.1)

end_is : (entries : List (SpentOn × ℕ)) (file : ℕ) (id : List ℕ) → end_of (map pair_of entries) file id ≡ lookup (is_same (record { file = file; id = id })) entries
end_is [] file id = refl
end_is (one ∷ entries) file id = ap (λ (rest : Option ℕ). cond (nat_eq file one.0.file && bytes_eq id one.0.id) (Some one.1) rest) (end_is entries file id)

pub refuses_is : {S : Type 0} (ids : HashMap SpentOn ℕ S) (file : ℕ) (id : List ℕ) (now : ℕ) → refuses (pairs_of ids) file id now ≡ refused_in ids file id now
refuses_is ids file id now = ap (ends_after now) (end_is ids.entries file id)

-- ---- thinned

-- two keys that are equal to a third are equal
both_same : (key one other : SpentOn) → is_same key one ≡ true → is_same key other ≡ true → is_same one other ≡ true
both_same key one other e f =
    let (a, b) = same_parts key one e in
    let (c, d) = same_parts key other f in
    let files : nat_eq one.file other.file ≡ true = eq-eqb one.file other.file (sym a ∙ c) in
    let ids : bytes_eq one.id other.id ≡ true = (bytes_eq-Decides one.id other.id).1 (sym b ∙ d) in
    ap (λ (x : Bool). x && bytes_eq one.id other.id) files ∙ ids

none_same : (key one : SpentOn) (entries : List (SpentOn × ℕ)) → is_same key one ≡ true → AllByRecursion (λ other. is_same one other ≡ false) (keys_of entries) → lookup (is_same key) entries ≡ None
none_same key one [] e apart = refl
none_same key one (entry ∷ entries) e apart = by_test (is_same key entry.0) refl (none_same key one entries e apart.1)
  where
    by_test : (test : Bool) → is_same key entry.0 ≡ test → lookup (is_same key) entries ≡ None → cond test (Some entry.1) (lookup (is_same key) entries) ≡ None
    by_test true same rest = absurd (true≢false (sym (both_same key one entry.0 e same) ∙ apart.0))
    by_test false other rest = rest

filter_none : (key : SpentOn) (keep : SpentOn × ℕ → Bool) (entries : List (SpentOn × ℕ)) → lookup (is_same key) entries ≡ None → lookup (is_same key) (filter keep entries) ≡ None
filter_none key keep [] e = refl
filter_none key keep (entry ∷ entries) e = by_test (is_same key entry.0) refl (λ none. filter_none key keep entries none) e
  where
    by_keep : (kept : Bool) → is_same key entry.0 ≡ false → lookup (is_same key) (filter keep entries) ≡ None → lookup (is_same key) (cond kept (entry ∷ filter keep entries) (filter keep entries)) ≡ None
    by_keep true other rest = ap (λ (b : Bool). cond b (Some entry.1) (lookup (is_same key) (filter keep entries))) other ∙ rest
    by_keep false other rest = rest

    by_test : (test : Bool) → is_same key entry.0 ≡ test → (lookup (is_same key) entries ≡ None → lookup (is_same key) (filter keep entries) ≡ None) → cond test (Some entry.1) (lookup (is_same key) entries) ≡ None →
        lookup (is_same key) (cond (keep entry) (entry ∷ filter keep entries) (filter keep entries)) ≡ None
    by_test true same rest none = absurd (cc none)
    by_test false other rest none = by_keep (keep entry) other (rest none)

-- of each key the end stays, or it was over
pub record IsThinned (now : ℕ) (old new : Option ℕ) : Type 0 where
  pub later : (at : ℕ) → now ≤ at → ends_after at new ≡ ends_after at old
  pub none : (at : ℕ) → ends_after at old ≡ false → ends_after at new ≡ false

same_end : (now : ℕ) (old : Option ℕ) → IsThinned now old old
same_end now old = record { later = λ at late. refl; none = λ at e. e }

over_end : (now until : ℕ) → nat_lt now until ≡ false → IsThinned now (Some until) None
over_end now until e = record { later = λ at late. grind (arith, nat_tests); none = λ at e. refl }

pub thinned : (key : SpentOn) (now : ℕ) (entries : List (SpentOn × ℕ)) → IsDistinct is_same (keys_of entries) →
    IsThinned now (lookup (is_same key) entries) (lookup (is_same key) (filter (λ one. nat_lt now one.1) entries))
unfolding IsDistinct
thinned key now [] distinct = same_end now None
thinned key now (entry ∷ entries) distinct = by_both (is_same key entry.0) refl (nat_lt now entry.1) refl (thinned key now entries distinct.1)
  where
    by_both : (test : Bool) → is_same key entry.0 ≡ test → (kept : Bool) → nat_lt now entry.1 ≡ kept →
        IsThinned now (lookup (is_same key) entries) (lookup (is_same key) (filter (λ one. nat_lt now one.1) entries)) →
        IsThinned now (cond test (Some entry.1) (lookup (is_same key) entries)) (lookup (is_same key) (cond kept (entry ∷ filter (λ one. nat_lt now one.1) entries) (filter (λ one. nat_lt now one.1) entries)))
    by_both true same true stays rest =
        subst (λ (b : Bool). IsThinned now (Some entry.1) (cond b (Some entry.1) (lookup (is_same key) (filter (λ one. nat_lt now one.1) entries)))) (sym same) (same_end now (Some entry.1))
    by_both true same false over rest =
        let gone = filter_none key (λ one. nat_lt now one.1) entries (none_same key entry.0 entries same distinct.0) in
        subst (λ (o : Option ℕ). IsThinned now (Some entry.1) o) (sym gone) (over_end now entry.1 over)
    by_both false other true stays rest =
        subst (λ (b : Bool). IsThinned now (lookup (is_same key) entries) (cond b (Some entry.1) (lookup (is_same key) (filter (λ one. nat_lt now one.1) entries)))) (sym other) rest
    by_both false other false over rest = rest

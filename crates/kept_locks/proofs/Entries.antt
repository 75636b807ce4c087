-- Which entries the index has, as ids come and go.
use Rattle.std.proofs.Common.{◌≡◌, ◌≢◌, ◌⊎◌, inl, inr, ◌+◌, ◌<◌, ◌≤◌, ℕ, zero, suc, Bool, true, false, ◌&&◌, cond, List, [], ◌∷◌, Option, None, Some, refl, sym, ap, subst, ◌∙◌, arith}
use Rattle.std.specs.Prelude.{nat_lt, bytes_eq}
use Rattle.std.specs.HashMap.{HashMap, IsUnchanged, get, spare}
use Rattle.std.specs.List.{IsAmong}
use Rattle.std.specs.Map.{lookup}
use Rattle.std.specs.Cmp.Lexicographic.{bytes_decides}
use Rattle.std.proofs.lemmas.Bool.{cases_eq, eq-eqb, le-ltb, lt-ltb, ltb-true, ltb-false, ne_eqb}
use Rattle.wopi_model.specs.declared.locks.Spent.{Spent}
use Rattle.kept_locks.specs.declared.index.SpentOn.{SpentOn}
use Rattle.kept_locks.specs.declared.trail.Trail.{Trail}
use Rattle.kept_locks.specs.Keys.{is_same, same_parts}
use Rattle.kept_locks.specs.Refusals.{Forgets, HasEnd, HasOnly, Notes, OthersStay, Reindexes, Sheds, ends_after, later_of, onto, refused_by, unless_over}

-- one of a list with one more at its front
pub among_front : {A : Type 0} (one first : A) (rest : List A) → one ≡ first → IsAmong (first ∷ rest) one
among_front one first rest is = (0, (omega arith, is))

pub among_behind : {A : Type 0} (one first : A) (rest : List A) → IsAmong rest one → IsAmong (first ∷ rest) one
among_behind one first rest (i, (within, is)) = (suc i, (omega (arith, within), is))

pub among_either : {A : Type 0} (one first : A) (rest : List A) → IsAmong (first ∷ rest) one → (one ≡ first) ⊎ IsAmong rest one
among_either one first rest (zero, (within, is)) = inl is
among_either one first rest (suc i, (within, is)) = inr (i, (omega (arith, within), is))

among_none : {A : Type 0} (one : A) → IsAmong [] one → ⊥
among_none one (i, (within, is)) = omega (arith, within)

-- one of two lists is one of those that are turned over onto the others
pub among_onto : (one : Spent) (ids kept : List Spent) → IsAmong ids one ⊎ IsAmong kept one → IsAmong (onto ids kept) one
among_onto one [] kept (inl here) = absurd (among_none one here)
among_onto one [] kept (inr there) = there
among_onto one (first ∷ ids) kept (inl here) = elim (among_either one first ids here) [
  | inl is ↦ among_onto one ids (first ∷ kept) (inr (among_front one first kept is))
  | inr behind ↦ among_onto one ids (first ∷ kept) (inl behind)
]
among_onto one (first ∷ ids) kept (inr there) = among_onto one ids (first ∷ kept) (inr (among_behind one first kept there))

pub some_none : (until : ℕ) → None ≢ Some until
some_none until e = absurd (cc (e))

abbrev pub key_of : ℕ → List ℕ → SpentOn
key_of file id = record { file = file; id = id }

same_key : (file : ℕ) (id : List ℕ) → is_same (key_of file id) (key_of file id) ≡ true
same_key file id = ap (λ b. b && bytes_eq id id) (eq-eqb file file refl) ∙ (bytes_decides id id).1 refl

abbrev pub one_of : List ℕ → ℕ → Spent
one_of id until = record { id = id; until = until }

other_key : (file other : ℕ) (id asked : List ℕ) → other ≢ file → is_same (key_of file id) (key_of other asked) ≡ false
other_key file other id asked differs = ap (λ b. b && bytes_eq id asked) (ne_eqb file other (λ e. differs (sym e)))

-- each entry of the file has the id and the end of one of these, or of those
abbrev pub IsOfBoth : {S : Type 0} → HashMap SpentOn ℕ S → ℕ → List Spent → List Spent → Type 0
IsOfBoth index file ids others = (id : List ℕ) (until : ℕ) → HasEnd index file id until → IsAmong ids (record { id = id; until = until }) ⊎ IsAmong others (record { id = id; until = until })

module _ {S : Type 0} where
  pub others_refused : (old new : HashMap SpentOn ℕ S) (file : ℕ) → OthersStay old new file → (other : ℕ) (id : List ℕ) (now : ℕ) → other ≢ file → refused_by new other id now ≡ refused_by old other id now
  others_refused old new file others other id now differs = ap (ends_after now) (others other id differs)

  -- nothing is refused of a file of which the index has no ids
  pub none_refused : (index : HashMap SpentOn ℕ S) (file : ℕ) (id : List ℕ) (now : ℕ) → HasOnly index file [] → refused_by index file id now ≡ false
  none_refused index file id now none = by_end (get is_same index (key_of file id)) refl
    where
      by_end : (end : Option ℕ) → get is_same index (key_of file id) ≡ end → refused_by index file id now ≡ false
      by_end None is = ap (ends_after now) is
      by_end (Some until) is = absurd (among_none (one_of id until) (none id until is))

  unchanged_get : (old new : HashMap SpentOn ℕ S) → IsUnchanged old new → (one : SpentOn) → get is_same new one ≡ get is_same old one
  unchanged_get old new same one = ap (λ (l : List (SpentOn × ℕ)). lookup (is_same one) l) same

  -- an id that the index has at a moment after the ends that went
  pub sheds_refused : (old new : HashMap SpentOn ℕ S) (file moment : ℕ) → Sheds old new file moment → (id : List ℕ) (now : ℕ) → moment ≤ now → refused_by new file id now ≡ refused_by old file id now
  sheds_refused old new file moment sheds id now le = by_ends (get is_same new (key_of file id)) refl (get is_same old (key_of file id)) refl
    where
      gone : (until : ℕ) → HasEnd old file id until → (get is_same new (key_of file id) ≡ None) → nat_lt now until ≡ false
      gone until had none = by_test (nat_lt moment until) refl
        where
          by_test : (b : Bool) → nat_lt moment until ≡ b → nat_lt now until ≡ false
          by_test true is = absurd (some_none until (sym none ∙ sheds.keeps id until had (ltb-true moment until is)))
          by_test false is = let over = ltb-false moment until is in le-ltb now until (omega (arith, over, le))

      by_ends : (after : Option ℕ) → get is_same new (key_of file id) ≡ after → (before : Option ℕ) → get is_same old (key_of file id) ≡ before → refused_by new file id now ≡ refused_by old file id now
      by_ends None none None had = ap (ends_after now) (none ∙ sym had)
      by_ends None none (Some until) had = ap (ends_after now) none ∙ sym (gone until had none) ∙ sym (ap (ends_after now) had)
      by_ends (Some until) has before had = ap (ends_after now) (has ∙ sym (sheds.less id until has))

  pub sheds_none : (index : HashMap SpentOn ℕ S) (file now : ℕ) → Sheds index index file now
  sheds_none index file now = record { others = λ other id differs. refl; less = λ id until has. has; keeps = λ id until has late. has; spare = omega arith }

  -- what one entry's going leaves
  pub left_of : (old new : HashMap SpentOn ℕ S) (file : ℕ) (id : List ℕ) (now : ℕ) → Forgets old new (key_of file id) now → (asked : List ℕ) (until : ℕ) → HasEnd new file asked until
      → HasEnd old file asked until × (asked ≡ id → now < until)
  left_of old new file id now forgets asked until has = by_test (is_same (key_of file id) (key_of file asked)) refl
    where
      said : Bool → Option ℕ
      said same = cond same (unless_over now (get is_same old (key_of file id))) (get is_same old (key_of file asked))

      by_end : (end : Option ℕ) → cond (ends_after now end) end None ≡ Some until → (end ≡ Some until) × (now < until)
      by_end None e = absurd (some_none until e)
      by_end (Some known) e = by_late (nat_lt now known) refl e
        where
          by_late : (b : Bool) → nat_lt now known ≡ b → cond b (Some known) None ≡ Some until → (Some known ≡ Some until) × (now < until)
          by_late true is e = let same : known ≡ until = cc in let lt = ltb-true now known is in (e, omega (arith, lt, same))
          by_late false is e = absurd (some_none until e)

      by_test : (b : Bool) → is_same (key_of file id) (key_of file asked) ≡ b → HasEnd old file asked until × (asked ≡ id → now < until)
      by_test true is =
          let same = (same_parts (key_of file id) (key_of file asked) is).1 in
          let (had, late) = by_end (get is_same old (key_of file id)) (sym (ap said is) ∙ sym (forgets (key_of file asked)) ∙ has) in
          (ap (λ (l : List ℕ). get is_same old (key_of file l)) (sym same) ∙ had, λ e. late)
      by_test false is =
          (sym (ap said is) ∙ sym (forgets (key_of file asked)) ∙ has, λ e. absurd (differs (sym is ∙ ap (λ (l : List ℕ). is_same (key_of file id) (key_of file l)) e ∙ itself)))
        where
          differs : false ≢ true
          differs e = absurd (cc (e))

          itself : is_same (key_of file id) (key_of file id) ≡ true
          itself = same_key file id

  -- one entry more that went
  pub sheds_one : (first old new : HashMap SpentOn ℕ S) (file : ℕ) (id : List ℕ) (now : ℕ) → Sheds first old file now → Forgets old new (key_of file id) now → spare old ≤ spare new → Sheds first new file now
  sheds_one first old new file id now sheds forgets room = record {
    others = λ other asked differs. forgets (key_of other asked) ∙ ap (λ b. cond b (unless_over now (get is_same old (key_of file id))) (get is_same old (key_of other asked))) (other_key file other id asked differs)
        ∙ sheds.others other asked differs;
    less = λ asked until has. sheds.less asked until (left_of old new file id now forgets asked until has).0;
    keeps = λ asked until had late. stays asked until (sheds.keeps asked until had late) late;
    spare = let before = sheds.spare in omega (arith, before, room);
  }
    where
      stays : (asked : List ℕ) (until : ℕ) → HasEnd old file asked until → now < until → HasEnd new file asked until
      stays asked until had late = by_test (is_same (key_of file id) (key_of file asked)) refl
        where
          said : Bool → Option ℕ
          said same = cond same (unless_over now (get is_same old (key_of file id))) (get is_same old (key_of file asked))

          by_test : (b : Bool) → is_same (key_of file id) (key_of file asked) ≡ b → HasEnd new file asked until
          by_test true is =
              let same = (same_parts (key_of file id) (key_of file asked) is).1 in
              forgets (key_of file asked) ∙ ap said is ∙ ap (unless_over now) (ap (λ (l : List ℕ). get is_same old (key_of file l)) same ∙ had) ∙ ap (λ b. cond b (Some until) None) (lt-ltb now until late)
          by_test false is = forgets (key_of file asked) ∙ ap said is ∙ had

  -- the entries are of the ids of either list, also once the first of the one list goes to the other
  pub only_moved : (index : HashMap SpentOn ℕ S) (file : ℕ) (one : Spent) (rest kept after all : List Spent) → rest ≡ one ∷ after → all ≡ one ∷ kept → IsOfBoth index file rest kept → IsOfBoth index file after all
  only_moved index file one rest kept after all is more both = λ id until has. elim (both id until has) [
    | inl here ↦ elim (among_either (one_of id until) one after (subst (λ (l : List Spent). IsAmong l (one_of id until)) is here)) [
      | inl first ↦ inr (subst (λ (l : List Spent). IsAmong l (one_of id until)) (sym more) (among_front (one_of id until) one kept first))
      | inr behind ↦ inl behind
    ]
    | inr there ↦ inr (subst (λ (l : List Spent). IsAmong l (one_of id until)) (sym more) (among_behind (one_of id until) one kept there))
  ]

  -- and once the first of them has gone, where it is over
  pub only_dropped : (old new : HashMap SpentOn ℕ S) (file : ℕ) (one : Spent) (rest kept after all : List Spent) (now : ℕ) → Forgets old new (key_of file one.id) now → one.until ≤ now → rest ≡ one ∷ after → all ≡ kept
      → IsOfBoth old file rest kept → IsOfBoth new file after all
  only_dropped old new file one rest kept after all now forgets over is same both = λ id until has.
      let (had, late) = left_of old new file one.id now forgets id until has in
      elim (both id until had) [
        | inl here ↦ elim (among_either (one_of id until) one after (subst (λ (l : List Spent). IsAmong l (one_of id until)) is here)) [
          | inl first ↦
              let after_now = late (ap (λ (s : Spent). s.id) first) in
              let end : until ≡ one.until = ap (λ (s : Spent). s.until) first in
              absurd (omega (arith, after_now, end, over))
          | inr behind ↦ inl behind
        ]
        | inr there ↦ inr (subst (λ (l : List Spent). IsAmong l (one_of id until)) (sym same) there)
      ]

  pub reindexes_shed : (old new : HashMap SpentOn ℕ S) (file now : ℕ) (trail result : Trail) → Sheds old new file now → (trail.told ≡ true → result.told ≡ true) → Reindexes old new file trail result 0
  reindexes_shed old new file now trail result sheds kept = record {
    others = sheds.others;
    told = λ told room. kept told;
    spare = let room = sheds.spare in omega (arith, room);
  }

  pub reindexes_same : (index : HashMap SpentOn ℕ S) (file : ℕ) (trail result : Trail) → result.told ≡ trail.told → Reindexes index index file trail result 0
  reindexes_same index file trail result same = reindexes_shed index index file 0 trail result (sheds_none index file 0) (λ told. same ∙ told)

  pub reindexes_both : (first second third : HashMap SpentOn ℕ S) (file : ℕ) (trail mid result : Trail) (one two most : ℕ) → Reindexes first second file trail mid one → Reindexes second third file mid result two → one + two ≤ most
      → Reindexes first third file trail result most
  reindexes_both first second third file trail mid result one two most a b le =
      let here = a.spare in
      let there = b.spare in
      record {
        others = λ other id differs. b.others other id differs ∙ a.others other id differs;
        told = λ told room. b.told (a.told told (omega (arith, room, le))) (omega (arith, room, here, le));
        spare = omega (arith, here, there, le);
      }

  -- one entry more, where there was room for it
  pub reindexes_noted : (old new : HashMap SpentOn ℕ S) (file : ℕ) (id : List ℕ) (until : ℕ) (trail result : Trail) (noted : Bool) → (noted ≡ true → Notes old new (key_of file id) until)
      → (noted ≡ false → IsUnchanged old new) → (0 < spare old → noted ≡ true) → spare old ≤ spare new + 1 → result.told ≡ (trail.told && noted) → Reindexes old new file trail result 1
  reindexes_noted old new file id until trail result noted notes full room spared is = record {
    others = λ other asked differs. by_test noted refl other asked differs;
    told = λ told more. is ∙ ap (λ b. b && noted) told ∙ room (omega (arith, more));
    spare = omega (arith, spared);
  }
    where
      by_test : (b : Bool) → noted ≡ b → (other : ℕ) (asked : List ℕ) → other ≢ file → get is_same new (key_of other asked) ≡ get is_same old (key_of other asked)
      by_test true e other asked differs =
          notes e (key_of other asked) ∙ ap (λ b. cond b (Some (later_of until (get is_same old (key_of file id)))) (get is_same old (key_of other asked))) (other_key file other id asked differs)
      by_test false e other asked differs = unchanged_get old new (full e) (key_of other asked)

  -- the entries, once the index and the ids may have one more
  pub only_front : (old new : HashMap SpentOn ℕ S) (file : ℕ) (one : Spent) (ids all : List Spent) (noted : Bool) → (noted ≡ true → Notes old new (key_of file one.id) one.until) → (noted ≡ false → IsUnchanged old new)
      → all ≡ one ∷ ids → HasOnly old file ids → HasOnly new file all
  only_front old new file one ids all noted notes full is only = subst (HasOnly new file) (sym is) (by_noted noted refl)
    where
      by_noted : (b : Bool) → noted ≡ b → HasOnly new file (one ∷ ids)
      by_noted false e = λ id until has. among_behind (one_of id until) one ids (only id until (sym (unchanged_get old new (full e) (key_of file id)) ∙ has))
      by_noted true e = λ id until has. by_test id until has (is_same (key_of file one.id) (key_of file id)) refl
        where
          said : List ℕ → Bool → Option ℕ
          said id same = cond same (Some (later_of one.until (get is_same old (key_of file one.id)))) (get is_same old (key_of file id))

          by_later : (until : ℕ) (known : Option ℕ) → later_of one.until known ≡ until → (until ≡ one.until) ⊎ (known ≡ Some until)
          by_later until None e = inl (sym e)
          by_later until (Some known) e = elim (cases_eq until one.until) [
            | inl same ↦ inl same
            | inr differs ↦ let end : known ≡ until = omega (arith, e, differs) in inr (ap Some end)
          ]

          by_test : (id : List ℕ) (until : ℕ) → HasEnd new file id until → (b : Bool) → is_same (key_of file one.id) (key_of file id) ≡ b → IsAmong (one ∷ ids) (one_of id until)
          by_test id until has false differs = among_behind (one_of id until) one ids (only id until (sym (ap (said id) differs) ∙ sym (notes e (key_of file id)) ∙ has))
          by_test id until has true same =
              let ids_same = (same_parts (key_of file one.id) (key_of file id) same).1 in
              let latest : Some (later_of one.until (get is_same old (key_of file one.id))) ≡ Some until = sym (ap (said id) same) ∙ sym (notes e (key_of file id)) ∙ has in
              let end : later_of one.until (get is_same old (key_of file one.id)) ≡ until = cc in
              elim (by_later until (get is_same old (key_of file one.id)) end) [
                | inl is ↦ among_front (one_of id until) one ids (λ i. record { id = sym ids_same i; until = is i })
                | inr known ↦ among_behind (one_of id until) one ids (only id until (ap (λ (l : List ℕ). get is_same old (key_of file l)) (sym ids_same) ∙ known))
              ]

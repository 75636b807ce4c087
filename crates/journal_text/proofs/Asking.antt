-- The words of acts.
use Rattle.std.proofs.Common.{◌≡◌, ◌==◌, true, false, ℕ, List, [], ◌∷◌, ◌++◌, length, get_or, take, drop, Option, None, Some, if◌then◌else◌, refl, sym, ap, ◌∙◌, arith}
use Rattle.std.specs.Prelude.{codes, decimal}
use Rattle.std.specs.Str.{bytes_eq}
use Rattle.std.proofs.lemmas.Fmt.{decimal_injective}
use Rattle.std.proofs.Math.Seq.{drop-append_seam, take-append_seam}
use Rattle.host_core.specs.declared.entry.EntryAct.{EntryAct}
use Rattle.host_core.specs.declared.entry.EntryAct.TheVariants as act
use Rattle.host_table.specs.Text.{optional_number, optional_hex, hex_text, overwrite_text}
use Rattle.journal_text.specs.Acts.{IsNamed}
use Rattle.journal_text.specs.Lines.{IsAct, Fits, MayFit, size_of, told_size}
use Rattle.journal_text.specs.Words.{act_words}

-- no act of two words has such a first word
pub not_single : (word of : List ℕ) (asked : EntryAct) → (word ≡ codes "get" → ⊥) → (IsNamed word asked → ⊥) → act_words asked ≡ word ∷ of ∷ [] → ⊥
not_single word of act.Info get named e = omega (arith, ap length e)
not_single word of (act.Get most) get named e = get (sym (ap (λ words. get_or words 0 []) e))
not_single word of (act.Put lock size) get named e = omega (arith, ap length e)
not_single word of (act.Lock id) get named e = named (sym (ap (λ words. get_or words 0 []) e))
not_single word of act.GetLock get named e = omega (arith, ap length e)
not_single word of (act.Refresh id) get named e = named (sym (ap (λ words. get_or words 0 []) e))
not_single word of (act.Unlock id) get named e = named (sym (ap (λ words. get_or words 0 []) e))
not_single word of (act.Relock old id) get named e = omega (arith, ap length e)
not_single word of act.Look get named e = omega (arith, ap length e)
not_single word of (act.Create overwrite size) get named e = omega (arith, ap length e)
not_single word of act.Delete get named e = omega (arith, ap length e)

-- how many words an act has that begins with this one
abbrev word_count : List ℕ → ℕ
word_count word =
    if bytes_eq word (codes "info") then 1 else if bytes_eq word (codes "getlock") then 1 else if bytes_eq word (codes "look") then 1
    else if bytes_eq word (codes "delete") then 1 else if bytes_eq word (codes "put") then 3 else if bytes_eq word (codes "relock") then 3
    else if bytes_eq word (codes "create") then 3 else 2

-- an act's words begin with one that tells how many they are
pub record Front (asked : EntryAct) (more : List (List ℕ)) : Type 0 where
  pub word : List ℕ
  pub words : List (List ℕ)
  pub whole : act_words asked ++ more ≡ word ∷ words
  pub count : length (act_words asked) ≡ word_count word

pub front : (asked : EntryAct) (more : List (List ℕ)) → Front asked more
front act.Info more = record { word = codes "info"; words = more; whole = refl; count = refl }
front (act.Get most) more = record { word = codes "get"; words = optional_number most ∷ more; whole = refl; count = refl }
front (act.Put lock size) more = record { word = codes "put"; words = optional_hex lock ∷ decimal size ∷ more; whole = refl; count = refl }
front (act.Lock id) more = record { word = codes "lock"; words = hex_text id ∷ more; whole = refl; count = refl }
front act.GetLock more = record { word = codes "getlock"; words = more; whole = refl; count = refl }
front (act.Refresh id) more = record { word = codes "refresh"; words = hex_text id ∷ more; whole = refl; count = refl }
front (act.Unlock id) more = record { word = codes "unlock"; words = hex_text id ∷ more; whole = refl; count = refl }
front (act.Relock old id) more = record { word = codes "relock"; words = hex_text old ∷ hex_text id ∷ more; whole = refl; count = refl }
front act.Look more = record { word = codes "look"; words = more; whole = refl; count = refl }
front (act.Create overwrite size) more = record { word = codes "create"; words = overwrite_text overwrite ∷ decimal size ∷ more; whole = refl; count = refl }
front act.Delete more = record { word = codes "delete"; words = more; whole = refl; count = refl }

same_front : (words a b more rest : List (List ℕ)) → length a ≡ length b → words ≡ a ++ more → words ≡ b ++ rest → (a ≡ b) × (more ≡ rest)
same_front words a b more rest same h k =
    let whole : a ++ more ≡ b ++ rest = sym h ∙ k in (
      sym (take-append_seam a more) ∙ ap (take (length a)) whole ∙ ap (λ (n : ℕ). take n (b ++ rest)) same ∙ take-append_seam b rest,
      sym (drop-append_seam a more) ∙ ap (drop (length a)) whole ∙ ap (λ (n : ℕ). drop n (b ++ rest)) same ∙ drop-append_seam b rest,
    )

-- words that begin with two acts begin with one, and go on in one way
pub one_act : (words more rest : List (List ℕ)) (asked other : EntryAct) → words ≡ act_words asked ++ more → words ≡ act_words other ++ rest
    → (act_words asked ≡ act_words other) × (more ≡ rest)
one_act words more rest asked other h k =
    let f = front asked more in
    let g = front other rest in
    let both : f.word ∷ f.words ≡ g.word ∷ g.words = sym f.whole ∙ sym h ∙ k ∙ g.whole in
    let first : f.word ≡ g.word = ap (λ l. get_or l 0 []) both in
    same_front words (act_words asked) (act_words other) more rest (f.count ∙ ap word_count first ∙ sym g.count) h k

-- the size of an act's contents, as its words tell it
abbrev size_word : List (List ℕ) → Option (List ℕ)
size_word words =
    if bytes_eq (get_or words 0 []) (codes "put") then Some (get_or words 2 [])
    else if bytes_eq (get_or words 0 []) (codes "create") then Some (get_or words 2 []) else None

abbrev size_text : Option ℕ → Option (List ℕ)
size_text None = None
size_text (Some size) = Some (decimal size)

told : (asked : EntryAct) → size_text (size_of asked) ≡ size_word (act_words asked)
told act.Info = refl
told (act.Get most) = refl
told (act.Put lock size) = refl
told (act.Lock id) = refl
told act.GetLock = refl
told (act.Refresh id) = refl
told (act.Unlock id) = refl
told (act.Relock old id) = refl
told act.Look = refl
told (act.Create overwrite size) = refl
told act.Delete = refl

abbrev SizeFits : Option ℕ → Type 0
SizeFits None = Unit {0}
SizeFits (Some size) = Fits size

size_fits : (asked : EntryAct) → IsAct asked → SizeFits (size_of asked)
size_fits act.Info h = tt
size_fits (act.Get most) h = tt
size_fits (act.Put lock size) h = h.1
size_fits (act.Lock id) h = tt
size_fits act.GetLock h = tt
size_fits (act.Refresh id) h = tt
size_fits (act.Unlock id) h = tt
size_fits (act.Relock old id) h = tt
size_fits act.Look h = tt
size_fits (act.Create overwrite size) h = h
size_fits act.Delete h = tt

same_text : (a b : Option ℕ) → SizeFits a → SizeFits b → size_text a ≡ size_text b → a ≡ b
same_text None None h k e = refl
same_text None (Some n) h k e = cc e
same_text (Some n) None h k e = cc e
same_text (Some n) (Some m) h k e = ap Some (decimal_injective n m h k (cc e))

-- acts with the same words bring contents of the same size
pub same_size : (asked other : EntryAct) → IsAct asked → IsAct other → act_words asked ≡ act_words other → size_of asked ≡ size_of other
same_size asked other h k e = same_text _ _ (size_fits asked h) (size_fits other k) (told asked ∙ ap size_word e ∙ sym (told other))

may_fit : (size : Option ℕ) → SizeFits size → MayFit size
may_fit None h = tt
may_fit (Some n) h = h

-- the size of what is accepted fits, where that of what is asked does
pub told_fits : (asked : EntryAct) (status : ℕ) → IsAct asked → MayFit (told_size asked status)
told_fits asked status h =
    elim (status == 200) as (λ b. MayFit (if b then size_of asked else None)) [ true ↦ may_fit (size_of asked) (size_fits asked h) | false ↦ tt ]

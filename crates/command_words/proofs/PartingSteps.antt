-- One word of those that are parted.
use Rattle.std.proofs.Common.{◌≡◌, ◌<◌, ◌+◌, ℕ, true, false, if◌then◌else◌, List, [], ◌∷◌, ◌++◌, map, drop, length, sym, ap, ◌∙◌}
use Rattle.std.proofs.Math.ListN.{get_or}
use Rattle.std.proofs.lemmas.List.{append_assoc, drop_more}
use Rattle.command_words.specs.declared.options.Kind.{Kind}
use Rattle.command_words.specs.Options.{is_flag, takes}
use Rattle.command_words.specs.Parts.{Parts, lacks_value, parted_of, with_flag, with_place}
use Rattle.command_words.proofs.PartLemmas.{first, parted_flag, parted_place, third}

-- what is parted so far, and what is left
pub record AreLeft (k : Kind) (places options flags rest whole : List (List ℕ)) : Type 0 where
  pub places_are : places ++ (parted_of k rest).places ≡ (parted_of k whole).places
  pub options_are : options ++ (parted_of k rest).options ≡ (parted_of k whole).options
  pub flags_are : flags ++ (parted_of k rest).flags ≡ (parted_of k whole).flags
  pub lacks_is : lacks_value k rest ≡ lacks_value k whole

pub one_left : {X : Type 0} (bytes : X → List ℕ) (words : List X) (at : ℕ) (one : X) (word : List ℕ) → at < length words → one ≡ get_or words at one → word ≡ bytes one
    → map bytes (drop at words) ≡ word ∷ map bytes (drop (at + 1) words)
one_left {X} bytes words at one word below is same =
    ap (map bytes) (drop_more words at one below ∙ ap (λ (x : X). x ∷ drop (at + 1) words) (sym is))
    ∙ ap (λ (w : List ℕ). w ∷ map bytes (drop (at + 1) words)) (sym same)

grown : (word : List ℕ) (new old rest whole : List (List ℕ)) → new ≡ old ++ word ∷ [] → old ++ (word ∷ rest) ≡ whole → new ++ rest ≡ whole
grown word new old rest whole is kept = ap (λ (l : List (List ℕ)). l ++ rest) is ∙ append_assoc old (word ∷ []) rest ∙ kept

lacks_flag : (k : Kind) (word : List ℕ) (words : List (List ℕ)) → is_flag k word ≡ true → lacks_value k (word ∷ words) ≡ lacks_value k words
lacks_flag k word [] holds = ap (λ c. if c then false else takes k word) holds
lacks_flag k word (value ∷ words) holds = first (is_flag k word) (takes k word) _ _ _ holds

pub lacks_place : (k : Kind) (word : List ℕ) (words : List (List ℕ)) → is_flag k word ≡ false → takes k word ≡ false → lacks_value k (word ∷ words) ≡ lacks_value k words
lacks_place k word [] untrue none = ap (λ c. if c then false else takes k word) untrue ∙ none
lacks_place k word (value ∷ words) untrue none = third (is_flag k word) (takes k word) _ _ _ untrue none

pub flag_left : (k : Kind) (word : List ℕ) (places options flags new left rest whole : List (List ℕ)) → is_flag k word ≡ true → left ≡ word ∷ rest → new ≡ flags ++ word ∷ []
    → AreLeft k places options flags left whole → AreLeft k places options new rest whole
flag_left k word places options flags new left rest whole holds is grows kept =
    let parts : parted_of k left ≡ with_flag word (parted_of k rest) = ap (λ (l : List (List ℕ)). parted_of k l) is ∙ parted_flag k word rest holds in
    record {
      places_are = sym (ap (λ (p : Parts). places ++ p.places) parts) ∙ kept.places_are;
      options_are = sym (ap (λ (p : Parts). options ++ p.options) parts) ∙ kept.options_are;
      flags_are = grown word new flags (parted_of k rest).flags (parted_of k whole).flags grows (sym (ap (λ (p : Parts). flags ++ p.flags) parts) ∙ kept.flags_are);
      lacks_is = sym (ap (λ (l : List (List ℕ)). lacks_value k l) is ∙ lacks_flag k word rest holds) ∙ kept.lacks_is;
    }

pub place_left : (k : Kind) (word : List ℕ) (places options flags new left rest whole : List (List ℕ)) → is_flag k word ≡ false → takes k word ≡ false → left ≡ word ∷ rest
    → new ≡ places ++ word ∷ [] → AreLeft k places options flags left whole → AreLeft k new options flags rest whole
place_left k word places options flags new left rest whole untrue none is grows kept =
    let parts : parted_of k left ≡ with_place word (parted_of k rest) = ap (λ (l : List (List ℕ)). parted_of k l) is ∙ parted_place k word rest untrue none in
    record {
      places_are = grown word new places (parted_of k rest).places (parted_of k whole).places grows (sym (ap (λ (p : Parts). places ++ p.places) parts) ∙ kept.places_are);
      options_are = sym (ap (λ (p : Parts). options ++ p.options) parts) ∙ kept.options_are;
      flags_are = sym (ap (λ (p : Parts). flags ++ p.flags) parts) ∙ kept.flags_are;
      lacks_is = sym (ap (λ (l : List (List ℕ)). lacks_value k l) is ∙ lacks_place k word rest untrue none) ∙ kept.lacks_is;
    }

-- The words that list files are those of the JSON.
use Rattle.std.proofs.Common.{◌≡◌, ℕ, List, [], ◌∷◌, ◌++◌, refl, sym, ap, ◌∙◌, append_assoc}
use Rattle.std.specs.Prelude.{flat_map}
use Rattle.std.proofs.lemmas.List.Concat.{flat_map-cons}
use Rattle.json.specs.Token.{Token, end_array, end_object}
use Rattle.json.specs.Print.{print}
use Rattle.json.specs.Tree.{json_tokens, items_tokens}
use Rattle.serde_json.specs.Written.{outline, items_outline}
use Rattle.serde_json.proofs.Texts.{print-outline}
use Rattle.access_tokens.specs.declared.keys.Keys.{Keys}
use Rattle.host_core.specs.declared.children.Child.{Child}
use Rattle.containers.specs.Listed.{child_json, children_json, listing_json, listing_text}
use Rattle.containers.specs.Written.{child_tokens, listing_front, listing_tokens}
use Rattle.containers.specs.declared.token.ContainerToken.{ContainerToken}

module _ (keys : Keys) (base : List ℕ) (token : ContainerToken) (moment : ℕ) where
  abbrev words : Child → List Token
  words child = child_tokens keys base token moment child

  child_words : (child : Child) → json_tokens (outline (child_json keys base token moment child)) ≡ words child
  child_words child = refl

  children_words : (children : List Child)
      → items_tokens (items_outline (children_json keys base token moment children)) ≡ flat_map words children ++ end_array ∷ []
  children_words [] = refl
  children_words (child ∷ children) =
      ap (λ l. words child ++ l) (children_words children) ∙ sym (append_assoc (words child) (flat_map words children) (end_array ∷ []))
      ∙ ap (λ l. l ++ end_array ∷ []) (sym (flat_map-cons words child children))

  listing_words : (children : List Child)
      → json_tokens (outline (listing_json keys base token moment children)) ≡ listing_tokens keys base token moment children
  listing_words children =
      let front : List Token → List Token = λ l. listing_front ++ l in
      ap front (ap (λ l. l ++ end_object ∷ []) (children_words children) ∙ append_assoc (flat_map words children) (end_array ∷ []) (end_object ∷ []))

  pub listing_printed : (children : List Child) → print (listing_tokens keys base token moment children) ≡ listing_text keys base token moment children
  unfolding listing_text
  listing_printed children = ap print (sym (listing_words children)) ∙ print-outline (listing_json keys base token moment children)

-- ---- words at the end of a list, one behind the other

-- a child's
pub seven_more : (o t1 t2 t3 t4 t5 t6 t7 : List Token) (a b c d : Token) (m n p : List Token) → t1 ≡ o ++ a ∷ [] → t2 ≡ t1 ++ m
    → t3 ≡ t2 ++ b ∷ [] → t4 ≡ t3 ++ c ∷ [] → t5 ≡ t4 ++ n → t6 ≡ t5 ++ p → t7 ≡ t6 ++ d ∷ []
    → t7 ≡ o ++ (a ∷ (m ++ b ∷ c ∷ (n ++ (p ++ d ∷ []))))
seven_more o t1 t2 t3 t4 t5 t6 t7 a b c d m n p h i j k l q r =
    r ∙ ap (λ x. x ++ d ∷ []) (q ∙ ap (λ x. x ++ p) (l ∙ ap (λ x. x ++ n) (k ∙ ap (λ x. x ++ c ∷ []) (j ∙ ap (λ x. x ++ b ∷ []) (i ∙ ap (λ x. x ++ m) h)))))
    ∙ simp append_assoc

-- a listing's
pub nine_more : (o t1 t2 t3 t4 t5 t6 t7 t8 t9 : List Token) (a b c d e f g h : Token) (m : List Token) → t1 ≡ o ++ a ∷ [] → t2 ≡ t1 ++ b ∷ []
    → t3 ≡ t2 ++ c ∷ [] → t4 ≡ t3 ++ d ∷ [] → t5 ≡ t4 ++ e ∷ [] → t6 ≡ t5 ++ f ∷ [] → t7 ≡ t6 ++ m → t8 ≡ t7 ++ g ∷ [] → t9 ≡ t8 ++ h ∷ []
    → t9 ≡ o ++ (a ∷ b ∷ c ∷ d ∷ e ∷ f ∷ (m ++ g ∷ h ∷ []))
nine_more o t1 t2 t3 t4 t5 t6 t7 t8 t9 a b c d e f g h m i j k l n p q r s =
    s ∙ ap (λ x. x ++ h ∷ []) (r ∙ ap (λ x. x ++ g ∷ []) (q ∙ ap (λ x. x ++ m) (p ∙ ap (λ x. x ++ f ∷ []) (n ∙ ap (λ x. x ++ e ∷ [])
    (l ∙ ap (λ x. x ++ d ∷ []) (k ∙ ap (λ x. x ++ c ∷ []) (j ∙ ap (λ x. x ++ b ∷ []) i)))))))
    ∙ simp append_assoc

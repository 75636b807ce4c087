use Rattle.std.proofs.Common.{◌≡◌, ◌++◌, ℕ, List, codes, ap, ◌∙◌, append_assoc}
use Rattle.access_tokens.specs.Addresses.{address_text}
use Rattle.access_tokens.proofs.address.push_address.Goals as goal

regrouped : (old base front id query token : List ℕ) → ((((old ++ base) ++ front) ++ id) ++ query) ++ token ≡ old ++ ((((base ++ front) ++ id) ++ query) ++ token)
regrouped old base front id query token = simp append_assoc

-- five pieces at the end of a text, one behind the other
pushed : (old base id token a b c d e : List ℕ) → a ≡ old ++ base → b ≡ a ++ codes "/wopi/files/" → c ≡ b ++ id → d ≡ c ++ codes "?access_token="
    → e ≡ d ++ token → e ≡ old ++ address_text base id token
unfolding address_text
pushed old base id token a b c d e h i j k l =
    l ∙ ap (λ t. t ++ token) (k ∙ ap (λ t. t ++ codes "?access_token=") (j ∙ ap (λ t. t ++ id) (i ∙ ap (λ t. t ++ codes "/wopi/files/") h)))
    ∙ regrouped old base (codes "/wopi/files/") id (codes "?access_token=") token

pub returns : goal.returns
returns c = pushed _ _ _ _ _ _ _ _ _ c.in_ok-extend_from_slice.ensures.items c.in_ok-extend_from_slice-2.ensures.items c.in_ok-push_id.ensures
    c.in_ok-extend_from_slice-3.ensures.items c.in_ok-mint_into.ensures

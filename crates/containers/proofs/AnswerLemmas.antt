-- What is answered at the container.
use Rattle.std.proofs.Common.{◌≡◌, ◌<◌, ℕ, List, [], length, Result, Ok, Err, refl, sym, ap, subst, ◌∙◌, arith}
use Rattle.std.specs.Prelude.{IfOk}
use Rattle.wopi_text.specs.declared.faults.Memory.{Memory}
use Rattle.wopi_headers.specs.declared.answer.Answer.{Answer}
use Rattle.wopi_headers.specs.declared.container.ContainerAsk.{ContainerAsk}
use Rattle.wopi_headers.specs.declared.container.ContainerOp.TheVariants.{Info, Children}
use Rattle.access_tokens.specs.declared.keys.Keys.{Keys}
use Rattle.host_core.specs.Caller.{Sight}
use Rattle.host_core.specs.Listing.{ListsAll, LooksOn}
use Rattle.host_core.specs.declared.children.Child.{Child}
use Rattle.host_core.specs.declared.listing.Listing.{Listing}
use Rattle.containers.specs.Answers.{AreShown, ContainerAnswered, Counts, json_told, unauthorized}
use Rattle.containers.specs.Answers.ContainerAnswered.{refused, told, listed}
use Rattle.containers.specs.Listed.{AreMerged, container_info, listing_text}
use Rattle.containers.specs.declared.token.ContainerToken.{ContainerToken}
use Rattle.containers.proofs.Looks.{LooksOn-same}

unlooked : (sight : Sight) → AreShown sight sight []
unlooked sight = record { each = tt; looks = LooksOn-same sight; still = λ _. refl }

module _ (shards : ℕ) (keys : Keys) (base : List ℕ) (opened : ℕ) (ask : ContainerAsk) (moment : ℕ) where
  -- an answer with the listings that it is made of, between these sights
  abbrev pub Answers : Sight → Sight → Answer → Type 0
  Answers old new a = (listings : List Listing) × ContainerAnswered shards keys base opened ask moment listings a × AreShown old new listings

  pub refused_at : (sight : Sight) (text : List ℕ) (a : Answer) → text ≡ ask.token
      → ((token : ContainerToken) → ¬ (Counts keys opened text moment token)) → a ≡ unauthorized → Answers sight sight a
  refused_at sight text a same none is =
      let No : List ℕ → Type 0 = λ t. (token : ContainerToken) → ¬ (Counts keys opened t moment token) in
      ([], refused (subst No same none) refl is, unlooked sight)

  pub told_at : (sight : Sight) (text : List ℕ) (token : ContainerToken) (a : Answer) → text ≡ ask.token → Counts keys opened text moment token
      → ask.op ≡ Info → a ≡ json_told container_info → Answers sight sight a
  told_at sight text token a same counts op is =
      ([], told token (subst (λ t. Counts keys opened t moment token) same counts) op refl is, unlooked sight)

  -- the files of all shards were listed
  abbrev pub Lists : Sight → List ℕ → ContainerToken → Answer → Type 0
  Lists new front token a = (listings : List Listing) × (children : List Child) × ListsAll shards new listings × AreMerged listings children
      × (a ≡ json_told (listing_text keys front token moment children))

  none_left : (listings : List Listing) → length listings ≡ shards → 0 < shards → listings ≡ [] → ⊥
  none_left listings all some none = let length_is = ap length none in omega (arith, all, some, length_is)

  pub listed_at : (old new : Sight) (text front : List ℕ) (token : ContainerToken) (r : Result Answer Memory) → text ≡ ask.token → front ≡ base
      → Counts keys opened text moment token → ask.op ≡ Children → 0 < shards → LooksOn old new → IfOk r (Lists new front token) → IfOk r (Answers old new)
  listed_at old new text front token (Err fault) same base_is counts op some looks h = tt
  listed_at old new text front token (Ok a) same base_is counts op some looks (listings, children, all, merged, is) = (
    listings,
    listed token children (subst (λ t. Counts keys opened t moment token) same counts) op all.all merged
        (is ∙ ap (λ b. json_told (listing_text keys b token moment children)) base_is),
    record { each = all.each; looks = looks; still = λ none. absurd (none_left listings all.all some none) },
  )

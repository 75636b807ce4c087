-- What a clause says of an answer that is known.
use Rattle.std.proofs.Common.{◌≡◌, Option, None, Some, IfSome, IfNone, subst}

pub of_some : {X : Type 0} (found : Option X) (P : X → Type 0) → IfSome found P → (x : X) → found ≡ Some x → P x
of_some found P h x is = subst (λ o. IfSome o P) is h

pub of_none : {X : Type 0} (found : Option X) {P : Type 0} → IfNone found P → found ≡ None → P
of_none found {P} h is = subst (λ o. IfNone o P) is h

pub some_then : {X : Type 0} (found : Option X) {P Q : X → Type 0} → IfSome found P → ((x : X) → P x → Q x) → IfSome found Q
some_then None h go = tt
some_then (Some x) h go = go x h

pub none_then : {X : Type 0} (found : Option X) {P Q : Type 0} → IfNone found P → (P → Q) → IfNone found Q
none_then None h go = go h
none_then (Some x) h go = tt

-- One thing after another: bytes read, moments given, messages answered.
use Rattle.std.proofs.Common.{◌≡◌, ℕ, false, List, [], ◌∷◌, ◌++◌, map, Option, Some, None, refl, sym, ap, ◌∙◌, append_assoc, append-nil}
use Rattle.std.specs.List.{flat_map}
use Rattle.std.specs.Io.KnownBytes.{Consumes}
use Rattle.std.proofs.lemmas.Grind.{flat_map-append}
use Rattle.outside.specs.Clock.{GivesAll}
use Rattle.outside.specs.Stream.{Are}
use Rattle.wopi_http.specs.Closing.{closes}
use Rattle.host_server.specs.declared.desk.Desk.{Desk}
use Rattle.host_server.specs.Turns.{Turn, IsTurn, GoOn}

-- these bytes, and then those that are left
pub are_from : (a b : Option (List ℕ)) (bytes rest : List ℕ) → Consumes a b bytes → Are b rest → Are a (bytes ++ rest)
are_from None b bytes rest reads are = tt
are_from (Some x) None bytes rest reads are = absurd reads
are_from (Some x) (Some y) bytes rest reads are = reads ∙ ap (λ z. bytes ++ z) are

pub GivesAll-trans : (a b c : Option (List ℕ)) (xs ys : List ℕ) → GivesAll a b xs → GivesAll b c ys → GivesAll a c (xs ++ ys)
GivesAll-trans None None None xs ys p q = tt
GivesAll-trans None None (Some z) xs ys p q = absurd q
GivesAll-trans None (Some y) c xs ys p q = absurd p
GivesAll-trans (Some x) None None xs ys p q = tt
GivesAll-trans (Some x) None (Some z) xs ys p q = absurd q
GivesAll-trans (Some x) (Some y) None xs ys p q = tt
GivesAll-trans (Some x) (Some y) (Some z) xs ys p q = q ∙ ap (λ l. l ++ ys) p ∙ append_assoc x xs ys

pub GivesAll-nil : (a : Option (List ℕ)) → GivesAll a a []
GivesAll-nil None = tt
GivesAll-nil (Some x) = sym (append-nil x)

pub flat_map-one : {X Y : Type 0} (f : X → List Y) (xs : List X) (x : X) → flat_map f (xs ++ x ∷ []) ≡ flat_map f xs ++ f x
flat_map-one f xs x = flat_map-append f xs (x ∷ []) ∙ ap (λ z. flat_map f xs ++ z) (append-nil (f x))

pub map-one : {X Y : Type 0} (f : X → Y) (xs : List X) (x : X) → map f (xs ++ x ∷ []) ≡ map f xs ++ f x ∷ []
map-one f [] x = refl
map-one f (y ∷ xs) x = ap (λ z. f y ∷ z) (map-one f xs x)

pub GoOn-one : (desk : Desk) (turns : List Turn) (t : Turn) → GoOn desk turns
    → IsTurn desk t → closes t.request ≡ false → GoOn desk (turns ++ t ∷ [])
GoOn-one desk [] t all is stays = (is, stays, tt)
GoOn-one desk (x ∷ turns) t all is stays = (all.0, all.1, GoOn-one desk turns t all.2 is stays)

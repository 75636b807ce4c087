-- Which entries may be told.
use Rattle.std.proofs.Common.{◌≡◌, ◌<◌, ◌^◌, ℕ, Bool, true, false, List, [], ◌∷◌, ◌++◌, refl, sym, ap, subst, ◌∙◌, append_assoc, append-nil}
use Rattle.std.proofs.lemmas.List.{map-append}
use Rattle.wopi_model.specs.declared.calls.Ruling.{Ruling}
use Rattle.wopi_model.specs.Shard.{Entry}
use Rattle.host_core.specs.Entries.{Asked, Made, ruled_as, told_by, told_of}
use Rattle.host_core.specs.Times.{steps_of}
use Rattle.host_log.specs.Logs.{AreToldFirst}

told_of-append : (xs ys : List Made) → told_of (xs ++ ys) ≡ told_of xs ++ told_of ys
told_of-append [] ys = refl
told_of-append (one ∷ xs) ys =
    ap (λ (l : List Entry). told_by one.told one.step ++ l) (told_of-append xs ys) ∙ sym (append_assoc (told_by one.told one.step) (told_of xs) (told_of ys))

steps_of-append : (xs ys : List Made) → steps_of (xs ++ ys) ≡ steps_of xs ++ steps_of ys
steps_of-append xs ys = map-append (λ (one : Made). one.step) xs ys

-- nothing was told yet
pub none_first : (count : ℕ) (told missing : List Made) → told ≡ [] → missing ≡ [] → AreToldFirst count told missing
none_first count told missing none empty =
    let at : AreToldFirst count [] [] = record { all = λ few. refl; rest = []; first = refl; none = refl } in
    let here : AreToldFirst count [] missing = subst (λ (l : List Made). AreToldFirst count [] l) (sym empty) at in
    subst (λ (l : List Made). AreToldFirst count l missing) (sym none) here

-- one more was told, and may be told, unless it's the last that is counted
pub more_first : (count : ℕ) (told told' missing : List Made) (is_told : Bool) (ruling : Ruling) (one : Asked) → told_of told ≡ steps_of told → (count < 2 ^ 62 → is_told ≡ true)
    → told' ≡ told ++ ruled_as is_told ruling one ∷ [] → missing ≡ [] → AreToldFirst count told' missing
more_first count told told' missing true ruling one all few more none =
    let last : Made = ruled_as true ruling one in
    let steps : steps_of told' ≡ steps_of told ++ last.step ∷ [] = ap steps_of more ∙ steps_of-append told (last ∷ []) in
    let may : told_of told' ≡ told_of told ++ last.step ∷ [] = ap told_of more ∙ told_of-append told (last ∷ []) in
    let whole : told_of told' ≡ steps_of told' = may ∙ ap (λ (l : List Entry). l ++ last.step ∷ []) all ∙ sym steps in
    record { all = λ less. whole; rest = []; first = sym whole ∙ sym (append-nil (told_of told')); none = ap told_of none }
more_first count told told' missing false ruling one all few more none =
    let last : Made = ruled_as false ruling one in
    let steps : steps_of told' ≡ steps_of told ++ last.step ∷ [] = ap steps_of more ∙ steps_of-append told (last ∷ []) in
    let may : told_of told' ≡ told_of told = ap told_of more ∙ told_of-append told (last ∷ []) ∙ append-nil (told_of told) in
    record {
      all = λ less. absurd (cc (few less));
      rest = last.step ∷ [];
      first = steps ∙ ap (λ (l : List Entry). l ++ last.step ∷ []) (sym (may ∙ all));
      none = ap told_of none;
    }

-- one more is missing
pub missing_first : (count count' : ℕ) (told told' missing missing' : List Made) (ruling : Ruling) (one : Asked) → AreToldFirst count told missing → count < 2 ^ 62 → told' ≡ told
    → missing' ≡ missing ++ ruled_as false ruling one ∷ [] → AreToldFirst count' told' missing'
missing_first count count' told told' missing missing' ruling one may room same more =
    let last : Made = ruled_as false ruling one in
    let none : told_of missing' ≡ [] = ap told_of more ∙ told_of-append missing (last ∷ []) ∙ append-nil (told_of missing) ∙ may.none in
    let now : AreToldFirst count' told missing' = record { all = λ less. may.all room; rest = may.rest; first = may.first; none = none } in
    subst (λ (l : List Made). AreToldFirst count' l missing') (sym same) now

-- what may be told of all is what may be told of the first of them
pub first_of : (count : ℕ) (told missing : List Made) → AreToldFirst count told missing → (rest : List Entry) × (steps_of told ≡ told_of (told ++ missing) ++ rest)
first_of count told missing may =
    let all : told_of (told ++ missing) ≡ told_of told = told_of-append told missing ∙ ap (λ (l : List Entry). told_of told ++ l) may.none ∙ append-nil (told_of told) in
    (may.rest, may.first ∙ ap (λ (l : List Entry). l ++ may.rest) (sym all))

-- The files that a new life begins with.
use Rattle.std.specs.Prelude.{unwrap_or}
use Rattle.std.proofs.Common.{◌≡◌, ℕ, List, [], ◌∷◌, map, refl, sym, ap, ◌∙◌, subst}
use Rattle.wopi_model.specs.File.{File, opened_with}
use Rattle.wopi_model.specs.Begin.{Begin, new_life}
use Rattle.wopi_model.specs.Shard.{Opening}
use Rattle.replay_cmd.specs.Begun.{IsNew, opening_in}

told_files : (first : ℕ) (opening : Opening) → map (λ (one : List ℕ × File). (one.0, unwrap_or one.1.contents [])) (map (λ (file : List ℕ × List ℕ). (file.0, opened_with first file.1)) opening) ≡ opening
told_files first [] = refl
told_files first (file ∷ opening) = ap (λ (l : Opening). file ∷ l) (told_files first opening)

pub opening_is : (begin : Begin) (opening : Opening) (opened first : ℕ) → begin ≡ new_life opening opened first → opening_in begin ≡ opening
opening_is begin opening opened first is = ap opening_in is ∙ told_files first opening

pub is_new : (begin : Begin) (opening : Opening) (opened first : ℕ) → begin ≡ new_life opening opened first → IsNew begin
is_new begin opening opened first is =
    let life : IsNew (new_life opening opened first) = ap (λ (l : Opening). new_life l opened first) (sym (told_files first opening)) in
    subst IsNew (sym is) life

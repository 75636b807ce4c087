-- A restart leaves the shard that an opening of what is there leaves.
use Rattle.std.proofs.Common.{◌≡◌, ℕ, true, false, cond, List, [], ◌∷◌, refl, sym, ap, ◌∙◌}
use Rattle.std.specs.Str.{bytes_eq}
use Rattle.wopi_model.specs.File.{opened_with}
use Rattle.wopi_model.specs.Shard.{Shard, Opening, opening_file, opened_shard}
use Rattle.wopi_world.specs.History.{reopened, restarted}

begins_anew : (first : ℕ) (opening : Opening) (name : List ℕ) → reopened first (opening_file first opening name).contents ≡ opening_file first opening name
begins_anew first [] name = refl
begins_anew first (file ∷ opening) name =
    elim (bytes_eq file.0 name) as (λ b. reopened first (cond b (opened_with first file.1) (opening_file first opening name)).contents ≡ cond b (opened_with first file.1) (opening_file first opening name)) [
      | true ↦ refl
      | false ↦ begins_anew first opening name
    ]

pub opens_anew : (shard : Shard) (opening : Opening) (moment first : ℕ) → ((name : List ℕ) → (opening_file first opening name).contents ≡ (shard.files name).contents) →
    restarted shard moment first ≡ opened_shard opening moment first
opens_anew shard opening moment first same =
    let files : (name : List ℕ) → reopened first (shard.files name).contents ≡ opening_file first opening name =
    λ name. ap (reopened first) (sym (same name)) ∙ begins_anew first opening name in
    λ i. record { opened = moment; first = first; now = moment; files = λ name. files name i }

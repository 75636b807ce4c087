-- A name was met where its version is at least that of the opening files.
use Rattle.std.proofs.Common.{◌≡◌, ◌⊎◌, ℕ, ◌≤◌, max, ◌==◌, Bool, true, false, cond, List, [], ◌∷◌, refl, sym, ap, subst, inl, inr, arith}
use Rattle.std.specs.Str.{bytes_eq}
use Rattle.wopi_model.specs.File.{File, never_met, opened_with}
use Rattle.wopi_model.specs.Settle.{settled}
use Rattle.wopi_model.specs.declared.calls.Act.TheVariants as act
use Rattle.wopi_model.specs.declared.calls.Act.{Act}
use Rattle.wopi_model.specs.declared.calls.Call.{Call}
use Rattle.wopi_model.specs.declared.calls.Ruling.{Ruling}
use Rattle.wopi_model.specs.Step.{Decision, Refuse, Conflict, Accept, is_unauthorized, is_missing, decision, version_after, file_of, after_step}
use Rattle.wopi_model.specs.Shard.{Shard, Opening, Item, Tick, Step, opening_file, opened_shard, at_moment, happens, after}

abbrev MetBy : ℕ → File → Type 0
MetBy first file = (file ≡ never_met first) ⊎ (first ≤ file.version)

-- only a Create finds no file and is accepted
not_missing : (a b : Bool) (rest : Decision) → cond a (Refuse 401) (cond b (Refuse 404) rest) ≡ Accept → b ≡ false
not_missing true b rest h = cc
not_missing false true rest h = cc
not_missing false false rest h = refl

created : (first : ℕ) (asked : Act) → is_missing (never_met first) asked ≡ false → first ≤ version_after (never_met first) asked
created first (act.Create overwrite contents) h = omega arith
created first act.Info h = cc
created first (act.Get most) h = cc
created first (act.Put lock contents) h = cc
created first (act.Lock id) h = cc
created first act.GetLock h = cc
created first (act.Refresh id) h = cc
created first (act.Unlock id) h = cc
created first (act.Relock old id) h = cc
created first act.Look h = cc
created first act.Delete h = cc

not_less : (file : File) (asked : Act) → file.version ≤ version_after file asked
not_less file act.Info = omega arith
not_less file (act.Get most) = omega arith
not_less file (act.Put lock contents) = omega arith
not_less file (act.Lock id) = omega arith
not_less file act.GetLock = omega arith
not_less file (act.Refresh id) = omega arith
not_less file (act.Unlock id) = omega arith
not_less file (act.Relock old id) = omega arith
not_less file act.Look = omega arith
not_less file (act.Create overwrite contents) = omega arith
not_less file act.Delete = omega arith

met-settled : (first : ℕ) (file : File) (now : ℕ) → MetBy first file → MetBy first (settled file now)
met-settled first file now (inl same) = inl (ap (λ (f : File). settled f now) same)
met-settled first file now (inr met) = inr met

met-file_of : (first : ℕ) (decided : Decision) (file : File) (call : Call) (opened now : ℕ) → decision file call opened now ≡ decided → MetBy first file →
    MetBy first (file_of decided file call now)
met-file_of first (Refuse status) file call opened now h m = m
met-file_of first (Conflict reason) file call opened now h m = m
met-file_of first Accept file call opened now h (inr met) = let more = not_less file call.act in inr (omega (arith, met, more))
met-file_of first Accept file call opened now h (inl same) =
    let there : is_missing file call.act ≡ false = not_missing (is_unauthorized call opened now) (is_missing file call.act) _ h in
    inr (subst (λ (f : File). first ≤ version_after f call.act) (sym same) (created first call.act (subst (λ (f : File). is_missing f call.act ≡ false) same there)))

met-after_step : (first : ℕ) (file : File) (call : Call) (opened now : ℕ) (ruling : Ruling) → MetBy first file → MetBy first (after_step file call opened now ruling)
met-after_step first file call opened now ruling m =
    elim (ruling.status == 500) as (λ b. MetBy first (cond b file (file_of (decision file call opened now) file call now))) [
      | true ↦ m
      | false ↦ met-file_of first (decision file call opened now) file call opened now refl m
    ]

abbrev AreMet : ℕ → Shard → Type 0
AreMet first shard = (name : List ℕ) → MetBy first (shard.files name)

met-happens : (first : ℕ) (shard : Shard) (item : Item) → AreMet first shard → AreMet first (happens shard item)
met-happens first shard (Tick moment) m name = met-settled first (shard.files name) (max shard.now moment) (m name)
met-happens first shard (Step entry) m name =
    let at = at_moment shard entry.moment in
    let call = entry.call in
    let settled_met : AreMet first at = λ other. met-settled first (shard.files other) (max shard.now entry.moment) (m other) in
    elim (bytes_eq call.name name) as (λ b. MetBy first (cond b (after_step (at.files call.name) call at.opened at.now entry.ruling) (at.files name))) [
      | true ↦ met-after_step first (at.files call.name) call at.opened at.now entry.ruling (settled_met call.name)
      | false ↦ settled_met name
    ]

met-opening : (first : ℕ) (opening : Opening) (name : List ℕ) → MetBy first (opening_file first opening name)
met-opening first [] name = inl refl
met-opening first (file ∷ opening) name =
    elim (bytes_eq file.0 name) as (λ b. MetBy first (cond b (opened_with first file.1) (opening_file first opening name))) [
      | true ↦ inr (omega arith)
      | false ↦ met-opening first opening name
    ]

met-after : (first : ℕ) (shard : Shard) (items : List Item) → AreMet first shard → AreMet first (after shard items)
met-after first shard [] m = m
met-after first shard (item ∷ items) m = met-after first (happens shard item) items (met-happens first shard item m)

pub met_lem : (opening : Opening) (opened first : ℕ) (history : List Item) (name : List ℕ) →
    ((after (opened_shard opening opened first) history).files name ≡ never_met first) ⊎ (first ≤ ((after (opened_shard opening opened first) history).files name).version)
met_lem opening opened first history = met-after first (opened_shard opening opened first) history (met-opening first opening)

-- An entry that is begun behind the others, and ended where it stands.
use Rattle.std.proofs.Common.{Some, ◌≡◌, ◌≤◌, ◌<◌, ◌+◌, ◌==◌, ℕ, suc, zero, Bool, true, false, option_map, List, [], ◌∷◌, ◌++◌, Option, None, if◌then◌else◌, get_or, set, length, take, refl, sym, ap, subst, ◌∙◌, arith}
use Rattle.std.specs.Prelude.{slice_get, unwrap_or}
use Rattle.std.proofs.lemmas.Option.{slice_get_past}
use Rattle.std.proofs.lemmas.List.{take_more_set, length-set, length-take-le}
use Rattle.wopi_model.specs.declared.calls.Ruling.{Ruling}
use Rattle.wopi_model.specs.declared.calls.Act.{Act}
use Rattle.wopi_model.specs.declared.calls.Act.TheVariants as act
use Rattle.host_core.specs.Entries.{Made, Asked, asked_in, brought_by, accepted_contents}
use Rattle.host_core.specs.Notes.{Brought, saved_in}
use Rattle.host_core.specs.declared.kept.Saved.{Saved}
use Rattle.host_core.specs.Store.{saved_with}

-- the one at that place, without its ruling
abbrev pub begun_at : List Made → ℕ → Option Asked
begun_at l n = option_map asked_in (slice_get l n)

-- where none was begun, all are ended
pub all_ended : (l : List Made) (n : ℕ) → n ≤ length l → begun_at l n ≡ None → n ≡ length l
all_ended [] n le none = omega (arith, le)
all_ended (x ∷ l) zero le none = absurd (cc none)
all_ended (x ∷ l) (suc n) le none =
    let less : n ≤ length l = omega (arith, le) in
    ap suc (all_ended l n less none)

-- the one that was begun stands in the list
pub begun_inside : (l : List Made) (n : ℕ) (one : Asked) → begun_at l n ≡ Some one → n < length l
begun_inside [] n one is = absurd (cc is)
begun_inside (x ∷ l) zero one is = omega arith
begun_inside (x ∷ l) (suc n) one is =
    let more = begun_inside l n one is in
    omega (arith, more)

pub begun_is : (l : List Made) (n : ℕ) (one : Asked) (d : Made) → begun_at l n ≡ Some one → asked_in (get_or l n d) ≡ one
begun_is [] n one d is = absurd (cc is)
begun_is (x ∷ l) zero one d is = ap (λ (o : Option Asked). unwrap_or o one) is
begun_is (x ∷ l) (suc n) one d is = begun_is l n one d is

put_ends : (l : List Made) (x : Made) → take (length l) (l ++ x ∷ []) ≡ take (length l) l
put_ends [] x = refl
put_ends (y ∷ l) x = ap (λ (rest : List Made). y ∷ rest) (put_ends l x)

put_begins : (l : List Made) (x : Made) → slice_get (l ++ x ∷ []) (length l) ≡ Some x
put_begins [] x = refl
put_begins (y ∷ l) x = put_begins l x

-- one that is put behind them all is begun
pub put_behind : (l : List Made) (n : ℕ) (x : Made) → n ≡ length l → (take n (l ++ x ∷ []) ≡ take n l) × (begun_at (l ++ x ∷ []) n ≡ Some (asked_in x))
put_behind l n x is =
    subst (λ (k : ℕ). (take k (l ++ x ∷ []) ≡ take k l) × (begun_at (l ++ x ∷ []) k ≡ Some (asked_in x))) (sym is)
    (put_ends l x, ap (option_map asked_in) (put_begins l x))

-- and once it has its ruling it stands among those that are ended
pub ended_behind : (l : List Made) (n : ℕ) (x : Made) → n < length l → length l ≤ n + 1 → (take (n + 1) (set l n x) ≡ take n l ++ x ∷ []) × (begun_at (set l n x) (n + 1) ≡ None)
ended_behind l n x inside one = (
  take_more_set l n x inside,
  ap (option_map asked_in) (slice_get_past (set l n x) (n + 1) (subst (λ (k : ℕ). k ≤ n + 1) (sym (length-set l n x)) one)),
)

-- those that are ended, taken once more
pub taken_again : (l : List Made) (n : ℕ) → take n (take n l) ≡ take n l
taken_again l zero = refl
taken_again [] (suc n) = refl
taken_again (x ∷ l) (suc n) = ap (λ (rest : List Made). x ∷ rest) (taken_again l n)

-- behind which none was begun
pub none_behind : (l : List Made) (n : ℕ) → n ≤ length l → begun_at (take n l) n ≡ None
none_behind l n le = ap (option_map asked_in) (slice_get_past (take n l) n (let long = length-take-le n l le in omega (arith, long)))

-- an entry that is ended stands at its place in the list
pub got_ended : (l : List Made) (n i : ℕ) → i < n → slice_get (take n l) i ≡ slice_get l i
got_ended l zero i lt = absurd (omega (arith, lt))
got_ended [] (suc n) i lt = refl
got_ended (x ∷ l) (suc n) zero lt = refl
got_ended (x ∷ l) (suc n) (suc i) lt =
    let less : i < n = omega (arith, lt) in
    got_ended l n i less

-- what an accepted call brought was saved
saved_brought : (asked : Act) (version : Option ℕ) → saved_with None asked version ≡ option_map (λ contents. (version, contents)) (brought_by asked)
saved_brought (act.Put lock contents) version = refl
saved_brought (act.Create overwrite contents) version = refl
saved_brought act.Info version = refl
saved_brought (act.Get most) version = refl
saved_brought (act.Lock id) version = refl
saved_brought act.GetLock version = refl
saved_brought (act.Refresh id) version = refl
saved_brought (act.Unlock id) version = refl
saved_brought (act.Relock old id) version = refl
saved_brought act.Look version = refl
saved_brought act.Delete version = refl

pub made_saved : (asked : Act) (ruling : Ruling) (saved saved' : Option Brought) → saved ≡ None → saved' ≡ (if ruling.status == 200 then saved_with saved asked ruling.version else saved)
    → saved' ≡ (if ruling.status == 200 then option_map (λ contents. (ruling.version, contents)) (brought_by asked) else None)
made_saved asked ruling saved saved' none is =
    is ∙ ap (λ (s : Option Brought). if ruling.status == 200 then saved_with s asked ruling.version else s) none
    ∙ ap (λ (s : Option Brought). if ruling.status == 200 then s else None) (saved_brought asked ruling.version)

-- the contents of what was saved are those that were accepted
pub saved_contents : (one : Made) (saved : Option Saved) → option_map (λ s. (Some s.version, s.contents)) saved ≡ saved_in one → option_map (λ s. s.contents) saved ≡ accepted_contents one
saved_contents one saved is = sym (only saved) ∙ ap (option_map (λ (b : Brought). b.1)) is ∙ go (one.step.ruling.status == 200) (brought_by one.step.call.act) where
  only : (saved : Option Saved) → option_map (λ (b : Brought). b.1) (option_map (λ s. (Some s.version, s.contents)) saved) ≡ option_map (λ s. s.contents) saved
  only None = refl
  only (Some s) = refl

  go : (b : Bool) (o : Option (List ℕ)) → option_map (λ (b : Brought). b.1) (if b then option_map (λ contents. (one.step.ruling.version, contents)) o else None) ≡ (if b then o else None)
  go false o = refl
  go true None = refl
  go true (Some contents) = refl

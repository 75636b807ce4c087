-- Lives, part by part.
use Rattle.std.proofs.Common.{◌≡◌, ◌↔◌, ℕ, max, Bool, true, false, cond, List, [], ◌∷◌, ◌++◌, ◌≤◌, refl, ap, sym, ◌∙◌, subst, arith}
use Rattle.std.proofs.lemmas.List.{map-append}
use Rattle.std.specs.Prelude.{map}
use Rattle.std.proofs.lemmas.Slice.Eq.{bytes_eq-Decides}
use Rattle.std.specs.Str.{bytes_eq}
use Rattle.wopi_model.specs.File.{File, never_met}
use Rattle.wopi_model.specs.Settle.{settled}
use Rattle.wopi_model.specs.Step.{after_step}
use Rattle.wopi_model.specs.Begin.{Begin, at_name, put_name}
use Rattle.wopi_model.specs.Lives.{IsLeftBy, begin_after, begin_at, begin_happens, left_of}
use Rattle.wopi_model.specs.Shard.{Shard, Item, Tick, Step, Entry, LegalFrom, IsAllowed, Along, RisesFrom, last_from, begun, at_moment, after_entry, happens, after, entries, stamps}
use Rattle.wopi_model.proofs.Settling.{settled-settled}
use Rattle.wopi_model.proofs.Histories.{after-append, Along-append, entries-append}

-- ---- one part behind another

Along-front : (P : Shard → Item → Type 0) (shard : Shard) (first second : List Item) → Along P shard (first ++ second) → Along P shard first
Along-front P shard [] second h = tt
Along-front P shard (item ∷ first) second h = (h.0, Along-front P (happens shard item) first second h.1)

Along-back : (P : Shard → Item → Type 0) (shard : Shard) (first second : List Item) → Along P shard (first ++ second) → Along P (after shard first) second
Along-back P shard [] second h = h
Along-back P shard (item ∷ first) second h = Along-back P (happens shard item) first second h.1

rises-join : (low : ℕ) (xs ys : List ℕ) → RisesFrom low xs → RisesFrom (last_from low xs) ys → RisesFrom low (xs ++ ys)
rises-join low [] ys f s = s
rises-join low (x ∷ xs) ys f s = (f.0, rises-join x xs ys f.1 s)

rises-front : (low : ℕ) (xs ys : List ℕ) → RisesFrom low (xs ++ ys) → RisesFrom low xs
rises-front low [] ys h = tt
rises-front low (x ∷ xs) ys h = (h.0, rises-front x xs ys h.1)

rises-back : (low : ℕ) (xs ys : List ℕ) → RisesFrom low (xs ++ ys) → RisesFrom (last_from low xs) ys
rises-back low [] ys h = h
rises-back low (x ∷ xs) ys h = rises-back x xs ys h.1

last-join : (low : ℕ) (xs ys : List ℕ) → last_from low (xs ++ ys) ≡ last_from (last_from low xs) ys
last-join low [] ys = refl
last-join low (x ∷ xs) ys = last-join x xs ys

stamps-join : (history more : List Item) → stamps (entries (history ++ more)) ≡ stamps (entries history) ++ stamps (entries more)
stamps-join history more = ap stamps (entries-append history more) ∙ map-append (λ (e : Entry). e.stamp) (entries history) (entries more)

pub goes_on : (begin next : Begin) (history more : List Item) → IsLeftBy begin history next →
    LegalFrom begin (history ++ more) ↔ (LegalFrom begin history × LegalFrom next more)
goes_on begin next history more leaves =
    let joined = stamps-join history more in
    let before = stamps (entries history) in
    let behind = stamps (entries more) in
    let P : Shard → Type 0 = λ shard. Along IsAllowed shard more in
    let Q : List ℕ → Type 0 = λ all. RisesFrom begin.last all in
    let R : ℕ → Type 0 = λ low. RisesFrom low behind in
    let to : LegalFrom begin (history ++ more) → LegalFrom begin history × LegalFrom next more = λ legal.
    let all : RisesFrom begin.last (before ++ behind) = subst Q joined legal.stamps in (
      record { allowed = Along-front IsAllowed (begun begin) history more legal.allowed; stamps = rises-front begin.last before behind all },
      record { allowed = subst P (sym leaves.shard) (Along-back IsAllowed (begun begin) history more legal.allowed); stamps = subst R (sym leaves.last) (rises-back begin.last before behind all) },
    ) in
    let from : LegalFrom begin history × LegalFrom next more → LegalFrom begin (history ++ more) = λ both.
    record {
      allowed = Along-append IsAllowed (begun begin) history more both.0.allowed (subst P leaves.shard both.1.allowed);
      stamps = subst Q (sym joined) (rises-join begin.last before behind both.0.stamps (subst R leaves.last both.1.stamps));
    } in
    (to, from)

pub joins : (begin next last : Begin) (history more : List Item) → IsLeftBy begin history next → IsLeftBy next more last → IsLeftBy begin (history ++ more) last
joins begin next last history more f s =
    let P : ℕ → Type 0 = λ low. last.last ≡ last_from low (stamps (entries more)) in
    record {
      shard = s.shard ∙ ap (λ (shard : Shard). after shard more) f.shard ∙ sym (after-append (begun begin) history more);
      last = subst P f.last s.last ∙ sym (last-join begin.last (stamps (entries history)) (stamps (entries more)))
          ∙ ap (last_from begin.last) (sym (stamps-join history more));
    }

-- ---- what a history leaves

pub at-map : {A B : Type 0} (f : A → B) (other : A) (files : List (List ℕ × A)) (name : List ℕ) →
    at_name (f other) (map (λ one. (one.0, f one.1)) files) name ≡ f (at_name other files name)
at-map f other [] name = refl
at-map f other (one ∷ files) name =
    let rest = at-map f other files name in
    elim (bytes_eq one.0 name) as (λ b. cond b (f one.1) (at_name (f other) (map (λ one. (one.0, f one.1)) files) name) ≡ f (cond b one.1 (at_name other files name))) [
      | true ↦ refl
      | false ↦ rest
    ]

tested_twice : {A : Type 0} (b : Bool) (x y z : A) → cond b x z ≡ cond b x (cond b y z)
tested_twice true x y z = refl
tested_twice false x y z = refl

pub at-put : {A : Type 0} (other : A) (name : List ℕ) (it : A) (files : List (List ℕ × A)) (x : List ℕ) →
    at_name other (put_name name it files) x ≡ cond (bytes_eq name x) it (at_name other files x)
at-put other name it [] x = refl
at-put other name it (one ∷ files) x =
    let rest = at_name other files x in
    let ih = at-put other name it files x in
    elim (bytes_eq one.0 name) as (λ b. bytes_eq one.0 name ≡ b →
    at_name other (cond b ((one.0, it) ∷ files) (one ∷ put_name name it files)) x ≡ cond (bytes_eq name x) it (cond (bytes_eq one.0 x) one.1 rest)) [
      | true ↦ λ e. subst (λ (n : List ℕ). cond (bytes_eq one.0 x) it rest ≡ cond (bytes_eq n x) it (cond (bytes_eq one.0 x) one.1 rest))
          ((bytes_eq-Decides one.0 name).0 e) (tested_twice (bytes_eq one.0 x) it one.1 rest)
      | false ↦ λ ne. elim (bytes_eq name x) as (λ b. bytes_eq name x ≡ b → at_name other (put_name name it files) x ≡ cond b it rest →
          cond (bytes_eq one.0 x) one.1 (at_name other (put_name name it files) x) ≡ cond b it (cond (bytes_eq one.0 x) one.1 rest)) [
            | true ↦ λ same is.
                let off : bytes_eq one.0 x ≡ false = subst (λ (n : List ℕ). bytes_eq one.0 n ≡ false) ((bytes_eq-Decides name x).0 same) ne in
                subst (λ (b : Bool). cond b one.1 (at_name other (put_name name it files) x) ≡ it) (sym off) is
            | false ↦ λ apart is. ap (λ r. cond (bytes_eq one.0 x) one.1 r) is
          ] refl ih
    ] refl

pub begun-at : (begin : Begin) (moment : ℕ) → begun (begin_at begin moment) ≡ at_moment (begun begin) moment
begun-at begin moment =
    let now = max begin.now moment in
    let each : (name : List ℕ) → at_name (never_met begin.first) (map (λ one. (one.0, settled one.1 now)) begin.files) name ≡ settled (at_name (never_met begin.first) begin.files name) now =
    λ name. at-map (λ (f : File). settled f now) (never_met begin.first) begin.files name in
    λ i. record { opened = begin.opened; first = begin.first; now = now; files = λ name. each name i }

pub begun-entry : (at : Begin) (entry : Entry) → begun (begin_after at entry) ≡ after_entry (begun at) entry
begun-entry at entry =
    let file = after_step (at_name (never_met at.first) at.files entry.call.name) entry.call at.opened at.now entry.ruling in
    let each : (name : List ℕ) → at_name (never_met at.first) (put_name entry.call.name file at.files) name ≡ cond (bytes_eq entry.call.name name) file (at_name (never_met at.first) at.files name) =
    λ name. at-put (never_met at.first) entry.call.name file at.files name in
    λ i. record { opened = at.opened; first = at.first; now = at.now; files = λ name. each name i }

begun-happens : (begin : Begin) (item : Item) → begun (begin_happens begin item) ≡ happens (begun begin) item
begun-happens begin (Tick moment) = begun-at begin moment
begun-happens begin (Step entry) = begun-entry (begin_at begin entry.moment) entry ∙ ap (λ (at : Shard). after_entry at entry) (begun-at begin entry.moment)

pub begun-left : (begin : Begin) (history : List Item) → begun (left_of begin history) ≡ after (begun begin) history
begun-left begin [] = refl
begun-left begin (item ∷ items) = begun-left (begin_happens begin item) items ∙ ap (λ (shard : Shard). after shard items) (begun-happens begin item)

last-left : (begin : Begin) (history : List Item) → (left_of begin history).last ≡ last_from begin.last (stamps (entries history))
last-left begin [] = refl
last-left begin (Tick moment ∷ items) = last-left (begin_at begin moment) items
last-left begin (Step entry ∷ items) = last-left (begin_after (begin_at begin entry.moment) entry) items

-- what one part leaves goes on with the other
pub left-append : (begin : Begin) (history more : List Item) → left_of begin (history ++ more) ≡ left_of (left_of begin history) more
left-append begin [] more = refl
left-append begin (item ∷ history) more = left-append (begin_happens begin item) history more

abbrev all_settled : ℕ → List (List ℕ × File) → List (List ℕ × File)
all_settled now files = map (λ one. (one.0, settled one.1 now)) files

settled_files : (files : List (List ℕ × File)) (early late : ℕ) → early ≤ late →
    all_settled late (all_settled early files) ≡ all_settled late files
settled_files [] early late le = refl
settled_files (one ∷ files) early late le =
    let here = settled-settled one.1 early late le in
    let rest = settled_files files early late le in
    λ i. (one.0, here i) ∷ rest i

-- two moments, one after the other, are the later one
pub begin_at-begin_at : (begin : Begin) (early late : ℕ) → begin_at (begin_at begin early) late ≡ begin_at begin (max early late)
begin_at-begin_at begin early late =
    let time : max (max begin.now early) late ≡ max begin.now (max early late) = omega arith in
    let le : max begin.now early ≤ max (max begin.now early) late = omega arith in
    let twice = settled_files begin.files (max begin.now early) (max (max begin.now early) late) le in
    let files : all_settled (max (max begin.now early) late) (all_settled (max begin.now early) begin.files) ≡ all_settled (max begin.now (max early late)) begin.files =
    twice ∙ ap (λ (n : ℕ). all_settled n begin.files) time in
    λ i. record { opened = begin.opened; first = begin.first; now = time i; last = begin.last; files = files i }

pub leaves : (begin : Begin) (history : List Item) → IsLeftBy begin history (left_of begin history)
leaves begin history = record { shard = begun-left begin history; last = last-left begin history }

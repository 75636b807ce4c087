-- A host's stores at its end, and what they noted.
use Rattle.std.proofs.Common.{◌≡◌, ℕ, zero, suc, ◌+◌, ◌==◌, Option, Some, List, [], ◌∷◌, ◌++◌, map, length, filter, slice_get, refl, ap, sym, subst, ◌∙◌, arith}
use Rattle.std.proofs.lemmas.List.{length-map}
use Rattle.std.specs.List.{AllByRecursion, flat_map}
use mathlib.Core.List.{IsPrefix}
use Rattle.outside.specs.Folder.{Files}
use Rattle.wopi_model.specs.File.{File}
use Rattle.wopi_model.specs.Begin.{Begin, new_life}
use Rattle.wopi_model.specs.Host.{Limits, shard_of_entry, opening_of, part_of, LegalHost}
use Rattle.wopi_model.specs.Shard.{Opening, Entry, Item, Step, Legal, LegalFrom, RisesFrom, stamps}
use Rattle.host_core.specs.Opening.{MayKeep}
use Rattle.host_core.specs.Entries.{Made}
use Rattle.host_core.specs.Notes.{Notes}
use Rattle.host_core.specs.Times.{steps_of, untimed, last_time, IsTimely}
use Rattle.host_core.specs.Value.{Book, Left, IsLawful}
use Rattle.host_core.proofs.Timing.{entries-history}
use Rattle.host_table.specs.declared.journal.Spot.{Spot}
use Rattle.host_table.specs.Histories.{as_opened, AreNamed}
use Rattle.host_table.specs.Held.{IsGiven}
use Rattle.host_table.specs.Journal.{all_spots, merge_of, openings, AreParts}
use Rattle.host_table.specs.Passes.{Place, PassView, HostView, AreBases, IsPassOf}
use Rattle.host_table.specs.Rows.{AreEnds}
use Rattle.host_table.specs.Start.{log_in}
use Rattle.host_table.specs.Close.{begin_of, IsWhole, IsJoinOf, AreSeen, AreSeenIn, AreNotedParts, AreGiven, IsNoted, AreNoted, LegalLives, Leaves}
use Rattle.host_table.proofs.Journals.{HaveMade, AreHomed, got, homed_files, openings_at, ended_bases, based_on, ordered, part_is, pass_rises, all_parts, all_seen, all_own, all_told, all_made}
use Rattle.host_table.proofs.NewLives.{opening_kept}
use Rattle.host_table.proofs.Order.{filter_map_is}
use Rattle.host_table.proofs.Sorting.{ArePlaced, AreRising, AreSorted, in_order, can_sort}

rises_low : (low : ℕ) (xs : List ℕ) → RisesFrom low xs → RisesFrom 0 xs
rises_low low [] r = tt
rises_low low (x ∷ xs) r = (omega (arith, r.0), r.1)

-- ---- shards that began a new life

abbrev left_with : Opening → Left (Unit {0})
left_with opening = record { opening = opening; dates = []; made = []; start = tt }

openings_flat : (stood : List Opening) → openings (map left_with stood) ≡ flat_map (λ opening. opening) stood
openings_flat [] = refl
openings_flat (opening ∷ stood) = ap (λ (z : Opening). opening ++ z) (openings_flat stood)

homed_by : {F : Type 0} (opened oldest : ℕ) (limits : Limits) (j : ℕ) (bases : List (Book F)) (stood : List Opening) → AreBases opened oldest limits j bases → map begin_of bases ≡ map (λ opening. new_life opening opened oldest) stood → AreHomed j (map left_with stood)
homed_by opened oldest limits j [] [] a e = tt
homed_by opened oldest limits j [] (opening ∷ stood) a e = absurd (cc e)
homed_by opened oldest limits j (b ∷ bases) [] a e = absurd (cc e)
homed_by opened oldest limits j (b ∷ bases) (opening ∷ stood) a e =
    let first : b.begin ≡ new_life opening opened oldest = cc e in let rest : map begin_of bases ≡ map (λ z. new_life z opened oldest) stood = cc e in
    let kept : AllByRecursion (λ (file : List ℕ × List ℕ). MayKeep b.only file.0) opening =
    opening_kept b.only oldest opening (subst (λ (z : Begin). AllByRecursion (λ (file : List ℕ × File). MayKeep b.only file.0) z.files) first a.0.names) in
    (homed_files b.only j opening a.0.only kept, homed_by opened oldest limits (j + 1) bases stood a.1 rest)

life_at : (opened oldest : ℕ) (stood : List Opening) (i : ℕ) (opening : Opening) → slice_get stood i ≡ Some opening
    → (slice_get (map (λ z. new_life z opened oldest) stood) i ≡ Some (new_life opening opened oldest)) × (slice_get (map left_with stood) i ≡ Some (left_with opening))
life_at opened oldest [] i opening e = absurd (cc e)
life_at opened oldest (o ∷ stood) zero opening e = let same : o ≡ opening = cc e in (ap (λ (z : Opening). Some (new_life z opened oldest)) same, ap (λ (z : Opening). Some (left_with z)) same)
life_at opened oldest (o ∷ stood) (suc i) opening e = life_at opened oldest stood i opening e

-- entries of shards that all began a new life are those of a host that was opened anew
legal_anew : (begins : List Begin) (stood : List Opening) (opened oldest : ℕ) (merge : List Entry) → LegalLives begins merge → begins ≡ map (λ opening. new_life opening opened oldest) stood → length begins ≡ 16 → AreHomed 0 (map left_with stood)
    → LegalHost (flat_map (λ opening. opening) stood) opened oldest merge
legal_anew begins stood opened oldest merge legal lives long homed = record {
  ordered = legal.ordered;
  shards = λ shard h.
      let many : length stood ≡ 16 = sym (length-map stood (λ z. new_life z opened oldest)) ∙ (ap length (sym lives) ∙ long) in
      let o = got stood shard (omega arith) in let at = life_at opened oldest stood shard o.0 o.1 in
      let life : LegalFrom (new_life o.0 opened oldest) (part_of shard merge) = legal.shards shard (new_life o.0 opened oldest) (ap (λ (z : List Begin). slice_get z shard) lives ∙ at.0) in
      let is : opening_of shard (flat_map (λ opening. opening) stood) ≡ o.0 =
      ap (opening_of shard) (sym (openings_flat stood)) ∙ openings_at 0 (map left_with stood) shard (left_with o.0) shard (omega arith) homed at.1 in
      subst (λ (z : Opening). Legal z opened oldest (part_of shard merge)) (sym is) life;
  passes = legal.passes;
}

-- ---- what the stores noted

module _ {F : Type 0} where
  abbrev left_by : Book F → Left F
  left_by h = record { opening = []; dates = h.dates; made = h.made; start = h.start }

  have_by : (books : List (Book F)) → HaveMade books (map left_by books)
  have_by [] = tt
  have_by (h ∷ books) = (refl, have_by books)

  abbrev AreLegal : List (Book F) → Type 0
  AreLegal books = AllByRecursion (λ h. LegalFrom h.begin (untimed h.made)) books

  book_at : (books : List (Book F)) (i : ℕ) (begin : Begin) → AreLegal books → slice_get (map begin_of (map as_opened books)) i ≡ Some begin
      → (h : Book F) × (slice_get (map left_by books) i ≡ Some (left_by h)) × (h.begin ≡ begin) × LegalFrom h.begin (untimed h.made)
  book_at [] i begin l e = absurd (cc e)
  book_at (h ∷ books) zero begin l e = (h, refl, cc e, l.0)
  book_at (h ∷ books) (suc i) begin l e = book_at books i begin l.1 e

  lives_at : (books : List (Book F)) (merge : List Made) → AreLegal books → ((i : ℕ) (part : Left F) → slice_get (map left_by books) i ≡ Some part → part.made ≡ filter (λ one. shard_of_entry one.step == i) merge)
      → (shard : ℕ) (begin : Begin) → slice_get (map begin_of (map as_opened books)) shard ≡ Some begin → LegalFrom begin (part_of shard (steps_of merge))
  lives_at books merge legal part_is shard begin e =
      let b = book_at books shard begin legal e in
      let history : part_of shard (steps_of merge) ≡ untimed b.0.made =
      ap (map Step) (filter_map_is (λ (z : Made). z.step) (λ (e : Entry). shard_of_entry e == shard) merge) ∙ ap untimed (sym (part_is shard (left_by b.0) b.1)) in
      let P : Begin × List Item → Type 0 = λ z. LegalFrom z.0 z.1 in
      let both : (b.0.begin, untimed b.0.made) ≡ (begin, part_of shard (steps_of merge)) = λ i. (b.2 i, sym history i) in
      subst P both b.3

module _ {F : Type 0} (files : F → Option Files) (faults : F → ℕ) (notes : F → Notes) where
  pub given_push : (books : List (Book F)) (stores : List F) (book : Book F) (store : F) → AreGiven files faults notes books stores → IsGiven files faults notes book store → AreGiven files faults notes (books ++ book ∷ []) (stores ++ store ∷ [])
  given_push [] [] book store a g = (g, tt)
  given_push [] (s ∷ stores) book store a g = absurd a
  given_push (b ∷ books) [] book store a g = absurd a
  given_push (b ∷ books) (s ∷ stores) book store a g = (a.0, given_push books stores book store a.1 g)

  placed_by : (opened oldest : ℕ) (limits : Limits) (j : ℕ) (books : List (Book F)) (stores : List F) → AreGiven files faults notes books stores → AreBases opened oldest limits j (map as_opened books)
      → ArePlaced j (map left_by books) × AreRising (map left_by books)
  placed_by opened oldest limits j [] [] a b = (tt, tt)
  placed_by opened oldest limits j [] (s ∷ stores) a b = absurd a
  placed_by opened oldest limits j (h ∷ books) [] a b = absurd a
  placed_by opened oldest limits j (h ∷ books) (s ∷ stores) a b =
      let g = a.0 in
      let named : AreNamed (Some j) h.made = subst (λ (only : Option ℕ). AreNamed only h.made) b.0.only g.held.named in
      let P : List Entry → Type 0 = λ es. RisesFrom h.begin.last (stamps es) in
      let rises : RisesFrom 0 (stamps (steps_of h.made)) = rises_low h.begin.last (stamps (steps_of h.made)) (subst P (entries-history h.made h.time) g.lawful.legal.stamps) in
      let rest = placed_by opened oldest limits (j + 1) books stores a.1 b.1 in
      ((named, rest.0), (rises, rest.1))

  legal_by : (books : List (Book F)) (stores : List F) → AreGiven files faults notes books stores → AreLegal books
  legal_by [] [] a = tt
  legal_by [] (s ∷ stores) a = absurd a
  legal_by (h ∷ books) [] a = absurd a
  legal_by (h ∷ books) (s ∷ stores) a = (a.0.lawful.alone a.0.held.unticked, legal_by books stores a.1)

  noted_one : (h : Book F) (store : F) → IsGiven files faults notes h store → IsNoted files faults notes (as_opened h) store
  noted_one h store g =
      let goes = g.lawful.timely g.held.unticked in
      let Q : ℕ → Type 0 = λ n. IsLawful (record { only = h.only; begin = h.begin; limits = h.limits; dates = h.dates; made = h.made; time = n; ticked = h.ticked; start = h.start; folder = h.folder }) (files h.start) (files h.folder) (faults h.start) (faults h.folder) in
      let was : Q h.time = record { legal = g.lawful.legal; folder = g.lawful.folder; faults = g.lawful.faults; timely = g.lawful.timely; alone = g.lawful.alone } in
      let P : List Made × F → Type 0 = λ z. IsLawful (record { only = h.only; begin = h.begin; limits = h.limits; dates = h.dates; made = z.0; time = last_time h.begin.now z.0; ticked = h.ticked; start = h.start; folder = z.1 }) (files h.start) (files z.1) (faults h.start) (faults z.1) in
      let both : (h.made, h.folder) ≡ ((notes store).made, store) = λ i. (sym g.made i, sym g.is i) in
      record {
        begin = g.begin;
        ended = g.ended;
        timely = subst (λ (m : List Made). IsTimely h.begin.now m) (sym g.made) goes.timely;
        lawful = subst P both (subst Q goes.time_is was);
      }

  noted_all : (books : List (Book F)) (stores : List F) → AreGiven files faults notes books stores → AreNoted files faults notes (map as_opened books) stores
  noted_all [] [] a = tt
  noted_all [] (s ∷ stores) a = absurd a
  noted_all (h ∷ books) [] a = absurd a
  noted_all (h ∷ books) (s ∷ stores) a = (noted_one h s a.0, noted_all books stores a.1)

  logs_in : (books : List (Book F)) (stores : List F) → AreGiven files faults notes books stores → map (log_in notes) stores ≡ map (λ base. (notes base.start).log) (map as_opened books)
  logs_in [] [] a = refl
  logs_in [] (s ∷ stores) a = absurd a
  logs_in (h ∷ books) [] a = absurd a
  logs_in (h ∷ books) (s ∷ stores) a =
      let first : log_in notes s ≡ (notes h.start).log = ap (log_in notes) a.0.is ∙ a.0.held.log in let rest = logs_in books stores a.1 in λ i. first i ∷ rest i

  parts_in : (merge : List Made) (j : ℕ) (books : List (Book F)) (stores : List F) → AreGiven files faults notes books stores → AreParts merge j (map left_by books) → AreNotedParts notes merge j stores
  parts_in merge j [] [] a p = tt
  parts_in merge j [] (s ∷ stores) a p = absurd a
  parts_in merge j (h ∷ books) [] a p = absurd a
  parts_in merge j (h ∷ books) (s ∷ stores) a p = (a.0.made ∙ p.0, parts_in merge (j + 1) books stores a.1 p.1)

  seen_in : (seats : List (Place F)) (books : List (Book F)) (stores : List F) → AreGiven files faults notes books stores → AreSeen seats (map left_by books) → AreSeenIn notes seats stores
  seen_in [] [] [] a p = tt
  seen_in [] [] (s ∷ stores) a p = absurd a
  seen_in [] (h ∷ books) stores a p = absurd p
  seen_in (t ∷ seats) [] stores a p = absurd p
  seen_in (t ∷ seats) (h ∷ books) [] a p = absurd a
  seen_in (t ∷ seats) (h ∷ books) (s ∷ stores) a p = (subst (λ (m : List Made). IsPrefix t.seen m) (sym a.0.made) p.0, seen_in seats books stores a.1 p.1)

  all_seen_in : (passes : List (PassView F)) (books : List (Book F)) (stores : List F) → AreGiven files faults notes books stores → AllByRecursion (λ pass. AreSeen pass.seats (map left_by books)) passes
      → AllByRecursion (λ pass. AreSeenIn notes pass.seats stores) passes
  all_seen_in [] books stores a p = tt
  all_seen_in (pass ∷ passes) books stores a p = (seen_in pass.seats books stores a p.0, all_seen_in passes books stores a p.1)

  pub leaves_all : (host : HostView F) (passes : List (PassView F)) (seats : List (Place F)) (books : List (Book F)) (stores : List F)
      → AreBases host.opened host.first host.limits 0 host.bases → length books ≡ 16 → AllByRecursion (IsPassOf host) passes → IsWhole host.made passes → IsJoinOf passes seats → AreEnds seats books → AreGiven files faults notes books stores
      → Leaves files faults notes host passes stores
  leaves_all host passes seats books stores bases long of whole joined ends given =
      let same : map as_opened books ≡ host.bases = ended_bases seats books host.bases ends (based_on host passes seats of joined.based) in
      let mine : AreBases host.opened host.first host.limits 0 (map as_opened books) = subst (λ (bs : List (Book F)). AreBases host.opened host.first host.limits 0 bs) (sym same) bases in
      let parts : List (Left F) = map left_by books in
      let have : HaveMade books parts = have_by books in
      let stand = placed_by host.opened host.first host.limits 0 books stores given mine in
      let many : length parts ≡ 16 = length-map books left_by ∙ long in
      let sorted : List Spot = in_order (all_spots 0 parts) in
      let is : AreSorted parts sorted = can_sort parts (omega arith) stand.1 in
      let merge : List Made = merge_of parts sorted in
      let lives : LegalLives (map begin_of (map as_opened books)) (steps_of merge) = record {
        ordered = ordered host.made passes seats books parts sorted whole joined ends have long stand.0 stand.1 is;
        shards = lives_at books merge (legal_by books stores given) (part_is host.made passes seats books parts sorted whole joined ends have long stand.0 stand.1 is);
        passes = pass_rises host.made passes seats books parts sorted whole joined ends have long stand.0 stand.1 is;
      } in
      let legal : LegalLives (map begin_of host.bases) (steps_of merge) = subst (λ (bs : List (Book F)). LegalLives (map begin_of bs) (steps_of merge)) same lives in
      let wide : length (map begin_of host.bases) ≡ 16 = length-map host.bases begin_of ∙ (ap length (sym same) ∙ (length-map books as_opened ∙ long)) in
      record {
        merge = merge;
        legal = legal;
        anew = λ stood lived. legal_anew (map begin_of host.bases) stood host.opened host.first (steps_of merge) legal lived wide (homed_by host.opened host.first host.limits 0 host.bases stood bases lived);
        parts = parts_in merge 0 books stores given (all_parts host.made passes seats books parts sorted whole joined ends have long stand.0 stand.1 is);
        noted = subst (λ (bs : List (Book F)). AreNoted files faults notes bs stores) same (noted_all books stores given);
        logs = logs_in books stores given ∙ ap (map (λ (base : Book F). (notes base.start).log)) same;
        seen = all_seen_in passes books stores given (all_seen host.made passes seats books parts sorted whole joined ends have long stand.0 stand.1 is);
        passes_are = all_made host.made passes seats books parts sorted whole joined ends have long stand.0 stand.1 is;
        own = all_own host.made passes seats books parts sorted whole joined ends have long stand.0 stand.1 is;
        told = all_told host.made passes seats books parts sorted whole joined ends have long stand.0 stand.1 is;
      }

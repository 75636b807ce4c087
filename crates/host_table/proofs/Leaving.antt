-- What holds of a journal as a host leaves it.
use Rattle.std.specs.Prelude.{true, is_some, unwrap_or, IsSomeAnd, IfSome}
use Rattle.std.proofs.Common.{◌≡◌, ℕ, ◌+◌, ◌*◌, ◌≤◌, ◌<◌, Option, None, Some, ◌∙◌, List, [], ◌∷◌, length, map, refl, ap, sym, subst, arith, IsPermutation, length-append}
use Rattle.std.proofs.lemmas.List.Sorted.{length_permutation}
use Rattle.std.specs.List.{AllByRecursion}
use Rattle.turn_lock.specs.Places.{total}
use Rattle.outside.specs.Folder.{Files}
use Rattle.wopi_model.specs.File.{File}
use Rattle.wopi_model.specs.Begin.{Begin, new_life}
use Rattle.wopi_model.specs.Host.{Limits, kept_limits}
use Rattle.host_core.specs.Entries.{Made}
use Rattle.host_core.specs.Opening.{MayKeep}
use Rattle.host_core.specs.Value.{Book, InMemory, Left}
use Rattle.host_table.specs.declared.journal.Spot.{Spot}
use Rattle.host_table.specs.declared.opening.Most.{Most}
use Rattle.host_table.specs.declared.opening.Most.TheVariants as most
use Rattle.host_table.specs.Bounds.{AreOpenings, IsKept}
use Rattle.host_table.specs.Close.{capacity_of, AreTaken}
use Rattle.host_table.specs.Histories.{as_opened}
use Rattle.host_table.specs.Journal.{spots_from, all_spots, AreFound}
use Rattle.host_table.specs.Held.{IsTakenApart, IsWithinCalls}
use Rattle.host_table.specs.Start.{limits_of}
use Rattle.host_table.specs.Passes.{HostView, AreByName, AreBases, IsHost}
use Rattle.host_table.proofs.NewLives.{opening_ordered, opening_kept}
use Rattle.host_table.proofs.Reading.{merge_length}

spots_long : (shard place : ℕ) (made : List Made) → length (spots_from shard place made) ≡ length made
spots_long shard place [] = refl
spots_long shard place (one ∷ made) = let rest = spots_long shard (place + 1) made in omega (arith, rest)

-- shards that take so many calls
pub calls_kept : (m : Most) (P : ℕ → Type 0) → IsSomeAnd (limits_of m).calls P → (calls : ℕ) × (limits_of m ≡ kept_limits calls) × P calls
calls_kept (most.Calls calls) P some = (calls, refl, some)
calls_kept (most.Ids ids) P some = absurd some

pub calls_few : (m : Most) → (limits_of m).ids ≤ 32768 → IfSome (limits_of m).calls (λ calls. calls ≤ 32768)
calls_few (most.Calls calls) few = few
calls_few (most.Ids ids) few = tt

-- what a bounded store has taken
pub within_calls : (calls : Option ℕ) (made most : ℕ) → IsWithinCalls calls made → IsSomeAnd calls (λ n. n < most) → (made ≤ unwrap_or calls 0) × (unwrap_or calls 0 < most)
within_calls None made most few some = absurd some
within_calls (Some calls) made most few some = (few, some)

module _ {F : Type 0} (files : F → Option Files) (faults : F → ℕ) where
  -- a shard over a store in memory began a new life with the files of its opening
  pub life_is : (h : Book (InMemory F)) (part : Left F) (folder : F) → IsTakenApart files faults h part folder → h.begin ≡ new_life part.opening h.begin.opened h.begin.first
  life_is h part folder t = t.begin_is ∙ ap (λ (left : Left F). new_life left.opening h.begin.opened h.begin.first) (sym t.left_is)

  spots_few : (opened oldest calls j : ℕ) (books : List (Book (InMemory F))) (parts : List (Left F)) (folders : List F) → AreTaken files faults books parts folders → AreBases opened oldest (kept_limits calls) j (map as_opened books)
      → length (all_spots j parts) ≤ total capacity_of books
  spots_few opened oldest calls j [] [] [] a b = omega arith
  spots_few opened oldest calls j [] [] (f ∷ folders) a b = absurd a
  spots_few opened oldest calls j [] (p ∷ parts) [] a b = absurd a
  spots_few opened oldest calls j [] (p ∷ parts) (f ∷ folders) a b = absurd a
  spots_few opened oldest calls j (h ∷ books) [] [] a b = absurd a
  spots_few opened oldest calls j (h ∷ books) [] (f ∷ folders) a b = absurd a
  spots_few opened oldest calls j (h ∷ books) (p ∷ parts) [] a b = absurd a
  spots_few opened oldest calls j (h ∷ books) (p ∷ parts) (f ∷ folders) a b =
      let here = spots_long j 0 p.made in let made : length p.made ≡ length h.made = ap (λ (z : Left F). length z.made) a.0.left_is in
      let some : IsSomeAnd h.limits.calls (λ n. n < calls + 1) = subst (λ (l : Limits). IsSomeAnd l.calls (λ n. n < calls + 1)) (sym b.0.limits_is) (omega arith) in
      let few = (within_calls h.limits.calls (length h.made) (calls + 1) a.0.held.few some).0 in let rest = spots_few opened oldest calls (j + 1) books parts folders a.1 b.1 in
      let all = length-append (spots_from j 0 p.made) (all_spots (j + 1) parts) in
      omega (arith, here, made, few, rest, all)

  openings_are : (opened oldest : ℕ) (limits : Limits) → is_some limits.calls ≡ true → (j : ℕ) (books : List (Book (InMemory F))) (parts : List (Left F)) (folders : List F) → AreTaken files faults books parts folders → AreBases opened oldest limits j (map as_opened books) → AreOpenings j parts
  openings_are opened oldest limits some j [] [] [] a b = tt
  openings_are opened oldest limits some j [] [] (f ∷ folders) a b = absurd a
  openings_are opened oldest limits some j [] (p ∷ parts) [] a b = absurd a
  openings_are opened oldest limits some j [] (p ∷ parts) (f ∷ folders) a b = absurd a
  openings_are opened oldest limits some j (h ∷ books) [] [] a b = absurd a
  openings_are opened oldest limits some j (h ∷ books) [] (f ∷ folders) a b = absurd a
  openings_are opened oldest limits some j (h ∷ books) (p ∷ parts) [] a b = absurd a
  openings_are opened oldest limits some j (h ∷ books) (p ∷ parts) (f ∷ folders) a b =
      let life = life_is h p f a.0 in
      let first = h.begin.first in
      let P : Option ℕ × Begin → Type 0 = λ z. AllByRecursion (λ (file : List ℕ × File). MayKeep z.0 file.0) z.1.files in
      let both : (h.only, h.begin) ≡ (Some j, new_life p.opening h.begin.opened first) = λ i. (b.0.only i, life i) in (
        (opening_ordered first p.opening (subst (λ (z : Begin). AreByName z.files) life (b.0.ordered (ap (λ (l : Limits). is_some l.calls) b.0.limits_is ∙ some))), opening_kept (Some j) first p.opening (subst P both b.0.names)),
        openings_are opened oldest limits some (j + 1) books parts folders a.1 b.1,
      )

  pub journal_kept : (host : HostView (InMemory F)) (calls : ℕ) (books : List (Book (InMemory F))) (parts : List (Left F)) (folders : List F) (sorted : List Spot) → IsHost host → host.limits ≡ kept_limits calls
      → AreBases host.opened host.first host.limits 0 (map as_opened books)
      → total capacity_of books ≡ 16 * calls → AreTaken files faults books parts folders → IsPermutation (all_spots 0 parts) sorted → AreFound parts sorted → IsKept host.opened host.first parts sorted
  journal_kept host calls books parts folders sorted is limits bases sums taken moved found =
      let long = merge_length parts sorted found in let same = length_permutation (all_spots 0 parts) sorted moved in
      let mine = subst (λ (l : Limits). AreBases host.opened host.first l 0 (map as_opened books)) limits bases in
      let few = spots_few host.opened host.first calls 0 books parts folders taken mine in
      let small : calls ≤ 32768 = subst (λ (l : Limits). IfSome l.calls (λ n. n ≤ 32768)) limits is.small in
      record {
        found = found;
        head = record {
          opened_is = is.opened_is;
          first_is = is.first_is;
          openings_are = openings_are host.opened host.first host.limits (ap (λ (l : Limits). is_some l.calls) limits) 0 books parts folders taken bases;
        };
        few = omega (arith, long, same, few, small, sums);
      }

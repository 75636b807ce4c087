-- From a host over logs that worked to a run of `serve` that keeps them.
use Rattle.std.proofs.Common.{◌≡◌, ℕ, ◌≤◌, ◌<◌, ◌||◌, Bool, true, false, if◌then◌else◌, inr, List, [], ◌∷◌, length, map, Option, refl, sym, ap, ◌∙◌, subst}
use Rattle.std.specs.List.{AllByRecursion, flat_map, list_any}
use Rattle.host_core.specs.Entries.{Made}
use Rattle.host_core.specs.Times.{steps_of}
use Rattle.host_core.specs.Value.{Book, Left}
use Rattle.host_log.specs.Logs.{LogView}
use Rattle.wopi_model.specs.Begin.{new_life}
use Rattle.wopi_model.specs.Host.{LegalHost}
use Rattle.wopi_model.specs.Shard.{Opening}
use Rattle.host_table.specs.Journal.{JournalView}
use Rattle.host_table.specs.Passes.{HostView, PassView}
use Rattle.host_table.specs.Start.{StartsWithin, AreBegun, log_in, start_of}
use Rattle.host_table.specs.Close.{AreNoted, AreNotedParts, AreSeen, AreSeenIn, begin_of}
use Rattle.host_table.proofs.Starting.{begun_starts}
use Rattle.host_server.specs.declared.desk.Desk.{Desk}
use Rattle.access_tokens.specs.declared.keys.Keys.{Keys}
use Rattle.wopi_program.specs.declared.outside_world.Outside.{Outside}
use Rattle.wopi_program.specs.declared.serve_words.Keep.{Keep}
use Rattle.wopi_program.specs.declared.serve_words.ServeAsk.{ServeAsk}
use Rattle.wopi_program.specs.declared.serving.ServeEnd.{ServeEnd}
use Rattle.wopi_program.specs.declared.serving.ServeEnd.TheVariants as end
use Rattle.wopi_program.specs.Meanings.{Meanings}
use Rattle.wopi_program.specs.Journal.{IsJournal, AreOpened, AreWorkers}
use Rattle.wopi_program.specs.Keep.{AreKept, HasKept, HasWorkedOut, KeepRuns, endless, folder_after, folder_before, is_lost, kept_end, log_after, log_before, losing, lost_in, part_in}
use Rattle.wopi_program.specs.Paired.{AreAnew, HasKeptHost, faults_of, files_of, lost_store, notes_of}
use Rattle.wopi_program.specs.Serve.{Opens, is_fault, is_memory}
use Rattle.wopi_program.specs.Watched.{SawNearlyFull, TellsOf, none_raised}
use Rattle.wopi_program.proofs.KeepLives.{HasLives, HasRows, Life, Row, folder_of, folder_then, last_in, last_of, life_of, lives_of, log_of, log_then, map_map, part_of, rows_based, rows_begin, rows_kept, rows_lost, rows_of, rows_opened, rows_openings, rows_parts, rows_seen, shard_of_row, times_of}
use Rattle.wopi_program.proofs.Merged.{AreBased, IsMerged}
use Rattle.wopi_program.proofs.ReturnedLemmas.{eye_ended, eye_of, returned_sure, returned_whose, returned_workers}
use Rattle.wopi_program.proofs.WatchLemmas.{saw}
use Rattle.wopi_program.proofs.WorkerLemmas.{visits_of}

-- ends that no run has that keeps logs and opened a host
abbrev IsOther : ServeEnd → Type 0
IsOther end.WriteFault = Unit {0}
IsOther end.FolderFault = Unit {0}
IsOther (end.TooLarge name) = Unit {0}
IsOther _ = ⊥

no_other : (lost wanted failed : Bool) (e : ServeEnd) → IsOther e
    → (if lost then end.JournalFault else if wanted then end.Memory else if failed then end.ListenerFault else end.Served) ≡ e → ⊥
no_other true wanted failed e other is = subst IsOther (sym is) other
no_other false true failed e other is = subst IsOther (sym is) other
no_other false false true e other is = subst IsOther (sym is) other
no_other false false false e other is = subst IsOther (sym is) other

module _ {S K F N D C G L : Type 0} (m : Meanings S K F N D C G L) (keys : Keys) (base : List ℕ) (origin : Option (List ℕ)) (ask : ServeAsk) (keep : Keep) (desk : Desk) (opened : ℕ)
    (host : HostView (LogView F)) (first : PassView (LogView F)) (old mid new : Outside S K F N D C G) (keys_are : desk.keys ≡ keys) (base_is : desk.base ≡ base)
    (editor_is : desk.editor ≡ ask.editor) (origin_is : desk.origin ≡ origin) (opened_is : desk.opened ≡ opened) (opens : Opens m.work.moments opened old.clocks.items mid.clocks.items)
    (listeners_are : mid.listeners.items ≡ old.listeners.items) (notes_are : mid.notes ≡ old.notes) (stores : List (LogView F))
    (anew : AreAnew m.log_held m.log_faults keep.syncs_all 0 old.folders.items old.logs.items stores)
    (starts : StartsWithin (files_of m.files) (times_of m keep.syncs_all opened ask.first (endless keep.ids)) (faults_of m.folder_faults) stores (endless keep.ids) opened ask.first host first)
    (some : 1 ≤ ask.first) (many : length host.bases ≡ 16) (run_end : ServeEnd) (kept : HasKeptHost m desk host run_end mid new) where
  abbrev ended_host : HostView (LogView F)
  ended_host = record host { made = kept.made }

  -- each store at the end has the log of the one at its place
  logs_same : map (log_in notes_of) kept.stores ≡ map (log_in notes_of) stores
  logs_same = kept.leaves.logs ∙ sym (map_start host.bases) ∙ ap (map (log_in notes_of)) (begun_starts _ _ _ opened ask.first (endless keep.ids) 0 stores host.bases starts.bases)
    where
      map_start : (bases : List (Book (LogView F))) → map (log_in notes_of) (map start_of bases) ≡ map (λ (b : Book (LogView F)). b.start.notes.log) bases
      map_start [] = refl
      map_start (b ∷ bases) = ap (λ l. b.start.notes.log ∷ l) (map_start bases)

  lives : HasLives m.log_held m.log_synced m.log_faults keep.syncs_all 0 old.folders.items old.logs.items stores kept.stores new.folders.items new.logs.items
  lives = lives_of m.log_held m.log_synced m.log_faults keep.syncs_all 0 old.folders.items old.logs.items stores kept.stores new.folders.items new.logs.items anew logs_same kept.parted

  rows : HasRows m keep.syncs_all opened ask.first (endless keep.ids) 0 lives.lives host.bases
  rows =
      rows_of m keep.syncs_all opened ask.first (endless keep.ids) 0 lives.lives host.bases lives.are
      (subst (λ (l : List (LogView F)). AreBegun (files_of m.files) (times_of m keep.syncs_all opened ask.first (endless keep.ids)) (faults_of m.folder_faults) opened ask.first (endless keep.ids) 0 l host.bases) (sym lives.stores_are) starts.bases)
      (subst (λ (l : List (LogView F)). AreNoted (files_of m.files) (faults_of m.folder_faults) notes_of host.bases l) (sym lives.lasts_are) kept.leaves.noted)

  -- of the lives, by row
  mapped : {A : Type 0} (f : Life F G → A) (l : List A) → map f lives.lives ≡ l → map (λ (row : Row F G). f row.life) rows.rows ≡ l
  mapped f l is = sym (map_map life_of f rows.rows) ∙ ap (map f) rows.lives_are ∙ is

  lasts_are : map last_in rows.rows ≡ kept.stores
  lasts_are = mapped last_of kept.stores lives.lasts_are

  abbrev told_journal : JournalView F
  told_journal = record { opened = opened; first = ask.first; parts = map part_of rows.rows; merge = kept.leaves.merge }

  based : AreBased opened ask.first host.bases told_journal.parts
  based = subst (λ (l : List (Book (LogView F))). AreBased opened ask.first l told_journal.parts) rows.bases_are (rows_based m keep.syncs_all opened ask.first (endless keep.ids) 0 rows.rows rows.are)

  all_seen : (passes : List (PassView (LogView F))) → AllByRecursion (λ pass. AreSeenIn notes_of pass.seats kept.stores) passes → AllByRecursion (λ pass. AreSeen pass.seats told_journal.parts) passes
  all_seen [] seen = tt
  all_seen (pass ∷ passes) seen =
      (rows_seen pass.seats rows.rows (subst (λ (l : List (LogView F)). AreSeenIn notes_of pass.seats l) (sym lasts_are) seen.0), all_seen passes seen.1)

  merged : IsMerged ended_host kept.passes told_journal
  merged = record {
    opened_is = sym starts.opened_is;
    first_is = sym starts.first_is;
    based = subst (λ (z : ℕ × ℕ). AreBased z.0 z.1 host.bases told_journal.parts) (λ i. (sym starts.opened_is i, sym starts.first_is i)) based;
    seen = all_seen kept.passes kept.leaves.seen;
    passes_are = kept.leaves.passes_are;
    own = kept.leaves.own;
  }

  begins_are : map begin_of host.bases ≡ map (λ opening. new_life opening host.opened host.first) (map (λ (p : Left F). p.opening) told_journal.parts)
  begins_are =
      ap (map begin_of) (sym rows.bases_are) ∙ rows_begin m keep.syncs_all opened ask.first (endless keep.ids) 0 rows.rows rows.are
      ∙ (λ i. map (λ opening. new_life opening (sym starts.opened_is i) (sym starts.first_is i)) (map (λ (p : Left F). p.opening) told_journal.parts))

  is_journal : IsJournal m old.folders.items opened ask.first told_journal
  is_journal =
      let stands = kept.leaves.anew (map (λ (p : Left F). p.opening) told_journal.parts) begins_are in
      let at : (host.opened, host.first) ≡ (opened, ask.first) = λ i. (starts.opened_is i, starts.first_is i) in
      record {
        opened_is = refl;
        first_is = refl;
        legal = subst (λ (o : Opening). LegalHost o opened ask.first (steps_of kept.leaves.merge)) (rows_openings rows.rows)
            (subst (λ (z : ℕ × ℕ). LegalHost (flat_map (λ (opening : Opening). opening) (map (λ (p : Left F). p.opening) told_journal.parts)) z.0 z.1 (steps_of kept.leaves.merge)) at stands);
        parts = rows_parts kept.leaves.merge 0 rows.rows (subst (λ (l : List (LogView F)). AreNotedParts notes_of kept.leaves.merge 0 l) (sym lasts_are) kept.leaves.parts);
        opens = subst (λ (l : List F). AreOpened m 0 l told_journal.parts) (mapped folder_of old.folders.items lives.folders_are) (rows_opened m keep.syncs_all opened ask.first (endless keep.ids) 0 rows.rows rows.are);
      }

  saw_them : SawNearlyFull m.held m.write_faults (endless keep.ids) told_journal old.notes new.notes
  saw_them =
      let eye = eye_of (losing m) desk host kept.made kept.marks kept.passes kept.ends _ _ _ _ kept.returned many in
      let ended = eye_ended (losing m) desk host kept.made kept.marks kept.passes kept.ends _ _ _ _ kept.returned told_journal merged many in
      let told : TellsOf m.held m.write_faults old.notes new.notes none_raised kept.marks =
      subst (λ (k : K). TellsOf m.held m.write_faults k new.notes none_raised kept.marks) notes_are kept.told
      in
      saw ended_host kept.returned.eye' told_journal merged.opened_is merged.first_is eye.of_host ended.1.seen merged.based eye.wide m.held m.write_faults (endless keep.ids) old.notes new.notes kept.marks
      (eye.limits ∙ starts.limits_is) told kept.returned.right

  has_kept : HasKept m keys base origin ask keep kept.ends (map shard_of_row rows.rows) told_journal old new
  has_kept =
      let visits = visits_of (losing m).work desk kept.returned.olds kept.returned.news kept.returned.works in
      let workers = returned_workers (losing m) desk host kept.made kept.marks kept.passes kept.ends _ _ _ _ kept.returned told_journal merged many in
      let whose = returned_whose (losing m) desk host kept.made kept.marks kept.passes kept.ends _ _ _ _ kept.returned told_journal merged many in
      let sure = returned_sure (losing m) desk host kept.made kept.marks kept.passes kept.ends _ _ _ _ kept.returned told_journal merged many kept.leaves.told in
      record {
        desk = desk;
        mid = mid.clocks.items;
        visits = visits;
        keys_are = keys_are;
        base_is = base_is;
        editor_is = editor_is;
        origin_is = origin_is;
        opens = subst (λ n. Opens m.work.moments n old.clocks.items mid.clocks.items) (sym opened_is) opens;
        journal_is = subst (λ n. IsJournal m old.folders.items n ask.first told_journal) (sym opened_is) is_journal;
        whose = subst (λ (l : List N). AllByRecursion (λ (one : Made). one.step.pass < length l) told_journal.merge) listeners_are whose;
        folders_were = map_map shard_of_row folder_before rows.rows ∙ mapped folder_of old.folders.items lives.folders_are;
        logs_were = map_map shard_of_row log_before rows.rows ∙ mapped log_of old.logs.items lives.logs_are;
        parts_are = map_map shard_of_row part_in rows.rows;
        folders_are = map_map shard_of_row folder_after rows.rows ∙ mapped folder_then new.folders.items lives.folders_then;
        logs_are = map_map shard_of_row log_after rows.rows ∙ mapped log_then new.logs.items lives.logs_then;
        kept = subst (λ n. AreKept m keep.syncs_all n ask.first 0 (map shard_of_row rows.rows)) (sym opened_is) (rows_kept m keep.syncs_all opened ask.first (endless keep.ids) 0 rows.rows some rows.are);
        workers = subst (λ (l : List N). AreWorkers (losing m) desk (endless keep.ids) told_journal 0 visits kept.ends l new.listeners.items mid.clocks.items new.clocks.items) listeners_are
            (subst (λ k. AreWorkers (losing m) desk k told_journal 0 visits kept.ends mid.listeners.items new.listeners.items mid.clocks.items new.clocks.items) starts.limits_is workers);
        sure = sure;
      }

  pub kept_runs : KeepRuns m keys base origin ask keep new.notes run_end old new
  kept_runs = go run_end ends_so
    where
      lost_is : list_any lost_store kept.stores ≡ list_any lost_in (map shard_of_row rows.rows)
      lost_is = ap (list_any lost_store) (sym lasts_are) ∙ rows_lost rows.rows

      ends_so : kept_end (list_any lost_in (map shard_of_row rows.rows)) kept.ends ≡ run_end
      ends_so = ap (λ (b : Bool). kept_end b kept.ends) (sym lost_is) ∙ kept.end_is

      worked : (e : ServeEnd) → kept_end (list_any lost_in (map shard_of_row rows.rows)) kept.ends ≡ e → HasWorkedOut m keys base origin ask keep new.notes e old new
      worked e is = (told_journal, kept.ends, map shard_of_row rows.rows, has_kept, saw_them, is)

      apart : (e : ServeEnd) → IsOther e → kept_end (list_any lost_in (map shard_of_row rows.rows)) kept.ends ≡ e → ⊥
      apart e other is =
          no_other (list_any lost_in (map shard_of_row rows.rows) || list_any is_lost kept.ends) (list_any is_memory kept.ends) (list_any is_fault kept.ends) e other is

      go : (e : ServeEnd) → kept_end (list_any lost_in (map shard_of_row rows.rows)) kept.ends ≡ e → KeepRuns m keys base origin ask keep new.notes e old new
      go end.Served is = worked end.Served is
      go end.ListenerFault is = worked end.ListenerFault is
      go end.JournalFault is = inr (worked end.JournalFault is)
      go end.Memory is = inr (worked end.Memory is)
      go end.WriteFault is = absurd (apart end.WriteFault tt is)
      go end.FolderFault is = absurd (apart end.FolderFault tt is)
      go (end.TooLarge name) is = absurd (apart (end.TooLarge name) tt is)

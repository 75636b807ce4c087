-- The journal that a run of `serve` writes is legal, and `audit` says so.
use Rattle.std.proofs.Common.{◌≡◌, ◌≢◌, ◌⊎◌, ℕ, ◌+◌, ◌<◌, ◌≤◌, List, [], ◌∷◌, ◌++◌, length, map, Option, None, Some, sym, ap, ◌∙◌, subst, append-nil, inl, inr, arith}
use Rattle.std.proofs.lemmas.Bool.{cases_eq}
use Rattle.std.specs.Io.KnownBytes.{Appends, Consumes, IsAtEnd}
use Rattle.std.specs.List.{AllByRecursion}
use Rattle.wopi_model.specs.Shard.{Entry}
use Rattle.host_core.specs.Entries.{Made}
use Rattle.host_core.specs.Times.{IsTimely, steps_of}
use Rattle.host_core.specs.Value.{Left}
use Rattle.host_table.specs.Bounds.{KeepsBounds}
use Rattle.host_table.specs.Journal.{AreParts, JournalView, openings}
use Rattle.host_table.specs.Text.{journal_text}
use Rattle.host_server.specs.declared.working.WorkEnd.{WorkEnd}
use Rattle.journal_text.specs.declared.text.JournalText.{JournalText}
use Rattle.journal_text.specs.Inputs.{IsWhole}
use Rattle.journal_text.specs.Journals.{IsReading}
use Rattle.journal_text.specs.Told.{line_of, told_by}
use Rattle.journal_audit.specs.declared.verdict.AuditFault.{AuditFault}
use Rattle.journal_audit.specs.Lines.{Begun, IsBadLine, LegalLines, LegalText, opened_host}
use Rattle.journal_audit.specs.Merges.{AreTimely, ComesBehind, GoesOn, made_in}
use Rattle.access_tokens.specs.declared.keys.Keys.{Keys}
use Rattle.wopi_program.specs.declared.outside_world.Outside.{Outside}
use Rattle.wopi_program.specs.declared.serve_words.ServeAsk.{ServeAsk}
use Rattle.wopi_program.specs.declared.serving.ServeEnd.{ServeEnd}
use Rattle.wopi_program.specs.declared.serving.ServeEnd.TheVariants as end
use Rattle.wopi_program.specs.Audit.{AuditEnds, IsJudged, legal_line}
use Rattle.wopi_program.specs.Edit.{Tells}
use Rattle.wopi_program.specs.Journal.{AreLeft, IsJournal}
use Rattle.wopi_program.specs.JournalRuns.{Takes}
use Rattle.wopi_program.specs.LegalJournals.{CallsLegal, IsLegalJournal}
use Rattle.wopi_program.specs.Meanings.{Meanings}
use Rattle.wopi_program.specs.Serve.{HasServed, HasWritten, ServeRuns}
use Rattle.wopi_program.specs.EditorWords.{origin_told}
use Rattle.wopi_program.specs.ServeEnds.{ServeEnds, ServeFinishes}
use Rattle.wopi_program.specs.ServeWords.{IsServeRow}

-- a status is none of the two at which a journal is written whole
neither : (status other : ℕ) → 0 < other → other ≢ 10 → status ≡ other → (status ≡ 0) ⊎ (status ≡ 10) → ⊥
neither status other some apart is (inl zero) = absurd (omega (arith, some, is, zero))
neither status other some apart is (inr ten) = apart (sym is ∙ ten)

-- ---- a host's journal

-- nothing comes before the first entry
none_before : (entries : List Entry) → AllByRecursion (ComesBehind None) entries
none_before [] = tt
none_before (entry ∷ entries) = (tt, none_before entries)

module _ {S K F N D C G L : Type 0} (m : Meanings S K F N D C G L) where
  -- each shard's time goes on with its entries
  timely_from : (opened first shard n : ℕ) (merge : List Made) (folders : List F) (parts : List (Left F)) (folders' : List F) → AreParts merge shard parts →
      AreLeft m opened first shard folders parts folders' → shard ≤ n → n < shard + length folders → IsTimely opened (made_in n merge)
  timely_from opened first shard n merge [] parts folders' these left le less = absurd (omega (arith, le, less))
  timely_from opened first shard n merge (folder ∷ folders) [] [] these left le less = absurd left
  timely_from opened first shard n merge (folder ∷ folders) [] (other ∷ others) these left le less = absurd left
  timely_from opened first shard n merge (folder ∷ folders) (part ∷ parts) [] these left le less = absurd left
  timely_from opened first shard n merge (folder ∷ folders) (part ∷ parts) (other ∷ others) these left le less =
      elim (cases_eq shard n) [
        | inl same ↦ subst (λ (l : List Made). IsTimely opened l) (these.0 ∙ ap (λ k. made_in k merge) same) left.0.timely
        | inr apart ↦ timely_from opened first (shard + 1) n merge folders parts others these.1 left.1 (omega (arith, le, apart)) (omega (arith, less))
      ]

  goes_on : (opened first : ℕ) (folders folders' : List F) (journal : JournalView F) → length folders ≡ 16 → IsJournal m folders opened first journal →
      AreLeft m opened first 0 folders journal.parts folders' → GoesOn (opened_host (openings journal.parts) journal.opened journal.first) journal.merge
  goes_on opened first folders folders' journal many is left =
      let timely : AreTimely (λ shard. opened) journal.merge = λ n small.
      timely_from opened first 0 n journal.merge folders journal.parts folders' is.parts left (omega arith) (omega (arith, small, many)) in
      let goes : GoesOn (opened_host (openings journal.parts) opened first) journal.merge =
      record {
        ordered = is.legal.ordered;
        behind = none_before (steps_of journal.merge);
        shards = λ shard small. (is.legal.shards shard small).allowed;
        passes = is.legal.passes;
        times = timely;
      } in
      subst (λ (n : ℕ). GoesOn (opened_host (openings journal.parts) n journal.first) journal.merge) (sym is.opened_is)
      (subst (λ (n : ℕ). GoesOn (opened_host (openings journal.parts) opened n) journal.merge) (sym is.first_is) goes)

  module _ (tells : (begun : Begun) (made : List Made) → GoesOn begun made → LegalLines begun (map line_of made)) where
    pub served_legal : (keys : Keys) (base : List ℕ) (origin : Option (List ℕ)) (ask : ServeAsk) (ends : List WorkEnd) (journal : JournalView F) (old new : Outside S K F N D C G) → length old.folders.items ≡ 16 →
        HasServed m keys base origin ask ends journal old new → LegalText (told_by journal)
    served_legal keys base origin ask ends journal old new many served =
        tells (opened_host (openings journal.parts) journal.opened journal.first) journal.merge
        (goes_on served.desk.opened ask.first old.folders.items new.folders.items journal many served.journal_is served.folders_are)

    module _ (reads : (journal : JournalView F) → KeepsBounds journal → IsReading (journal_text journal) (told_by journal)) (old new : Outside S K F N D C G) (before : List ℕ)
        (many : length old.folders.items ≡ 16) (held : m.held old.output ≡ Some before) where
      -- the output grew by a legal journal
      abbrev Written : Type 0
      Written = (bytes : List ℕ) × (text : JournalText) × (m.held new.output ≡ Some (before ++ bytes)) × IsLegalJournal bytes text

      grew : (held' : Option (List ℕ)) (bytes : List ℕ) → Appends (Some before) held' bytes → held' ≡ Some (before ++ bytes)
      grew None bytes h = absurd h
      grew (Some now) bytes h = ap (λ (l : List ℕ). Some l) h

      written_by : (keys : Keys) (base : List ℕ) (origin : Option (List ℕ)) (ask : ServeAsk) (notes : K) (run_end : ServeEnd) → HasWritten m keys base origin ask notes run_end old new → Written
      written_by keys base origin ask notes run_end (journal, ends, served, told, appends, ended, keeps) = (
        journal_text journal,
        told_by journal,
        grew (m.held new.output) (journal_text journal) (subst (λ (o : Option (List ℕ)). Appends o (m.held new.output) (journal_text journal)) held appends),
        record { read = reads journal keeps; legal = served_legal keys base origin ask ends journal old new many served },
      )

      of_end : (status : ℕ) (keys : Keys) (base : List ℕ) (origin : Option (List ℕ)) (ask : ServeAsk) (notes : K) (run_end : ServeEnd) → ServeRuns m keys base origin ask notes run_end old new →
          ServeFinishes m.held m.write_faults status notes new.notes run_end → (status ≡ 0) ⊎ (status ≡ 10) → Written
      of_end status keys base origin ask notes end.Served runs finishes is = written_by keys base origin ask notes end.Served runs
      of_end status keys base origin ask notes end.ListenerFault runs finishes is = written_by keys base origin ask notes end.ListenerFault runs
      of_end status keys base origin ask notes end.WriteFault runs finishes is = absurd (neither status 4 (omega arith) (omega arith) finishes.0 is)
      of_end status keys base origin ask notes end.FolderFault runs finishes is = absurd (neither status 5 (omega arith) (omega arith) finishes.0 is)
      of_end status keys base origin ask notes (end.TooLarge name) runs (inl told) is = absurd (neither status 12 (omega arith) (omega arith) told.0 is)
      of_end status keys base origin ask notes (end.TooLarge name) runs (inr want) is = absurd (neither status 6 (omega arith) (omega arith) want.0 is)
      of_end status keys base origin ask notes end.JournalFault runs finishes is = absurd runs
      of_end status keys base origin ask notes end.Memory runs finishes is = absurd (neither status 6 (omega arith) (omega arith) finishes.0 is)

      pub written : (words : List (List ℕ)) (status : ℕ) → ((keys : Keys) (base : List ℕ) (ask : ServeAsk) → IsServeRow words keys base ask → ask.keep ≡ None) → ServeEnds m words status old new
          → (status ≡ 0) ⊎ (status ≡ 10) → Written
      written words status plain (inl want) is = absurd (neither status 6 (omega arith) (omega arith) want.status_is is)
      written words status plain (inr (inr kept)) is = absurd (cc (sym (plain kept.keys kept.base kept.ask kept.row) ∙ kept.keeps))
      written words status plain (inr (inl ran)) is = of_end status ran.keys ran.base (origin_told ran.row.options) ran.ask ran.notes ran.end ran.runs ran.finishes is

-- ---- a run of `audit`

-- the bytes of an input that was read to its end
whole_is : (left left' : Option (List ℕ)) (bytes whole : List ℕ) → left ≡ Some bytes → IsWhole left left' whole → bytes ≡ whole
whole_is left left' bytes whole is w = go left' w.end (subst (λ (l : Option (List ℕ)). Consumes l left' whole) is w.consumed)
  where
    go : (l : Option (List ℕ)) → IsAtEnd l → Consumes (Some bytes) l whole → bytes ≡ whole
    go None end c = absurd c
    go (Some rest) end c = c ∙ (ap (λ (r : List ℕ). whole ++ r) end ∙ append-nil whole)

told_at_0 : (held held' : Option (List ℕ)) (status : ℕ) (last : List ℕ) → Tells held held' status 0 [] last → status ≡ 0 → Appends held held' last
told_at_0 held held' status last (inl whole) zero = whole.1
told_at_0 held held' status last (inr (some, inl cut)) zero = let four = cut.0 in absurd (omega (arith, four, zero))
told_at_0 held held' status last (inr (some, inr (six, more))) zero = absurd (omega (arith, six, zero))

told_not : (held held' : Option (List ℕ)) (status other : ℕ) (last : List ℕ) → 6 < other → Tells held held' status 0 [] last → status ≢ other
told_not held held' status other last high (inl (zero, whole)) is = absurd (omega (arith, high, zero, is))
told_not held held' status other last high (inr (some, inl cut)) is = let four = cut.0 in absurd (omega (arith, high, four, is))
told_not held held' status other last high (inr (some, inr (six, more))) is = absurd (omega (arith, high, six, is))

module _ {S K F N D C G L : Type 0} (m : Meanings S K F N D C G L)
    (one_reading : (bytes : List ℕ) (text other : JournalText) → IsReading bytes text → IsReading bytes other → text ≡ other)
    (illegal : (text : JournalText) (number : ℕ) (wrong : AuditFault) → IsBadLine text number wrong → LegalText text → ⊥)
    (bytes : List ℕ) (text : JournalText) (is : IsLegalJournal bytes text) (status : ℕ) (old new : Outside S K F N D C G) (given : m.left old.input ≡ Some bytes) where
  -- a run that ends so at another status than these
  ends_at : (at : ℕ) → status ≡ at → at ≢ 0 → at ≢ 7 → at ≢ 14 → CallsLegal m text status old new
  ends_at at ended not_0 not_7 not_14 = record {
    told = λ zero. absurd (not_0 (sym ended ∙ zero));
    has_no_bad_line = λ seven. not_7 (sym ended ∙ seven);
    has_no_fault = λ fault. not_14 (sym ended ∙ fault);
  }

  judged : IsJudged m.held text status old.output new.output → CallsLegal m text status old new
  judged (inl wanting) = ends_at 6 wanting.0 (omega arith) (omega arith) (omega arith)
  judged (inr (inl (legal, tells))) = record {
    told = told_at_0 (m.held old.output) (m.held new.output) status (legal_line (length text.lines)) tells;
    has_no_bad_line = told_not (m.held old.output) (m.held new.output) status 7 (legal_line (length text.lines)) (omega arith) tells;
    has_no_fault = told_not (m.held old.output) (m.held new.output) status 14 (legal_line (length text.lines)) (omega arith) tells;
  }
  judged (inr (inr (number, wrong, bad, tells))) = absurd (illegal text number wrong bad is.legal)

  taken : Takes m (IsJudged m.held) status old new → CallsLegal m text status old new
  taken (inl unrun) = elim unrun.statuses [
    | inl three ↦ ends_at 3 three (omega arith) (omega arith) (omega arith)
    | inr six ↦ ends_at 6 six (omega arith) (omega arith) (omega arith)
  ]
  taken (inr (inl long)) = ends_at 13 long.status_is (omega arith) (omega arith) (omega arith)
  taken (inr (inr (inl bad))) =
      let same = whole_is (m.left old.input) (m.left new.input) bytes bad.bad.bytes given bad.bad.whole in
      absurd (bad.bad.bad.unread text (subst (λ (b : List ℕ). IsReading b text) same is.read))
  taken (inr (inr (inr done))) =
      let same = whole_is (m.left old.input) (m.left new.input) bytes done.read.bytes given done.read.whole in
      let one = one_reading done.read.bytes done.text text done.read.read (subst (λ (b : List ℕ). IsReading b text) same is.read) in
      judged (subst (λ (t : JournalText). IsJudged m.held t status old.output new.output) one done.does)

  pub audited : AuditEnds m status old new → CallsLegal m text status old new
  audited ends = taken ends.audits.takes

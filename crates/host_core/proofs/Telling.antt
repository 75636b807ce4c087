-- What a shard tells of a file, by what it keeps.
use Rattle.std.proofs.Common.{◌≡◌, ℕ, suc, max, Bool, List, [], ◌∷◌, length, Option, None, Some, IfSome, refl, sym, ap, subst, ◌∙◌}
use Rattle.wopi_model.specs.declared.calls.Call.{Call}
use Rattle.wopi_model.specs.Begin.{Begin, at_name}
use Rattle.wopi_model.specs.File.{File}
use Rattle.wopi_model.specs.Host.{file_at, found_at}
use Rattle.wopi_model.specs.Moment.{IsMoment}
use Rattle.wopi_model.specs.Settle.{settled}
use Rattle.wopi_model.specs.Step.{Decision, decision}
use Rattle.kept_locks.specs.Locks.{Locks, Standing, unlocked}
use Rattle.name_index.specs.Index.{number_of}
use Rattle.host_core.specs.declared.file.KeptFile.{KeptFile}
use Rattle.host_core.specs.declared.files.Rack.{Rack}
use Rattle.host_core.specs.declared.ledger.Ledger.{Ledger}
use Rattle.host_core.specs.Entries.{Made, history_of, items_of}
use Rattle.host_core.specs.Facts.{AreDigested, Dates, date_in, dates_of, facts_of, is_accept, is_late, late_if, saved_at, undigested}
use Rattle.host_core.specs.Files.{files_of}
use Rattle.host_core.specs.Ledger.{HasSpare, IsTied, files_in}
use Rattle.host_core.specs.Names.{AreOnce, place_in}
use Rattle.host_core.specs.Notes.{Notes}
use Rattle.host_core.specs.Numbers.{named}
use Rattle.host_core.specs.Turns.{AllStand}
use Rattle.host_core.specs.Value.{Book, Reflects, state_of}
use Rattle.host_core.specs.Whole.{Whole, whole, joined}
use Rattle.host_core.proofs.Dating.{saved-history}
use Rattle.host_core.proofs.Finding.{found_decision}
use Rattle.host_core.proofs.History.{shown-file}
use Rattle.host_core.proofs.Meeting.{locked_same}

-- what doesn't look at digests is the same without them
joined_bare : (files : List KeptFile) (ss : List Standing) → joined (undigested files) ss ≡ joined files ss
joined_bare [] ss = refl
joined_bare (k ∷ files) [] = ap (λ (l : List Whole). whole k unlocked ∷ l) (joined_bare files [])
joined_bare (k ∷ files) (s ∷ ss) = ap (λ (l : List Whole). whole k s ∷ l) (joined_bare files ss)

named_bare : (files : List KeptFile) → named (undigested files) ≡ named files
named_bare [] = refl
named_bare (k ∷ files) = ap (λ (l : List (List ℕ)). k.name ∷ l) (named_bare files)

dates_bare : (files : List KeptFile) → dates_of (undigested files) ≡ dates_of files
dates_bare [] = refl
dates_bare (k ∷ files) = ap (λ (l : List (List ℕ × ℕ)). (k.name, k.saved) ∷ l) (dates_bare files)

long_bare : (files : List KeptFile) → length (undigested files) ≡ length files
long_bare [] = refl
long_bare (k ∷ files) = ap suc (long_bare files)

-- once digests were computed
module _ (ledger : Ledger) (rack : Rack) (notes : Notes) (bare : undigested rack.files.items ≡ undigested ledger.rack.files.items) (locks : rack.locks ≡ ledger.rack.locks) where
  pub files_told : files_in (record ledger { rack = rack }) ≡ files_in ledger
  files_told =
      ap (λ (l : Locks). joined rack.files.items l.files) locks
      ∙ sym (joined_bare rack.files.items ledger.rack.locks.files) ∙ ap (λ (f : List KeptFile). joined f ledger.rack.locks.files) bare ∙ joined_bare ledger.rack.files.items ledger.rack.locks.files

  pub tied_told : AreDigested rack.files.items → rack.index ≡ ledger.rack.index → IsTied ledger notes → IsTied (record ledger { rack = rack }) notes
  tied_told digests index tied =
      let names : named rack.files.items ≡ named ledger.rack.files.items = sym (named_bare rack.files.items) ∙ ap named bare ∙ named_bare ledger.rack.files.items in
      let dates : dates_of rack.files.items ≡ dates_of ledger.rack.files.items = sym (dates_bare rack.files.items) ∙ ap dates_of bare ∙ dates_bare ledger.rack.files.items in
      let long : length rack.files.items ≡ length ledger.rack.files.items = sym (long_bare rack.files.items) ∙ ap (λ (l : List KeptFile). length l) bare ∙ long_bare ledger.rack.files.items in
      record {
        numbered = λ name. ap (λ (i : List (List ℕ × ℕ)). number_of i name) index ∙ tied.numbered name ∙ sym (ap (λ (n : List (List ℕ)). place_in n name) names);
        locked = locked_same ledger.rack.files.items rack.files.items ledger.rack.locks rack.locks ledger.time long locks tied.locked;
        stand = subst (λ (l : Locks). AllStand ledger.time l.files) (sym locks) tied.stand;
        once = subst AreOnce (sym names) tied.once;
        spare = subst (λ (l : Locks). HasSpare ledger.calls ledger.ids l (length notes.made)) (sym locks) tied.spare;
        slots = tied.slots;
        opened = tied.opened;
        first = tied.first;
        ended = tied.ended;
        dated = record {
          saved = λ name. ap (λ (d : Dates). at_name 0 d name) dates ∙ tied.dated.saved name;
          moments = λ name. subst (λ (d : Dates). IsMoment (at_name 0 d name)) (sym dates) (tied.dated.moments name);
          digests = digests;
          passed = tied.dated.passed;
        };
      }

saved_told : {F : Type 0} (book : Book F) (ledger : Ledger) (notes : Notes) → notes.begin ≡ book.begin → notes.made ≡ book.made → dates_of ledger.opening.value.items ≡ book.dates → IsTied ledger notes
    → (name : List ℕ) → date_in ledger.rack.files.items name ≡ saved_at book.begin book.dates (history_of book.made book.time) name
saved_told book ledger notes begin made dates tied name =
    tied.dated.saved name
    ∙ ap (λ (b : Begin). saved_at b (dates_of ledger.opening.value.items) (items_of notes.made) name) begin
    ∙ ap (λ (d : Dates). saved_at book.begin d (items_of notes.made) name) dates
    ∙ ap (λ (m : List Made). saved_at book.begin book.dates (items_of m) name) made
    ∙ sym (saved-history book.begin book.dates book.made book.time name)

-- the moment that is told is one
pub told_moment : (digest : Bool) (saved : ℕ) (contents : Option (List ℕ)) → IsMoment saved → IfSome (facts_of digest saved contents) (λ facts. IsMoment facts.saved)
told_moment digest saved None moment = tt
told_moment digest saved (Some held) moment = moment

-- what is told of a file is what the history leaves
pub facts_told : {F : Type 0} (book : Book F) (ledger : Ledger) (notes : Notes) → notes.begin ≡ book.begin → notes.made ≡ book.made → dates_of ledger.opening.value.items ≡ book.dates
    → (all : ℕ) → Reflects book.begin book.made book.time ledger.last all (files_in ledger) → IsTied ledger notes → (digest : Bool) (name : List ℕ)
    → facts_of digest (date_in ledger.rack.files.items name) (files_of book.begin.first (files_in ledger) name).contents
    ≡ facts_of digest (saved_at book.begin book.dates (history_of book.made book.time) name) ((state_of book.begin book.made book.time).files name).contents
facts_told book ledger notes begin made dates all keeps tied digest name =
    let date : date_in ledger.rack.files.items name ≡ saved_at book.begin book.dates (history_of book.made book.time) name = saved_told book ledger notes begin made dates tied name in
    let shown = shown-file book.begin book.made book.time ledger.last all (files_in ledger) keeps name in
    ap (λ (d : ℕ). facts_of digest d (files_of book.begin.first (files_in ledger) name).contents) date
    ∙ ap (λ (f : File). facts_of digest (saved_at book.begin book.dates (history_of book.made book.time) name) f.contents) shown

-- and a save is late by what is kept as it is by the history
pub late_told : {F : Type 0} (book : Book F) (ledger : Ledger) (notes : Notes) → notes.begin ≡ book.begin → notes.made ≡ book.made → dates_of ledger.opening.value.items ≡ book.dates
    → (all : ℕ) → Reflects book.begin book.made book.time ledger.last all (files_in ledger) → IsTied ledger notes → (call : Call) (known : Option ℕ) (moment opened now : ℕ) → opened ≡ book.begin.opened → now ≡ max book.time moment
    → late_if call.act known (is_accept (decision (settled (files_of book.begin.first (files_in ledger) call.name) now) call opened now)) (date_in ledger.rack.files.items call.name)
    ≡ is_late book.begin book.dates (history_of book.made book.time) call known moment
late_told book ledger notes begin made dates all keeps tied call known moment opened now opened_is now_is =
    let file = files_of book.begin.first (files_in ledger) call.name in
    let saved = date_in ledger.rack.files.items call.name in
    let at = found_at book.begin (history_of book.made book.time) moment in
    let same : decision (settled file now) call opened now ≡ decision (file_at at call) call at.opened at.now =
    ap (λ (o : ℕ). decision (settled file now) call o now) opened_is ∙ ap (λ (n : ℕ). decision (settled file n) call book.begin.opened n) now_is
    ∙ sym (found_decision book.begin book.made book.time ledger.last all (files_in ledger) keeps call moment) in
    ap (λ (d : Decision). late_if call.act known (is_accept d) saved) same
    ∙ ap (late_if call.act known (is_accept (decision (file_at at call) call at.opened at.now))) (saved_told book ledger notes begin made dates tied call.name)

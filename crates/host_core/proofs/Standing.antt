-- A shard and its folder, as a step is taken or refused.
use Rattle.std.proofs.Common.{◌≡◌, ◌≢◌, ◌⊎◌, ◌↔◌, inl, inr, ℕ, ◌+◌, ◌≤◌, ◌==◌, max, Bool, true, false, ◌&&◌, if◌then◌else◌, List, [], ◌∷◌, ◌++◌, length, Option, None, Some, refl, sym, ap, subst, ◌∙◌, arith}
use Rattle.std.proofs.lemmas.Bool.Decides.{nat_tests}
use Rattle.std.proofs.lemmas.List.Sums.{sum_by_push}
use Rattle.std.proofs.lemmas.Slice.Eq.{bytes_eq-Decides}
use Rattle.std.specs.Str.{bytes_eq}
use Rattle.wopi_text.proofs.Disjunctions.{or_none}
use Rattle.host_core.specs.Opening.{MayKeep}
use Rattle.host_core.specs.Names.{AreOnce, AreWithin, names_in}
use Rattle.host_core.specs.Notes.{Notes}
use Rattle.outside.specs.Folder.{Files}
use Rattle.outside.specs.Folder as folder
use Rattle.outside.specs.Faults.{Rose, RoseBy}
use Rattle.wopi_model.specs.Moment.{IsMoment}
use Rattle.wopi_model.specs.declared.calls.Call.{Call}
use Rattle.wopi_model.specs.declared.calls.Ruling.{Ruling}
use Rattle.wopi_model.specs.Act.{is_stored}
use Rattle.wopi_model.specs.File.{File}
use Rattle.wopi_model.specs.Settle.{settled}
use Rattle.wopi_model.specs.Step.{after_step}
use Rattle.host_core.specs.Whole.{Whole, joined}
use Rattle.host_core.specs.Entries.{Made, items_of, history_of}
use Rattle.wopi_model.specs.Begin.{Begin}
use Rattle.wopi_model.specs.Host.{Limits, found_at, kept_from, new_bytes}
use Rattle.wopi_model.specs.Lives.{bytes_of, left_of, live_ids}
use Rattle.wopi_model.proofs.Fullness.{all-settled-ids}
use Rattle.wopi_model.proofs.Histories.{Legal-tick}
use Rattle.host_core.specs.Facts.{dates_of}
use Rattle.host_core.specs.Files.{files_of, torn_in}
use Rattle.host_core.specs.Store.{StoresAs, is_store_call, torn_after, brought}
use Rattle.host_core.specs.Steps.{TakesStep, ShowsSame}
use Rattle.host_core.specs.Value.{Book, Stands, IsLawful, state_of, is_torn, KeepsWithin, Reflects, Agrees, faults_in, most_version}
use Rattle.host_core.specs.declared.file.KeptFile.{KeptFile}
use Rattle.host_core.specs.declared.ledger.Ledger.{Ledger}
use Rattle.host_core.specs.Ledger.{HasSpare, IsFullFor, IsFullOn, IsTied, Takes, Stays, bytes_after, bytes_under, made_by, files_in, ended_in}
use Rattle.host_core.specs.Numbers.{AreLocked}
use Rattle.host_core.specs.ShardView.{limits_of}
use Rattle.host_core.specs.Turns.{AllStand, all_gone}
use Rattle.kept_locks.specs.Locks.{Standing, Locks, AreChained, all_ended, all_purged, places_at}
use Rattle.host_core.proofs.Counts.{places_are}
use Rattle.host_core.proofs.History.{kept_of-push, keeps-step, keeps-stays, keeps-tick, keeps-ended, keeps-gone}
use Rattle.host_core.proofs.Limiting.{within-step, within-tick}
use Rattle.host_core.proofs.Meeting.{locked_gone}
use Rattle.host_core.proofs.Turning.{stand_gone}
use Rattle.host_core.proofs.Joining.{contents_any, torn_any, within_any, long_joined}
use Rattle.host_core.specs.Times.{GoesByEntries}
use Rattle.host_core.proofs.Timing.{goes-push, legal-untimed}
use Rattle.host_core.proofs.Decisions.{contents-step}

-- one more store call may have failed
pub rose-step : (began count count' : ℕ) (made : List Made) (one : Made) → RoseBy began (faults_in made) count → count ≤ count'
    → (one.step.ruling.status ≡ 500 → Rose count count') → RoseBy began (faults_in (made ++ one ∷ [])) count'
rose-step began count count' made one rose le fault =
    subst (λ (n : ℕ). RoseBy began n count') (sym (sum_by_push (λ (m : Made). if m.step.ruling.status == 500 then 1 else 0) made one))
    (go (one.step.ruling.status == 500) (λ h. fault (same one.step.ruling.status h))) where
      same : (status : ℕ) → status == 500 ≡ true → status ≡ 500
      same status h = grind (arith, nat_tests)

      go : (b : Bool) → (b ≡ true → Rose count count') → RoseBy began (faults_in made + (if b then 1 else 0)) count'
      go true more = let up = more refl in omega (arith, up, rose, le)
      go false more = omega (arith, rose, le)

pub rose-stays : (began times count count' : ℕ) → RoseBy began times count → count ≤ count' → RoseBy began times count'
rose-stays began times count count' rose le = omega (arith, rose, le)

-- where nothing moves the folder agrees as before
pub agrees-stays : (oldest : ℕ) (only : Option ℕ) (start now now' : Option Files) (files files' : List Whole) → Agrees only start now (files_of oldest files) (torn_in files)
    → ShowsSame oldest files files' → folder.Keeps now now' → Agrees only start now' (files_of oldest files') (torn_in files')
agrees-stays oldest only None None None files files' agrees same keeps = tt
agrees-stays oldest only None None (Some now') files files' agrees same keeps = absurd keeps
agrees-stays oldest only None (Some now) now' files files' agrees same keeps = absurd agrees
agrees-stays oldest only (Some start) None now' files files' agrees same keeps = absurd agrees
agrees-stays oldest only (Some start) (Some now) None files files' agrees same keeps = absurd keeps
agrees-stays oldest only (Some start) (Some now) (Some now') files files' agrees same keeps = (
  λ name own whole. keeps name ∙ agrees.0 name own (sym (same.torn name) ∙ whole) ∙ sym (ap (λ (f : File). f.contents) (same.files name)),
  λ name foreign. keeps name ∙ agrees.1 name foreign,
)

both : (b : Bool) → b ≡ true → b ≡ false → ⊥
both b h e = cc

-- after a step the folder agrees with the files after it
pub agrees-step : (oldest : ℕ) (only : Option ℕ) (start now now' : Option Files) (files files' : List Whole) (call : Call) (opened time : ℕ) (ruling : Ruling) → Agrees only start now (files_of oldest files) (torn_in files)
    → MayKeep only call.name → TakesStep oldest files files' call opened time ruling → StoresAs now now' call ruling → Agrees only start now' (files_of oldest files') (torn_in files')
agrees-step oldest only None None None files files' call opened time ruling agrees own takes stores = tt
agrees-step oldest only None None (Some now') files files' call opened time ruling agrees own takes stores = absurd stores.others
agrees-step oldest only None (Some now) now' files files' call opened time ruling agrees own takes stores = absurd agrees
agrees-step oldest only (Some start) None now' files files' call opened time ruling agrees own takes stores = absurd agrees
agrees-step oldest only (Some start) (Some now) None files files' call opened time ruling agrees own takes stores = absurd stores.others
agrees-step oldest only (Some start) (Some now) (Some now') files files' call opened time ruling agrees own takes stores = (
  λ name named whole. tells name named (bytes_eq call.name name) refl (sym (takes.torn name) ∙ whole) ∙ sym (ap (λ (f : File). f.contents) (takes.files name)),
  λ name foreign. stores.others name (λ e. foreign (subst (MayKeep only) (sym e) own)) ∙ agrees.1 name foreign,
)
  where
    -- the file of the call
    here : (b : Bool) → is_store_call call.act ruling ≡ b → torn_after (torn_in files call.name) call.act ruling ≡ false
        → now' call.name ≡ (after_step (settled (files_of oldest files call.name) time) call opened time ruling).contents
    here true e whole =
        let done : ruling.status == 500 ≡ false = sym (ap (λ (b : Bool). if b then ruling.status == 500 else torn_in files call.name) e) ∙ whole in
        stores.holds e done ∙ sym (contents-step (settled (files_of oldest files call.name) time) call opened time ruling takes.outcome done
        ∙ ap (λ (b : Bool). if b then brought call.act else (files_of oldest files call.name).contents) e)
    here false e whole =
        let done : ruling.status == 500 ≡ false = (or_none (ruling.status == 500) (ruling.status == 200 && is_stored call.act) e).0 in
        let before : torn_in files call.name ≡ false = sym (ap (λ (b : Bool). if b then ruling.status == 500 else torn_in files call.name) e) ∙ whole in
        stores.stays e call.name ∙ agrees.0 call.name own before
        ∙ sym (contents-step (settled (files_of oldest files call.name) time) call opened time ruling takes.outcome done
        ∙ ap (λ (b : Bool). if b then brought call.act else (files_of oldest files call.name).contents) e)

    tells : (name : List ℕ) → MayKeep only name → (b : Bool) → bytes_eq call.name name ≡ b
        → (if bytes_eq call.name name then torn_after (torn_in files call.name) call.act ruling else torn_in files name) ≡ false
        → now' name ≡ (if bytes_eq call.name name then after_step (settled (files_of oldest files call.name) time) call opened time ruling else files_of oldest files name).contents
    tells name named true e whole =
        let same : call.name ≡ name = (bytes_eq-Decides call.name name).0 e in
        let whole' : torn_after (torn_in files call.name) call.act ruling ≡ false =
        sym (ap (λ (b : Bool). if b then torn_after (torn_in files call.name) call.act ruling else torn_in files name) e) ∙ whole in
        ap now' (sym same) ∙ here (is_store_call call.act ruling) refl whole'
        ∙ sym (ap (λ (b : Bool). (if b then after_step (settled (files_of oldest files call.name) time) call opened time ruling else files_of oldest files name).contents) e)
    tells name named false e whole =
        let whole' : torn_in files name ≡ false =
        sym (ap (λ (b : Bool). if b then torn_after (torn_in files call.name) call.act ruling else torn_in files name) e) ∙ whole in
        let differ : name ≢ call.name = λ h. absurd (both (bytes_eq call.name name) ((bytes_eq-Decides call.name name).1 (sym h)) e) in
        stores.others name differ ∙ agrees.0 name named whole'
        ∙ sym (ap (λ (b : Bool). (if b then after_step (settled (files_of oldest files call.name) time) call opened time ruling else files_of oldest files name).contents) e)

abbrev made_at : Bool → ℕ → ℕ → Call → ℕ → ℕ → ℕ → Ruling → Made
made_at told time last call pass floor moment ruling = record { time = max time moment; step = record { stamp = max last floor + 1; pass = pass; moment = moment; call = call; ruling = ruling }; told = told }

made_long : (made : List Made) (one : Made) → length (made ++ one ∷ []) ≡ length made + 1
made_long [] one = omega arith
made_long (first ∷ made) one = let more = made_long made one in omega (arith, more)

agrees-state : (only : Option ℕ) (start now : Option Files) (files state : List ℕ → File) (torn torn' : List ℕ → Bool) → ((name : List ℕ) → (state name).contents ≡ (files name).contents) → ((name : List ℕ) → torn name ≡ torn' name)
    → Agrees only start now files torn → Agrees only start now state torn'
agrees-state only None None files state torn torn' same tears agrees = tt
agrees-state only None (Some now) files state torn torn' same tears agrees = absurd agrees
agrees-state only (Some start) None files state torn torn' same tears agrees = absurd agrees
agrees-state only (Some start) (Some now) files state torn torn' same tears agrees = (λ name named whole. agrees.0 name named (tears name ∙ whole) ∙ sym (same name), agrees.1)

agrees-any : {F : Type 0} (book : Book F) (files : List KeptFile) (ss ss' : List Standing) (start now : Option Files)
    → Agrees book.only start now (files_of book.begin.first (joined files ss)) (torn_in (joined files ss)) → Agrees book.only start now (files_of book.begin.first (joined files ss')) (torn_in (joined files ss'))
agrees-any book files ss ss' start now agrees =
    agrees-state book.only start now (files_of book.begin.first (joined files ss)) (files_of book.begin.first (joined files ss')) (torn_in (joined files ss)) (torn_in (joined files ss'))
    (λ name. contents_any book.begin.first files ss' ss name) (λ name. torn_any files ss ss' name) agrees

-- what the code finds full, by what the shard began with and by what the ledger has
pub full_same : {F : Type 0} (book : Book F) (ledger : Ledger) (notes : Notes) (call : Call) (floor moment : ℕ) → book.begin ≡ notes.begin → book.limits ≡ limits_of ledger → book.made ≡ notes.made → book.time ≡ ledger.time → IsTied ledger notes
    → IsFullOn book.limits.calls book.limits.ids (length book.made) (max floor ledger.last) ledger.bytes (places_at (max book.time moment) ledger.rack.locks.files) (files_of book.begin.first (files_in ledger) call.name) call book.begin.opened (max book.time moment)
    ↔ IsFullFor ledger notes call floor moment
full_same book ledger notes call floor moment begin limits made time tied =
    let P : Option ℕ × ℕ × List Made × ℕ × ℕ × ℕ → Type 0 = λ p.
    IsFullOn p.0 p.1 (length p.2) (max floor ledger.last) ledger.bytes (places_at (max p.5 moment) ledger.rack.locks.files) (files_of p.3 (files_in ledger) call.name) call p.4 (max p.5 moment) in
    let calls : book.limits.calls ≡ ledger.calls = ap (λ (l : Limits). l.calls) limits in
    let ids : book.limits.ids ≡ ledger.ids = ap (λ (l : Limits). l.ids) limits in
    let first : book.begin.first ≡ ledger.first = ap (λ (b : Begin). b.first) begin ∙ sym tied.first in
    let opened : book.begin.opened ≡ ledger.opened = ap (λ (b : Begin). b.opened) begin ∙ sym tied.opened in
    let same : (book.limits.calls, book.limits.ids, book.made, book.begin.first, book.begin.opened, book.time) ≡ (ledger.calls, ledger.ids, notes.made, ledger.first, ledger.opened, ledger.time) =
    λ i. (calls i, ids i, made i, first i, opened i, time i) in
    (subst P same, subst P (sym same))

once_of : (calls : Option ℕ) (ids : ℕ) (begin : Begin) (made : List Made) (time last bytes : ℕ) → calls ≡ None → KeepsWithin calls ids begin made time last bytes → AreOnce (names_in begin.files)
once_of None ids begin made time last bytes e within = within.once
once_of (Some calls) ids begin made time last bytes e within = absurd (cc (e))

-- so many places are taken at a moment as locks and ids are live then
pub places_live : {F : Type 0} (book : Book F) (ledger : Ledger) (notes : Notes) (start now : Option Files) (began count moment : ℕ) → Stands book ledger.last (files_in ledger) ledger.bytes start now began count → IsTied ledger notes
    → book.limits.calls ≡ None → places_at (max book.time moment) ledger.rack.locks.files ≡ live_ids (found_at book.begin (history_of book.made book.time) moment).files
places_live book ledger notes start now began count moment stands tied none =
    places_are book.begin book.made book.time ledger.last (kept_from book.begin (items_of book.made)) ledger.rack.files.items ledger.rack.locks.files stands.keeps
    (once_of book.limits.calls book.limits.ids book.begin book.made book.time ledger.last ledger.bytes none stands.limits) tied.once tied.locked.beyond moment

-- where calls aren't bounded, there are so many places at the shard's time
pub places_fit : {F : Type 0} (book : Book F) (ledger : Ledger) (notes : Notes) (start now : Option Files) (began count : ℕ) → Stands book ledger.last (files_in ledger) ledger.bytes start now began count → IsTied ledger notes
    → book.limits.calls ≡ None → places_at book.time ledger.rack.locks.files ≤ book.limits.ids
places_fit book ledger notes start now began count stands tied none =
    let are = places_live book ledger notes start now began count book.time stands tied none in
    let again = ap (λ (t : ℕ). places_at t ledger.rack.locks.files) (twice book.time) in
    let fits = fits_of book.limits.calls book.limits.ids book.begin book.made book.time ledger.last ledger.bytes none stands.limits in
    let left = left_of book.begin (history_of book.made book.time) in
    let settles = all-settled-ids left.files (max left.now book.time) in
    omega (arith, are, again, fits, settles)
  where
    twice : (time : ℕ) → max time time ≡ time
    twice time = omega arith

    fits_of : (calls : Option ℕ) (ids : ℕ) (begin : Begin) (made : List Made) (time last bytes : ℕ) → calls ≡ None → KeepsWithin calls ids begin made time last bytes → live_ids (left_of begin (history_of made time)).files ≤ ids
    fits_of None ids begin made time last bytes e within = within.fits
    fits_of (Some calls) ids begin made time last bytes e within = absurd (cc (e))

-- the shard after a step
pub stands-step : {F : Type 0} (told : Bool) (book : Book F) (before after : Ledger) (old new : Notes) (start now now' : Option Files) (began count count' : ℕ) (call : Call) (pass floor moment : ℕ) (ruling : Ruling) (folder' : F)
    → Stands book before.last (files_in before) before.bytes start now began count → IsTied before old
    → book.begin ≡ old.begin → book.limits ≡ limits_of before → book.made ≡ old.made → book.time ≡ before.time → IsMoment moment → MayKeep book.only call.name → (IsFullFor before old call floor moment → ⊥)
    → Takes before after old new call pass floor moment ruling told → StoresAs now now' call ruling → count ≤ count' → (ruling.status ≡ 500 → Rose count count')
    → Stands (record book { made = book.made ++ made_by told before call pass floor moment ruling ∷ []; time = max book.time moment; folder = folder' })
    after.last (files_in after) after.bytes start now' began count'
stands-step told book before after old new start now now' began count count' call pass floor moment ruling folder' stands tied begins limits makes time m own room takes stores le fault =
    let opened : book.begin.opened ≡ before.opened = ap (λ (b : Begin). b.opened) begins ∙ sym tied.opened in
    let first : book.begin.first ≡ before.first = ap (λ (b : Begin). b.first) begins ∙ sym tied.first in
    let calls : book.limits.calls ≡ before.calls = ap (λ (l : Limits). l.calls) limits in
    let later = max book.time moment in
    let same_time : max before.time moment ≡ later = ap (λ (t : ℕ). max t moment) (sym time) in
    let mid = joined before.rack.files.items (all_ended later before.rack.locks.files) in
    let mid_is : ended_in before (max before.time moment) ≡ mid = ap (ended_in before) same_time in
    let again : max later moment ≡ later = omega arith in
    let steps : TakesStep book.begin.first mid (files_in after) call book.begin.opened later ruling =
    subst (λ (o : ℕ). TakesStep book.begin.first mid (files_in after) call o later ruling) (sym opened)
    (subst (λ (t : ℕ). TakesStep book.begin.first mid (files_in after) call before.opened t ruling) same_time
    (subst (λ (l : List Whole). TakesStep book.begin.first l (files_in after) call before.opened (max before.time moment) ruling) mid_is
    (subst (λ (n : ℕ). TakesStep n (ended_in before (max before.time moment)) (files_in after) call before.opened (max before.time moment) ruling) (sym first) takes.steps))) in
    let steps' = subst (λ (t : ℕ). TakesStep book.begin.first mid (files_in after) call book.begin.opened t ruling) (sym again) steps in
    let all = kept_from book.begin (items_of book.made) in
    let one : Made = record { time = later; step = record { stamp = max before.last floor + 1; pass = pass; moment = moment; call = call; ruling = ruling }; told = told } in
    let same : one ≡ made_by told before call pass floor moment ruling = ap (λ (t : ℕ). made_at told t before.last call pass floor moment ruling) time in
    let mid_keeps : Reflects book.begin book.made later before.last all mid =
    keeps-ended book.begin book.made later before.last all before.rack.files.items before.rack.locks.files
    (keeps-tick book.begin book.made book.time before.last all (files_in before) stands.keeps moment m) in
    let mid_agrees : Agrees book.only start now (files_of book.begin.first mid) (torn_in mid) =
    agrees-state book.only start now (files_of book.begin.first (files_in before)) (files_of book.begin.first mid) (torn_in (files_in before)) (torn_in mid)
    (λ name. contents_any book.begin.first before.rack.files.items (all_ended later before.rack.locks.files) before.rack.locks.files name)
    (λ name. torn_any before.rack.files.items before.rack.locks.files (all_ended later before.rack.locks.files) name) stands.folder in
    let mid_within : AreWithin (most_version book.begin (length book.made)) mid = within_any (most_version book.begin (length book.made)) before.rack.files.items before.rack.locks.files (all_ended later before.rack.locks.files) stands.within in
    let stepped : Reflects book.begin (book.made ++ one ∷ []) later (max before.last floor + 1) (kept_from book.begin (items_of (book.made ++ one ∷ []))) (files_in after) =
    subst (λ (v : ℕ). Reflects book.begin (book.made ++ one ∷ []) later (max before.last floor + 1) v (files_in after)) (sym (kept_of-push book.begin book.made one))
    (subst (λ (t : ℕ). Reflects book.begin (book.made ++ record { time = t; step = one.step; told = told } ∷ []) t (max before.last floor + 1) (all + (if ruling.status == 200 then new_bytes call.act else 0)) (files_in after)) again
    (keeps-step told book.begin book.made later before.last all mid (files_in after) mid_keeps call pass floor moment ruling m steps')) in
    let contents = contents_any book.begin.first before.rack.files.items (all_ended later before.rack.locks.files) before.rack.locks.files call.name in
    let bytes : after.bytes ≡ bytes_after book.limits.calls before.bytes (bytes_of (files_of book.begin.first (files_in before) call.name).contents) call ruling =
    takes.kept
    ∙ ap (λ (c : Option ℕ). bytes_after c before.bytes (bytes_under before call.name) call ruling) (sym calls)
    ∙ ap (λ (n : ℕ). bytes_after book.limits.calls before.bytes (bytes_of (files_of n (files_in before) call.name).contents) call ruling) (sym first) in
    let within : KeepsWithin book.limits.calls book.limits.ids book.begin (book.made ++ one ∷ []) later (max before.last floor + 1) after.bytes =
    within-step told book.limits.calls book.limits.ids book.begin book.made book.time before.last all before.bytes after.bytes (places_at later before.rack.locks.files) (files_in before) mid (files_in after) call pass floor moment ruling
    stands.limits stands.keeps mid_keeps m steps contents
    (places_live book before old start now began count moment stands tied)
    (λ full. room ((full_same book before old call floor moment begins limits makes time tied).0 full)) bytes in
    record {
      keeps =
          subst (λ (x : Made). Reflects book.begin (book.made ++ x ∷ []) later after.last (kept_from book.begin (items_of (book.made ++ x ∷ []))) (files_in after)) same
          (subst (λ (l : ℕ). Reflects book.begin (book.made ++ one ∷ []) later l (kept_from book.begin (items_of (book.made ++ one ∷ []))) (files_in after)) (sym takes.last) stepped);
      folder = agrees-step book.begin.first book.only start now now' mid (files_in after) call book.begin.opened later ruling mid_agrees own steps stores;
      faults = rose-step began count count' book.made (made_by told before call pass floor moment ruling) stands.faults le fault;
      timely = λ h.
          subst (λ (x : Made). GoesByEntries book.begin.now (book.made ++ x ∷ []) (max book.time moment)) same (goes-push book.begin.now book.made one book.time (stands.timely h) refl);
      within =
          let more : most_version book.begin (length book.made) + 1 ≡ most_version book.begin (length (book.made ++ made_by told before call pass floor moment ruling ∷ [])) = let long = made_long book.made (made_by told before call pass floor moment ruling) in omega (arith, long) in
          let above : before.first ≤ most_version book.begin (length book.made) = let number = stands.number.1 in omega (arith, first, number) in
          subst (λ (n : ℕ). AreWithin n (files_in after)) more
          (takes.within (most_version book.begin (length book.made)) above (subst (AreWithin (most_version book.begin (length book.made))) (sym mid_is) mid_within));
      number = stands.number;
      few = let few = takes.few in let is = long_joined after.rack.files.items after.rack.locks.files in omega (arith, few, is);
      limits =
          subst (λ (x : Made). KeepsWithin book.limits.calls book.limits.ids book.begin (book.made ++ x ∷ []) later after.last after.bytes) same
          (subst (λ (l : ℕ). KeepsWithin book.limits.calls book.limits.ids book.begin (book.made ++ one ∷ []) later l after.bytes) (sym takes.last) within);
    }

-- and after one that was refused
pub stands-stays : {F : Type 0} (book : Book F) (before after : Ledger) (old new : Notes) (start now now' : Option Files) (began count count' : ℕ) (folder' : F)
    → Stands book before.last (files_in before) before.bytes start now began count
    → book.begin.first ≡ before.first → Stays before after old new → folder.Keeps now now' → count ≤ count'
    → Stands (record book { folder = folder' }) after.last (files_in after) after.bytes start now' began count'
stands-stays book before after old new start now now' began count count' folder' stands first stays keeps le =
    let same : ShowsSame book.begin.first (files_in before) (files_in after) = subst (λ (n : ℕ). ShowsSame n (files_in before) (files_in after)) (sym first) stays.files in
    record {
      keeps =
          subst (λ (l : ℕ). Reflects book.begin book.made book.time l (kept_from book.begin (items_of book.made)) (files_in after)) (sym stays.last)
          (keeps-stays book.begin book.made book.time before.last (kept_from book.begin (items_of book.made)) (files_in before) (files_in after) stands.keeps same);
      folder = agrees-stays book.begin.first book.only start now now' (files_in before) (files_in after) stands.folder same keeps;
      faults = rose-stays began (faults_in book.made) count count' stands.faults le;
      timely = stands.timely;
      within = stays.within (most_version book.begin (length book.made)) stands.within;
      number = stands.number;
      few =
          let old = stands.few in
          let same = stays.few in
          let was = long_joined before.rack.files.items before.rack.locks.files in
          let is = long_joined after.rack.files.items after.rack.locks.files in
          omega (arith, old, same, was, is);
      limits =
          subst (λ (l : ℕ). KeepsWithin book.limits.calls book.limits.ids book.begin book.made book.time l after.bytes) (sym stays.last)
          (subst (λ (v : ℕ). KeepsWithin book.limits.calls book.limits.ids book.begin book.made book.time before.last v) (sym stays.kept) stands.limits);
    }

-- what holds of every shard
pub lawful : {F : Type 0} (book : Book F) (last : ℕ) (files : List Whole) (bytes : ℕ) (start now : Option Files) (began count : ℕ)
    → Stands book last files bytes start now began count → IsLawful book start now began count
lawful book last files bytes start now began count stands = record {
  legal = Legal-tick book.begin (items_of book.made) book.time stands.keeps.legal;
  folder = agrees-state book.only start now (files_of book.begin.first files) (state_of book.begin book.made book.time).files (torn_in files) (is_torn book.made)
      (λ name. sym (ap (λ (f : File). f.contents) (stands.keeps.shows name))) stands.keeps.torn stands.folder;
  faults = stands.faults;
  timely = stands.timely;
  alone = λ h. legal-untimed book.begin book.made book.time (stands.timely h).timely
      (Legal-tick book.begin (items_of book.made) book.time stands.keeps.legal);
}

same_limits : (before after : Ledger) → after.calls ≡ before.calls → after.ids ≡ before.ids → limits_of before ≡ limits_of after
same_limits before after calls ids = λ i. record { calls = sym calls i; ids = sym ids i }

-- the book with a step is that of the parts after it
pub book_step : {F : Type 0} (told : Bool) (book : Book F) (before after : Ledger) (old new : Notes) (call : Call) (pass floor moment : ℕ) (ruling : Ruling) (folder' : F)
    → book.begin ≡ old.begin → book.limits ≡ limits_of before → book.dates ≡ dates_of before.opening.value.items → book.made ≡ old.made → book.time ≡ before.time
    → Takes before after old new call pass floor moment ruling told
    → (record book { made = book.made ++ made_by told before call pass floor moment ruling ∷ []; time = max book.time moment; folder = folder' })
    ≡ record { only = book.only; begin = new.begin; limits = limits_of after; dates = dates_of after.opening.value.items; made = new.made; time = after.time; ticked = book.ticked; start = book.start; folder = folder' }
book_step told book before after old new call pass floor moment ruling folder' begin limits dates made time takes =
    let begin' = begin ∙ sym takes.keeps.begin in
    let limits' = limits ∙ same_limits before after takes.calls takes.ids in
    let dates' = dates ∙ sym takes.dates in
    let made' : book.made ++ made_by told before call pass floor moment ruling ∷ [] ≡ new.made =
    ap (λ (m : List Made). m ++ made_by told before call pass floor moment ruling ∷ []) made ∙ sym takes.entries in
    let time' : max book.time moment ≡ after.time = ap (λ (t : ℕ). max t moment) time ∙ sym takes.time in
    λ i. record { only = book.only; begin = begin' i; limits = limits' i; dates = dates' i; made = made' i; time = time' i; ticked = book.ticked; start = book.start; folder = folder' }

pub book_stays : {F : Type 0} (book : Book F) (before after : Ledger) (old new : Notes) (folder' : F)
    → book.begin ≡ old.begin → book.limits ≡ limits_of before → book.dates ≡ dates_of before.opening.value.items → book.made ≡ old.made → book.time ≡ before.time
    → Stays before after old new
    → (record book { folder = folder' })
    ≡ record { only = book.only; begin = new.begin; limits = limits_of after; dates = dates_of after.opening.value.items; made = new.made; time = after.time; ticked = book.ticked; start = book.start; folder = folder' }
book_stays book before after old new folder' begin limits dates made time stays =
    let begin' = begin ∙ sym stays.noted.begin in
    let limits' = limits ∙ same_limits before after stays.calls stays.ids in
    let dates' = dates ∙ sym stays.dates in
    let made' = made ∙ sym stays.noted.made in
    let time' = time ∙ sym stays.time in
    λ i. record { only = book.only; begin = begin' i; limits = limits' i; dates = dates' i; made = made' i; time = time' i; ticked = book.ticked; start = book.start; folder = folder' }

pub rose-begin : (began count : ℕ) → began ≤ count → RoseBy began (faults_in []) count
rose-begin began count le = omega (arith, le)

-- when time goes on, and the locks that are over have ended
pub stands-tick : {F : Type 0} (book : Book F) (ledger : Ledger) (start now : Option Files) (began count moment time : ℕ) (ss : List Standing) (ticked : Bool) → IsMoment moment
    → time ≡ max book.time moment → ss ≡ all_ended time ledger.rack.locks.files → ticked ≡ true
    → Stands book ledger.last (files_in ledger) ledger.bytes start now began count
    → Stands (record book { time = time; ticked = ticked }) ledger.last (joined ledger.rack.files.items ss) ledger.bytes start now began count
stands-tick book ledger start now began count moment time ss ticked m time_is ss_is ticks stands =
    let files = ledger.rack.files.items in
    let all = kept_from book.begin (items_of book.made) in
    let passed : Reflects book.begin book.made time ledger.last all (files_in ledger) =
    subst (λ (t : ℕ). Reflects book.begin book.made t ledger.last all (files_in ledger)) (sym time_is)
    (keeps-tick book.begin book.made book.time ledger.last all (files_in ledger) stands.keeps moment m) in
    record {
      keeps = subst (λ (l : List Standing). Reflects book.begin book.made time ledger.last all (joined files l)) (sym ss_is)
          (keeps-ended book.begin book.made time ledger.last all files ledger.rack.locks.files passed);
      folder = agrees-any book files ledger.rack.locks.files ss start now stands.folder;
      faults = stands.faults;
      timely = λ h. absurd (cc (h, ticks));
      within = within_any (most_version book.begin (length book.made)) files ledger.rack.locks.files ss stands.within;
      number = stands.number;
      few = let few = stands.few in let was = long_joined files ledger.rack.locks.files in let is = long_joined files ss in omega (arith, few, was, is);
      limits = subst (λ (t : ℕ). KeepsWithin book.limits.calls book.limits.ids book.begin book.made t ledger.last ledger.bytes) (sym time_is)
          (within-tick book.limits.calls book.limits.ids book.begin book.made book.time ledger.last ledger.bytes moment stands.limits);
    }

-- and when locks have ended and ids have gone that are over at the shard's time
stands-gone : {F : Type 0} (book : Book F) (ledger : Ledger) (start now : Option Files) (began count : ℕ) (purged : Bool) (ss : List Standing) → ss ≡ all_gone purged book.time ledger.rack.locks.files
    → Stands book ledger.last (files_in ledger) ledger.bytes start now began count
    → Stands book ledger.last (joined ledger.rack.files.items ss) ledger.bytes start now began count
stands-gone book ledger start now began count purged ss ss_is stands =
    let files = ledger.rack.files.items in
    let all = kept_from book.begin (items_of book.made) in
    record {
      keeps = subst (λ (l : List Standing). Reflects book.begin book.made book.time ledger.last all (joined files l)) (sym ss_is)
          (keeps-gone purged book.begin book.made book.time ledger.last all files ledger.rack.locks.files stands.keeps);
      folder = agrees-any book files ledger.rack.locks.files ss start now stands.folder;
      faults = stands.faults;
      timely = stands.timely;
      within = within_any (most_version book.begin (length book.made)) files ledger.rack.locks.files ss stands.within;
      number = stands.number;
      few = let few = stands.few in let was = long_joined files ledger.rack.locks.files in let is = long_joined files ss in omega (arith, few, was, is);
      limits = stands.limits;
    }

-- which of these a place that was made leaves
gone_by : (calls : Option ℕ) (time : ℕ) (old new : Locks) → ((most : ℕ) → calls ≡ Some most → new ≡ old)
    → (calls ≡ None → (new.files ≡ all_ended time old.files) ⊎ (new.files ≡ all_purged time (all_ended time old.files)))
    → (new ≡ old) ⊎ ((purged : Bool) × (new.files ≡ all_gone purged time old.files))
gone_by (Some most) time old new bounded gone = inl (bounded most refl)
gone_by None time old new bounded gone = elim (gone refl) [
  | inl ended ↦ inr (false, ended)
  | inr purged ↦ inr (true, purged)
]

spare_ready : (calls : Option ℕ) (ids made : ℕ) (old new : Locks) → new.room ≡ old.room → ((most : ℕ) → calls ≡ Some most → new ≡ old) → HasSpare calls ids old made → HasSpare calls ids new made
spare_ready None ids made old new room bounded spare = omega (arith, room, spare)
spare_ready (Some calls) ids made old new room bounded spare = subst (λ (l : Locks). HasSpare (Some calls) ids l made) (sym (bounded calls refl)) spare

-- the shard where a place for a lock was made
stands-ready : {F : Type 0} (book : Book F) (ledger : Ledger) (notes : Notes) (locks : Locks) (start now : Option Files) (began count : ℕ) → book.time ≡ ledger.time
    → ((most : ℕ) → ledger.calls ≡ Some most → locks ≡ ledger.rack.locks)
    → (ledger.calls ≡ None → (locks.files ≡ all_ended ledger.time ledger.rack.locks.files) ⊎ (locks.files ≡ all_purged ledger.time (all_ended ledger.time ledger.rack.locks.files)))
    → locks.latest ≤ max ledger.rack.locks.latest ledger.time → (AreChained ledger.rack.locks → AreChained locks) → locks.room ≡ ledger.rack.locks.room
    → Stands book ledger.last (files_in ledger) ledger.bytes start now began count → IsTied ledger notes
    → Stands book ledger.last (joined ledger.rack.files.items locks.files) ledger.bytes start now began count × IsTied (record ledger { rack = record ledger.rack { locks = locks } }) notes
stands-ready book ledger notes locks start now began count time bounded gone latest chains room stands tied =
    let files = ledger.rack.files.items in
    let old = ledger.rack.locks in
    let spare = spare_ready ledger.calls ledger.ids (length notes.made) old locks room bounded tied.spare in
    elim (gone_by ledger.calls ledger.time old locks bounded gone) [
      | inl same ↦ (
        subst (λ (l : Locks). Stands book ledger.last (joined files l.files) ledger.bytes start now began count) (sym same) stands,
        record {
          numbered = tied.numbered;
          once = tied.once;
          locked = subst (λ (l : Locks). AreLocked files l ledger.time) (sym same) tied.locked;
          stand = subst (λ (l : Locks). AllStand ledger.time l.files) (sym same) tied.stand;
          spare = spare;
          slots = tied.slots;
          opened = tied.opened;
          first = tied.first;
          ended = tied.ended;
          dated = tied.dated;
        },
      )
      | inr (purged, is) ↦ (
        stands-gone book ledger start now began count purged locks.files (is ∙ ap (λ (t : ℕ). all_gone purged t old.files) (sym time)) stands,
        record {
          numbered = tied.numbered;
          once = tied.once;
          locked = locked_gone purged files old locks ledger.time ledger.time tied.locked (omega arith) is latest (chains tied.locked.as_of.chains);
          stand = subst (AllStand ledger.time) (sym is) (stand_gone purged old.files ledger.time);
          spare = spare;
          slots = tied.slots;
          opened = tied.opened;
          first = tied.first;
          ended = tied.ended;
          dated = tied.dated;
        },
      )
    ]

pub made-ready : {F : Type 0} (book : Book F) (ledger mid : Ledger) (notes : Notes) (start now : Option Files) (began count : ℕ) → book.time ≡ ledger.time
    → mid ≡ record ledger { rack = record ledger.rack { locks = mid.rack.locks } }
    → ((most : ℕ) → ledger.calls ≡ Some most → mid.rack.locks ≡ ledger.rack.locks)
    → (ledger.calls ≡ None → (mid.rack.locks.files ≡ all_ended ledger.time ledger.rack.locks.files) ⊎ (mid.rack.locks.files ≡ all_purged ledger.time (all_ended ledger.time ledger.rack.locks.files)))
    → mid.rack.locks.latest ≤ max ledger.rack.locks.latest ledger.time → (AreChained ledger.rack.locks → AreChained mid.rack.locks) → mid.rack.locks.room ≡ ledger.rack.locks.room
    → Stands book ledger.last (files_in ledger) ledger.bytes start now began count → IsTied ledger notes
    → Stands book mid.last (files_in mid) mid.bytes start now began count × IsTied mid notes
made-ready book ledger mid notes start now began count time same bounded gone latest chains room stands tied =
    subst (λ (l : Ledger). Stands book l.last (files_in l) l.bytes start now began count × IsTied l notes) (sym same)
    (stands-ready book ledger notes mid.rack.locks start now began count time bounded gone latest chains room stands tied)

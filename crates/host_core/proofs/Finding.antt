-- What a call finds, and what an entry leaves of it.
use Rattle.std.proofs.Common.{◌≡◌, ℕ, ◌+◌, max, Bool, if◌then◌else◌, List, [], ◌∷◌, ◌++◌, map, refl, sym, ap, subst, ◌∙◌, arith}
use Rattle.std.proofs.lemmas.List.Sums.{sum_by-cons}
use Rattle.std.proofs.lemmas.Slice.Eq.{bytes_eq-Decides}
use Rattle.wopi_model.specs.Moment.{IsMoment}
use Rattle.wopi_model.specs.declared.calls.Call.{Call}
use Rattle.wopi_model.specs.declared.calls.Ruling.{Ruling}
use Rattle.wopi_model.specs.File.{File, never_met}
use Rattle.wopi_model.specs.Settle.{settled}
use Rattle.wopi_model.specs.Step.{after_step, decision}
use Rattle.wopi_model.specs.Shard as model
use Rattle.wopi_model.specs.Shard.{Tick, Step, Entry}
use Rattle.wopi_model.specs.Begin.{Begin}
use Rattle.wopi_model.specs.Lives.{begin_after, bytes_of, left_of, live_bytes}
use Rattle.wopi_model.specs.Host.{file_at, found_at}
use Rattle.wopi_model.proofs.Fullness.{begun-found, sum-put}
use Rattle.wopi_model.proofs.Keeping.{shown-at_moment}
use Rattle.wopi_model.proofs.Living.{left-append}
use Rattle.host_core.specs.Entries.{Made, items_of, history_of}
use Rattle.host_core.specs.Files.{files_of}
use Rattle.host_core.specs.Steps.{TakesStep}
use Rattle.host_core.specs.Value.{Reflects, state_of}
use Rattle.host_core.specs.Whole.{Whole}
use Rattle.host_core.proofs.History.{items_of-push, keeps-tick}

-- the bytes that are live don't change with time
live_settled : (files : List (List ℕ × File)) (now : ℕ) → live_bytes (map (λ one. (one.0, settled one.1 now)) files) ≡ live_bytes files
live_settled [] now = refl
live_settled (one ∷ files) now =
    let rest = live_settled files now in
    let before = sum_by-cons (λ (one : List ℕ × File). bytes_of one.1.contents) one files in
    let behind = sum_by-cons (λ (one : List ℕ × File). bytes_of one.1.contents) (one.0, settled one.1 now) (map (λ one. (one.0, settled one.1 now)) files) in
    omega (arith, rest, before, behind)

pub live_ticked : (begin : Begin) (made : List Made) (time : ℕ) → live_bytes (left_of begin (history_of made time)).files ≡ live_bytes (left_of begin (items_of made)).files
live_ticked begin made time =
    let before = left_of begin (items_of made) in
    ap (λ (b : Begin). live_bytes b.files) (left-append begin (items_of made) (Tick time ∷ [])) ∙ live_settled before.files (max before.now time)

pub live_timed : (begin : Begin) (made : List Made) (time moment : ℕ) → live_bytes (found_at begin (history_of made time) moment).files ≡ live_bytes (left_of begin (items_of made)).files
live_timed begin made time moment =
    let history = history_of made time in
    live_settled (left_of begin history).files (max (left_of begin history).now moment) ∙ live_ticked begin made time

-- the file that a call finds, and the shard's times then
module _ (begin : Begin) (made : List Made) (time last bytes : ℕ) (files : List Whole) (k : Reflects begin made time last bytes files) (call : Call) (moment : ℕ) where
  abbrev found : Begin
  found = found_at begin (history_of made time) moment

  pub found_file : file_at found call ≡ settled (files_of begin.first files call.name) (max time moment)
  found_file =
      ap (λ (s : model.Shard). s.files call.name) (begun-found begin (history_of made time) moment)
      ∙ shown-at_moment (files_of begin.first files) (state_of begin made time) moment k.shows call.name
      ∙ ap (λ (n : ℕ). settled (files_of begin.first files call.name) (max n moment)) k.time_is

  pub found_now : found.now ≡ max time moment
  found_now = ap (λ (s : model.Shard). s.now) (begun-found begin (history_of made time) moment) ∙ ap (λ (n : ℕ). max n moment) k.time_is

  pub found_opened : found.opened ≡ begin.opened
  found_opened = ap (λ (s : model.Shard). s.opened) (begun-found begin (history_of made time) moment) ∙ k.opened_is

  -- what is said of one holds of the other
  pub as_found : (P : File → ℕ → ℕ → Type 0) → P (settled (files_of begin.first files call.name) (max time moment)) begin.opened (max time moment) → P (file_at found call) found.opened found.now
  as_found P h =
      subst (λ (f : File). P f found.opened found.now) (sym found_file)
      (subst (λ (o : ℕ). P (settled (files_of begin.first files call.name) (max time moment)) o found.now) (sym found_opened)
      (subst (λ (n : ℕ). P (settled (files_of begin.first files call.name) (max time moment)) begin.opened n) (sym found_now) h))

  pub from_found : (P : File → ℕ → ℕ → Type 0) → P (file_at found call) found.opened found.now → P (settled (files_of begin.first files call.name) (max time moment)) begin.opened (max time moment)
  from_found P h =
      subst (λ (n : ℕ). P (settled (files_of begin.first files call.name) (max time moment)) begin.opened n) found_now
      (subst (λ (o : ℕ). P (settled (files_of begin.first files call.name) (max time moment)) o found.now) found_opened
      (subst (λ (f : File). P f found.opened found.now) found_file h))

  -- the decision on what a call finds is that on the kept file
  pub found_decision : decision (file_at found call) call found.opened found.now ≡ decision (settled (files_of begin.first files call.name) (max time moment)) call begin.opened (max time moment)
  found_decision = as_found (λ f opened now. decision f call opened now ≡ decision (settled (files_of begin.first files call.name) (max time moment)) call begin.opened (max time moment)) refl

-- what an entry leaves, and of its file
abbrev pub entry_at : ℕ → ℕ → ℕ → ℕ → Call → Ruling → Entry
entry_at last pass floor moment call ruling = record { stamp = max last floor + 1; pass = pass; moment = moment; call = call; ruling = ruling }

-- what the history leaves with an entry more
pub left-push : (begin : Begin) (made : List Made) (one : Made)
    → left_of begin (items_of (made ++ one ∷ [])) ≡ begin_after (found_at begin (history_of made one.time) one.step.moment) one.step
left-push begin made one = ap (left_of begin) (items_of-push made one) ∙ left-append begin (items_of made ++ Tick one.time ∷ []) (Step one.step ∷ [])

-- the bytes that are live with a step more
pub live-step : (told : Bool) (begin : Begin) (made : List Made) (time last all bytes bytes' : ℕ) (files files' : List Whole) → Reflects begin made time last all files → bytes ≡ live_bytes (left_of begin (items_of made)).files
    → (call : Call) (pass floor moment : ℕ) (ruling : Ruling) → IsMoment moment → TakesStep begin.first files files' call begin.opened (max time moment) ruling
    → bytes' + bytes_of (files_of begin.first files call.name).contents ≡ bytes + bytes_of (files_of begin.first files' call.name).contents
    → bytes' ≡ live_bytes (left_of begin (items_of (made ++ record { time = max time moment; step = entry_at last pass floor moment call ruling; told = told } ∷ []))).files
live-step told begin made time last all bytes bytes' files files' k count call pass floor moment ruling m takes grows =
    let later = max time moment in
    let entry = entry_at last pass floor moment call ruling in
    let one : Made = record { time = later; step = entry; told = told } in
    let passed = keeps-tick begin made time last all files k moment m in
    let again : max later moment ≡ later = omega arith in
    let at = found_at begin (history_of made later) moment in
    let name = call.name in
    let was : file_at at call ≡ settled (files_of begin.first files name) later =
    found_file begin made later last all files passed call moment ∙ ap (settled (files_of begin.first files name)) again in
    let opened : at.opened ≡ begin.opened = found_opened begin made later last all files passed call moment in
    let now : at.now ≡ later = found_now begin made later last all files passed call moment ∙ again in
    let file = after_step (file_at at call) call at.opened at.now ruling in
    let is : file ≡ files_of begin.first files' name =
    ap (λ (f : File). after_step f call at.opened at.now ruling) was
    ∙ ap (λ (o : ℕ). after_step (settled (files_of begin.first files name) later) call o at.now ruling) opened
    ∙ ap (λ (n : ℕ). after_step (settled (files_of begin.first files name) later) call begin.opened n ruling) now
    ∙ sym (takes.files name ∙ ap (λ (b : Bool). if b then after_step (settled (files_of begin.first files name) later) call begin.opened later ruling else files_of begin.first files name) ((bytes_eq-Decides name name).1 refl)) in
    let put = sum-put (λ (f : File). bytes_of f.contents) (never_met at.first) refl name file at.files in
    let live : live_bytes (left_of begin (items_of (made ++ one ∷ []))).files ≡ live_bytes (begin_after at entry).files = ap (λ (b : Begin). live_bytes b.files) (left-push begin made one) in
    let timed = live_timed begin made later moment in
    let old : bytes_of (file_at at call).contents ≡ bytes_of (files_of begin.first files name).contents = ap (λ (f : File). bytes_of f.contents) was in
    let new : bytes_of file.contents ≡ bytes_of (files_of begin.first files' name).contents = ap (λ (f : File). bytes_of f.contents) is in
    omega (arith, put, live, timed, old, new, count, grows)

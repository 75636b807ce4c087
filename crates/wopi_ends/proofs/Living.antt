-- A script's commands are what a session hears, and their lines tell what it told.
use Rattle.std.proofs.Common.{◌≡◌, ℕ, List, [], ◌∷◌, ◌++◌, length, Option, None, Some, Result, Ok, Err, refl, sym, ap, subst, ◌∙◌, inl, inr}
use Rattle.std.proofs.lemmas.List.{append-nil}
use Rattle.outside.specs.declared.dialer.Exchange.{Exchange}
use Rattle.save_session.specs.declared.input.Input.{Input}
use Rattle.save_session.specs.declared.input.Input.TheVariants as input
use Rattle.save_session.specs.declared.output.Outcome.{Outcome}
use Rattle.save_session.specs.declared.output.Outcome.TheVariants as outcome
use Rattle.save_session.specs.declared.state.State.{State}
use Rattle.save_session.specs.Views.{nonce_of, state_of}
use Rattle.wopi_client.specs.declared.desktop.Desktop.{Desktop}
use Rattle.wopi_client.specs.declared.driving.DriveFault.{DriveFault}
use Rattle.wopi_client.specs.declared.driving.DriveFault.TheVariants as drive
use Rattle.wopi_client.specs.declared.copying.AsOutcome.{AsOutcome}
use Rattle.wopi_client.specs.declared.copying.AsFault.{AsFault}
use Rattle.wopi_client.specs.Talk.{Drive}
use Rattle.wopi_client.specs.Asking.{request_bytes}
use Rattle.wopi_client.specs.Copies.{SavesAs, copy_under}
use Rattle.grid_sheet.specs.Text.{read_of, write_of}
use Rattle.grid_editor.specs.declared.command.Command.{Command}
use Rattle.grid_editor.specs.declared.command.Command.TheVariants as command
use Rattle.grid_editor.specs.declared.editor.Editor.{Editor}
use Rattle.grid_editor.specs.declared.turns.EditFault.{EditFault}
use Rattle.grid_editor.specs.declared.turns.EditFault.TheVariants.{BadReply, WriteFault, Memory}
use Rattle.grid_editor.specs.declared.turns.Went.{Went}
use Rattle.grid_editor.specs.declared.turns.Went.TheVariants.{On}
use Rattle.grid_editor.specs.Sheets.{Edited}
use Rattle.grid_editor.specs.Turns.{IsOpened, IsTold, IsDriven, IsTurn, writes, Drives, Saves, Refreshes, Copies, CopiesSheet, DoneAlone, IsNotOpen, IsUnwritten, Does}
use Rattle.grid_editor.specs.Lines.{not_open}
use Rattle.grid_editor.specs.Runs.{Commands, StaysAt, Runs}
use Rattle.grid_editor.specs.Runs as runs
use Rattle.wopi_world.specs.Requests.{Client}
use Rattle.wopi_world.specs.World.{Told}
use Rattle.wopi_world.specs.Talks.{Speaker, IsNoReply, hears_all}
use Rattle.wopi_ends.specs.Hearing.{Spoken, aside, exchanges_of, Ending, behind_all, at_bad, Hears, HasHeard, ending_of, TellsAtEnd, IsLineOf, LineTells, CommandTells, IsEnding, WrittenTells, IsCommandHeard, IsEditorOf, IsScriptHeard}
use Rattle.wopi_ends.specs.Hearing as hearing
use Rattle.wopi_ends.proofs.Hearing.{hears-append, joined, to_the_end, drive_heard}

-- the line of a drive (the type of an editor's turn has no name outside its crate)

opened_tells : (contents : List ℕ) (version : Option ℕ) (sheet : Option Edited) (turn : _) → IsOpened contents version sheet turn → IsLineOf (outcome.Opened version) turn.line
opened_tells contents version sheet turn (inl h) = inl (length (read_of contents), ap (λ t. t.line) h.2)
opened_tells contents version sheet turn (inr h) = inr (ap (λ t. t.line) h.2)

told_tells : (before : Option Edited) (contents : List ℕ) (told : Outcome) (sheet : Option Edited) (turn : _) → IsTold before contents told sheet turn → IsLineOf told turn.line
told_tells before contents (outcome.Opened version) sheet turn h = opened_tells contents version sheet turn h
told_tells before contents (outcome.Read version) sheet turn h = ap (λ t. t.line) h.1
told_tells before contents (outcome.Saved version) sheet turn h = ap (λ t. t.line) h.1
told_tells before contents outcome.Refreshed sheet turn h = ap (λ t. t.line) h.1
told_tells before contents outcome.Closed sheet turn h = ap (λ t. t.line) h.1
told_tells before contents (outcome.Conflict lock reason) sheet turn h = ap (λ t. t.line) h.1
told_tells before contents (outcome.LockLost lock reason) sheet turn h = ap (λ t. t.line) h.1
told_tells before contents outcome.TooLarge sheet turn h = ap (λ t. t.line) h.1
told_tells before contents (outcome.HostFault status) sheet turn h = ap (λ t. t.line) h.1
told_tells before contents outcome.TokenDead sheet turn h = ap (λ t. t.line) h.1
told_tells before contents outcome.Gone sheet turn h = ap (λ t. t.line) h.1
told_tells before contents outcome.NoAnswer sheet turn h = ap (λ t. t.line) h.1

drive_tells : (old : Option Edited) (contents : List ℕ) (came : Result Outcome DriveFault) (sheet : Option Edited) (turn : _) (before last : List Told) →
    IsDriven old contents came sheet (Ok turn) → TellsAtEnd came last → LineTells turn.line (before ++ last)
drive_tells old contents (Ok told) sheet turn before last h (one, is, end) =
    inl (
      before,
      one,
      ap (λ (l : List Told). before ++ l) end,
      subst (λ (o : Outcome). IsLineOf o turn.line) (sym is) (told_tells old contents told sheet turn h),
    )
drive_tells old contents (Err (drive.Ignored other)) sheet turn before last h end = inr (ap (λ t. t.line) h.1)
drive_tells old contents (Err (drive.BadReply at)) sheet turn before last h end = absurd h
drive_tells old contents (Err drive.Memory) sheet turn before last h end = absurd h

-- how the hearing of a drive ends, by what becomes of it

drive_ended : (old : Option Edited) (contents : List ℕ) (came : Result Outcome DriveFault) (sheet : Option Edited) (result : _) → IsDriven old contents came sheet result →
    IsEnding result (ending_of came)
drive_ended old contents came sheet (Err Memory) h = tt
drive_ended old contents (Ok told) sheet (Ok turn) h = refl
drive_ended old contents (Ok told) sheet (Err (BadReply place)) h = absurd h
drive_ended old contents (Ok told) sheet (Err WriteFault) h = absurd h
drive_ended old contents (Err (drive.Ignored other)) sheet (Ok turn) h = refl
drive_ended old contents (Err (drive.Ignored other)) sheet (Err (BadReply place)) h = absurd h
drive_ended old contents (Err (drive.Ignored other)) sheet (Err WriteFault) h = absurd h
drive_ended old contents (Err (drive.BadReply at)) sheet (Ok turn) h = absurd h
drive_ended old contents (Err (drive.BadReply at)) sheet (Err (BadReply place)) h = inl (ap (λ (n : ℕ). at_bad n) (sym h.1))
drive_ended old contents (Err (drive.BadReply at)) sheet (Err WriteFault) h = absurd h
drive_ended old contents (Err drive.Memory) sheet (Ok turn) h = absurd h
drive_ended old contents (Err drive.Memory) sheet (Err (BadReply place)) h = absurd h
drive_ended old contents (Err drive.Memory) sheet (Err WriteFault) h = absurd h

-- behind all exchanges any result may come
ends_anyhow : {T : Type 0} (result : Result T EditFault) → IsEnding result behind_all
ends_anyhow (Ok done) = refl
ends_anyhow (Err (BadReply at)) = inr refl
ends_anyhow (Err WriteFault) = refl
ends_anyhow (Err Memory) = tt

module _ (desktop : Desktop) (client : Client) where
  -- what one command is to the session
  record Steps (speaker : Speaker) (fits : List Told → Type 0) (ends : Ending → Type 0) (exchanges : List Exchange) (new : State) : Type 0 where
    told : List Told
    ending : Ending
    ended : ends ending
    has : HasHeard desktop client ending speaker exchanges told
    state : (hears_all client speaker has.heard).session ≡ new
    line : fits told

  -- nothing is sent
  stays : (speaker : Speaker) (fits : List Told → Type 0) (ends : Ending → Type 0) (old new : State) (exchanges : List Exchange) → speaker.session ≡ old → new ≡ old → exchanges ≡ [] →
      ends behind_all → fits [] → Steps speaker fits ends exchanges new
  stays speaker fits ends old new exchanges is same none ended line =
      record {
        told = [];
        ending = behind_all;
        ended = ended;
        has = record { spoken = []; heard = []; heard_is = hearing.over speaker; exchanges_are = sym none; told_is = sym (append-nil speaker.told) };
        state = is ∙ sym same;
        line = line;
      }

  fitting : (speaker : Speaker) (fits others : List Told → Type 0) (ends : Ending → Type 0) (exchanges : List Exchange) (new : State) → ((told : List Told) → fits told → others told) →
      Steps speaker fits ends exchanges new → Steps speaker others ends exchanges new
  fitting speaker fits others ends exchanges new f s = record { told = s.told; ending = s.ending; ended = s.ended; has = s.has; state = s.state; line = f s.told s.line }

  not_open_line : (result : _) → IsTurn (writes not_open) result → (turn : _) → result ≡ Ok turn → LineTells turn.line []
  not_open_line (Ok made) h turn e = let same : made ≡ turn = cc in inr (ap (λ t. t.line) (sym same ∙ h))
  not_open_line (Err why) h turn e = cc

  unopened : (speaker : Speaker) (old new : Editor) (result : _) (exchanges : List Exchange) → IsEditorOf desktop client speaker old → IsNotOpen old new result exchanges →
      Steps speaker (λ told. (turn : _) → result ≡ Ok turn → LineTells turn.line told) (IsEnding result) exchanges (state_of new.session)
  unopened speaker old new result exchanges is h =
      stays speaker (λ told. (turn : _) → result ≡ Ok turn → LineTells turn.line told) (IsEnding result) (state_of old.session) (state_of new.session) exchanges is.state h.0.session h.0.none
      (ends_anyhow result) (not_open_line result h.1)

  unwritten : (speaker : Speaker) (fits : List Told → Type 0) (old new : Editor) (result : _) (exchanges : List Exchange) → IsEditorOf desktop client speaker old →
      IsUnwritten old new result exchanges → (result ≡ Err Memory → fits []) → Steps speaker fits (IsEnding result) exchanges (state_of new.session)
  unwritten speaker fits old new result exchanges is h line =
      stays speaker fits (IsEnding result) (state_of old.session) (state_of new.session) exchanges is.state h.0.session h.0.none (ends_anyhow result) (line h.1)

  drives : (speaker : Speaker) (old : Editor) (given : Input) (new : Editor) (result : _) (exchanges : List Exchange) → IsNoReply given → IsEditorOf desktop client speaker old →
      Drives old given new result exchanges → Steps speaker (λ told. (turn : _) → result ≡ Ok turn → LineTells turn.line told) (IsEnding result) exchanges (state_of new.session)
  drives speaker old given new result exchanges none is d =
      let at : Drive desktop client.nonce speaker.session given (state_of new.session) d.came exchanges =
      subst (λ (x : Desktop). Drive x client.nonce speaker.session given (state_of new.session) d.came exchanges) is.desktop_is
      (subst (λ (n : List ℕ). Drive old.desktop n speaker.session given (state_of new.session) d.came exchanges) is.nonce
      (subst (λ (s : State). Drive old.desktop (nonce_of old.session) s given (state_of new.session) d.came exchanges) (sym is.state) d.drive)) in
      let h = drive_heard desktop client speaker given (state_of new.session) d.came exchanges none at in
      record {
        told = h.before ++ h.last;
        ending = ending_of d.came;
        ended = drive_ended old.sheet (Rattle.save_session.specs.Session.contents_of (state_of new.session)) d.came new.sheet result d.driven;
        has = h.has;
        state = h.session_is;
        line = λ turn e. drive_tells old.sheet (Rattle.save_session.specs.Session.contents_of (state_of new.session)) d.came new.sheet turn h.before h.last
            (subst (IsDriven old.sheet (Rattle.save_session.specs.Session.contents_of (state_of new.session)) d.came new.sheet) e d.driven) h.at_end;
      }

  saves : (speaker : Speaker) (old : Editor) (sheet : Option Edited) (new : Editor) (result : _) (exchanges : List Exchange) → IsEditorOf desktop client speaker old →
      Saves old sheet new result exchanges → Steps speaker (λ told. (turn : _) → result ≡ Ok turn → LineTells turn.line told) (IsEnding result) exchanges (state_of new.session)
  saves speaker old None new result exchanges is h = unopened speaker old new result exchanges is h
  saves speaker old (Some sheet) new result exchanges is (inl h) =
      unwritten speaker (λ told. (turn : _) → result ≡ Ok turn → LineTells turn.line told) old new result exchanges is h
      (λ none turn e. let bad : Err Memory ≡ Ok turn = sym none ∙ e in cc)
  saves speaker old (Some sheet) new result exchanges is (inr h) = drives speaker old (input.Save (write_of sheet.rows)) new result exchanges tt is h

  refreshes : (speaker : Speaker) (old : Editor) (sheet : Option Edited) (new : Editor) (result : _) (exchanges : List Exchange) → IsEditorOf desktop client speaker old →
      Refreshes old sheet new result exchanges → Steps speaker (λ told. (turn : _) → result ≡ Ok turn → LineTells turn.line told) (IsEnding result) exchanges (state_of new.session)
  refreshes speaker old None new result exchanges is h = unopened speaker old new result exchanges is h
  refreshes speaker old (Some sheet) new result exchanges is h = drives speaker old input.Refresh new result exchanges tt is h

  -- the one exchange of a copy, if there was one
  copy_heard : (speaker : Speaker) (name text : List ℕ) (came : Result AsOutcome AsFault) (exchanges : List Exchange) → SavesAs desktop name text came exchanges →
      (spoken : List Spoken) × Hears desktop client behind_all speaker spoken [] × (exchanges_of spoken ≡ exchanges)
  copy_heard speaker name text came exchanges (inl none) = ([], hearing.over speaker, sym none.0)
  copy_heard speaker name text came exchanges (inr (inl lost)) =
      let exchange : Exchange = record { request = request_bytes desktop (copy_under name) text; reply = None } in
      (aside exchange ∷ [], hearing.copied behind_all speaker name text exchange [] [] refl (hearing.over speaker), sym lost.0)
  copy_heard speaker name text came exchanges (inr (inr replied)) =
      let exchange : Exchange = record { request = request_bytes desktop (copy_under name) text; reply = Some replied.reply } in
      (aside exchange ∷ [], hearing.copied behind_all speaker name text exchange [] [] refl (hearing.over speaker), sym replied.one)

  copies_sheet : (speaker : Speaker) (old : Editor) (name text : List ℕ) (new : Editor) (result : _) (exchanges : List Exchange) → IsEditorOf desktop client speaker old →
      CopiesSheet old name text new result exchanges → Steps speaker (λ told. told ≡ []) (IsEnding result) exchanges (state_of new.session)
  copies_sheet speaker old name text new result exchanges is h =
      let at : SavesAs desktop name text h.came exchanges = subst (λ (x : Desktop). SavesAs x name text h.came exchanges) is.desktop_is h.copy in
      let c = copy_heard speaker name text h.came exchanges at in
      record {
        told = [];
        ending = behind_all;
        ended = ends_anyhow result;
        has = record { spoken = c.0; heard = []; heard_is = c.1; exchanges_are = c.2; told_is = sym (append-nil speaker.told) };
        state = is.state ∙ sym h.session;
        line = refl;
      }

  copies : (speaker : Speaker) (old : Editor) (sheet : Option Edited) (name : List ℕ) (new : Editor) (result : _) (exchanges : List Exchange) → IsEditorOf desktop client speaker old →
      Copies old sheet name new result exchanges → Steps speaker (λ told. told ≡ []) (IsEnding result) exchanges (state_of new.session)
  copies speaker old None name new result exchanges is h =
      stays speaker (λ told. told ≡ []) (IsEnding result) (state_of old.session) (state_of new.session) exchanges is.state h.0.session h.0.none (ends_anyhow result) refl
  copies speaker old (Some sheet) name new result exchanges is (inl h) = unwritten speaker (λ told. told ≡ []) old new result exchanges is h (λ none. refl)
  copies speaker old (Some sheet) name new result exchanges is (inr h) = copies_sheet speaker old name (write_of sheet.rows) new result exchanges is h

  alone : (speaker : Speaker) (old : Editor) (asked : Command) (new : Editor) (result : _) (exchanges : List Exchange) → IsEditorOf desktop client speaker old →
      DoneAlone old asked new result exchanges → Steps speaker (λ told. told ≡ []) (IsEnding result) exchanges (state_of new.session)
  alone speaker old asked new result exchanges is h =
      stays speaker (λ told. told ≡ []) (IsEnding result) (state_of old.session) (state_of new.session) exchanges is.state h.session h.none (ends_anyhow result) refl

  does : (speaker : Speaker) (old : Editor) (asked : Command) (new : Editor) (result : _) (exchanges : List Exchange) → IsEditorOf desktop client speaker old →
      Does old asked new result exchanges → Steps speaker (λ told. (turn : _) → result ≡ Ok turn → CommandTells asked turn.line told) (IsEnding result) exchanges (state_of new.session)
  does speaker old command.Open new result exchanges is h = drives speaker old input.Start new result exchanges tt is h
  does speaker old (command.Set row column text) new result exchanges is h =
      fitting speaker (λ told. told ≡ []) (λ told. (turn : _) → result ≡ Ok turn → told ≡ []) (IsEnding result) exchanges (state_of new.session) (λ told none turn e. none)
      (alone speaker old (command.Set row column text) new result exchanges is h)
  does speaker old (command.InsRow row) new result exchanges is h =
      fitting speaker (λ told. told ≡ []) (λ told. (turn : _) → result ≡ Ok turn → told ≡ []) (IsEnding result) exchanges (state_of new.session) (λ told none turn e. none)
      (alone speaker old (command.InsRow row) new result exchanges is h)
  does speaker old (command.DelRow row) new result exchanges is h =
      fitting speaker (λ told. told ≡ []) (λ told. (turn : _) → result ≡ Ok turn → told ≡ []) (IsEnding result) exchanges (state_of new.session) (λ told none turn e. none)
      (alone speaker old (command.DelRow row) new result exchanges is h)
  does speaker old (command.InsCol column) new result exchanges is h =
      fitting speaker (λ told. told ≡ []) (λ told. (turn : _) → result ≡ Ok turn → told ≡ []) (IsEnding result) exchanges (state_of new.session) (λ told none turn e. none)
      (alone speaker old (command.InsCol column) new result exchanges is h)
  does speaker old (command.DelCol column) new result exchanges is h =
      fitting speaker (λ told. told ≡ []) (λ told. (turn : _) → result ≡ Ok turn → told ≡ []) (IsEnding result) exchanges (state_of new.session) (λ told none turn e. none)
      (alone speaker old (command.DelCol column) new result exchanges is h)
  does speaker old command.Show new result exchanges is h =
      fitting speaker (λ told. told ≡ []) (λ told. (turn : _) → result ≡ Ok turn → told ≡ []) (IsEnding result) exchanges (state_of new.session) (λ told none turn e. none)
      (alone speaker old command.Show new result exchanges is h)
  does speaker old command.Values new result exchanges is h =
      fitting speaker (λ told. told ≡ []) (λ told. (turn : _) → result ≡ Ok turn → told ≡ []) (IsEnding result) exchanges (state_of new.session) (λ told none turn e. none)
      (alone speaker old command.Values new result exchanges is h)
  does speaker old command.Undo new result exchanges is h =
      fitting speaker (λ told. told ≡ []) (λ told. (turn : _) → result ≡ Ok turn → told ≡ []) (IsEnding result) exchanges (state_of new.session) (λ told none turn e. none)
      (alone speaker old command.Undo new result exchanges is h)
  does speaker old command.Save new result exchanges is h = saves speaker old old.sheet new result exchanges is h
  does speaker old (command.SaveAs name) new result exchanges is h =
      fitting speaker (λ told. told ≡ []) (λ told. (turn : _) → result ≡ Ok turn → told ≡ []) (IsEnding result) exchanges (state_of new.session) (λ told none turn e. none)
      (copies speaker old old.sheet name new result exchanges is h)
  does speaker old command.Refresh new result exchanges is h = refreshes speaker old old.sheet new result exchanges is h
  does speaker old command.Close new result exchanges is h = drives speaker old input.Close new result exchanges tt is h

  -- a command, with what was written
  record Commanded (speaker : Speaker) (old : Editor) (asked : Command) (new : Editor) (result : Result Went EditFault) (written : List ℕ) (exchanges : List Exchange) : Type 0 where
    command : IsCommandHeard desktop client speaker old asked new result written exchanges
    state : (hears_all client speaker command.has.heard).session ≡ state_of new.session

  commands : (speaker : Speaker) (old : Editor) (asked : Command) (new : Editor) (result : Result Went EditFault) (written : List ℕ) (exchanges : List Exchange) → IsEditorOf desktop client speaker old →
      Commands old asked new result written exchanges → Commanded speaker old asked new result written exchanges
  commands speaker old asked new (Ok went) written exchanges is (turn, did, line_is, went_is) =
      let s = does speaker old asked new (Ok turn) exchanges is did in
      record {
        command = record {
          did = (turn, did, line_is, went_is);
          told = s.told;
          ending = s.ending;
          ended = s.ended;
          has = s.has;
          tells = subst (λ (l : List ℕ). CommandTells asked l s.told) (sym line_is) (s.line turn refl);
        };
        state = s.state;
      }
  commands speaker old asked new (Err WriteFault) written exchanges is (turn, rest, did, line_is) =
      let s = does speaker old asked new (Ok turn) exchanges is did in
      record {
        command = record {
          did = (turn, rest, did, line_is);
          told = s.told;
          ending = s.ending;
          ended = s.ended;
          has = s.has;
          tells = (rest, subst (λ (l : List ℕ). CommandTells asked l s.told) line_is (s.line turn refl));
        };
        state = s.state;
      }
  commands speaker old asked new (Err (BadReply at)) written exchanges is (did, none) =
      let s = does speaker old asked new (Err (BadReply at)) exchanges is did in
      record { command = record { did = (did, none); told = s.told; ending = s.ending; ended = s.ended; has = s.has; tells = none }; state = s.state }
  commands speaker old asked new (Err Memory) written exchanges is (did, none) =
      let s = does speaker old asked new (Err Memory) exchanges is did in
      record { command = record { did = (did, none); told = s.told; ending = s.ending; ended = tt; has = s.has; tells = none }; state = s.state }

  editor_after : (speaker : Speaker) (old new : Editor) → IsEditorOf desktop client speaker old → StaysAt old new → (later : Speaker) → later.session ≡ state_of new.session →
      IsEditorOf desktop client later new
  editor_after speaker old new is at later state = record { desktop_is = at.desktop ∙ is.desktop_is; nonce = at.nonce ∙ is.nonce; state = state }

  pub script_heard : (speaker : Speaker) (old : Editor) (asked : List Command) (new : Editor) (result : Result Went EditFault) (written : List ℕ) (exchanges : List Exchange) →
      IsEditorOf desktop client speaker old → Runs old asked new result written exchanges → IsScriptHeard desktop client speaker old asked new result written exchanges
  script_heard speaker old [] new result written exchanges is (runs.over _) =
      record {
        told = [];
        ending = behind_all;
        ended = refl;
        has = record { spoken = []; heard = []; heard_is = hearing.over speaker; exchanges_are = refl; told_is = sym (append-nil speaker.told) };
        lines = hearing.none speaker old;
        editor = is;
      }
  script_heard speaker old (one ∷ later) new result written exchanges is (runs.goes_on _ mid _ _ _ _ first second sent more c at rest) =
      let s = commands speaker old one mid (Ok On) first sent is c in
      let then_speaker = hears_all client speaker s.command.has.heard in
      let r = script_heard then_speaker mid later new result second more (editor_after speaker old mid is at then_speaker s.state) rest in
      let whole = to_the_end desktop client s.command.ending speaker sent s.command.told s.command.has s.command.ended in
      record {
        told = s.command.told ++ r.told;
        ending = r.ending;
        ended = r.ended;
        has = joined desktop client r.ending speaker sent more s.command.told r.told whole r.has;
        lines = hearing.line speaker old mid new one later result first second sent more r.has.spoken r.has.heard r.told s.command r.lines;
        editor = subst (λ (x : Speaker). IsEditorOf desktop client x new) (sym (hears-append client speaker s.command.has.heard r.has.heard)) r.editor;
      }
  script_heard speaker old (one ∷ later) new result written exchanges is (runs.ends _ _ _ _ _ _ _ c at differs) =
      let s = commands speaker old one new result written exchanges is c in
      record {
        told = s.command.told;
        ending = s.command.ending;
        ended = s.command.ended;
        has = s.command.has;
        lines = hearing.last speaker old new one later result written exchanges s.command differs;
        editor = editor_after speaker old new is at (hears_all client speaker s.command.has.heard) s.state;
      }

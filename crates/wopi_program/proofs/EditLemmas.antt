-- The statuses of `edit`.
use Rattle.std.proofs.Common.{◌≡◌, ◌≢◌, ℕ, List, [], ◌++◌, Option, Result, Ok, Err, ◌∙◌, refl, sym, subst, append-nil, length, codes, decimal, ◌<◌, arith, inl, inr}
use Rattle.std.proofs.lemmas.List.{length-append}
use Rattle.std.specs.Io.KnownBytes.{Appends, IsAtEnd}
use Rattle.outside.specs.Faults.{RoseBy}
use Rattle.outside.specs.Stream.{GrewByPrefix}
use Rattle.grid_editor.proofs.TurnLemmas.{appends_then}
use Rattle.save_session.specs.declared.output.Outcome.{Outcome}
use Rattle.save_session.specs.declared.output.Outcome.TheVariants as outcome
use Rattle.wopi_client.specs.Talk.{Grew, lost_in}
use Rattle.grid_editor.specs.declared.command.Command.{Command}
use Rattle.grid_editor.specs.declared.editor.Editor.{Editor}
use Rattle.grid_editor.specs.declared.turns.EditFault.{EditFault}
use Rattle.grid_editor.specs.declared.turns.EditFault.TheVariants as fault
use Rattle.grid_editor.specs.declared.turns.Went.{Went}
use Rattle.grid_editor.specs.declared.turns.Went.TheVariants.{On, Ended}
use Rattle.grid_editor.specs.Inputs.{IsScript}
use Rattle.wopi_program.specs.declared.outside_world.Outside.{Outside}
use Rattle.wopi_program.specs.Meanings.{Meanings}
use Rattle.wopi_program.specs.Edit.{EditEnds, Edits, HasRun, IsRun, Tells, bad_line, last_line, status_of}

ended-not-2 : (told : Outcome) → status_of (Ok (Ended told)) ≢ 2
ended-not-2 (outcome.Opened version) is = absurd (omega (arith, is))
ended-not-2 (outcome.Read version) is = absurd (omega (arith, is))
ended-not-2 (outcome.Saved version) is = absurd (omega (arith, is))
ended-not-2 outcome.Refreshed is = absurd (omega (arith, is))
ended-not-2 outcome.Closed is = absurd (omega (arith, is))
ended-not-2 (outcome.Conflict lock reason) is = absurd (omega (arith, is))
ended-not-2 (outcome.LockLost lock reason) is = absurd (omega (arith, is))
ended-not-2 outcome.TooLarge is = absurd (omega (arith, is))
ended-not-2 (outcome.HostFault status) is = absurd (omega (arith, is))
ended-not-2 outcome.TokenDead is = absurd (omega (arith, is))
ended-not-2 outcome.Gone is = absurd (omega (arith, is))
ended-not-2 outcome.NoAnswer is = absurd (omega (arith, is))

status-not-2 : (result : Result Went EditFault) → status_of result ≢ 2
status-not-2 (Ok On) is = absurd (omega (arith, is))
status-not-2 (Ok (Ended told)) is = ended-not-2 told is
status-not-2 (Err (fault.BadReply at)) is = absurd (omega (arith, is))
status-not-2 (Err fault.WriteFault) is = absurd (omega (arith, is))
status-not-2 (Err fault.Memory) is = absurd (omega (arith, is))

pub tells-not-2 : (held held' : Option (List ℕ)) (status wanted : ℕ) (lines last : List ℕ) → wanted ≢ 2 → Tells held held' status wanted lines last → status ≢ 2
tells-not-2 held held' status wanted lines last other (inl (is, grew)) two = other (sym is ∙ two)
tells-not-2 held held' status wanted lines last other (inr (some, inl (is, front, rest, same, more))) two = absurd (omega (arith, is, two))
tells-not-2 held held' status wanted lines last other (inr (some, inr (is, more))) two = absurd (omega (arith, is, two))

module _ {S K F N D C G L : Type 0} (m : Meanings S K F N D C G L) where
  -- a script that was read from the input, and then run
  pub run_of : (first : Editor) (commands : List Command) (status : ℕ) (old mid new : Outside S K F N D C G) → mid.output ≡ old.output → mid.dialer ≡ old.dialer
      → new ≡ record mid { output = new.output; dialer = new.dialer } → IsScript (m.left old.input) commands → IsAtEnd (m.left mid.input)
      → HasRun m first commands status mid new → IsRun m first status old new
  run_of first commands status old mid new output_is dialer_is others script whole ran =
      let input_is : mid.input ≡ new.input = λ i. (sym others i).input in
      record {
        commands = commands;
        script = script;
        whole = subst (λ (s : S). IsAtEnd (m.left s)) input_is whole;
        ran = record {
          last = ran.last;
          result = ran.result;
          written = ran.written;
          sent = ran.sent;
          runs = ran.runs;
          output = subst (λ (k : K). Tells (m.held k) (m.held new.output) status (status_of ran.result) ran.written (last_line ran.result)) output_is ran.output;
          exchanges = subst (λ (d : D). Grew (m.exchanges d) (m.exchanges new.dialer) ran.sent) dialer_is ran.exchanges;
          lost = subst (λ (d : D). RoseBy (m.dialer_faults d) (lost_in ran.sent) (m.dialer_faults new.dialer)) dialer_is ran.lost;
        };
      }

  -- what became of a script says nothing of the notes
  pub edits_noted : (first : Editor) (status : ℕ) (old new : Outside S K F N D C G) (notes : K) → Edits m first status old new
      → Edits m first status old (record new { notes = notes })
  edits_noted first status old new notes (inl unread) =
      inl (record { statuses = unread.statuses; output_is = unread.output_is; dialer_is = unread.dialer_is })
  edits_noted first status old new notes (inr (inl refused)) =
      inr (inl (record { number = refused.number; bad = refused.bad; told = refused.told; dialer_is = refused.dialer_is }))
  edits_noted first status old new notes (inr (inr run)) =
      let ran = run.ran in
      inr (inr (record {
        commands = run.commands;
        script = run.script;
        whole = run.whole;
        ran = record {
          last = ran.last;
          result = ran.result;
          written = ran.written;
          sent = ran.sent;
          runs = ran.runs;
          output = ran.output;
          exchanges = ran.exchanges;
          lost = ran.lost;
        };
      }))

pub EditEnds-known : {S K F N D C G L : Type 0} (m : Meanings S K F N D C G L) (words : List (List ℕ)) (status : ℕ) (old new : Outside S K F N D C G)
    → EditEnds m words status old new → status ≢ 2
EditEnds-known m words status old new (inl wants) two = let six = wants.status_is in absurd (omega (arith, six, two))
EditEnds-known m words status old new (inr ran) two = elim ran.edits [
  | inl unread ↦
      elim unread.statuses [
        | inl three ↦ absurd (omega (arith, three, two))
        | inr six ↦ absurd (omega (arith, six, two))
      ]
  | inr (inl refused) ↦ tells-not-2 (m.held old.output) (m.held new.output) status 7 _ _ (λ is. absurd (omega (arith, is))) refused.told two
  | inr (inr run) ↦ tells-not-2 (m.held old.output) (m.held new.output) status (status_of run.ran.result) _ _ (status-not-2 run.ran.result) run.ran.output two
]

-- ---- a last line

pub tells_whole : (start old new : Option (List ℕ)) (wanted : ℕ) (lines last : List ℕ) → Appends start old lines → Appends old new last → Tells start new wanted wanted lines last
tells_whole start old new wanted lines last before more = inl (refl, appends_then start old new lines last before more)

pub tells_cut : (start old new : Option (List ℕ)) (wanted : ℕ) (lines last : List ℕ) → 0 < length last → Appends start old lines → GrewByPrefix old new last
    → Tells start new 4 wanted lines last
tells_cut start old new wanted lines last some before (front, rest, is, more) =
    inr (some, inl (refl, front, rest, is, appends_then start old new lines front before more))

pub tells_no_last : (start old : Option (List ℕ)) (wanted : ℕ) (lines : List ℕ) → Appends start old lines → Tells start old wanted wanted lines []
tells_no_last start old wanted lines before = inl (refl, subst (λ l. Appends start old l) (sym (append-nil lines)) before)

pub tells_wanting : (start old : Option (List ℕ)) (wanted : ℕ) (lines last : List ℕ) → 0 < length last → Appends start old lines → Tells start old 6 wanted lines last
tells_wanting start old wanted lines last some before = inr (some, inr (refl, before))

pub some_last : (at : ℕ) → 0 < length (last_line (Err (fault.BadReply at)))
some_last at = let n = length-append (codes "bad reply ") (decimal at ++ codes "\n") in omega (arith, n)

pub some_bad_line : (number : ℕ) → 0 < length (bad_line number)
some_bad_line number = let n = length-append (codes "line ") (decimal number ++ codes ": bad line\n") in omega (arith, n)

-- status 4 is that of a failed write alone

ended-not-4 : (told : Outcome) → status_of (Ok (Ended told)) ≢ 4
ended-not-4 (outcome.Opened version) is = absurd (omega (arith, is))
ended-not-4 (outcome.Read version) is = absurd (omega (arith, is))
ended-not-4 (outcome.Saved version) is = absurd (omega (arith, is))
ended-not-4 outcome.Refreshed is = absurd (omega (arith, is))
ended-not-4 outcome.Closed is = absurd (omega (arith, is))
ended-not-4 (outcome.Conflict lock reason) is = absurd (omega (arith, is))
ended-not-4 (outcome.LockLost lock reason) is = absurd (omega (arith, is))
ended-not-4 outcome.TooLarge is = absurd (omega (arith, is))
ended-not-4 (outcome.HostFault status) is = absurd (omega (arith, is))
ended-not-4 outcome.TokenDead is = absurd (omega (arith, is))
ended-not-4 outcome.Gone is = absurd (omega (arith, is))
ended-not-4 outcome.NoAnswer is = absurd (omega (arith, is))

pub four_is_a_failed_write : (result : Result Went EditFault) → status_of result ≡ 4 → result ≡ Err fault.WriteFault
four_is_a_failed_write (Ok On) is = absurd (omega (arith, is))
four_is_a_failed_write (Ok (Ended told)) is = absurd (ended-not-4 told is)
four_is_a_failed_write (Err (fault.BadReply at)) is = absurd (omega (arith, is))
four_is_a_failed_write (Err fault.WriteFault) is = refl
four_is_a_failed_write (Err fault.Memory) is = absurd (omega (arith, is))

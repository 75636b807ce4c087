-- The statuses of `replay`, and the texts that it writes.
use Rattle.std.proofs.Common.{◌≡◌, ◌≢◌, ◌⊎◌, ℕ, List, [], Option, sym, ◌∙◌, subst, arith, inl, inr}
use Rattle.std.specs.Io.KnownBytes.{Appends, IsAtEnd}
use Rattle.outside.specs.Stream.{GrewByPrefix}
use Rattle.wopi_world.specs.Safe.{IsSafe}
use Rattle.schedule_text.specs.Schedules.{Lines}
use Rattle.replay_cmd.specs.Runs.{setting_of, world_of}
use Rattle.replay_cmd.specs.Worlds.{IsTextOf}
use Rattle.schedule_text.specs.Inputs.{IsWholeInput}
use Rattle.replay_cmd.specs.Trace.{trace_text}
use Rattle.wopi_program.specs.declared.outside_world.Outside.{Outside}
use Rattle.wopi_program.specs.declared.replay_words.ReplayAsk.{ReplayAsk}
use Rattle.wopi_program.specs.declared.replay_words.ReplayAsk.TheVariants.{Input, Generated}
use Rattle.wopi_program.specs.Meanings.{Meanings}
use Rattle.wopi_program.specs.Edit.{Tells}
use Rattle.wopi_program.specs.Replay.{AskReplays, InputReplays, IsTold, ReplayEnds, Replays}

-- ---- statuses

-- none of the statuses of a text
abbrev IsOther : ℕ → Type 0
IsOther n = (n ≢ 0) × (n ≢ 4) × (n ≢ 6) × (n ≢ 7)

two_is_other : IsOther 2
two_is_other = (λ is. absurd (omega (arith, is)), λ is. absurd (omega (arith, is)), λ is. absurd (omega (arith, is)), λ is. absurd (omega (arith, is)))

three_is_other : IsOther 3
three_is_other = (λ is. absurd (omega (arith, is)), λ is. absurd (omega (arith, is)), λ is. absurd (omega (arith, is)), λ is. absurd (omega (arith, is)))

told-not : (n : ℕ) → IsOther n → (text_of : List (List ℕ) → Lines → List ℕ) (lines : Lines) (status : ℕ) (held held' : Option (List ℕ))
    → IsTold text_of lines status held held' → status ≢ n
told-not n other text_of lines status held held' told is = elim told.told [
  | inl done ↦ other.0 (sym is ∙ done.0)
  | inr cut ↦ other.1 (sym is ∙ cut.0)
]

replays-not : {K : Type 0} (n : ℕ) → IsOther n → (held : K → Option (List ℕ)) (text_of : List (List ℕ) → Lines → List ℕ) (lines : Lines) (status : ℕ) (output output' : K)
    → Replays held text_of lines status output output' → status ≢ n
replays-not n other held text_of lines status output output' (inl (six, kept)) is = other.2 (sym is ∙ six)
replays-not n other held text_of lines status output output' (inr told) is = told-not n other text_of lines status (held output) (held output') told is

bad-not : (n : ℕ) → IsOther n → (held held' : Option (List ℕ)) (status : ℕ) (last : List ℕ) → Tells held held' status 7 [] last → status ≢ n
bad-not n other held held' status last (inl (seven, grew)) is = other.3 (sym is ∙ seven)
bad-not n other held held' status last (inr (some, inl (four, front, rest, same, more))) is = other.1 (sym is ∙ four)
bad-not n other held held' status last (inr (some, inr (six, more))) is = other.2 (sym is ∙ six)

module _ {S K F N D C G L : Type 0} (m : Meanings S K F N D C G L) where
  inputs_noted : (status : ℕ) (old new : Outside S K F N D C G) (notes : K) → InputReplays m status old new → InputReplays m status old (record new { notes = notes })
  inputs_noted status old new notes (inl unrun) = inl (record { statuses = unrun.statuses; output_is = unrun.output_is })
  inputs_noted status old new notes (inr (inl bad)) = inr (inl (record { number = bad.number; bad = bad.bad; told = bad.told }))
  inputs_noted status old new notes (inr (inr traced)) =
      inr (inr (record { lines = traced.lines; read = traced.read; whole = traced.whole; told = traced.told }))

  -- what became of a schedule says nothing of the notes
  pub asks_noted : (ask : ReplayAsk) (status : ℕ) (old new : Outside S K F N D C G) (notes : K) → AskReplays m ask status old new
      → AskReplays m ask status old (record new { notes = notes })
  asks_noted Input status old new notes replays = inputs_noted status old new notes replays
  asks_noted (Generated seed count) status old new notes replays = replays

  input-not-2 : (status : ℕ) (old new : Outside S K F N D C G) → InputReplays m status old new → status ≢ 2
  input-not-2 status old new (inl unrun) two = elim unrun.statuses [
    | inl three ↦ absurd (omega (arith, three, two))
    | inr six ↦ absurd (omega (arith, six, two))
  ]
  input-not-2 status old new (inr (inl bad)) two = bad-not 2 two_is_other (m.held old.output) (m.held new.output) status _ bad.told two
  input-not-2 status old new (inr (inr traced)) two =
      told-not 2 two_is_other trace_text traced.lines status (m.held old.output) (m.held new.output) traced.told two

  ask-not-2 : (ask : ReplayAsk) (status : ℕ) (old new : Outside S K F N D C G) → AskReplays m ask status old new → status ≢ 2
  ask-not-2 Input status old new replays two = input-not-2 status old new replays two
  ask-not-2 (Generated seed count) status old new replays two = replays-not 2 two_is_other m.held _ _ status old.output new.output replays.1 two

  pub ReplayEnds-known : (words : List (List ℕ)) (status : ℕ) (old new : Outside S K F N D C G) → ReplayEnds m words status old new → status ≢ 2
  ReplayEnds-known words status old new ends two = ask-not-2 ends.asked status old new ends.replays two

-- ---- a text that was written

pub told_of : (text_of : List (List ℕ) → Lines → List ℕ) (lines : Lines) (text shown : List ℕ) (status : ℕ) (held held' : Option (List ℕ))
    → IsSafe (setting_of lines) (world_of lines) → IsTextOf text_of lines text → shown ≡ text → (status ≡ 0) ⊎ (status ≡ 4)
    → (status ≡ 0 → Appends held held' shown) → (status ≡ 4 → GrewByPrefix held held' shown) → IsTold text_of lines status held held'
told_of text_of lines text shown status held held' safe (names, are, is) same (inl zero) done cut = record {
  safe = safe;
  names = names;
  names_are = are;
  told = inl (zero, subst (λ l. Appends held held' l) (same ∙ is) (done zero));
}
told_of text_of lines text shown status held held' safe (names, are, is) same (inr four) done cut = record {
  safe = safe;
  names = names;
  names_are = are;
  told = inr (four, subst (λ l. GrewByPrefix held held' l) (same ∙ is) (cut four));
}

-- a schedule that was read has no status of a failed read
pub replays_not_3 : {K : Type 0} (held : K → Option (List ℕ)) (lines : Lines) (status : ℕ) (output output' : K)
    → Replays held trace_text lines status output output' → status ≢ 3
replays_not_3 held lines status output output' replays is = replays-not 3 three_is_other held trace_text lines status output output' replays is

-- the trace of an input that was read
pub traced_of : {S K F N D C G L : Type 0} (m : Meanings S K F N D C G L) (lines : Lines) (status : ℕ) (old new : Outside S K F N D C G)
    → IsWholeInput (m.left old.input) lines → IsAtEnd (m.left new.input) → Replays m.held trace_text lines status old.output new.output → InputReplays m status old new
traced_of m lines status old new read whole (inl wanting) = inl (record { statuses = inr wanting.0; output_is = wanting.1 })
traced_of m lines status old new read whole (inr told) = inr (inr (record { lines = lines; read = read; whole = whole; told = told }))

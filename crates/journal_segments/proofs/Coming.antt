-- A segment whose bytes come in pieces.
use Rattle.std.proofs.Common.{◌≡◌, ◌≢◌, ℕ, ◌+◌, ◌<◌, ◌≤◌, List, [], ◌∷◌, ◌++◌, length, Option, None, Some, inl, inr, refl, sym, ap, ◌∙◌, subst, arith, append_assoc, append-nil}
use Rattle.std.specs.Io.KnownBytes.{IsAtEnd}
use Rattle.std.proofs.lemmas.List.{length-append, nil_from_length}
use Rattle.line_text.specs.Inputs.{HasRead}
use Rattle.line_text.specs.Words.{IsRow, words_of}
use Rattle.journal_text.proofs.Plain.{feed, space}
use Rattle.journal_text.proofs.Rows.{row_of_words}
use Rattle.journal_segments.specs.declared.rows.Head.{Head}
use Rattle.journal_segments.specs.declared.rows.Row.{Row}
use Rattle.journal_segments.specs.declared.state.State.{State}
use Rattle.journal_segments.specs.declared.walking.SegmentFault.{SegmentFault}
use Rattle.journal_segments.specs.declared.walking.SegmentFault.TheVariants as fault
use Rattle.journal_segments.specs.declared.reading.Restored.{Restored}
use Rattle.journal_segments.specs.declared.reading.SegmentReader.{SegmentReader}
use Rattle.journal_segments.specs.declared.reading.Stage.{Stage}
use Rattle.journal_segments.specs.declared.reading.Stage.TheVariants as stage
use Rattle.journal_segments.specs.Rows.{IsHead, head_text, head_words, start, told_with}
use Rattle.journal_segments.specs.Seen.{IsFresh}
use Rattle.journal_segments.specs.Reading.{HasCome, HasNoHead, HasSeen, IsHeadless, IsMissing, IsSeen, IsTimed, IsWatched, Reaches, Waits, Walks}
use Rattle.journal_segments.proofs.Lines.{head-lacks}
use Rattle.journal_segments.proofs.Apart.{said_first}
use Rattle.journal_segments.proofs.Going.{ends, goes_join, goes_more, goes_none, refused, taken_first, taken_more, taken_on, waits_more}

module _ {W : Type 0} (has_seen : W → Head → List Row → Type 0) where
  -- ---- too few bytes for more

  pub seen_more : (watcher : W) (text held piece : List ℕ) (number : ℕ) (state : State) → HasSeen has_seen watcher text held number state → HasSeen has_seen watcher (text ++ piece) (held ++ piece) number state
  unfolding taken_more goes_more
  seen_more watcher text held piece number state seen = record { taken = taken_more text held piece number state seen.taken; seen_are = seen.seen_are }

  pub reach_short : (watcher : W) (text piece before held : List ℕ) (at : Stage) (number wanted : ℕ) → Reaches has_seen watcher text at number before wanted → held ≡ before ++ piece → length held < wanted
      → Reaches has_seen watcher (text ++ piece) at number held wanted
  reach_short watcher text piece before held stage.First number wanted (same, none, row, wants, fresh) is few =
      let len = ap length is ∙ length-append before piece in
      let nothing : piece ≡ [] = nil_from_length piece (omega (arith, len, few, wants)) in
      let whole : held ≡ before = is ∙ ap (λ (l : List ℕ). before ++ l) nothing ∙ append-nil before in (
        is ∙ ap (λ (l : List ℕ). l ++ piece) same,
        none,
        subst IsRow (sym whole) row,
        wants ∙ ap (λ (l : List ℕ). length l + 1) (sym whole),
        fresh,
      )
  reach_short watcher text piece before held (stage.Rows state) number wanted (seen, waits) is few =
      let P : List ℕ → Type 0 = λ l. HasSeen has_seen watcher (text ++ piece) l number state in
      let Q : List ℕ → Type 0 = λ l. Waits state l wanted in
      let less : length (before ++ piece) < wanted = (let same = ap length is in omega (arith, same, few)) in
      (subst P (sym is) (seen_more watcher text before piece number state seen), subst Q (sym is) (waits_more state before piece wanted waits less))

  -- ---- more lines

  pub reach_first : (watcher : W) (text piece before held : List ℕ) (number wanted : ℕ) → Reaches has_seen watcher text stage.First number before wanted → held ≡ before ++ piece → held ≡ text ++ piece
  reach_first watcher text piece before held number wanted (same, none, row, wants, fresh) is = is ∙ ap (λ (l : List ℕ). l ++ piece) same

  pub reach_fresh : (watcher : W) (text before : List ℕ) (number wanted : ℕ) → Reaches has_seen watcher text stage.First number before wanted → IsFresh has_seen watcher
  reach_fresh watcher text before number wanted (same, none, row, wants, fresh) = fresh

  pub taken_here : (watcher : W) (text piece before held : List ℕ) (state : State) (number wanted : ℕ) → Reaches has_seen watcher text (stage.Rows state) number before wanted → held ≡ before ++ piece
      → HasSeen has_seen watcher (text ++ piece) held number state
  taken_here watcher text piece before held state number wanted (seen, waits) is =
      let P : List ℕ → Type 0 = λ l. HasSeen has_seen watcher (text ++ piece) l number state in subst P (sym is) (seen_more watcher text before piece number state seen)

  -- each line that was walked was seen
  seen_on : (old new : W) (text held left : List ℕ) (number counted : ℕ) (state next : State) → HasSeen has_seen old text held number state → Walks has_seen old new state held number next left counted
      → IsTimed next → HasSeen has_seen new text left counted next
  unfolding taken_on goes_join
  seen_on old new text held left number counted state next seen walks timed =
      let before = seen.taken.goes.rows in
      let count = seen.taken.goes.number_is in
      record {
        taken = taken_on text held left number counted state next seen.taken walks.goes timed;
        seen_are = walks.sees seen.taken.head before seen.taken.goes.state_is (omega (arith, count)) seen.seen_are;
      }

  pub reach_on : (old new : W) (text held left rest : List ℕ) (state next : State) (number counted wanted : ℕ) → Walks has_seen old new state held number next left counted → Waits next left wanted
      → IsTimed next → rest ≡ left → HasSeen has_seen old text held number state → Reaches has_seen new text (stage.Rows next) counted rest wanted
  reach_on old new text held left rest state next number counted wanted walks waits timed same seen =
      let P : List ℕ → Type 0 = λ l. Reaches has_seen new text (stage.Rows next) counted l wanted in
      subst P (sym same) (seen_on old new text held left number counted state next seen walks timed, waits)

  -- ---- the first line

  pub begun : (watcher : W) (text row behind : List ℕ) (head : Head) (state : State) → text ≡ row ++ 10 ∷ behind → IsHead head → words_of row ≡ head_words head → state ≡ start head → IsTimed state
      → IsFresh has_seen watcher → HasSeen has_seen watcher text behind 1 state
  unfolding taken_first goes_none
  begun watcher text row behind head state cut is said same timed fresh =
      let P : State → Type 0 = λ at. HasSeen has_seen watcher text behind 1 at in
      let Q : State → Type 0 = λ at. IsTimed at in
      subst P (sym same)
      (record { taken = taken_first text behind head is (cut ∙ row_of_words row behind (head_words head) said) (subst Q same timed); seen_are = fresh head })

pub no_head : (text row behind : List ℕ) → text ≡ row ++ 10 ∷ behind → IsRow row → ((head : Head) → IsHead head → words_of row ≢ head_words head) → HasNoHead text
no_head text row behind cut none other more rest head is e =
    other head is (said_first row (behind ++ more) rest (head_words head) (omega arith) none (head-lacks 32 head space is) (head-lacks 10 head feed is)
    (sym (append_assoc row (10 ∷ behind) more) ∙ ap (λ (l : List ℕ). l ++ more) (sym cut) ∙ e))

module _ {W : Type 0} (has_seen : W → Head → List Row → Type 0) where
  -- ---- the end

  pub end_told : (reader : SegmentReader W) (state : State) (read : Restored) (text : List ℕ) → reader.stage ≡ stage.Rows state → HasCome has_seen reader text → read.shard ≡ state.shard
      → read.told ≡ told_with state.told state.pending → read.used + length reader.held.items ≡ reader.size → IsSeen has_seen text read reader.watcher
  unfolding ends
  end_told reader state read text at come shard told used =
      let P : Stage → Type 0 = λ s. Reaches has_seen reader.watcher text s reader.number reader.held.items reader.wanted in
      let (seen, waits) = subst P at come.reaches in
      record {
        ends = ends text reader.held.items reader.number reader.wanted state read seen.taken waits shard told (used ∙ come.size);
        seen_are = seen.seen_are;
      }

  pub timed_at : (reader : SegmentReader W) (state : State) (text : List ℕ) → reader.stage ≡ stage.Rows state → HasCome has_seen reader text → IsTimed state
  timed_at reader state text at come =
      let P : Stage → Type 0 = λ s. Reaches has_seen reader.watcher text s reader.number reader.held.items reader.wanted in
      let (seen, waits) = subst P at come.reaches in
      seen.taken.timed

  pub end_missing : (reader : SegmentReader W) (text : List ℕ) → reader.stage ≡ stage.First → HasCome has_seen reader text → IsRow text
  end_missing reader text at come =
      let P : Stage → Type 0 = λ s. Reaches has_seen reader.watcher text s reader.number reader.held.items reader.wanted in
      let (same, none, row, wants, fresh) = subst P at come.reaches in
      subst IsRow same row

  pub end_short : (reader : SegmentReader W) (text : List ℕ) → HasCome has_seen reader text → length reader.held.items ≤ reader.size
  end_short reader text come = (let count = come.count in let size = come.size in omega (arith, count, size))

  pub watched : (left left' : Option (List ℕ)) (reader : SegmentReader W) (read : Restored) (watcher : W) → HasRead left left' (HasCome has_seen reader) → IsAtEnd left'
      → ((text : List ℕ) → HasCome has_seen reader text → IsSeen has_seen text read watcher) → IsWatched has_seen left left' read watcher
  watched left left' reader read watcher so end told =
      let seen = told so.bytes so.says in
      record { restored = record { bytes = so.bytes; consumed = so.read; end = end; ends = seen.ends }; seen_are = seen.seen_are }

  pub missing : (left left' : Option (List ℕ)) (reader : SegmentReader W) (why : SegmentFault) → HasRead left left' (HasCome has_seen reader) → IsAtEnd left'
      → ((text : List ℕ) → HasCome has_seen reader text → IsMissing text why) → why ≡ fault.Head → HasRead left left' (IsHeadless left')
  missing left left' reader why so end told is =
      let P : SegmentFault → Type 0 = λ w. IsMissing so.bytes w in
      record { bytes = so.bytes; read = so.read; says = inr (end, subst P is (told so.bytes so.says)) }

  -- what is found to be wrong at the end
  pub ended : (left left' : Option (List ℕ)) (reader : SegmentReader W) (why other : SegmentFault) → HasRead left left' (HasCome has_seen reader)
      → ((text : List ℕ) → HasCome has_seen reader text → IsMissing text why) → why ≡ other → (text : List ℕ) × IsMissing text other
  ended left left' reader why other so told is =
      let P : SegmentFault → Type 0 = λ w. IsMissing so.bytes w in
      (so.bytes, subst P is (told so.bytes so.says))

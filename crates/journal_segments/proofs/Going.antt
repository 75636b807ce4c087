-- A segment, line by line.
use Rattle.std.proofs.Common.{◌≡◌, ℕ, suc, ◌+◌, ◌<◌, ◌≤◌, List, [], ◌∷◌, ◌++◌, length, inl, inr, refl, ap, sym, ◌∙◌, subst, arith, append_assoc, append-nil}
use Rattle.std.proofs.lemmas.List.{length-append}
use Rattle.journal_segments.specs.declared.rows.Head.{Head}
use Rattle.journal_segments.specs.declared.rows.Row.{Row}
use Rattle.journal_segments.specs.declared.rows.Row.TheVariants as row
use Rattle.journal_segments.specs.declared.state.State.{State}
use Rattle.journal_segments.specs.declared.walking.SegmentFault.{SegmentFault}
use Rattle.journal_segments.specs.declared.walking.SegmentFault.TheVariants as fault
use Rattle.journal_segments.specs.declared.reading.Restored.{Restored}
use Rattle.journal_segments.specs.Rows.{AreRows, IsCut, IsForm, IsHead, MayCome, head_text, rows_text, segment_text, start, state_after, step, text_of, told_with}
use Rattle.journal_segments.specs.Reading.{EndsIn, Goes, HasLine, HasTaken, IsBadRow, IsLong, IsLongBehind, IsLongRow, IsOverlong, IsStopped, IsTimed, IsUnfit, IsWhole, Refuses, Stops, Waits, Walks}
use Rattle.journal_segments.specs.Seen.{Sees}

-- ---- lists that grow

pub text-append : (rows more : List Row) → rows_text (rows ++ more) ≡ rows_text rows ++ rows_text more
text-append [] more = refl
text-append (one ∷ rows) more = ap (λ (l : List ℕ). text_of one ++ l) (text-append rows more) ∙ sym (append_assoc (text_of one) (rows_text rows) (rows_text more))

pub state-append : (state : State) (rows more : List Row) → state_after state (rows ++ more) ≡ state_after (state_after state rows) more
state-append state [] more = refl
state-append state (one ∷ rows) more = state-append (step state one) rows more

pub rows-append : (state : State) (rows more : List Row) → AreRows state rows → AreRows (state_after state rows) more → AreRows state (rows ++ more)
rows-append state [] more f s = s
rows-append state (one ∷ rows) more f s = (f.0, f.1, rows-append (step state one) rows more f.2 s)

-- a line leaves the shard's number
shard_step : (state : State) (one : Row) → (step state one).shard ≡ state.shard
shard_step state (row.At name version size) = refl
shard_step state (row.Held name lock) = refl
shard_step state (row.Spent name one) = refl
shard_step state (row.Entry line) = refl
shard_step state row.Off = refl
shard_step state (row.Holds name contents) = refl

pub shard_after : (state : State) (rows : List Row) → (state_after state rows).shard ≡ state.shard
shard_after state [] = refl
shard_after state (one ∷ rows) = shard_after (step state one) rows ∙ shard_step state one

-- ---- lines at the front of a text

unfoldable pub goes_none : (state : State) (text : List ℕ) (number : ℕ) → Goes state text number state text number
goes_none state text number = record { rows = []; rows_are = tt; state_is = refl; parts = refl; number_is = omega arith }

-- and more of them
unfoldable pub goes_join : (old mid new : State) (text left rest : List ℕ) (a b c : ℕ) → Goes old text a mid left b → Goes mid left b new rest c → Goes old text a new rest c
goes_join old mid new text left rest a b c f s =
    let P : State → Type 0 = λ state. AreRows state s.rows in
    let m = f.number_is in
    let n = s.number_is in
    let len = length-append f.rows s.rows in
    record {
      rows = f.rows ++ s.rows;
      rows_are = rows-append old f.rows s.rows f.rows_are (subst P f.state_is s.rows_are);
      state_is = s.state_is ∙ ap (λ (state : State). state_after state s.rows) f.state_is ∙ sym (state-append old f.rows s.rows);
      parts = f.parts ∙ ap (λ (l : List ℕ). rows_text f.rows ++ l) s.parts ∙ sym (append_assoc (rows_text f.rows) (rows_text s.rows) rest)
          ∙ ap (λ (l : List ℕ). l ++ rest) (sym (text-append f.rows s.rows));
      number_is = omega (arith, m, n, len);
    }

-- and one more
unfoldable pub goes_row : (old mid new : State) (text left behind : List ℕ) (one : Row) (a b c : ℕ) → Goes old text a mid left b → IsWhole mid left one behind → new ≡ step mid one → c ≡ b + 1
    → Goes old text a new behind c
goes_row old mid new text left behind one a b c f whole is counted =
    goes_join old mid new text left behind a b c f (record {
      rows = one ∷ [];
      rows_are = (whole.form_is, whole.comes, tt);
      state_is = is;
      parts = whole.parts ∙ ap (λ (l : List ℕ). l ++ behind) (sym (append-nil (text_of one)));
      number_is = omega (arith, counted);
    })

module _ {W : Type 0} (has_seen : W → Head → List Row → Type 0) where
  -- nothing was walked
  pub walks_none : (watcher : W) (state : State) (text : List ℕ) (number : ℕ) → Walks has_seen watcher watcher state text number state text number
  unfolding goes_none
  walks_none watcher state text number =
      record {
        goes = goes_none state text number;
        sees = λ head before is counted seen. subst (λ (l : List Row). has_seen watcher head l) (sym (append-nil before)) seen;
      }

  -- what saw lines, and then others, has seen both
  sees_join : (first second third : W) (old mid : State) (a b : ℕ) (rows more : List Row) → mid ≡ state_after old rows → b ≡ a + length rows → Sees has_seen first second old a rows
      → Sees has_seen second third mid b more → Sees has_seen first third old a (rows ++ more)
  sees_join first second third old mid a b rows more is count f s head before at counted seen =
      let len = length-append before rows in
      subst (λ (l : List Row). has_seen third head l) (append_assoc before rows more)
      (s head (before ++ rows) (is ∙ ap (λ (state : State). state_after state rows) at ∙ sym (state-append (start head) before rows)) (omega (arith, len, count, counted))
      (f head before at counted seen))

  -- one line more was walked
  pub walks_row : (first second third : W) (old mid new : State) (text left behind : List ℕ) (one : Row) (a b c : ℕ) → Walks has_seen first second old text a mid left b → IsWhole mid left one behind
      → new ≡ step mid one → c ≡ b + 1 → Sees has_seen second third mid b (one ∷ []) → Walks has_seen first third old text a new behind c
  unfolding goes_row goes_join
  walks_row first second third old mid new text left behind one a b c f whole is counted seen =
      record {
        goes = goes_row old mid new text left behind one a b c f.goes whole is counted;
        sees = sees_join first second third old mid a b f.goes.rows (one ∷ []) f.goes.state_is f.goes.number_is f.sees seen;
      }

-- and more bytes
unfoldable pub goes_more : (old new : State) (text left piece : List ℕ) (a b : ℕ) → Goes old text a new left b → Goes old (text ++ piece) a new (left ++ piece) b
goes_more old new text left piece a b f =
    record {
      rows = f.rows;
      rows_are = f.rows_are;
      state_is = f.state_is;
      parts = ap (λ (l : List ℕ). l ++ piece) f.parts ∙ append_assoc (rows_text f.rows) left piece;
      number_is = f.number_is;
    }

-- a whole line has some bytes
pub shorter : (state : State) (text : List ℕ) (one : Row) (behind : List ℕ) → IsWhole state text one behind → 0 < length (text_of one) → length behind < length text
shorter state text one behind whole some =
    let len = ap length whole.parts ∙ length-append (text_of one) behind in omega (arith, len, some)

-- ---- why a walk stops

pub stopped_row : (old mid : State) (text left : List ℕ) (a b line : ℕ) → Goes old text a mid left b → HasLine left → IsUnfit mid left → line ≡ b + 1 → IsStopped old text a line
stopped_row old mid text left a b line f has unfit counted =
    let n = f.number_is in
    record {
      rows = f.rows;
      left = left;
      rows_are = f.rows_are;
      parts = f.parts;
      number_is = omega (arith, n, counted);
      has = has;
      unfit = subst (λ (state : State). IsUnfit state left) f.state_is unfit;
    }

pub overlong_row : (old mid : State) (text left : List ℕ) (a b line : ℕ) → Goes old text a mid left b → IsLong left → line ≡ b + 1 → IsOverlong old text a line
overlong_row old mid text left a b line f long counted =
    let n = f.number_is in
    record {
      rows = f.rows;
      left = left;
      rows_are = f.rows_are;
      parts = f.parts;
      number_is = omega (arith, n, counted);
      long = long;
    }

-- ---- behind the first line

unfoldable pub taken_first : (text rest : List ℕ) (head : Head) → IsHead head → text ≡ head_text head ++ rest → IsTimed (start head) → HasTaken text rest 1 (start head)
taken_first text rest head is parts timed =
    record { head = head; rest = rest; head_is = is; parts = parts; goes = goes_none (start head) rest 1; timed = timed }

unfoldable pub taken_on : (text held left : List ℕ) (number counted : ℕ) (state next : State) → HasTaken text held number state → Goes state held number next left counted → IsTimed next
    → HasTaken text left counted next
taken_on text held left number counted state next taken goes timed =
    record {
      head = taken.head;
      rest = taken.rest;
      head_is = taken.head_is;
      parts = taken.parts;
      goes = goes_join (start taken.head) state next taken.rest held left 1 number counted taken.goes goes;
      timed = timed;
    }

unfoldable pub taken_more : (text held piece : List ℕ) (number : ℕ) (state : State) → HasTaken text held number state → HasTaken (text ++ piece) (held ++ piece) number state
taken_more text held piece number state taken =
    record {
      head = taken.head;
      rest = taken.rest ++ piece;
      head_is = taken.head_is;
      parts = ap (λ (l : List ℕ). l ++ piece) taken.parts ∙ append_assoc (head_text taken.head) taken.rest piece;
      goes = goes_more (start taken.head) state taken.rest held piece 1 number taken.goes;
      timed = taken.timed;
    }

pub waits_more : (state : State) (held piece : List ℕ) (wanted : ℕ) → Waits state held wanted → length (held ++ piece) < wanted → Waits state (held ++ piece) wanted
waits_more state held piece wanted waits few =
    let len = length-append held piece in (
      few,
      λ more less.
          let both = length-append piece more in
          subst (IsCut state) (sym (append_assoc held piece more)) (waits.1 (piece ++ more) (omega (arith, len, both, less))),
    )

pub waits_now : (state : State) (held : List ℕ) (wanted : ℕ) → Waits state held wanted → IsCut state held
waits_now state held wanted waits =
    let few = waits.0 in subst (IsCut state) (append-nil held) (waits.1 [] (omega (arith, few)))

segment_parts : (head : Head) (rows more : List Row) (left : List ℕ) → head_text head ++ (rows_text rows ++ (rows_text more ++ left)) ≡ segment_text head (rows ++ more) ++ left
segment_parts head rows more left =
    ap (λ (l : List ℕ). head_text head ++ l) (sym (append_assoc (rows_text rows) (rows_text more) left) ∙ ap (λ (l : List ℕ). l ++ left) (sym (text-append rows more)))
    ∙ sym (append_assoc (head_text head) (rows_text (rows ++ more)) left)

pub refused : (text held : List ℕ) (number : ℕ) (state : State) (why : SegmentFault) → HasTaken text held number state → Stops state held number why → Refuses text why
refused text held number state (fault.Bad line) taken stops =
    let before = taken.goes.rows in
    let P : State → Type 0 = λ at. AreRows at stops.rows in
    let Q : State → Type 0 = λ at. IsUnfit at stops.left in
    let m = taken.goes.number_is in
    let n = stops.number_is in
    let len = length-append before stops.rows in
    record {
      head = taken.head;
      rows = before ++ stops.rows;
      left = stops.left;
      head_is = taken.head_is;
      rows_are = rows-append (start taken.head) before stops.rows taken.goes.rows_are (subst P taken.goes.state_is stops.rows_are);
      parts = taken.parts ∙ ap (λ (l : List ℕ). head_text taken.head ++ l) (taken.goes.parts ∙ ap (λ (l : List ℕ). rows_text before ++ l) stops.parts)
          ∙ segment_parts taken.head before stops.rows stops.left;
      number_is = omega (arith, m, n, len);
      has = stops.has;
      unfit = subst Q (ap (λ (at : State). state_after at stops.rows) taken.goes.state_is ∙ sym (state-append (start taken.head) before stops.rows)) stops.unfit;
    }
refused text held number state (fault.Long line) taken stops =
    let before = taken.goes.rows in
    let P : State → Type 0 = λ at. AreRows at stops.rows in
    let m = taken.goes.number_is in
    let n = stops.number_is in
    let len = length-append before stops.rows in
    inr (record {
      head = taken.head;
      rows = before ++ stops.rows;
      left = stops.left;
      head_is = taken.head_is;
      rows_are = rows-append (start taken.head) before stops.rows taken.goes.rows_are (subst P taken.goes.state_is stops.rows_are);
      parts = taken.parts ∙ ap (λ (l : List ℕ). head_text taken.head ++ l) (taken.goes.parts ∙ ap (λ (l : List ℕ). rows_text before ++ l) stops.parts)
          ∙ segment_parts taken.head before stops.rows stops.left;
      number_is = omega (arith, m, n, len);
      long = stops.long;
    })
refused text held number state fault.Memory taken stops = tt
refused text held number state fault.Head taken stops = absurd stops
refused text held number state fault.TooLong taken stops = absurd stops

-- ---- all that was read

unfoldable pub ends : (text held : List ℕ) (number wanted : ℕ) (state : State) (read : Restored) → HasTaken text held number state → Waits state held wanted
    → read.shard ≡ state.shard → read.told ≡ told_with state.told state.pending → read.used + length held ≡ length text → EndsIn text read
ends text held number wanted state read taken waits shard told used =
    let rows = taken.goes.rows in
    let is = taken.goes.state_is in
    let text_is : text ≡ segment_text taken.head rows ++ held =
    taken.parts ∙ ap (λ (l : List ℕ). head_text taken.head ++ l) taken.goes.parts ∙ sym (append_assoc (head_text taken.head) (rows_text rows) held) in
    let len = ap length text_is ∙ length-append (segment_text taken.head rows) held in
    record {
      head = taken.head;
      rows = rows;
      tail = held;
      segment = record {
        head_is = taken.head_is;
        rows_are = taken.goes.rows_are;
        parts = text_is;
        cut = subst (λ (at : State). IsCut at held) is (waits_now state held wanted waits);
      };
      shard_is = shard ∙ ap (λ (at : State). at.shard) is ∙ shard_after (start taken.head) rows;
      told_is = told ∙ ap (λ (at : State). told_with at.told at.pending) is;
      used_is = omega (arith, len, used);
    }

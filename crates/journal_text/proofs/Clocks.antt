-- The times of shards, one entry after another.
use Rattle.std.proofs.Common.{◌≡◌, ℕ, ◌<◌, ◌==◌, Bool, false, List, [], ◌∷◌, ◌++◌, length, inl, inr, if◌then◌else◌, refl, sym, ap, ◌∙◌, subst, arith}
use Rattle.std.specs.Prelude.{max, slice_index, slice_set}
use Rattle.std.proofs.lemmas.Bool.{eq-eqb}
use Rattle.std.proofs.lemmas.Bool.Decides.{eqb_tells}
use Rattle.std.proofs.lemmas.List.{get_or-set_same, get_or-set_other, length-set}
use Rattle.wopi_model.specs.Moment.{IsMoment}
use Rattle.journal_text.specs.declared.text.Format.{Format}
use Rattle.journal_text.specs.declared.text.Format.TheVariants.{First, Second}
use Rattle.journal_text.specs.declared.text.Line.{Line}
use Rattle.journal_text.specs.Lines.{IsLine}
use Rattle.journal_text.specs.Words.{line_words}
use Rattle.journal_text.specs.Journals.{IsTimed, now_in}
use Rattle.journal_text.specs.Reader.{AreTimes, HasTimes, IsClocked, time_of, times_after}

pub now_in_more : (opened shard : ℕ) (lines : List Line) (line : Line)
    → now_in opened shard (lines ++ line ∷ []) ≡ (if line.shard == shard then max (now_in opened shard lines) line.moment else now_in opened shard lines)
now_in_more opened shard [] line = refl
now_in_more opened shard (first ∷ lines) line = now_in_more (if first.shard == shard then max opened first.moment else opened) shard lines line

-- an entry's own shard
pub own_time : (opened : ℕ) (lines : List Line) (line : Line) → now_in opened line.shard (lines ++ line ∷ []) ≡ max (now_in opened line.shard lines) line.moment
own_time opened lines line =
    now_in_more opened line.shard lines line
    ∙ ap (λ (b : Bool). if b then max (now_in opened line.shard lines) line.moment else now_in opened line.shard lines) (eq-eqb line.shard line.shard refl)

-- and every other
other_time : (opened shard : ℕ) (lines : List Line) (line : Line) → (line.shard == shard) ≡ false → now_in opened shard (lines ++ line ∷ []) ≡ now_in opened shard lines
other_time opened shard lines line apart =
    now_in_more opened shard lines line ∙ ap (λ (b : Bool). if b then max (now_in opened shard lines) line.moment else now_in opened shard lines) apart

max_below : (a b n : ℕ) → a < n → b < n → max a b < n
max_below a b n h k = grind arith

pub HasTimes-more : (nows : List ℕ) (opened : ℕ) (lines : List Line) (line : Line) (now : ℕ) → HasTimes nows opened lines → line.shard < 16 → IsMoment line.moment
    → now ≡ max (slice_index nows line.shard) line.moment → HasTimes (slice_set nows line.shard now) opened (lines ++ line ∷ [])
HasTimes-more nows opened lines line now t within moment is =
    let long = t.are.long in
    let there : line.shard < length nows = omega (arith, long, within) in
    let set : slice_index (slice_set nows line.shard now) line.shard ≡ now = get_or-set_same nows line.shard now 0 there in
    let before = t.are.moments line.shard within in
    let below : IsMoment now = subst IsMoment (sym is) (max_below _ _ _ before moment) in
    record {
      are = record {
        long = length-set nows line.shard now ∙ long;
        moments = λ shard h. elim (eqb_tells line.shard shard) [
          | inl same ↦ subst (λ (s : ℕ). IsMoment (slice_index (slice_set nows line.shard now) s)) same.1 (subst IsMoment (sym set) below)
          | inr apart ↦ subst IsMoment (sym (get_or-set_other nows line.shard shard now 0 (λ e. apart.1 (sym e)))) (t.are.moments shard h)
        ];
      };
      times = λ shard h. elim (eqb_tells line.shard shard) [
        | inl same ↦ subst (λ (s : ℕ). slice_index (slice_set nows line.shard now) s ≡ now_in opened s (lines ++ line ∷ [])) same.1
            (set ∙ is ∙ ap (λ (n : ℕ). max n line.moment) (t.times line.shard within) ∙ sym (own_time opened lines line))
        | inr apart ↦ get_or-set_other nows line.shard shard now 0 (λ e. apart.1 (sym e)) ∙ t.times shard h ∙ sym (other_time opened shard lines line apart.0)
      ];
    }

-- an entry with its shard's time
pub record Clocked (form : Format) (nows : List ℕ) (line one : Line) (after : List ℕ) : Type 0 where
  pub form_is : IsLine form one
  pub words : line_words form one ≡ line_words form line
  pub clocked : IsClocked form nows one
  pub after_is : after ≡ times_after nows one

pub clocked_line : (form : Format) (nows : List ℕ) (line one : Line) (now : ℕ) (after : List ℕ) → IsLine form line → AreTimes nows → now ≡ time_of nows line
    → after ≡ slice_set nows line.shard now → (form ≡ First → one ≡ record line { now = now }) → (form ≡ Second → one ≡ line) → Clocked form nows line one after
clocked_line First nows line one now after h t is set first second =
    let before = t.moments line.shard h.shard in
    let below : IsMoment now = subst IsMoment (sym is) (max_below _ _ _ before h.moment) in
    subst (λ (o : Line). Clocked First nows line o after) (sym (first refl))
    (record {
      form_is = record {
        stamp = h.stamp;
        shard = h.shard;
        pass = h.pass;
        moment = h.moment;
        now = below;
        name = h.name;
        asked = h.asked;
        token = h.token;
        status = h.status;
        lock = h.lock;
        ids = h.ids;
        version = h.version;
        contents = h.contents;
      };
      words = refl;
      clocked = is;
      after_is = set ∙ ap (λ (n : ℕ). slice_set nows line.shard n) is;
    })
clocked_line Second nows line one now after h t is set first second =
    subst (λ (o : Line). Clocked Second nows line o after) (sym (second refl))
    (record { form_is = h; words = refl; clocked = tt; after_is = set ∙ ap (λ (n : ℕ). slice_set nows line.shard n) is })

-- and its time is the one that it has to have
pub timed_line : (form : Format) (opened : ℕ) (lines : List Line) (line : Line) (nows : List ℕ) → HasTimes nows opened lines → line.shard < 16 → IsClocked form nows line
    → IsTimed form opened lines line
timed_line First opened lines line nows t within clocked =
    clocked ∙ ap (λ (n : ℕ). max n line.moment) (t.times line.shard within) ∙ sym (own_time opened lines line)
timed_line Second opened lines line nows t within clocked = tt

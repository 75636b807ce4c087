-- One message of a connection.
use Rattle.std.proofs.Common.{◌≡◌, ◌≢◌, OnErr, ℕ, Bool, true, false, List, [], ◌∷◌, ◌++◌, Option, None, Some, Result, Ok, Err, refl, sym, ap, ◌∙◌, subst, append_assoc}
use Rattle.std.specs.Io.KnownBytes.{Consumes, Appends}
use Rattle.std.proofs.KnownBytes.{Appends-trans}
use Rattle.outside.specs.declared.faults.Failed.{Failed}
use Rattle.outside.specs.Clock.{GivesAll}
use Rattle.outside.specs.Stream.{Are}
use Rattle.wopi_http.specs.declared.message.Request.{Request}
use Rattle.wopi_http.specs.declared.reading.Got.TheVariants.{Message, Refused, WriteFault, Memory}
use Rattle.wopi_http.specs.Answers.{hundred_text, Reads, Looked, IsRefused}
use Rattle.wopi_http.specs.Replies.{Writes}
use Rattle.host_server.specs.Texts.{bare_reply}
use Rattle.host_core.specs.Caller.{Sight}
use Rattle.host_server.specs.declared.connection.Unsent.{Unsent}
use Rattle.host_server.specs.declared.connection.Unsent.TheVariants as unsent
use Rattle.host_server.specs.declared.connection.Progress.TheVariants.{Over}
use Rattle.host_server.specs.declared.desk.Desk.{Desk}
use Rattle.host_server.specs.Deeds.{Does}
use Rattle.host_server.proofs.DeedLemmas.{Does-nil}
use Rattle.host_server.specs.Turns.{said_text, Turn, IsTurn}
use Rattle.host_server.specs.Connection.{is_last, is_reply, next_line, closed, refused, wanted, line, reply, last}
use Rattle.host_server.specs.Steps.{Replies, StepsOn, StepsOver, Breaks, Steps, as_unsent, broken}
use Rattle.host_server.proofs.SequenceLemmas.{GivesAll-nil}

-- the told input, in two parts
rest_of : (a b : Option (List ℕ)) (bytes : List ℕ) → Consumes a b bytes → (rest : List ℕ) × Are a (bytes ++ rest)
rest_of None b bytes reads = ([], tt)
rest_of (Some x) None bytes reads = absurd reads
rest_of (Some x) (Some y) bytes reads = (y, reads)

looked_of : (a : Option (List ℕ)) (bytes more : List ℕ) (hundred : Bool) → Looked a bytes more hundred → Looked (Some (bytes ++ more)) bytes more hundred
looked_of a bytes more hundred looked = record { begins = refl; asks = looked.asks }

refused_of : (a : Option (List ℕ)) (hundred : Bool) (s at : ℕ) (r : IsRefused a hundred s at) → IsRefused (Some (r.bytes ++ r.more)) hundred s at
refused_of a hundred s at r = record {
  bytes = r.bytes;
  more = r.more;
  ended = r.ended;
  looked = looked_of a r.bytes r.more hundred r.looked;
  bad = r.bad;
  whole = r.whole;
  count = r.count;
}

module _ (desk : Desk) (always : Sight → Type 0) (count : ℕ) (q : Request) (clock clock' : Option (List ℕ)) (sight sight' : Sight) where
  turn_of : (left left' held mid held' : Option (List ℕ)) (close : Bool) (result : Result (Unit {0}) Unsent) → Reads left left' held mid (Message q)
      → Replies desk always q close clock clock' sight sight' mid held' result → (t : Turn) × IsTurn desk t × (t.request ≡ q)
      × Consumes left left' t.bytes × GivesAll clock clock' (t.moment ∷ []) × Does always sight sight' t.part
      × Appends held mid (hundred_text t.hundred) × Writes mid held' result (said_text t.said close)
  turn_of left left' held mid held' close result reads made = (
    record { bytes = reads.answer.0; request = q; hundred = reads.hundred; moment = made.moment; part = made.part; said = made.said },
    record { message = reads.answer.1; in_time = made.in_time; said = made.is_said },
    refl,
    reads.answer.2,
    made.times,
    made.makes,
    reads.asked,
    made.writes,
  )

  pub step_on : (left left' held mid held' : Option (List ℕ)) (done : Unit {0}) → Reads left left' held mid (Message q)
      → Replies desk always q false clock clock' sight sight' mid held' (Ok done) → is_last count q ≡ false
      → StepsOn desk always count left left' clock clock' sight sight' held held'
  step_on left left' held mid held' done reads made stays =
      let (t, is, same, used, times, makes, asked, said) = turn_of left left' held mid held' false (Ok done) reads made in
      record {
        turn = t;
        is_turn = is;
        stays = subst (λ r. is_last count r ≡ false) (sym same) stays;
        reads = used;
        times = times;
        makes = makes;
        writes = Appends-trans held mid held' _ _ asked said;
      }

  pub step_closed : (left left' held mid held' : Option (List ℕ)) (done : Unit {0}) → Reads left left' held mid (Message q)
      → Replies desk always q true clock clock' sight sight' mid held' (Ok done) → is_last count q ≡ true
      → StepsOver desk always count left clock clock' sight sight' held held'
  step_closed left left' held mid held' done reads made closes =
      let (t, is, same, used, times, makes, asked, said) = turn_of left left' held mid held' true (Ok done) reads made in
      let (after, whole) = rest_of left left' t.bytes used in
      record {
        end = closed t;
        rest = t.bytes ++ after;
        reads = whole;
        ends = (is, subst (λ r. is_last count r ≡ true) (sym same) closes, (after, refl));
        times = times;
        makes = makes;
        writes = Appends-trans held mid held' _ _ asked said;
      }

  pub step_broken : (left left' held mid held' : Option (List ℕ)) (close : Bool) (fault : Unsent) → Reads left left' held mid (Message q)
      → Replies desk always q close clock clock' sight sight' mid held' (Err fault) → is_last count q ≡ close
      → Breaks desk always count left clock clock' sight sight' held held'
  step_broken left left' held mid held' false fault reads made stays =
      let (t, is, same, used, times, makes, asked, said) = turn_of left left' held mid held' false (Err fault) reads made in
      let (after, whole) = rest_of left left' t.bytes used in
      let (front, back, parts, written) = said in
      record {
        next = reply t;
        rest = t.bytes ++ after;
        reads = whole;
        is_next = (is, subst (λ r. is_last count r ≡ false) (sym same) stays, (after, refl));
        times = times;
        makes = makes;
        front = hundred_text t.hundred ++ front;
        back = back;
        parts = ap (λ z. hundred_text t.hundred ++ z) parts ∙ sym (append_assoc (hundred_text t.hundred) front back);
        writes = Appends-trans held mid held' _ _ asked written;
      }
  step_broken left left' held mid held' true fault reads made closes =
      let (t, is, same, used, times, makes, asked, said) = turn_of left left' held mid held' true (Err fault) reads made in
      let (after, whole) = rest_of left left' t.bytes used in
      let (front, back, parts, written) = said in
      record {
        next = last (closed t);
        rest = t.bytes ++ after;
        reads = whole;
        is_next = (is, subst (λ r. is_last count r ≡ true) (sym same) closes, (after, refl));
        times = times;
        makes = makes;
        front = hundred_text t.hundred ++ front;
        back = back;
        parts = ap (λ z. hundred_text t.hundred ++ z) parts ∙ sym (append_assoc (hundred_text t.hundred) front back);
        writes = Appends-trans held mid held' _ _ asked written;
      }

  -- a store was lost, and nothing of the reply was written
  pub step_lost : (left left' held mid held' : Option (List ℕ)) (close : Bool) (fault : Unsent) → Reads left left' held mid (Message q)
      → Replies desk always q close clock clock' sight sight' mid held' (Err fault) → is_last count q ≡ close → held' ≡ mid
      → (breaks : Breaks desk always count left clock clock' sight sight' held held') × (breaks.front ≡ next_line breaks.next) × (is_reply breaks.next ≡ true)
  step_lost left left' held mid held' false fault reads made stays quiet =
      let (t, is, same, used, times, makes, asked, said) = turn_of left left' held mid held' false (Err fault) reads made in
      let (after, whole) = rest_of left left' t.bytes used in
      let breaks : Breaks desk always count left clock clock' sight sight' held held' = record {
        next = reply t;
        rest = t.bytes ++ after;
        reads = whole;
        is_next = (is, subst (λ r. is_last count r ≡ false) (sym same) stays, (after, refl));
        times = times;
        makes = makes;
        front = hundred_text t.hundred;
        back = said_text t.said false;
        parts = refl;
        writes = subst (λ (o : Option (List ℕ)). Appends held o (hundred_text t.hundred)) (sym quiet) asked;
      } in
      (breaks, refl, refl)
  step_lost left left' held mid held' true fault reads made closes quiet =
      let (t, is, same, used, times, makes, asked, said) = turn_of left left' held mid held' true (Err fault) reads made in
      let (after, whole) = rest_of left left' t.bytes used in
      let breaks : Breaks desk always count left clock clock' sight sight' held held' = record {
        next = last (closed t);
        rest = t.bytes ++ after;
        reads = whole;
        is_next = (is, subst (λ r. is_last count r ≡ true) (sym same) closes, (after, refl));
        times = times;
        makes = makes;
        front = hundred_text t.hundred;
        back = said_text t.said true;
        parts = refl;
        writes = subst (λ (o : Option (List ℕ)). Appends held o (hundred_text t.hundred)) (sym quiet) asked;
      } in
      (breaks, refl, refl)

  -- by what became of the reply
  pub step_unsent : (left left' left'' held mid held' : Option (List ℕ)) (close : Bool) (fault : Unsent) → Reads left left' held mid (Message q)
      → Replies desk always q close clock clock' sight sight' mid held' (Err fault) → is_last count q ≡ close → (fault ≡ unsent.Lost → held' ≡ mid)
      → Steps desk always count left left'' clock clock' sight sight' held held' (Over (broken fault))
  step_unsent left left' left'' held mid held' close unsent.Fault reads made closes quiet = step_broken left left' held mid held' close unsent.Fault reads made closes
  step_unsent left left' left'' held mid held' close unsent.Lost reads made closes quiet = step_lost left left' held mid held' close unsent.Lost reads made closes (quiet refl)

module _ (desk : Desk) (always : Sight → Type 0) (count : ℕ) (left left' clock : Option (List ℕ)) (sight : Sight)
    (held mid held' : Option (List ℕ)) where
  pub step_refused : (s at : ℕ) (done : Unit {0}) → Reads left left' held mid (Refused s at) → Writes {T = Unit {0}} {E = Failed} mid held' (Ok done) (bare_reply s true)
      → StepsOver desk always count left clock clock sight sight held held'
  step_refused s at done reads said = record {
    end = refused s reads.hundred;
    rest = reads.answer.bytes ++ reads.answer.more;
    reads = reads.answer.looked.begins;
    ends = (at, refused_of left reads.hundred s at reads.answer);
    times = GivesAll-nil clock;
    makes = Does-nil always sight;
    writes = Appends-trans held mid held' _ _ reads.asked said;
  }

  pub refusal_broken : (s at : ℕ) (fault : Failed) → Reads left left' held mid (Refused s at) → Writes {T = Unit {0}} {E = Failed} mid held' (Err fault) (bare_reply s true)
      → Breaks desk always count left clock clock sight sight held held'
  refusal_broken s at fault reads (front, back, parts, written) = record {
    next = last (refused s reads.hundred);
    rest = reads.answer.bytes ++ reads.answer.more;
    reads = reads.answer.looked.begins;
    is_next = (at, refused_of left reads.hundred s at reads.answer);
    times = GivesAll-nil clock;
    makes = Does-nil always sight;
    front = hundred_text reads.hundred ++ front;
    back = back;
    parts = ap (λ z. hundred_text reads.hundred ++ z) parts ∙ sym (append_assoc (hundred_text reads.hundred) front back);
    writes = Appends-trans held mid held' _ _ reads.asked written;
  }

  pub step_wanted : (done : Unit {0}) → Reads left left' held mid Memory → Writes {T = Unit {0}} {E = Failed} mid held' (Ok done) (bare_reply 503 true)
      → StepsOver desk always count left clock clock sight sight held held'
  step_wanted done reads said =
      let (bytes, more, looked) = reads.answer in
      record {
        end = wanted reads.hundred;
        rest = bytes ++ more;
        reads = looked.begins;
        ends = (bytes, more, looked_of left bytes more reads.hundred looked);
        times = GivesAll-nil clock;
        makes = Does-nil always sight;
        writes = Appends-trans held mid held' _ _ reads.asked said;
      }

  pub want_broken : (fault : Failed) → Reads left left' held mid Memory → Writes {T = Unit {0}} {E = Failed} mid held' (Err fault) (bare_reply 503 true)
      → Breaks desk always count left clock clock sight sight held held'
  want_broken fault reads (front, back, parts, written) =
      let (bytes, more, looked) = reads.answer in
      record {
        next = last (wanted reads.hundred);
        rest = bytes ++ more;
        reads = looked.begins;
        is_next = (bytes, more, looked_of left bytes more reads.hundred looked);
        times = GivesAll-nil clock;
        makes = Does-nil always sight;
        front = hundred_text reads.hundred ++ front;
        back = back;
        parts = ap (λ z. hundred_text reads.hundred ++ z) parts ∙ sym (append_assoc (hundred_text reads.hundred) front back);
        writes = Appends-trans held mid held' _ _ reads.asked written;
      }

module _ (desk : Desk) (always : Sight → Type 0) (count : ℕ) (left left' clock : Option (List ℕ)) (sight : Sight)
    (held held' : Option (List ℕ)) where
  pub asking_broken : Reads left left' held held' WriteFault → Breaks desk always count left clock clock sight sight held held'
  asking_broken reads =
      let (bytes, more, looked) = reads.answer in
      let (asks, (front, back, parts, written)) = reads.asked in
      record {
        next = line true;
        rest = bytes ++ more;
        reads = looked.begins;
        is_next = (bytes, more, looked_of left bytes more true (subst (Looked left bytes more) asks looked));
        times = GivesAll-nil clock;
        makes = Does-nil always sight;
        front = front;
        back = back;
        parts = parts;
        writes = written;
      }

-- what was written of a reply, by what came of sending it
pub writes_as : (old new : Option (List ℕ)) (sent : Result (Unit {0}) Failed) (text : List ℕ) → Writes {T = Unit {0}} {E = Failed} old new sent text → Writes {T = Unit {0}} {E = Unsent} old new (as_unsent sent) text
writes_as old new (Ok done) text writes = writes
writes_as old new (Err failed) text writes = writes

pub fault_as : (P : Type 0) (sent : Result (Unit {0}) Failed) → OnErr sent P → as_unsent sent ≡ Err unsent.Fault → P
fault_as P (Ok done) fails is = absurd (cc is)
fault_as P (Err failed) fails is = fails

pub never_lost : (sent : Result (Unit {0}) Failed) → as_unsent sent ≢ Err unsent.Lost
never_lost (Ok done) = λ e. cc e
never_lost (Err failed) = λ e. cc e

-- What was looked at and what was taken, one after another.
use Rattle.std.proofs.Common.{◌≡◌, ℕ, ◌+◌, ◌≤◌, Bool, true, false, IsTrue, List, [], ◌∷◌, ◌++◌, length, take, drop, Option, None, Some, refl, sym, ap, ◌∙◌, arith, append_assoc}
use Rattle.std.specs.Io.KnownBytes.{Consumes, Keeps, IsAtEnd, prepend_known}
use Rattle.std.proofs.KnownBytes.{Consumes-trans}
use Rattle.std.proofs.lemmas.List.{length-append, length-take-le, length-drop}
use Rattle.std.proofs.Math.Seq.{take-add}
use Rattle.outside.specs.Stream.{Are}
use Rattle.wopi_http.specs.Looks.{LooksAt}
use Rattle.wopi_http.specs.Waits.{Takes}

-- ---- what was taken

pub takes_then : (a b c : Option (List ℕ)) (old mid new : List ℕ) (m n : ℕ) → Takes a b old mid m → Takes b c mid new n → Takes a c old new (m + n)
takes_then a b c old mid new m n x y =
    let first = x.count in
    let second = y.count in
    record {
      wire = x.wire ++ y.wire;
      consumed = Consumes-trans a b c x.wire y.wire x.consumed y.consumed;
      new_is = y.new_is ∙ ap (λ z. z ++ y.wire) x.new_is ∙ append_assoc old x.wire y.wire;
      count = omega (arith, length-append x.wire y.wire);
    }

-- one read behind a place
pub takes_behind : (a b : Option (List ℕ)) (old new : List ℕ) (at n : ℕ) → take at new ≡ take at old → at + n ≤ length new
    → Consumes a b (take n (drop at new)) → Takes a b (take at old) (take (at + n) new) n
takes_behind a b old new at n front fits consumed = record {
  wire = take n (drop at new);
  consumed = consumed;
  new_is = take-add at n new ∙ ap (λ z. z ++ take n (drop at new)) front;
  count = length-take-le n (drop at new) (omega (arith, length-drop at new));
}

-- ---- what was consumed

pub consumes_kept : (a b : Option (List ℕ)) → Keeps a b → Consumes a b []
consumes_kept None b keeps = tt
consumes_kept (Some x) None keeps = absurd keeps
consumes_kept (Some x) (Some y) keeps = sym keeps

-- bytes at the front of what is held
pub consumes_front : (a b : Option (List ℕ)) (held front rest : List ℕ) → Keeps a (prepend_known held b) → held ≡ front ++ rest
    → Consumes a (prepend_known rest b) front
consumes_front None b held front rest keeps parts = tt
consumes_front (Some x) None held front rest keeps parts = absurd keeps
consumes_front (Some x) (Some y) held front rest keeps parts =
    sym keeps ∙ ap (λ z. z ++ y) parts ∙ append_assoc front rest y

-- ---- what was looked at

pub begins_after : (a b : Option (List ℕ)) (front bytes more : List ℕ) → Consumes a b front → Are b (bytes ++ more) → Are a ((front ++ bytes) ++ more)
begins_after None b front bytes more consumed begins = tt
begins_after (Some x) None front bytes more consumed begins = absurd consumed
begins_after (Some x) (Some y) front bytes more consumed begins =
    consumed ∙ ap (λ z. front ++ z) begins ∙ sym (append_assoc front bytes more)

-- bytes that were consumed before
pub looks_after : (a b : Option (List ℕ)) (front : List ℕ) (n m : ℕ) (P Q : List ℕ → Bool → Type 0) → Consumes a b front → LooksAt b m P
    → n ≡ length front + m → ((bytes : List ℕ) (ended : Bool) → P bytes ended → Q (front ++ bytes) ended) → LooksAt a n Q
looks_after a b front n m P Q consumed x sum on =
    let count = x.count in
    record {
      bytes = front ++ x.bytes;
      more = x.more;
      ended = x.ended;
      begins = begins_after a b front x.bytes x.more consumed x.begins;
      whole = x.whole;
      count = omega (arith, length-append front x.bytes);
      says = on x.bytes x.ended x.says;
    }

pub looks_kept : (a b : Option (List ℕ)) (n : ℕ) (P : List ℕ → Bool → Type 0) → Keeps a b → LooksAt b n P → LooksAt a n P
looks_kept a b n P keeps x = looks_after a b [] n n P P (consumes_kept a b keeps) x (omega arith) (λ bytes ended says. says)

-- all that is held
pub looks_here : (b : Option (List ℕ)) (held : List ℕ) (P : List ℕ → Bool → Type 0)
    → ((ended : Bool) → (IsAtEnd b → IsTrue ended) → P held ended) → LooksAt (prepend_known held b) (length held) P
looks_here None held P says = record {
  bytes = held;
  more = [];
  ended = true;
  begins = tt;
  whole = λ _. refl;
  count = refl;
  says = says true (λ _. refl);
}
looks_here (Some []) held P says = record {
  bytes = held;
  more = [];
  ended = true;
  begins = refl;
  whole = λ _. refl;
  count = refl;
  says = says true (λ _. refl);
}
looks_here (Some (y ∷ ys)) held P says = record {
  bytes = held;
  more = y ∷ ys;
  ended = false;
  begins = refl;
  whole = λ no. cc;
  count = refl;
  says = says false (λ none. cc);
}

are_all : (a b : Option (List ℕ)) (wire : List ℕ) → Consumes a b wire → IsAtEnd b → Are a (wire ++ [])
are_all None b wire consumed end = tt
are_all (Some x) None wire consumed end = absurd consumed
are_all (Some x) (Some y) wire consumed end = consumed ∙ ap (λ z. wire ++ z) end

-- the input ended with what was consumed
pub looks_all : (a b : Option (List ℕ)) (wire : List ℕ) (P : List ℕ → Bool → Type 0) → Consumes a b wire → IsAtEnd b
    → P wire true → LooksAt a (length wire) P
looks_all a b wire P consumed end says = record {
  bytes = wire;
  more = [];
  ended = true;
  begins = are_all a b wire consumed end;
  whole = λ _. refl;
  count = refl;
  says = says;
}

-- all that is held, as a refusal counts it
pub refused_here : (a b : Option (List ℕ)) (held : List ℕ) (P : List ℕ → Bool → Type 0) → Keeps a (prepend_known held b)
    → ((ended : Bool) → (IsAtEnd b → IsTrue ended) → P held ended) → LooksAt a (0 + length held) P
refused_here a b held P keeps says =
    looks_after a (prepend_known held b) [] (0 + length held) (length held) P P (consumes_kept a (prepend_known held b) keeps)
    (looks_here b held P says) (omega arith) (λ bytes ended is. is)

-- nothing was looked at
pub looks_nothing : (a : Option (List ℕ)) (P : List ℕ → Bool → Type 0) → P [] false → LooksAt a 0 P
looks_nothing None P says = record { bytes = []; more = []; ended = false; begins = tt; whole = λ no. refl; count = refl; says = says }
looks_nothing (Some x) P says = record { bytes = []; more = x; ended = false; begins = refl; whole = λ no. cc; count = refl; says = says }

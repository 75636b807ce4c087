-- What was read when a read failed, step by step.
use Rattle.std.proofs.Common.{◌≡◌, ℕ, true, false, List, [], ◌++◌, Option, None, Some, refl, sym, ap, subst, ◌∙◌, append-nil}
use Rattle.std.specs.Io.KnownBytes.{Appends, Consumes, Keeps, prepend_known}
use Rattle.std.proofs.KnownBytes.{Consumes-trans, Appends-nil}
use Rattle.outside.specs.Stream.{IsCut}
use Rattle.wopi_http.specs.Cuts.{IsPrompt, BeginsNoMessage, OwesNothing, in_head, in_body}
use Rattle.wopi_http.specs.Answers.{no_head as no_head_yet, hundred_text}
use Rattle.wopi_http.specs.HeadReads.{IsOpenHead}
use Rattle.wopi_http.specs.Messages.{Bad, no_head, cut_head, bad_body, framing_in, ReadsHead}
use Rattle.wopi_http.proofs.MessageLemmas.{ReadsHead-append, bad_no_message, bad_status}
use Rattle.wopi_http.proofs.BodyLemmas.{open_is_bad}

-- all that is held was read
pub consumes_all : (a b c : Option (List ℕ)) (held : List ℕ) → Keeps a (prepend_known held b) → Keeps b c → Consumes a c held
consumes_all None b c held keeps same = tt
consumes_all (Some x) None c held keeps same = absurd keeps
consumes_all (Some x) (Some y) None held keeps same = absurd same
consumes_all (Some x) (Some y) (Some z) held keeps same = sym keeps ∙ ap (λ l. held ++ l) (sym same)

pub cut_here : (a b c : Option (List ℕ)) (held : List ℕ) (P : List ℕ → Type 0) → Keeps a (prepend_known held b) → Keeps b c → P held → IsCut a c P
cut_here a b c held P keeps same says = record { bytes = held; read = consumes_all a b c held keeps same; says = says }

-- bytes that were read before
pub cut_after : (a b c : Option (List ℕ)) (front : List ℕ) (P Q : List ℕ → Type 0) → Consumes a b front → IsCut b c P
    → ((bytes : List ℕ) → P bytes → Q (front ++ bytes)) → IsCut a c Q
cut_after a b c front P Q consumed x on = record {
  bytes = front ++ x.bytes;
  read = Consumes-trans a b c front x.bytes consumed x.read;
  says = on x.bytes x.says;
}

pub cut_weaker : (a c : Option (List ℕ)) (P Q : List ℕ → Type 0) → IsCut a c P → ((bytes : List ℕ) → P bytes → Q bytes) → IsCut a c Q
cut_weaker a c P Q x on = record { bytes = x.bytes; read = x.read; says = on x.bytes x.says }

-- where the input ended with bytes for which nothing is owed, they are no message
pub none_from_open : (bytes : List ℕ) → OwesNothing bytes → BeginsNoMessage bytes
none_from_open bytes (in_head it) = λ m rest q hundred message e.
    it.none message.head (message.wire ++ rest)
    (subst (λ (z : List ℕ). ReadsHead z message.head (message.wire ++ rest)) (sym e)
    (ReadsHead-append m message.head message.wire rest message.reads))
none_from_open bytes (in_body h wire reads it) = λ m rest q hundred message e.
    bad_no_message bytes [] m rest true 400 q hundred (bad_body h wire reads (open_is_bad (framing_in h) wire it)) (λ _. refl) message
    (append-nil bytes ∙ e)

-- nor are they refused by another status
pub only_by_400 : (bytes : List ℕ) (s : ℕ) → OwesNothing bytes → Bad bytes false s → s ≡ 400
only_by_400 bytes s (in_head it) (no_head is never) = is
only_by_400 bytes s (in_head it) (cut_head is at_end some none) = is
only_by_400 bytes s (in_head it) (bad_body h wire reads bad) = absurd (it.none h wire reads)
only_by_400 bytes s (in_body h wire reads it) bad =
    bad_status bytes bytes [] [] false true s 400 bad (bad_body h wire reads (open_is_bad (framing_in h) wire it)) (λ _. refl) (λ _. refl) refl

pub prompt_in_head : (a c hold done : Option (List ℕ)) → IsCut a c IsOpenHead → done ≡ hold → IsPrompt a c hold done
prompt_in_head a c hold done x same =
    record {
      bytes = x.bytes;
      read = x.read;
      owes_nothing = in_head x.says;
      hundred = false;
      asks = no_head_yet refl x.says.none;
      written = subst (λ (h : Option (List ℕ)). Appends hold h []) (sym same) (Appends-nil hold);
    }

kept_consumes : (a b c : Option (List ℕ)) (bytes : List ℕ) → Keeps a b → Consumes b c bytes → Consumes a c bytes
kept_consumes None b c bytes keeps read = tt
kept_consumes (Some s) None c bytes keeps read = absurd keeps
kept_consumes (Some s) (Some t) None bytes keeps read = absurd read
kept_consumes (Some s) (Some t) (Some u) bytes keeps read = sym keeps ∙ read

-- after what was read before, and nothing written
pub prompt_kept : (a b c hold mid done : Option (List ℕ)) → Keeps a b → mid ≡ hold → IsPrompt b c mid done → IsPrompt a c hold done
prompt_kept a b c hold mid done keeps same x = record {
  bytes = x.bytes;
  read = kept_consumes a b c x.bytes keeps x.read;
  owes_nothing = x.owes_nothing;
  hundred = x.hundred;
  asks = x.asks;
  written = subst (λ (h : Option (List ℕ)). Appends h done (hundred_text x.hundred)) same x.written;
}

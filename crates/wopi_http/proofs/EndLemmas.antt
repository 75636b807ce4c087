-- Whether a reply tells where it ends.
use Rattle.std.proofs.Common.{◌≡◌, ℕ, ◌+◌, ◌≤◌, ◌<◌, Bool, true, false, List, [], ◌++◌, length, take, drop, refl, sym, ap, ◌∙◌, subst, arith, take-append-drop}
use Rattle.std.proofs.lemmas.List.{length-append, length-take-le}
use Rattle.httparse.specs.Grammar.{ResponseHead, status_code}
use Rattle.wopi_http.specs.declared.framing.Framing.{Framing}
use Rattle.wopi_http.specs.declared.framing.Framing.TheVariants.{Sized}
use Rattle.wopi_http.specs.declared.message.Field.{Field}
use Rattle.wopi_http.specs.declared.message.Reply.{Reply}
use Rattle.wopi_http.specs.declared.reply_body.Extent.{Extent}
use Rattle.wopi_http.specs.declared.reply_body.Extent.TheVariants.{Framed, ToEnd}
use Rattle.wopi_http.specs.declared.reply_head.ReplyHead.{ReplyHead}
use Rattle.wopi_http.specs.ReplyReads.{HasNoReplyHead, ReadsInterim, is_interim, reply_in, reply_fields, extent_of, extent_in, BeginsBody, ReadsBody, ReadsReply}
use Rattle.wopi_http.specs.ReplyEnds.{TellsBody, IsWholeReply, HasBody, BodyEnds, Ends}
use Rattle.wopi_http.proofs.ReplyLemmas.{PassesHead, finds_head, found_one, no_head_behind}

-- the extent that the code computes is that of the head
pub extent_told : (h : ResponseHead) (x : ReplyHead) (fields : List Field) (e : Extent) → fields ≡ x.reply.fields
    → e ≡ extent_of x.reply.status x.version fields → x.reply ≡ reply_in h [] → x.version ≡ h.minor → extent_in h ≡ e
extent_told h x fields e same is reply version =
    sym (is ∙ ap (extent_of x.reply.status x.version) same ∙ ap (λ r. extent_of r.status x.version r.fields) reply
    ∙ ap (λ m. extent_of (status_code h) m (reply_fields h)) version)

pub sized_ends : (n : ℕ) (bytes : List ℕ) → n ≤ length bytes → HasBody (Sized n) bytes true
sized_ends n bytes fits = (
  take n bytes,
  record { wire = take n bytes; rest = drop n bytes; bytes_are = sym (take-append-drop n bytes); is = (refl, length-take-le n bytes fits) },
)

same_framing : (h : ResponseHead) (f k : Framing) → extent_in h ≡ Framed f → extent_in h ≡ Framed k → k ≡ f
same_framing h f k x y = cc

pub body_told : (h : ResponseHead) (f : Framing) (bytes : List ℕ) (is : Bool) → extent_in h ≡ Framed f → HasBody f bytes is → BodyEnds h bytes is
body_told h f bytes true told x = record { framing = f; told = told; body = x.0; begins = x.1 }
body_told h f bytes false told x = λ y.
    x y.body (subst (λ k. BeginsBody k bytes y.body) (same_framing h f y.framing told y.told) y.begins)

-- no head behind those of interim replies
pub ends_without : (bytes : List ℕ) (at : ℕ) (hs : List ResponseHead) → ReadsInterim bytes hs (drop at bytes) → HasNoReplyHead (drop at bytes)
    → ¬ (IsWholeReply bytes)
ends_without bytes at hs skipped none y =
    no_head_behind bytes hs y.found.heads (drop at bytes) y.found.mid y.head y.rest skipped none y.found.skipped y.found.head y.found.final

-- behind the last head
pub ends_behind : (bytes : List ℕ) (at : ℕ) (hs : List ResponseHead) (x : ReplyHead) (is : Bool) → ReadsInterim bytes hs (drop at bytes)
    → (p : PassesHead bytes at x) → is_interim x.reply.status ≡ false → BodyEnds p.head (drop (at + x.len) bytes) is → Ends bytes is
ends_behind bytes at hs x true skipped p final on = record {
  head = p.head;
  rest = drop (at + x.len) bytes;
  found = finds_head bytes at hs x skipped p final;
  body = on;
}
ends_behind bytes at hs x false skipped p final on = λ y.
    let heads = found_one bytes p.head y.head (drop (at + x.len) bytes) y.rest (finds_head bytes at hs x skipped p final) y.found in
    on (subst (λ z. TellsBody p.head z) (sym heads.1) (subst (λ k. TellsBody k y.rest) (sym heads.0) y.body))

pub whole_is_reply : (bytes : List ℕ) → IsWholeReply bytes → (r : Reply) × ReadsReply bytes r
whole_is_reply bytes x = (
  reply_in x.head x.body.body,
  record {
    head = x.head;
    rest = x.rest;
    found = x.found;
    body = subst (λ e. ReadsBody e x.rest x.body.body) (sym x.body.told) x.body.begins;
    reply = refl;
  },
)

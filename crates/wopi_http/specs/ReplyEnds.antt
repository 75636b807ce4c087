-- Replies that tell where they end (RFC 9112, 6.3).
use Rattle.std.specs.Prelude.{ℕ, ◌≡◌, Bool, true, false, List}
use Rattle.httparse.specs.Grammar.{ResponseHead}
use Rattle.wopi_http.specs.declared.framing.Framing.{Framing}
use Rattle.wopi_http.specs.declared.reply_body.Extent.TheVariants.{Framed}
use Rattle.wopi_http.specs.ReplyReads.{FindsHead, BeginsBody, extent_in}

-- the head tells how far its body goes, and bytes begin with that body
pub record TellsBody (h : ResponseHead) (bytes : List ℕ) : Type 0 where
  pub framing : Framing
  pub told : extent_in h ≡ Framed framing
  pub body : List ℕ
  pub begins : BeginsBody framing bytes body

-- bytes begin with a whole reply whose head tells how far its body goes
pub record IsWholeReply (bytes : List ℕ) : Type 0 where
  pub head : ResponseHead
  pub rest : List ℕ
  pub found : FindsHead bytes head rest
  pub body : TellsBody head rest

-- whether they do, and whether bytes begin with a body in this framing
abbrev pub HasBody : Framing → List ℕ → Bool → Type 0
HasBody f bytes true = (body : List ℕ) × BeginsBody f bytes body
HasBody f bytes false = (body : List ℕ) → ¬ (BeginsBody f bytes body)

abbrev pub BodyEnds : ResponseHead → List ℕ → Bool → Type 0
BodyEnds h bytes true = TellsBody h bytes
BodyEnds h bytes false = ¬ (TellsBody h bytes)

abbrev pub Ends : List ℕ → Bool → Type 0
Ends bytes true = IsWholeReply bytes
Ends bytes false = ¬ (IsWholeReply bytes)

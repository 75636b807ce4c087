-- The parts of an entry's line, as they are read.
use Rattle.std.specs.Prelude.{◌≡◌, ℕ, ◌<◌, ◌^◌, true, List, [], ◌∷◌, ◌++◌, decimal, Option}
use Rattle.wopi_text.specs.FileName.{IsFileName}
use Rattle.wopi_text.specs.Ids.{id_of}
use Rattle.wopi_text.specs.declared.reason.Reason.{Reason}
use Rattle.wopi_model.specs.Moment.{IsMoment}
use Rattle.wopi_model.specs.declared.token.Token.{Token}
use Rattle.journal_text.specs.declared.entry.Place.{Place}
use Rattle.journal_text.specs.declared.entry.Head.{Head}
use Rattle.journal_text.specs.declared.text.Format.{Format}
use Rattle.host_table.specs.Text.{optional_hex, reason_text, token_fields, version_text}
use Rattle.journal_text.specs.Lines.{Fits, IsToken, MayBeLock, MayFit, is_status}
use Rattle.journal_text.specs.Words.{now_words}

pub record IsPlace (place : Place) : Type 0 where
  pub stamp : Fits place.stamp
  pub shard : place.shard < 16
  pub pass : place.pass < 2 ^ 32
  pub moment : IsMoment place.moment

abbrev pub place_words : Place → List (List ℕ)
place_words place = decimal place.stamp ∷ decimal place.shard ∷ decimal place.pass ∷ decimal place.moment ∷ []

pub record IsHead (head : Head) : Type 0 where
  pub place : IsPlace head.place
  pub now : IsMoment head.now
  pub name : IsFileName head.name

abbrev pub head_words : Format → Head → List (List ℕ)
head_words form head = place_words head.place ++ (now_words form head.now ++ (id_of head.name ∷ []))

pub record AreEnds (token : Token) (status : ℕ) (lock : Option (List ℕ)) (version : Option ℕ) : Type 0 where
  pub token_is : IsToken token
  pub status_is : is_status status ≡ true
  pub lock_is : MayBeLock lock
  pub version_is : MayFit version

abbrev pub ends_words : Token → ℕ → Option (List ℕ) → Option Reason → Option ℕ → List ℕ → List (List ℕ)
ends_words token status lock reason version contents =
    token_fields token ∷ decimal status ∷ optional_hex lock ∷ reason_text reason ∷ version_text version ∷ contents ∷ []

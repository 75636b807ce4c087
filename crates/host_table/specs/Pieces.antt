-- The pieces that a journal's lines are written in. (Own.)
use Rattle.std.specs.Prelude.{ℕ, List, [], ◌∷◌, ◌++◌, decimal, Option}
use Rattle.hex.specs.Hex.{encode_lower}
use Rattle.wopi_text.specs.Ids.{id_of}
use Rattle.wopi_model.specs.Host.{shard_of_entry}
use Rattle.wopi_text.specs.declared.reason.Reason.{Reason}
use Rattle.host_table.specs.declared.lines.Piece.{Piece}
use Rattle.host_table.specs.declared.lines.Piece.TheVariants as piece
use Rattle.host_core.specs.Entries.{Made, kept_act, accepted_contents}
use Rattle.host_table.specs.Text.{space, period, line_feed, act_text, token_fields, ruling_text, optional_hex, reason_text, version_text}

abbrev pub piece_text : Piece → List ℕ
piece_text piece.Nothing = []
piece_text piece.Space = space ∷ []
piece_text piece.Period = period ∷ []
piece_text piece.LineFeed = line_feed ∷ []
piece_text (piece.Text text) = text.now
piece_text (piece.Number number) = decimal number
piece_text (piece.Hex bytes) = encode_lower bytes.now

-- where a call stands, when it was made and of which file
abbrev pub place_text : ℕ → ℕ → ℕ → ℕ → ℕ → List ℕ → List ℕ
place_text stamp shard pass moment now name =
    decimal stamp ++ space ∷ decimal shard ++ space ∷ decimal pass ++ space ∷ decimal moment ++ space ∷ decimal now ++ space ∷ id_of name

abbrev pub head_text : Made → List ℕ
head_text one =
    place_text one.step.stamp (shard_of_entry one.step) one.step.pass one.step.moment one.time one.step.call.name

-- what is told of a ruling, with the lock as it is written
abbrev pub told_text : ℕ → List ℕ → Option Reason → Option ℕ → List ℕ
told_text status lock reason version =
    decimal status ++ space ∷ lock ++ space ∷ reason_text reason ++ space ∷ version_text version

-- a line's text up to the token, and the rest of it
abbrev pub begin_text : Made → List ℕ
begin_text one = head_text one ++ ((space ∷ act_text (kept_act one.step.call.act)) ++ (space ∷ token_fields one.step.call.token))

abbrev pub end_text : Made → List ℕ
end_text one = (space ∷ ruling_text one.step.ruling) ++ (space ∷ (optional_hex (accepted_contents one) ++ line_feed ∷ []))

-- The two halves of an entry's line, as it is written.
use Rattle.std.specs.Prelude.{ℕ, List, [], ◌∷◌, ◌++◌}
use Rattle.host_table.specs.Pieces.{place_text, told_text}
use Rattle.host_table.specs.Text.{act_text, line_feed, optional_hex, space, token_fields}
use Rattle.journal_text.specs.declared.text.Line.{Line}

-- up to the token
abbrev pub begin_text : Line → List ℕ
begin_text line =
    place_text line.stamp line.shard line.pass line.moment line.now line.name ++ ((space ∷ act_text line.act) ++ (space ∷ token_fields line.token))

-- and the rest
abbrev pub end_text : Line → List ℕ
end_text line =
    (space ∷ told_text line.status (optional_hex line.lock) line.reason line.version) ++ (space ∷ (optional_hex line.contents ++ line_feed ∷ []))

-- The texts that are read off a running world: how its files are left, and what is counted. (Own.)
use Rattle.std.specs.Prelude.{◌≡◌, ℕ, List, [], ◌∷◌, ◌++◌, length, filter, sum_by, codes, decimal, ◌==◌}
use Rattle.std.specs.List.{flat_map}
use Rattle.wopi_model.specs.Shard.{AreNames}
use Rattle.host_core.specs.Value.{Book, state_of}
use Rattle.replay_cmd.specs.declared.replies.Reply.{Reply}
use Rattle.replay_cmd.specs.declared.member.Request.{Request}
use Rattle.replay_cmd.specs.declared.member.Member.{Member}
use Rattle.replay_cmd.specs.Replying.{file_in}
use Rattle.replay_cmd.specs.Trace.{is_saved}
use Rattle.replay_cmd.specs.Words.{file_shown, line_text}

-- the files of a shard with these names
abbrev pub ends_in : {F : Type 0} → Book F → List (List ℕ) → List ℕ
ends_in book names = flat_map (λ name. line_text (file_shown name (file_in book name))) names

-- the text grew by the files that were met, by their bytes
abbrev pub TellsEnds : {F : Type 0} → Book F → List ℕ → List ℕ → Type 0
TellsEnds book old new =
    (names : List (List ℕ)) × AreNames (state_of book.begin book.made book.time) names × (new ≡ old ++ ends_in book names)

abbrev pub count_text : List ℕ → ℕ → List ℕ
count_text word count = line_text (word ∷ decimal count ∷ [])

abbrev pub conflicts_in : List Reply → ℕ
conflicts_in replies = length (filter (λ reply. reply.answer.status == 409) replies)

-- how many Saved a session told
abbrev pub saved_by_one : Member → ℕ
saved_by_one member = length (filter (λ told. is_saved told.outcome) member.told.items)

abbrev pub counts_in : List Request → List Reply → List Member → List ℕ
counts_in requests replies members =
    count_text (codes "requests") (length requests) ++ count_text (codes "replies") (length replies)
    ++ count_text (codes "conflicts") (conflicts_in replies) ++ count_text (codes "saved") (sum_by saved_by_one members)

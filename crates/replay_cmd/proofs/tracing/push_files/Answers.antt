use Rattle.std.proofs.Common.{◌++◌, ℕ, List, ap, ◌∙◌}
use Rattle.replay_cmd.specs.Words.{line_text}
use Rattle.replay_cmd.proofs.Ended.{ends_more, found}
use Rattle.replay_cmd.proofs.tracing.push_files.Goals as goal

pub loop-place-preserved : goal.loop-place-preserved
loop-place-preserved c =
    let text : List ℕ = c.loop-place.text.items in
    ends_more c.args.host.now.shard c.args.names.now c.loop-place.place c.in-Some.name.now c.args.text.now.items text c.push_line.new.text.items c.in-Some.ensures c.loop-place.invariant
    (c.in_ok-push_line.ensures ∙ ap (λ (words : List (List ℕ)). text ++ line_text words) (c.deref.ensures.value ∙ c.in_ok-words.ensures))

pub file_words-requires : goal.file_words-requires
file_words-requires c = c.requires c.in-Some.name.now (found c.args.names.now c.loop-place.place c.in-Some.name.now c.in-Some.ensures)

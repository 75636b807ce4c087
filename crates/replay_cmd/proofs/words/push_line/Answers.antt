use Rattle.std.proofs.Common.{◌==◌, ◌++◌, ◌∷◌, ℕ, Bool, List, cond, ap, ◌∙◌, rules}
use Rattle.replay_cmd.proofs.Joining.{joined_more}
use Rattle.replay_cmd.proofs.words.push_line.Goals as goal

pub words-preserved : goal.words-preserved
words-preserved c =
    let text = c.words.text.items in
    let k = c.words.word-index in
    let word : List ℕ = c.word-item.result in
    let given : List ℕ = c.as_slice.result.now in
    record {
      so_far = joined_more c.args.words.now k word c.args.text.now.items text c.push_word.new.text.items c.words-test.true c.word-item.is c.words.invariant.so_far
          (c.in_ok-push_word.ensures ∙ ap (λ (b : Bool). text ++ cond b given (32 ∷ given)) c.words.invariant.first
          ∙ ap (λ (w : List ℕ). text ++ cond (k == 0) w (32 ∷ w)) c.as_slice.ensures);
      first = search rules;
    }

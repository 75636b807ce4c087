use Rattle.std.proofs.Common.{List, ℕ, ◌++◌, drop, sym, ap, ◌∙◌, take-append-drop}
use Rattle.outside.proofs.memory.log.MemLogLog.resume.Goals as goal

pub returns-clause-front : goal.returns-clause-front
returns-clause-front c =
    let items = c.args.self.now.bytes.items in
    let rest = drop c.args.count items in
    (rest, sym (take-append-drop c.args.count items) ∙ ap (λ (l : List ℕ). l ++ rest) (sym c.truncate.ensures.items))

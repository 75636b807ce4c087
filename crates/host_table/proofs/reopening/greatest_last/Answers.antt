use Rattle.std.proofs.Common.{◌≡◌, ◌<◌, ◌+◌, max, [], ◌∷◌, ◌++◌, length, take, ap, sym, ◌∙◌, arith}
use Rattle.std.proofs.lemmas.List.{take_more}
use Rattle.host_table.specs.Histories.{last_stamp}
use Rattle.host_table.specs.Reopen.{greatest_last}
use Rattle.host_table.proofs.Resumed.{greatest_push}
use Rattle.host_table.proofs.reopening.greatest_last.Goals as goal

pub shards-preserved : goal.shards-preserved
shards-preserved g c =
    let books = c.args.shards.now.items in
    let book = c.index.result.now in
    let place = c.shards.place in
    let inside : place < length books = omega (arith, c.shards-test.true, c.len.ensures, c.args.shards.now.ok.0) in
    let front : take (place + 1) books ≡ take place books ++ book ∷ [] = take_more books place book inside ∙ ap (λ z. take place books ++ z ∷ []) (sym c.index.ensures) in
    let more : greatest_last (take (place + 1) books) ≡ max (last_stamp book.begin.last book.made) (greatest_last (take place books)) =
    ap (λ l. greatest_last l) front ∙ greatest_push (take place books) book in
    let before = c.shards.invariant.1 in
    let last = c.last.ensures in
    (omega (arith, inside), c.max-last.ensures ∙ (λ i. max (last i) (before i)) ∙ sym more)

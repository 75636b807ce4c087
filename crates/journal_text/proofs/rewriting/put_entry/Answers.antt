use Rattle.std.proofs.Common.{◌≡◌, List, ℕ, [], ◌∷◌, ◌++◌, sym, ◌∙◌}
use Rattle.std.specs.Prelude.{decimal, max, slice_index, slice_set}
use Rattle.wopi_text.specs.Ids.{id_of}
use Rattle.journal_text.specs.Reader.{time_of}
use Rattle.journal_text.specs.Words.{act_words, end_words}
use Rattle.journal_text.proofs.Again.{entry_again, five}
use Rattle.journal_text.proofs.LineTexts.{gathers_as}
use Rattle.journal_text.proofs.rewriting.put_entry.Goals as goal

pub returns-in_default-clause-line : goal.returns-in_default-clause-line
returns-in_default-clause-line g c = λ line form clocked is.
    absurd (c.in_default.ensures.none (record { stamp = line.stamp; shard = line.shard; pass = line.pass; moment = line.moment }) (id_of line.name)
    (act_words line.act ++ end_words line) (record { stamp = form.stamp; shard = form.shard; pass = form.pass; moment = form.moment }) is)

pub returns-clause-line : goal.returns-clause-line
returns-clause-line g c = λ line form clocked is.
    let place = c.in-Some.place in
    let rest : List ℕ = c.in-Some.rest.now in
    let e = entry_again line place c.args.row.now rest form c.in-Some.ensures.some.0 c.in-Some.ensures.some.1 is in
    let time : c.time_at-now.result ≡ time_of c.args.nows.now line =
    c.time_at-now.ensures.value ∙ (λ i. max (slice_index c.args.nows.now (e.shard i)) (e.moment i))
    in
    let text = (λ i. five (decimal place.stamp) (decimal (c.from.ensures i)) (decimal (c.from-2.ensures i)) (decimal place.moment) (decimal c.time_at-now.result) (rest ++ 10 ∷ []))
    ∙ e.text c.time_at-now.result (time ∙ sym clocked)
    in
    (gathers_as _ _ _ _ _ _ _ text c.put_pieces.ensures.bytes, c.time_at-now.ensures.set ∙ (λ i. slice_set c.args.nows.now (e.shard i) (time i)))

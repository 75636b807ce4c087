use Rattle.std.proofs.Common.{◌∙◌, ap, sym, option_map, [], Bor, List, ℕ}
use Rattle.host_table.proofs.Reading.{accepted_same}
use Rattle.host_table.proofs.journal.Journal.contents.Goals as goal

pub returns-in_err-past : goal.returns-in_err-past
returns-in_err-past g c =
    ap (option_map (λ (contents : Bor (List ℕ)). contents.now)) c.from_residual.ensures ∙ accepted_same [] c.args.self.now.merge 0 c.args.place (sym c.in_err-past.ensures.none)

pub returns : goal.returns
returns g c =
    c.contents.ensures ∙ accepted_same c.in_ok-past.past.now.made c.args.self.now.merge c.in_ok-past.at c.args.place c.in_ok-past.ensures.some

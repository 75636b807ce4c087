use Rattle.std.proofs.Common.{rules, ◌≡◌, ℕ, List, filter, subst, sym}
use Rattle.std.specs.Prelude.{nat_lt}
use Rattle.std.specs.Map.{lookup}
use Rattle.std.proofs.lemmas.Map.Made.{filter_same_pairs}
use Rattle.journal_audit.specs.declared.spent.SpentOn.{SpentOn}
use Rattle.journal_audit.specs.Spent.{is_same}
use Rattle.journal_audit.proofs.Spending.{IsThinned, thinned}
use Rattle.journal_audit.proofs.spent.drop_over.Goals as goal

pub returns-clause-later : goal.returns-clause-later
returns-clause-later c on id later late =
    let kept : c.retain.new.self.entries ≡ filter (λ one. nat_lt c.args.now one.1) c.args.ids.now.entries = filter_same_pairs _ _ _ (λ k v b w f' t. search rules) _ _ c.retain.ensures.filtered in
    let key : SpentOn = record { file = on; id = id } in
    let thin = subst (λ (es : List (SpentOn × ℕ)). IsThinned c.args.now (lookup (is_same key) c.args.ids.now.entries) (lookup (is_same key) es)) (sym kept) (thinned key c.args.now c.args.ids.now.entries c.retain.ensures.was_unique) in
    thin.later later late

pub returns-clause-none : goal.returns-clause-none
returns-clause-none c on id at none =
    let kept : c.retain.new.self.entries ≡ filter (λ one. nat_lt c.args.now one.1) c.args.ids.now.entries = filter_same_pairs _ _ _ (λ k v b w f' t. search rules) _ _ c.retain.ensures.filtered in
    let key : SpentOn = record { file = on; id = id } in
    let thin = subst (λ (es : List (SpentOn × ℕ)). IsThinned c.args.now (lookup (is_same key) c.args.ids.now.entries) (lookup (is_same key) es)) (sym kept) (thinned key c.args.now c.args.ids.now.entries c.retain.ensures.was_unique) in
    thin.none at none

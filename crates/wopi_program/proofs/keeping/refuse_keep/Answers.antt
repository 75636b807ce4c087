use Rattle.std.proofs.Common.{◌≡◌, Bool, sym, ap, ◌∙◌, if◌then◌else◌}
use Rattle.std.specs.List.{list_any}
use Rattle.wopi_program.specs.declared.serving.ServeEnd.TheVariants as end
use Rattle.wopi_program.specs.Paired.{failed_in}
use Rattle.wopi_program.specs.Serve.{refused_end}
use Rattle.wopi_program.proofs.keeping.refuse_keep.Goals as goal

pub returns-then-failed-clause-ended : goal.returns-then-failed-clause-ended
returns-then-failed-clause-ended g c =
    let any : c.any_log_failed-failed.result ≡ list_any failed_in c.args.stores.items = c.any_log_failed-failed.ensures ∙ ap (list_any failed_in) c.deref.ensures.value in
    sym (ap (λ (b : Bool). if b then end.JournalFault else refused_end c.args.fault) (sym any ∙ c.if-failed.true))

pub returns-clause-ended : goal.returns-clause-ended
returns-clause-ended g c =
    let any : c.any_log_failed-failed.result ≡ list_any failed_in c.args.stores.items = c.any_log_failed-failed.ensures ∙ ap (list_any failed_in) c.deref.ensures.value in
    c.refused_end.ensures ∙ sym (ap (λ (b : Bool). if b then end.JournalFault else refused_end c.args.fault) (sym any ∙ c.if-failed.false))

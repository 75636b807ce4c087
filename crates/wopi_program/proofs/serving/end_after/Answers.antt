use Rattle.std.proofs.Common.{◌≡◌, Bool, true, false, List, sym, ap, ◌∙◌, if◌then◌else◌}
use Rattle.std.specs.List.{list_any}
use Rattle.host_server.specs.declared.working.WorkEnd.{WorkEnd}
use Rattle.wopi_program.specs.declared.serving.ServeEnd.TheVariants as end
use Rattle.wopi_program.specs.Serve.{end_after, is_fault, is_memory}
use Rattle.wopi_program.proofs.serving.end_after.Goals as goal

-- the end where none wanted memory
none_wanted : (ends : List WorkEnd) (failed : Bool) → list_any is_memory ends ≡ false → list_any is_fault ends ≡ failed
    → (if failed then end.ListenerFault else end.Served) ≡ end_after ends
none_wanted ends failed none is =
    sym (ap (λ (w : Bool). if w then end.Memory else if list_any is_fault ends then end.ListenerFault else end.Served) none
    ∙ ap (λ (f : Bool). if f then end.ListenerFault else end.Served) is)

pub returns-then-any_fault-clause-value : goal.returns-then-any_fault-clause-value
returns-then-any_fault-clause-value c = none_wanted c.args.ends.now true (sym c.any_memory.ensures ∙ c.if-any_memory.false) (sym c.any_fault.ensures ∙ c.if-any_fault.true)

pub returns-clause-value : goal.returns-clause-value
returns-clause-value c = none_wanted c.args.ends.now false (sym c.any_memory.ensures ∙ c.if-any_memory.false) (sym c.any_fault.ensures ∙ c.if-any_fault.false)

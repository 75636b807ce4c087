use Rattle.std.proofs.Common.{◌≡◌, ◌||◌, ◌∙◌, Bool, false, List, Option, sym, ap}
use Rattle.wopi_model.specs.declared.locks.Lock.{Lock}
use Rattle.wopi_model.specs.declared.locks.Spent.{Spent}
use Rattle.journal_segments.specs.Told.{Placed, ends_in}
use Rattle.journal_segments.proofs.Refusing.{refused_then, stands_refused}
use Rattle.journal_segments.proofs.file.ToldFile.refuses.Goals as goal

pub returns : goal.returns
returns c =
    let file = c.args.self.now in
    let id = c.args.id.now in
    let now = c.args.now in
    let lock : c.self.inside.lock ≡ file.lock = ap (λ (f : Placed). f.lock) c.self.view_is in
    let spent : c.deref.result.now ≡ file.spent = c.deref.ensures.value ∙ ap (λ (f : Placed). f.spent) c.self.view_is in
    let none : ends_in file.lock id now ≡ false = ap (λ (l : Option Lock). ends_in l id now) (sym lock) ∙ sym c.ends.ensures ∙ c.if-ends.false in
    let rest : c.is_refused.result ≡ stands_refused file.spent id now = c.is_refused.ensures ∙ ap (λ (l : List Spent). stands_refused l id now) spent in
    rest ∙ sym (refused_then file.lock file.spent id now ∙ ap (λ (b : Bool). b || stands_refused file.spent id now) none)

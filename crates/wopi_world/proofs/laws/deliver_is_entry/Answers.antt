use Rattle.std.proofs.Common.{Option, refl, sym, subst}
use Rattle.wopi_world.specs.Requests.{Client, call_of}
use Rattle.wopi_world.specs.World.{Request, IsSameHistory, enters, delivered_by, delivered}
use Rattle.wopi_world.proofs.laws.deliver_is_entry.Goals as goal

pub returns : goal.returns
returns c setting world place moment s op client e f =
    subst (λ (found : Option Request). IsSameHistory (delivered setting world place moment found) (enters world (call_of client op) moment)) (sym e)
    (subst (λ (found : Option Client). IsSameHistory (delivered_by world place moment op found) (enters world (call_of client op) moment)) (sym f) (refl, refl))

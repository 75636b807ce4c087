-- What an editor is told of its call. (Own.)
use Rattle.std.specs.Prelude.{◌≡◌, ℕ, Bool, List, Option, None, IfSome, if◌then◌else◌}
use Rattle.wopi_model.specs.declared.calls.Call.{Call}
use Rattle.wopi_model.specs.Begin.{Begin}
use Rattle.wopi_model.specs.Moment.{IsMoment}
use Rattle.wopi_model.specs.Shard.{Item, after, begun}
use Rattle.host_core.specs.declared.caller.EditorReceipt.{EditorReceipt}
use Rattle.host_core.specs.Entries.{brought_by}
use Rattle.host_core.specs.Facts.{Dates, facts_of, is_info, is_late, saved_at}

-- The call found a history in which it came too late, or in time. Contents that came too late are handed back, and what is told of the
-- file is as another history leaves it.
pub record TellsEditor (begin : Begin) (dates : Dates) (found seen : List Item) (call : Call) (known : Option ℕ) (moment : ℕ) (late : Bool) (answer : EditorReceipt) : Type 0 where
  pub exactly : late ≡ is_late begin dates found call known moment
  pub held : answer.late ≡ (if late then brought_by call.act else None)
  pub facts : answer.facts ≡ facts_of (is_info call.act) (saved_at begin dates seen call.name) ((after (begun begin) seen).files call.name).contents
  pub timed : IfSome answer.facts (λ facts. IsMoment facts.saved)

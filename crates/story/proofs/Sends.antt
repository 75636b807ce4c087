-- A story may go to other threads, since nothing of it is kept.
use denote.RattleType.{RattleType}
use denote.Param.Send.{IsSend, sendable}
use denote.Model.Goals.{send, part_has, has_of}
use denote.Model.Local.{Parts, rows}
use denote.Model.Marks.{tied_send}
use Rattle.std.proofs.Crossing as any
use Rattle.story.specs.contracts.Story as story
use Rattle.story.specs.contracts.Story.TheKnot as knot
use Rattle.story.specs.declared.Story.TheDeep.{the_members, member-Story}

module _ (E : RattleType) where
  part_send : (p : Parts (knot.frame E)) → IsSend (knot.at-Part E p)
  part_send p = search (sendable, any.crosses) depth 20

  layer_send : (p : Parts (knot.frame E)) → IsSend (knot.view-Story E p)
  layer_send p = search (sendable, any.crosses, part_send) depth 20

  keeps : (p : Parts (knot.frame E)) → ((j : the_members) → IsSend (rows (knot.frame E) p j)) → (i : the_members) → IsSend (rows (knot.frame E) (knot.step E p) i)
  keeps p all member-Story = has_of (knot.frame E) send (knot.step E p) member-Story (λ d. part_has send (knot.view-Story E p) (layer_send p) d)

  pub story_send : IsSend (story.the_row E)
  story_send = tied_send (knot.frame E) (knot.step E) (knot.sizes E) keeps member-Story

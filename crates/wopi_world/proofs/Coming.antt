-- What every tick, entry and restart keeps of a shard and its history, every event keeps.
use Rattle.std.proofs.Common.{◌≡◌, ◌==◌, ℕ, cond, List, [], ◌∷◌, length, Option, None, Some, refl}
use Rattle.std.proofs.lemmas.Bool.{cond_both}
use Rattle.std.specs.List.{slice_get}
use Rattle.wopi_model.specs.declared.calls.Call.{Call}
use Rattle.wopi_model.specs.declared.calls.Ruling.{Ruling}
use Rattle.wopi_model.specs.Step.{bare}
use Rattle.wopi_model.specs.Shard.{Shard, Tick}
use Rattle.wopi_acts.specs.Answers.{ruling_told}
use Rattle.save_session.specs.declared.state.State.{State}
use Rattle.save_session.specs.declared.state.Effect.{Effect}
use Rattle.save_session.specs.declared.state.Effect.TheVariants.{Sends, Tells, Ignores}
use Rattle.save_session.specs.declared.input.Input.TheVariants.{Reply as Replies, NoAnswer}
use Rattle.save_session.specs.Session.{stepped}
use Rattle.wopi_world.specs.History.{Item, Ran}
use Rattle.wopi_world.specs.Requests.{Client, Sent, input_of, call_of}
use Rattle.wopi_world.specs.World.{Setting, Request, Reply, Member, World, Event, Asks, Deliver, Answer, Lose, Foreign, Ticks, Entry, Restarts, Fault, Refused, ruling_in, with_item, enters, delivered_by, delivered, Ask, Unread, One, Copy, asks_one, is_taken, tries, foreign, takes, turns, for_client, is_asked, answers_sender, answers_place, answers, refuses, comes}

abbrev pub answered_in : World → List ℕ → ℕ → Ruling → ℕ → World
answered_in world nonce place ruling n =
    cond (is_asked (world.members n).asked place) (turns world n (stepped nonce (world.members n).session (Replies (ruling_told ruling)))) world

module _ (setting : Setting) (P : Shard → List Item → Type 0)
    (ticks : (world : World) (moment : ℕ) → P world.shard world.history → P (with_item world (Ran (Tick moment))).shard (with_item world (Ran (Tick moment))).history)
    (enters_keeps : (world : World) (call : Call) (moment : ℕ) → P world.shard world.history → P (enters world call moment).shard (enters world call moment).history) where
  abbrev Kept : World → Type 0
  Kept world = P world.shard world.history

  kept-takes : (world : World) (t : ℕ) (member : Member) (session : State) (output : Effect) → Kept world → Kept (takes world t member session output)
  kept-takes world t member session (Sends op) f = f
  kept-takes world t member session (Tells outcome) f = f
  kept-takes world t member session (Ignores input) f = f

  kept-client : (world : World) (found : Option Client) (body : Client → World) → Kept world → ((other : Client) → Kept (body other)) → Kept (for_client world found body)
  kept-client world None body f g = f
  kept-client world (Some other) body f g = g other

  kept-delivered_by : (world : World) (place moment : ℕ) (op : Sent) (found : Option Client) → Kept world → Kept (delivered_by world place moment op found)
  kept-delivered_by world place moment op None f = f
  kept-delivered_by world place moment op (Some other) f =
      enters_keeps world (call_of other op) moment f

  kept-delivered : (world : World) (place moment : ℕ) (found : Option Request) → Kept world → Kept (delivered setting world place moment found)
  kept-delivered world place moment None f = f
  kept-delivered world place moment (Some one) f = kept-delivered_by world place moment one.op (slice_get setting.clients one.sender) f

  kept-one : (world : World) (call : Call) (moment before : ℕ) → Kept world → Kept (asks_one world call moment before)
  kept-one world call moment before f = enters_keeps world call moment f

  kept-tries : (world : World) (calls : List Call) (moment before : ℕ) (last : Ruling) → Kept world → Kept (tries world calls moment before last)
  kept-tries world [] moment before last f = f
  kept-tries world (call ∷ calls) moment before last f =
      let more = kept-tries (enters world call moment) calls moment before (ruling_in world call moment) (enters_keeps world call moment f) in
      cond_both (is_taken (ruling_in world call moment).reason) (tries (enters world call moment) calls moment before (ruling_in world call moment)) (asks_one world call moment before)
      (Kept) (λ e. more) (λ e. kept-one world call moment before f)

  kept-foreign : (world : World) (ask : Ask) (moment before : ℕ) → Kept world → Kept (foreign world ask moment before)
  kept-foreign world Unread moment before f = f
  kept-foreign world (One call) moment before f = kept-one world call moment before f
  kept-foreign world (Copy look creates) moment before f =
      cond_both ((ruling_in world look moment).status == 200) (tries (enters world look moment) creates moment before (bare 400)) (asks_one world look moment before)
      (Kept) (λ e. kept-tries (enters world look moment) creates moment before (bare 400) (enters_keeps world look moment f))
      (λ e. kept-one world look moment before f)

  kept-sender : (world : World) (place : ℕ) (ruling : Ruling) (found : Option Request) → Kept world → Kept (answers_sender setting world place ruling found)
  kept-sender world place ruling None f = f
  kept-sender world place ruling (Some one) f =
      let member = world.members one.sender in
      kept-client world (slice_get setting.clients one.sender) (λ other. answered_in world other.nonce place ruling one.sender) f
      (λ other.
      let turn = stepped other.nonce member.session (Replies (ruling_told ruling)) in
      cond_both (is_asked member.asked place) (turns world one.sender turn) world (Kept)
      (λ e. kept-takes world one.sender member turn.session turn.effect f) (λ e. f))

  kept-place : (world : World) (ruling : Ruling) (place : Option ℕ) → Kept world → Kept (answers_place setting world ruling place)
  kept-place world ruling None f = f
  kept-place world ruling (Some place) f = kept-sender world place ruling (slice_get world.requests place) f

  kept-answers : (world : World) (found : Option Reply) → Kept world → Kept (answers setting world found)
  kept-answers world None f = f
  kept-answers world (Some reply) f = kept-place world reply.ruling reply.request f

  kept-refuses : (world : World) (place status : ℕ) (found : Option Request) → Kept world → Kept (refuses world place status found)
  kept-refuses world place status None f = f
  kept-refuses world place status (Some one) f = f

  pub kept-comes : (world : World) (event : Event) → Kept world → ((moment : ℕ) → event ≡ Restarts moment → Kept (comes setting world (Restarts moment))) → Kept (comes setting world event)
  kept-comes world (Asks t wish) f restarts =
      let turn = λ (c : Client). stepped c.nonce (world.members t).session (input_of wish) in
      kept-client world (slice_get setting.clients t) (λ other. turns world t (turn other)) f
      (λ other. kept-takes world t (world.members t) (turn other).session (turn other).effect f)
  kept-comes world (Deliver place moment) f restarts = kept-delivered world place moment (slice_get world.requests place) f
  kept-comes world (Answer p) f restarts = kept-answers world (slice_get world.replies p) f
  kept-comes world (Lose t) f restarts =
      let turn = λ (c : Client). stepped c.nonce (world.members t).session NoAnswer in
      kept-client world (slice_get setting.clients t) (λ other. turns world t (turn other)) f
      (λ other. kept-takes world t (world.members t) (turn other).session (turn other).effect f)
  kept-comes world (Foreign ask moment) f restarts = kept-foreign world ask moment (length world.history) f
  kept-comes world (Ticks moment) f restarts = ticks world moment f
  kept-comes world (Entry call moment) f restarts = enters_keeps world call moment f
  kept-comes world (Restarts moment) f restarts = restarts moment refl
  kept-comes world Fault f restarts = f
  kept-comes world (Refused place status) f restarts = kept-refuses world place status (slice_get world.requests place) f

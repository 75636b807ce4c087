-- A worked talk over a worked journal.
use Rattle.std.proofs.Common.{◌≡◌, ℕ, true, List, [], ◌∷◌, ◌++◌, Some, None, refl, ap, inl, arith}
use Rattle.wopi_text.specs.declared.reason.Reason.TheVariants as reason
use Rattle.wopi_text.specs.declared.lock_field.LockField.TheVariants as field
use Rattle.wopi_model.specs.declared.token.Token.{Token}
use Rattle.wopi_model.specs.declared.calls.Act.TheVariants as act
use Rattle.wopi_model.specs.declared.calls.Ruling.{Ruling}
use Rattle.wopi_model.specs.Shard.{Shard, Step, opened_shard}
use Rattle.wopi_headers.specs.declared.answer.Answer.{Answer}
use Rattle.wopi_headers.specs.declared.answer.BodyKind.TheVariants as kind
use Rattle.wopi_acts.specs.Answers.{ruling_told}
use Rattle.save_session.specs.LockIds.{lock_id}
use Rattle.save_session.specs.declared.input.Input.{Input}
use Rattle.save_session.specs.declared.state.Goal.{Goal}
use Rattle.save_session.specs.declared.state.Goal.TheVariants as goal
use Rattle.save_session.specs.declared.state.SessionOp.{SessionOp}
use Rattle.save_session.specs.declared.state.SessionOp.TheVariants as op
use Rattle.save_session.specs.declared.state.Waiting.{Waiting}
use Rattle.save_session.specs.declared.input.Input.TheVariants.{Start, Save, Reply}
use Rattle.save_session.specs.declared.output.Outcome.TheVariants.{Opened, Saved}
use Rattle.wopi_world.specs.History.{Item, Ran, IsAllowed, Along}
use Rattle.wopi_world.specs.Requests.{Client, Sent, Info, TakeLock, Get, Put, Relock, call_of}
use Rattle.wopi_world.specs.Talks.{Speaker, first_speaker, hears, told_by, Came, TalksOver, ends, prompted, answered, arrives, passes, IsTalkOver}
use Rattle.wopi_world.proofs.Lists.{contains_at}
use Rattle.wopi_world.proofs.Seeing.{looks_itself}

abbrev a_csv : List ℕ
a_csv = 97 ∷ 46 ∷ 99 ∷ 115 ∷ 118 ∷ []

abbrev pub client : Client
client = record { nonce = 110 ∷ []; token = record { user = 115 ∷ []; file = a_csv; write = true; serial = 1; issued = 0; expires = 9000000 } }

abbrev others_token : Token
others_token = record { user = 116 ∷ []; file = a_csv; write = true; serial = 2; issued = 0; expires = 9000000 }

abbrev pub start : Shard
start = opened_shard ((a_csv, 49 ∷ []) ∷ []) 0 1

-- a ruling of 200 with that version
abbrev pub ok : ℕ → Ruling
ok version = record { status = 200; lock = field.Absent; reason = None; version = Some version; size = 0; contents = None }

abbrev pub info : ℕ → ℕ → Ruling
info version size = record (ok version) { size = size }

abbrev pub read : ℕ → List ℕ → Ruling
read version contents = record (ok version) { contents = Some contents }

-- what CheckFileInfo is answered, as the host tells it: its body is no matter here
abbrev pub info_answer : Answer
info_answer = record { status = 200; lock = field.Absent; reason = None; version = None; kind = kind.Json; body = 123 ∷ (125 ∷ []) }

abbrev pub own : ℕ → ℕ → ℕ → Sent → Ruling → Item
own stamp pass moment sent ruling = Ran (Step (record { stamp = stamp; pass = pass; moment = moment; call = call_of client sent; ruling = ruling }))

abbrev pub by_others : ℕ → ℕ → ℕ → Rattle.wopi_model.specs.declared.calls.Act.Act → Ruling → Item
by_others stamp pass moment asked ruling =
    Ran (Step (record { stamp = stamp; pass = pass; moment = moment; call = record { name = a_csv; token = others_token; act = asked }; ruling = ruling }))

abbrev spent : Ruling
spent = record { status = 409; lock = field.Held (110 ∷ (45 ∷ (50 ∷ []))); reason = Some reason.Spent; version = None; size = 0; contents = None }

-- Two saves, the first of which arrives once more, and once more after the second; and a Lock of others between. Each is the journal from one item on.
abbrev items_9 : List Item
items_9 = []

abbrev items_8 : List Item
items_8 = own 16 2 18 (Put 1 (65 ∷ [])) spent ∷ items_9

abbrev items_7 : List Item
items_7 = own 15 0 17 (Put 2 (66 ∷ [])) (ok 4) ∷ items_8

abbrev items_6 : List Item
items_6 = own 12 0 16 (Relock 1) (ok 3) ∷ items_7

abbrev items_5 : List Item
items_5 = own 11 3 14 (Put 1 (65 ∷ [])) (ok 3) ∷ items_6

abbrev items_4 : List Item
items_4 = own 9 0 14 (Put 1 (65 ∷ [])) (ok 2) ∷ items_5

abbrev items_3 : List Item
items_3 = own 8 1 13 Get (read 1 (49 ∷ [])) ∷ items_4

abbrev items_2 : List Item
items_2 = by_others 7 2 12 (act.Lock (109 ∷ (45 ∷ (49 ∷ [])))) (record { status = 409; lock = field.Held (110 ∷ (45 ∷ (49 ∷ []))); reason = Some reason.Locked; version = None; size = 0; contents = None }) ∷ items_3

abbrev items_1 : List Item
items_1 = own 4 0 11 TakeLock (ok 1) ∷ items_2

abbrev items_0 : List Item
items_0 = own 3 1 10 Info (info 1 1) ∷ items_1

-- what the session heard, from one input on
abbrev heard_9 : List Input
heard_9 = []

abbrev heard_8 : List Input
heard_8 = Reply (ruling_told (ok 4)) ∷ heard_9

abbrev heard_7 : List Input
heard_7 = Reply (ruling_told (ok 3)) ∷ heard_8

abbrev heard_6 : List Input
heard_6 = Save (66 ∷ []) ∷ heard_7

abbrev heard_5 : List Input
heard_5 = Reply (ruling_told (ok 2)) ∷ heard_6

abbrev heard_4 : List Input
heard_4 = Save (65 ∷ []) ∷ heard_5

abbrev heard_3 : List Input
heard_3 = Reply (ruling_told (read 1 (49 ∷ []))) ∷ heard_4

abbrev heard_2 : List Input
heard_2 = Reply (ruling_told (ok 1)) ∷ heard_3

abbrev heard_1 : List Input
heard_1 = Reply info_answer ∷ heard_2

abbrev heard_0 : List Input
heard_0 = Start ∷ heard_1

-- the session after so many inputs
abbrev after_0 : Speaker
after_0 = first_speaker

abbrev after_1 : Speaker
after_1 = hears client after_0 (Start)

abbrev after_2 : Speaker
after_2 = hears client after_1 (Reply info_answer)

abbrev after_3 : Speaker
after_3 = hears client after_2 (Reply (ruling_told (ok 1)))

abbrev after_4 : Speaker
after_4 = hears client after_3 (Reply (ruling_told (read 1 (49 ∷ []))))

abbrev after_5 : Speaker
after_5 = hears client after_4 (Save (65 ∷ []))

abbrev after_6 : Speaker
after_6 = hears client after_5 (Reply (ruling_told (ok 2)))

abbrev after_7 : Speaker
after_7 = hears client after_6 (Save (66 ∷ []))

abbrev after_8 : Speaker
after_8 = hears client after_7 (Reply (ruling_told (ok 3)))

abbrev after_9 : Speaker
after_9 = hears client after_8 (Reply (ruling_told (ok 4)))

is_allowed : Along IsAllowed start items_0
unfolding lock_id
is_allowed = (inl refl, (inl refl, (inl refl, (inl refl, (inl refl, (inl refl, (inl refl, (inl refl, (inl refl, tt)))))))))

tells : told_by client heard_0
    ≡ record { number = 1; outcome = Opened (Some 1); contents = 49 ∷ []; saved = [] }
    ∷ (record { number = 1; outcome = Saved (Some 2); contents = 49 ∷ []; saved = 65 ∷ [] } ∷ (record { number = 2; outcome = Saved (Some 4); contents = 49 ∷ []; saved = 66 ∷ [] } ∷ []))
unfolding lock_id
tells = refl

abbrev first_byte : List ℕ → ℕ
first_byte [] = 0
first_byte (byte ∷ bytes) = byte

others_id : (number : ℕ) → 109 ∷ (45 ∷ (49 ∷ [])) ≡ lock_id client.nonce number → ⊥
unfolding lock_id
others_id number e = let bytes : 109 ≡ 110 = ap first_byte e in omega (arith, bytes)

-- what came of its requests
abbrev came_0 : List Came
came_0 = []

abbrev came_1 : List Came
came_1 = came_0 ++ record { sent = Info; ruling = info 1 1 } ∷ []

abbrev came_2 : List Came
came_2 = came_1 ++ record { sent = TakeLock; ruling = ok 1 } ∷ []

abbrev came_3 : List Came
came_3 = came_2 ++ record { sent = Get; ruling = read 1 (49 ∷ []) } ∷ []

abbrev came_4 : List Came
came_4 = came_3 ++ record { sent = Put 1 (65 ∷ []); ruling = ok 2 } ∷ []

abbrev came_5 : List Came
came_5 = came_4 ++ record { sent = Put 1 (65 ∷ []); ruling = ok 3 } ∷ []

abbrev came_6 : List Came
came_6 = came_5 ++ record { sent = Relock 1; ruling = ok 3 } ∷ []

abbrev came_7 : List Came
came_7 = came_6 ++ record { sent = Put 2 (66 ∷ []); ruling = ok 4 } ∷ []

abbrev came_8 : List Came
came_8 = came_7 ++ record { sent = Put 1 (65 ∷ []); ruling = spent } ∷ []

abbrev pub waits_for : Goal → SessionOp → Waiting
waits_for purpose asked = record { goal = purpose; op = asked; tries = 1 }

-- the talk, from one step on
talk_18 : TalksOver client after_9 came_8 heard_9 items_9
talk_18 = ends after_9 came_8

talk_17 : TalksOver client after_9 came_7 heard_9 items_8
unfolding lock_id
talk_17 = arrives after_9 came_7 (Put 1 (65 ∷ [])) (record { stamp = 16; pass = 2; moment = 18; call = call_of client (Put 1 (65 ∷ [])); ruling = spent }) heard_9 items_9 (contains_at after_9.sent 3 (Put 1 (65 ∷ [])) refl) refl talk_18

talk_16 : TalksOver client after_8 came_7 heard_8 items_8
unfolding lock_id
talk_16 =
    answered after_8 came_7 (record { sent = Put 2 (66 ∷ []); ruling = ok 4 }) (record { waiting = waits_for goal.Save (op.Put 2); waits = refl; sent_is = refl }) (ruling_told (ok 4)) heard_9 items_8
    (contains_at came_7 6 (record { sent = Put 2 (66 ∷ []); ruling = ok 4 }) refl) (looks_itself (op.Put 2) (ruling_told (ok 4))) talk_17

talk_15 : TalksOver client after_8 came_6 heard_8 items_7
unfolding lock_id
talk_15 = arrives after_8 came_6 (Put 2 (66 ∷ [])) (record { stamp = 15; pass = 0; moment = 17; call = call_of client (Put 2 (66 ∷ [])); ruling = ok 4 }) heard_8 items_8 (contains_at after_8.sent 5 (Put 2 (66 ∷ [])) refl) refl talk_16

talk_14 : TalksOver client after_7 came_6 heard_7 items_7
unfolding lock_id
talk_14 =
    answered after_7 came_6 (record { sent = Relock 1; ruling = ok 3 }) (record { waiting = waits_for goal.Save (op.Relock 1); waits = refl; sent_is = refl }) (ruling_told (ok 3)) heard_8 items_7
    (contains_at came_6 5 (record { sent = Relock 1; ruling = ok 3 }) refl) (looks_itself (op.Relock 1) (ruling_told (ok 3))) talk_15

talk_13 : TalksOver client after_7 came_5 heard_7 items_6
unfolding lock_id
talk_13 = arrives after_7 came_5 (Relock 1) (record { stamp = 12; pass = 0; moment = 16; call = call_of client (Relock 1); ruling = ok 3 }) heard_7 items_7 (contains_at after_7.sent 4 (Relock 1) refl) refl talk_14

talk_12 : TalksOver client after_6 came_5 heard_6 items_6
unfolding lock_id
talk_12 = prompted after_6 came_5 (Save (66 ∷ [])) heard_7 items_6 tt talk_13

talk_11 : TalksOver client after_5 came_5 heard_5 items_6
unfolding lock_id
talk_11 =
    answered after_5 came_5 (record { sent = Put 1 (65 ∷ []); ruling = ok 2 }) (record { waiting = waits_for goal.Save (op.Put 1); waits = refl; sent_is = refl }) (ruling_told (ok 2)) heard_6 items_6
    (contains_at came_5 3 (record { sent = Put 1 (65 ∷ []); ruling = ok 2 }) refl) (looks_itself (op.Put 1) (ruling_told (ok 2))) talk_12

talk_10 : TalksOver client after_5 came_4 heard_5 items_5
unfolding lock_id
talk_10 = arrives after_5 came_4 (Put 1 (65 ∷ [])) (record { stamp = 11; pass = 3; moment = 14; call = call_of client (Put 1 (65 ∷ [])); ruling = ok 3 }) heard_5 items_6 (contains_at after_5.sent 3 (Put 1 (65 ∷ [])) refl) refl talk_11

talk_9 : TalksOver client after_5 came_3 heard_5 items_4
unfolding lock_id
talk_9 = arrives after_5 came_3 (Put 1 (65 ∷ [])) (record { stamp = 9; pass = 0; moment = 14; call = call_of client (Put 1 (65 ∷ [])); ruling = ok 2 }) heard_5 items_5 (contains_at after_5.sent 3 (Put 1 (65 ∷ [])) refl) refl talk_10

talk_8 : TalksOver client after_4 came_3 heard_4 items_4
unfolding lock_id
talk_8 = prompted after_4 came_3 (Save (65 ∷ [])) heard_5 items_4 tt talk_9

talk_7 : TalksOver client after_3 came_3 heard_3 items_4
unfolding lock_id
talk_7 =
    answered after_3 came_3 (record { sent = Get; ruling = read 1 (49 ∷ []) }) (record { waiting = waits_for goal.Start op.Get; waits = refl; sent_is = refl }) (ruling_told (read 1 (49 ∷ []))) heard_4 items_4
    (contains_at came_3 2 (record { sent = Get; ruling = read 1 (49 ∷ []) }) refl) (looks_itself op.Get (ruling_told (read 1 (49 ∷ [])))) talk_8

talk_6 : TalksOver client after_3 came_2 heard_3 items_3
unfolding lock_id
talk_6 = arrives after_3 came_2 Get (record { stamp = 8; pass = 1; moment = 13; call = call_of client Get; ruling = read 1 (49 ∷ []) }) heard_3 items_4 (contains_at after_3.sent 2 Get refl) refl talk_7

talk_5 : TalksOver client after_2 came_2 heard_2 items_3
unfolding lock_id
talk_5 =
    answered after_2 came_2 (record { sent = TakeLock; ruling = ok 1 }) (record { waiting = waits_for goal.Start op.TakeLock; waits = refl; sent_is = refl }) (ruling_told (ok 1)) heard_3 items_3
    (contains_at came_2 1 (record { sent = TakeLock; ruling = ok 1 }) refl) (looks_itself op.TakeLock (ruling_told (ok 1))) talk_6

talk_4 : TalksOver client after_2 came_2 heard_2 items_2
unfolding lock_id
talk_4 = passes after_2 came_2 (by_others 7 2 12 (act.Lock (109 ∷ (45 ∷ (49 ∷ [])))) (record { status = 409; lock = field.Held (110 ∷ (45 ∷ (49 ∷ []))); reason = Some reason.Locked; version = None; size = 0; contents = None })) heard_2 items_3 (λ here number e. others_id number e) talk_5

talk_3 : TalksOver client after_2 came_1 heard_2 items_1
unfolding lock_id
talk_3 = arrives after_2 came_1 TakeLock (record { stamp = 4; pass = 0; moment = 11; call = call_of client TakeLock; ruling = ok 1 }) heard_2 items_2 (contains_at after_2.sent 1 TakeLock refl) refl talk_4

talk_2 : TalksOver client after_1 came_1 heard_1 items_1
unfolding lock_id
talk_2 =
    answered after_1 came_1 (record { sent = Info; ruling = info 1 1 }) (record { waiting = waits_for goal.Start op.Info; waits = refl; sent_is = refl }) info_answer heard_2 items_1
    (contains_at came_1 0 (record { sent = Info; ruling = info 1 1 }) refl) (record { status = refl; lock = λ conflict. refl; reason = λ conflict. refl; text = λ ok. tt }) talk_3

talk_1 : TalksOver client after_1 came_0 heard_1 items_0
unfolding lock_id
talk_1 = arrives after_1 came_0 Info (record { stamp = 3; pass = 1; moment = 10; call = call_of client Info; ruling = info 1 1 }) heard_1 items_1 (contains_at after_1.sent 0 Info refl) refl talk_2

talk_0 : TalksOver client after_0 came_0 heard_0 items_0
unfolding lock_id
talk_0 = prompted after_0 came_0 (Start) heard_1 items_0 tt talk_1

is_talk : IsTalkOver client heard_0 items_0
is_talk = talk_0

-- A reply to one call, as its line shows it.
use Rattle.std.proofs.Common.{◌≡◌, ◌≢◌, ℕ, ◌+◌, Bool, false, cond, List, [], ◌∷◌, ◌++◌, length, Option, Some, unwrap_or, refl, sym, ap, ◌∙◌, subst, arith}
use Rattle.std.proofs.lemmas.Bool.{ne_eqb}
use Rattle.std.proofs.lemmas.Slice.Eq.{bytes_eq-Decides}
use Rattle.std.specs.List.{slice_get}
use Rattle.wopi_model.specs.declared.calls.Act.{Act}
use Rattle.wopi_model.specs.declared.calls.Act.TheVariants as act
use Rattle.wopi_model.specs.declared.calls.Call.{Call}
use Rattle.wopi_model.specs.declared.calls.Ruling.{Ruling}
use Rattle.wopi_model.specs.Act.{is_create, lock_act, presents_spent}
use Rattle.wopi_model.specs.File.{File}
use Rattle.wopi_model.specs.LockTable.{verdict}
use Rattle.wopi_model.specs.Settle.{settled}
use Rattle.wopi_model.specs.Step.{Decision, Accept, decision, is_unauthorized, is_missing, lacks_right, is_too_large, effect, acceptance, ruling_of, file_of, after_step}
use Rattle.wopi_model.specs.Shard.{Shard, at_moment}
use Rattle.wopi_model.proofs.Ended.{accepted_if}
use Rattle.wopi_headers.specs.declared.answer.Answer.{Answer}
use Rattle.wopi_headers.specs.declared.ask.Op.{Op}
use Rattle.wopi_headers.specs.declared.ask.Op.TheVariants as op
use Rattle.host_core.specs.Value.{Book}
use Rattle.wopi_acts.specs.Acts.{act_of}
use Rattle.wopi_acts.specs.Answers.{ruling_told}
use Rattle.wopi_acts.proofs.Telling.{told_body}
use Rattle.host_server.specs.Telling.{told_of, info_told, is_info}
use Rattle.wopi_world.specs.World as in_world
use Rattle.wopi_world.specs.World.{World, enters, replied, ruling_in, ruling_at}
use Rattle.wopi_world.proofs.Lists.{get_new}
use Rattle.replay_cmd.specs.Hosts.{StandsFor}
use Rattle.replay_cmd.specs.Words.{numbered_shown}
use Rattle.replay_cmd.specs.Replying.{file_in, TellsAccepted, Tells}
use Rattle.replay_cmd.specs.Trace.{made_shown, reply_shown}
use Rattle.replay_cmd.proofs.Calling.{told_status, told_lock, told_reason}

-- the world has just replied, and the answer tells the ruling of its reply
pub record Replied (world after : World) (file : File) (asked : Op) (a : Answer) : Type 0 where
  pub middle : World
  pub request : Option ℕ
  pub before : ℕ
  pub ruling : Ruling
  pub is : after ≡ replied middle request before ruling
  pub same : middle.replies ≡ world.replies
  pub tells : Tells file asked a ruling

-- the words that tell such a ruling are those of the reply's line
pub replied_shown : (world after : World) (file : File) (asked : Op) (a : Answer) → Replied world after file asked a → (words : List (List ℕ)) (number : ℕ)
    → number ≡ length world.replies + 1 → ((ruling : Ruling) → Tells file asked a ruling → words ≡ numbered_shown number asked ruling)
    → words ≡ reply_shown world after asked
replied_shown world after file asked a h words number is_number told =
    let reply : in_world.Reply = record { request = h.request; before = h.before; after = length h.middle.history; ruling = h.ruling } in
    let replies : after.replies ≡ world.replies ++ reply ∷ [] =
    ap (λ (w : World). w.replies) h.is ∙ ap (λ (l : List in_world.Reply). l ++ reply ∷ []) h.same in
    told h.ruling h.tells
    ∙ ap (λ (n : ℕ). numbered_shown n asked h.ruling) is_number
    ∙ ap (made_shown (length world.replies + 1) asked)
    (sym (ap (λ (l : List in_world.Reply). slice_get l (length world.replies)) replies ∙ get_new world.replies reply))

-- what an accepted CheckFileInfo tells, and the file that it leaves
accepted_info : (d : Decision) (file : File) (call : Call) (now : ℕ) → call.act ≡ act.Info → d ≡ Accept
    → ((ruling_of d file call now).version ≡ Some (file_of d file call now).version) × ((ruling_of d file call now).size ≡ length (unwrap_or (file_of d file call now).contents []))
accepted_info d file call now is accepts =
    subst (λ (d : Decision). ((ruling_of d file call now).version ≡ Some (file_of d file call now).version) × ((ruling_of d file call now).size ≡ length (unwrap_or (file_of d file call now).contents [])))
    (sym accepts)
    (ap (λ (asked : Act). (acceptance asked (effect file call now)).version) is, ap (λ (asked : Act). (acceptance asked (effect file call now)).size) is)

-- CheckFileInfo tells of the file as it stands afterwards
pub info_tells : {F : Type 0} (book' : Book F) (world : World) (call : Call) (moment : ℕ) → world.faulty ≡ false
    → StandsFor book' (enters world call moment) → call.act ≡ act.Info → (ruling_in world call moment).status ≡ 200
    → ((ruling_in world call moment).version ≡ Some (file_in book' call.name).version)
    × ((ruling_in world call moment).size ≡ length (unwrap_or (file_in book' call.name).contents []))
info_tells book' world call moment quiet stands is ok =
    let at : Shard = at_moment world.shard moment in
    let file : File = at.files call.name in
    let d : Decision = decision file call at.opened at.now in
    let ruling : Ruling = ruling_in world call moment in
    let ruled : ruling ≡ ruling_of d file call at.now = ap (λ (b : Bool). ruling_at b at call) quiet in
    let accepts = (accepted_if (is_unauthorized call at.opened at.now) (is_missing file call.act) (lacks_right call) (is_too_large file call.act)
    (verdict file.lock (presents_spent file.spent call.act) (lock_act file call.act)) file call at.now (ap (λ (r : Ruling). r.status) (sym ruled) ∙ ok)).1 in
    let facts = accepted_info d file call at.now is accepts in
    let no_fault : ruling.status ≢ 500 = λ e. absurd (omega (arith, ok, e)) in
    let left : after_step file call at.opened at.now ruling ≡ file_of d file call at.now =
    ap (λ (b : Bool). cond b file (file_of d file call at.now)) (ne_eqb ruling.status 500 no_fault) in
    let own : (enters world call moment).shard.files call.name ≡ file_of d file call at.now =
    ap (λ (b : Bool). cond b (after_step file call at.opened at.now ruling) (at.files call.name)) ((bytes_eq-Decides call.name call.name).1 refl) ∙ left in
    let kept : file_in book' call.name ≡ settled (file_of d file call at.now) (at_moment (enters world call moment).shard book'.time).now =
    ap (λ (s : Shard). s.files call.name) (sym stands.shard)
    ∙ ap (λ (f : File). settled f (at_moment (enters world call moment).shard book'.time).now) own in (
      ap (λ (r : Ruling). r.version) ruled ∙ facts.0 ∙ ap (λ (f : File). Some f.version) (sym kept),
      ap (λ (r : Ruling). r.size) ruled ∙ facts.1 ∙ ap (λ (f : File). length (unwrap_or f.contents [])) (sym kept),
    )

-- what is told of a ruling, but of CheckFileInfo's
pub plain_tells : (file : File) (asked : Op) (ruling : Ruling) → ruling.status ≢ 500 → (asked ≡ op.Info → ⊥) → TellsAccepted file asked (ruling_told ruling) ruling
plain_tells file op.Info ruling fine other = absurd (other refl)
plain_tells file (op.Get most) ruling fine other = (refl, told_body ruling fine)
plain_tells file (op.Put lock) ruling fine other = (refl, told_body ruling fine)
plain_tells file (op.Lock id) ruling fine other = (refl, told_body ruling fine)
plain_tells file op.GetLock ruling fine other = (refl, told_body ruling fine)
plain_tells file (op.Refresh id) ruling fine other = (refl, told_body ruling fine)
plain_tells file (op.Unlock id) ruling fine other = (refl, told_body ruling fine)
plain_tells file (op.Relock old id) ruling fine other = (refl, told_body ruling fine)
plain_tells file (op.PutRelative target) ruling fine other = tt
plain_tells file op.Delete ruling fine other = (refl, told_body ruling fine)

some_act : (first second : Act) → Some first ≡ Some second → first ≡ second
some_act first second e = cc

-- the one act of an operation that isn't CheckFileInfo is none either
plain_act : (asked : Op) (body : List ℕ) (own : Act) → act_of asked body ≡ Some own → (asked ≡ op.Info → ⊥) → is_info own ≡ false
plain_act op.Info body own e other = absurd (other refl)
plain_act (op.Get most) body own e other = ap is_info (sym (some_act _ own e))
plain_act (op.Put lock) body own e other = ap is_info (sym (some_act _ own e))
plain_act (op.Lock id) body own e other = ap is_info (sym (some_act _ own e))
plain_act op.GetLock body own e other = ap is_info (sym (some_act _ own e))
plain_act (op.Refresh id) body own e other = ap is_info (sym (some_act _ own e))
plain_act (op.Unlock id) body own e other = ap is_info (sym (some_act _ own e))
plain_act (op.Relock old id) body own e other = ap is_info (sym (some_act _ own e))
plain_act (op.PutRelative target) body own e other = cc
plain_act op.Delete body own e other = ap is_info (sym (some_act _ own e))

-- the one act of an operation makes no copy
pub no_copy : (asked : Op) (body : List ℕ) (own : Act) → act_of asked body ≡ Some own → is_create own ≡ false
no_copy op.Info body own e = ap is_create (sym (some_act _ own e))
no_copy (op.Get most) body own e = ap is_create (sym (some_act _ own e))
no_copy (op.Put lock) body own e = ap is_create (sym (some_act _ own e))
no_copy (op.Lock id) body own e = ap is_create (sym (some_act _ own e))
no_copy op.GetLock body own e = ap is_create (sym (some_act _ own e))
no_copy (op.Refresh id) body own e = ap is_create (sym (some_act _ own e))
no_copy (op.Unlock id) body own e = ap is_create (sym (some_act _ own e))
no_copy (op.Relock old id) body own e = ap is_create (sym (some_act _ own e))
no_copy (op.PutRelative target) body own e = cc
no_copy op.Delete body own e = ap is_create (sym (some_act _ own e))

-- the answer to a call tells its ruling
pub call_tells : (file : File) (asked : Op) (body : List ℕ) (call : Call) (ruling : Ruling) → act_of asked body ≡ Some call.act → ruling.status ≢ 500
    → (call.act ≡ act.Info → ruling.status ≡ 200 → (ruling.version ≡ Some file.version) × (ruling.size ≡ length (unwrap_or file.contents [])))
    → Tells file asked (told_of call ruling) ruling
call_tells file asked body call ruling acts fine infos =
    record {
      status = told_status call ruling;
      lock = told_lock call ruling;
      reason = told_reason call ruling;
      accepted = λ ok. by_op asked acts (sym (told_status call ruling) ∙ ok);
    }
  where
    other_told : (asked : Op) → act_of asked body ≡ Some call.act → (asked ≡ op.Info → ⊥) → TellsAccepted file asked (told_of call ruling) ruling
    other_told asked e other =
        subst (λ (a : Answer). TellsAccepted file asked a ruling)
        (sym (ap (λ (b : Bool). cond b (info_told call.name call.token ruling) (ruling_told ruling)) (plain_act asked body call.act e other)))
        (plain_tells file asked ruling fine other)

    by_op : (asked : Op) → act_of asked body ≡ Some call.act → ruling.status ≡ 200 → TellsAccepted file asked (told_of call ruling) ruling
    by_op op.Info e ok = infos (sym (some_act _ call.act e)) ok
    by_op (op.Get most) e ok = other_told (op.Get most) e (λ e2. cc)
    by_op (op.Put lock) e ok = other_told (op.Put lock) e (λ e2. cc)
    by_op (op.Lock id) e ok = other_told (op.Lock id) e (λ e2. cc)
    by_op op.GetLock e ok = other_told op.GetLock e (λ e2. cc)
    by_op (op.Refresh id) e ok = other_told (op.Refresh id) e (λ e2. cc)
    by_op (op.Unlock id) e ok = other_told (op.Unlock id) e (λ e2. cc)
    by_op (op.Relock old id) e ok = other_told (op.Relock old id) e (λ e2. cc)
    by_op (op.PutRelative target) e ok = tt
    by_op op.Delete e ok = other_told op.Delete e (λ e2. cc)

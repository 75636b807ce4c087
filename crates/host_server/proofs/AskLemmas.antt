-- From what was asked to the call that is made for it.
use Rattle.std.proofs.Common.{◌≡◌, ℕ, Bool, true, false, not, ◌&&◌, ◌==◌, List, refl, sym, ap, ◌∙◌, subst}
use Rattle.std.specs.Prelude.{Option, None, Some, Result, IsSome, is_some, if◌then◌else◌}
use Rattle.wopi_text.specs.declared.faults.Memory.{Memory}
use Rattle.wopi_model.specs.declared.token.Token.{Token}
use Rattle.wopi_model.specs.declared.calls.Act.{Act}
use Rattle.wopi_model.specs.declared.calls.Act.TheVariants as act
use Rattle.wopi_headers.specs.declared.answer.Answer.{Answer}
use Rattle.wopi_headers.specs.declared.ask.Ask.{Ask}
use Rattle.wopi_headers.specs.declared.ask.Op.{Op}
use Rattle.wopi_headers.specs.declared.ask.Op.TheVariants as op
use Rattle.wopi_headers.specs.declared.ask.Target.{Target}
use Rattle.wopi_acts.specs.Acts.{act_of}
use Rattle.host_core.specs.Caller.{Sight}
use Rattle.host_server.specs.declared.desk.Desk.{Desk}
use Rattle.host_server.specs.Asking.{asks_info, asks_save, TellsAct, TellsCopy}
use Rattle.host_server.specs.declared.knowing.LastSave.{LastSave}
use Rattle.host_core.specs.Facts.{is_put, late_if}
use Rattle.host_core.specs.Entries.{brought_by}
use Rattle.host_server.specs.Telling.{is_info}
use Rattle.host_server.specs.Calls.{TellsCall, Tells}
use Rattle.host_server.specs.Copies.{Copied}

-- whether it is CheckFileInfo's
abbrev info_in : Option Act → Bool
info_in None = false
info_in (Some a) = is_info a

info_asked : (o : Op) (body : List ℕ) → info_in (act_of o body) ≡ asks_info o
info_asked op.Info body = refl
info_asked (op.Get most) body = refl
info_asked (op.Put lock) body = refl
info_asked (op.Lock id) body = refl
info_asked op.GetLock body = refl
info_asked (op.Refresh id) body = refl
info_asked (op.Unlock id) body = refl
info_asked (op.Relock old id) body = refl
info_asked (op.PutRelative target) body = refl
info_asked op.Delete body = refl

-- the act is CheckFileInfo's where the operation is
pub info_same : (o : Op) (body : List ℕ) (a : Act) → act_of o body ≡ Some a → is_info a ≡ asks_info o
info_same o body a is = ap info_in (sym is) ∙ info_asked o body

pub info_act : (o : Op) (body : List ℕ) → asks_info o ≡ true → act_of o body ≡ Some act.Info
info_act op.Info body is = refl
info_act (op.Get most) body is = absurd (cc is)
info_act (op.Put lock) body is = absurd (cc is)
info_act (op.Lock id) body is = absurd (cc is)
info_act op.GetLock body is = absurd (cc is)
info_act (op.Refresh id) body is = absurd (cc is)
info_act (op.Unlock id) body is = absurd (cc is)
info_act (op.Relock old id) body is = absurd (cc is)
info_act (op.PutRelative target) body is = absurd (cc is)
info_act op.Delete body is = absurd (cc is)

-- the act is PutFile's where the operation is
abbrev put_in : Option Act → Bool
put_in None = false
put_in (Some a) = is_put a

put_asked : (o : Op) (body : List ℕ) → put_in (act_of o body) ≡ asks_save o
put_asked op.Info body = refl
put_asked (op.Get most) body = refl
put_asked (op.Put lock) body = refl
put_asked (op.Lock id) body = refl
put_asked op.GetLock body = refl
put_asked (op.Refresh id) body = refl
put_asked (op.Unlock id) body = refl
put_asked (op.Relock old id) body = refl
put_asked (op.PutRelative target) body = refl
put_asked op.Delete body = refl

pub save_same : (o : Op) (body : List ℕ) (a : Act) → act_of o body ≡ Some a → is_put a ≡ asks_save o
save_same o body a is = ap put_in (sym is) ∙ put_asked o body

-- ---- a save that comes too late brings contents, and nothing else comes too late

both_left : (a b : Bool) → (a && b) ≡ true → a ≡ true
both_left true b e = refl
both_left false b e = e

late_is_put : (asked : Act) (known : Option ℕ) (accepted : Bool) (saved : ℕ) → late_if asked known accepted saved ≡ true → is_put asked ≡ true
late_is_put asked None accepted saved e = absurd (cc e)
late_is_put asked (Some known) accepted saved e = both_left (is_put asked) (accepted && not (saved == known)) e

late_knows : (asked : Act) (known : Option ℕ) (accepted : Bool) (saved : ℕ) → late_if asked known accepted saved ≡ true → IsSome known
late_knows asked None accepted saved e = absurd (cc e)
late_knows asked (Some known) accepted saved e = search

pub late_of_saves : (asked : Act) (known : Option ℕ) (accepted : Bool) (saved : ℕ) (late : Bool) → late ≡ late_if asked known accepted saved
    → late ≡ true → (is_put asked ≡ true) × IsSome known
late_of_saves asked known accepted saved late exactly is =
    let e = sym exactly ∙ is in (late_is_put asked known accepted saved e, late_knows asked known accepted saved e)

put_brings : (asked : Act) → is_put asked ≡ true → is_some (brought_by asked) ≡ true
put_brings act.Info e = absurd (cc e)
put_brings (act.Get most) e = absurd (cc e)
put_brings (act.Put lock contents) e = refl
put_brings (act.Lock id) e = absurd (cc e)
put_brings act.GetLock e = absurd (cc e)
put_brings (act.Refresh id) e = absurd (cc e)
put_brings (act.Unlock id) e = absurd (cc e)
put_brings (act.Relock old id) e = absurd (cc e)
put_brings act.Look e = absurd (cc e)
put_brings (act.Create overwrite contents) e = refl
put_brings act.Delete e = absurd (cc e)

pub held_where_late : (asked : Act) (known : Option ℕ) (accepted : Bool) (saved : ℕ) (late : Bool) → late ≡ late_if asked known accepted saved
    → is_some (if late then brought_by asked else None) ≡ late
held_where_late asked known accepted saved false e = refl
held_where_late asked known accepted saved true e = put_brings asked (late_is_put asked known accepted saved (sym e))

module _ (editor : Bool) (origin : Option (List ℕ)) (last : Option LastSave) (ask : Ask) (token : Token) (body : List ℕ) (moment : ℕ) (always : Sight → Type 0) (old new : Sight) where
  -- a call under copies of the name and of the token
  pub act_tells : (name : List ℕ) (held : Token) (a : Act) → name ≡ ask.file → held ≡ token → act_of ask.op body ≡ Some a → (r : Result Answer Memory)
      → Tells (TellsCall editor origin last (record { name = name; token = held; act = a }) moment) always old new r → TellsAct editor origin last ask token body moment always old new r
  act_tells name held a named same is r tells =
      let under = subst (λ (t : Token). Tells (TellsCall editor origin last (record { name = name; token = t; act = a }) moment) always old new r) same tells in
      (a, is, subst (λ (n : List ℕ). Tells (TellsCall editor origin last (record { name = n; token = token; act = a }) moment) always old new r) named under)

  pub copy_asked_tells : (desk : Desk) (source : List ℕ) (target : Target) → source ≡ ask.file → ask.op ≡ op.PutRelative target → (r : Result Answer Memory)
      → Tells (Copied desk (record { source = source; token = token; target = target; contents = body; moment = moment })) always old new r
      → TellsCopy desk ask token body moment always old new r
  copy_asked_tells desk source target from is r tells =
      (target, is, subst (λ (s : List ℕ). Tells (Copied desk (record { source = s; token = token; target = target; contents = body; moment = moment })) always old new r) from tells)

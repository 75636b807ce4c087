-- Worked lines: a file at version 2 that is locked, on which an id is refused.
use Rattle.std.proofs.Common.{◌≡◌, ℕ, Bool, true, false, List, [], ◌∷◌, Option, None, Some, inl, inr, refl}
use Rattle.std.specs.Prelude.{codes}
use Rattle.wopi_text.specs.declared.lock_field.LockField.{LockField}
use Rattle.wopi_text.specs.declared.lock_field.LockField.TheVariants as field
use Rattle.wopi_text.specs.declared.reason.Reason.{Reason}
use Rattle.wopi_text.specs.declared.reason.Reason.TheVariants as reason
use Rattle.wopi_model.specs.declared.calls.Ruling.{Ruling}
use Rattle.wopi_model.specs.declared.token.Token.{Token}
use Rattle.wopi_model.specs.Step.{bare, store_fault}
use Rattle.host_core.specs.declared.entry.EntryAct.{EntryAct}
use Rattle.host_core.specs.declared.entry.EntryAct.TheVariants as act
use Rattle.host_core.specs.declared.life.LifeContents.TheVariants as has
use Rattle.journal_text.specs.declared.text.Line.{Line}
use Rattle.journal_segments.specs.Told.{Placed, Told}
use Rattle.segment_audit.specs.Legal.{IsRuledAt}

abbrev token : Token
token = record { user = codes "ann"; file = codes "a"; write = true; serial = 2; issued = 0; expires = 9000000 }

abbrev place : Placed
place =
    record {
      version = 2;
      contents = has.Left 2;
      lock = Some (record { id = codes "L1"; since = 9; until = 9000000 });
      spent = record { id = codes "L0"; until = 9000000 } ∷ [];
    }

abbrev told : Told
told = record { opened = 0; first = 1; now = 9; last = 2; files = (codes "a", place) ∷ [] }

abbrev line : ℕ → EntryAct → ℕ → Option (List ℕ) → Option Reason → Option ℕ → Line
line now asked status lock why version =
    record {
      stamp = 3;
      shard = 11;
      pass = 1;
      moment = now;
      now = now;
      name = codes "a";
      act = asked;
      token = token;
      status = status;
      lock = lock;
      reason = why;
      version = version;
      contents = None;
    }

-- a save under the lock that is held
saved : IsRuledAt told (line 12 (act.Put (Some (codes "L1")) 3) 200 None None (Some 3))
saved = (record (bare 200) { version = Some 3 }, inl refl, refl)

-- a save without it
locked : IsRuledAt told (line 12 (act.Put None 3) 409 (Some (codes "L1")) (Some reason.Locked) None)
locked = (record (bare 409) { lock = field.Held (codes "L1"); reason = Some reason.Locked }, inl refl, refl)

-- a store fault
faulty : IsRuledAt told (line 12 (act.Put (Some (codes "L1")) 3) 500 None None None)
faulty = (store_fault, inr (refl, refl, refl), refl)

-- the id that is refused
refused : IsRuledAt told (line 12 (act.Lock (codes "L0")) 409 (Some (codes "L1")) (Some reason.Spent) None)
refused = (record (bare 409) { lock = field.Held (codes "L1"); reason = Some reason.Spent }, inl refl, refl)

-- once the lock has ended, its id is refused, and another one locks
ended : IsRuledAt told (line 1800009 (act.Lock (codes "L1")) 409 None (Some reason.Spent) None)
ended = (record (bare 409) { lock = field.Empty; reason = Some reason.Spent }, inl refl, refl)

again : IsRuledAt told (line 1800009 (act.Lock (codes "L2")) 200 None None (Some 2))
again = (record (bare 200) { version = Some 2 }, inl refl, refl)

-- a name that was never met
absent : IsRuledAt (record { opened = 0; first = 1; now = 9; last = 2; files = [] }) (line 12 act.GetLock 404 None None None)
absent = (bare 404, inl refl, refl)

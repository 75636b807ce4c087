-- What the status of a run of `serve` tells of its end, and what a line on the notes changes.
use Rattle.std.proofs.Common.{◌≡◌, ◌≢◌, ℕ, List, Option, refl, inl, inr, arith}
use Rattle.wopi_program.specs.declared.serving.ServeEnd.{ServeEnd}
use Rattle.wopi_program.specs.declared.serving.ServeEnd.TheVariants as end
use Rattle.wopi_program.specs.declared.outside_world.Outside.{Outside}
use Rattle.wopi_program.specs.Meanings.{Meanings}
use Rattle.wopi_program.specs.ServeEnds.{ServeEnds, ServeFinishes}

-- outside worlds that are one stay so with the same notes
pub noted : {S K F N D C G : Type 0} (one other : Outside S K F N D C G) (notes : K) → one ≡ other → record one { notes = notes } ≡ record other { notes = notes }
noted one other notes is = λ i. record (is i) { notes = notes }

pub same_notes : {S K F N D C G : Type 0} (one other : Outside S K F N D C G) → one ≡ other → one.notes ≡ other.notes
same_notes one other is = λ i. (is i).notes

pub write_ended : {K : Type 0} (held : K → Option (List ℕ)) (count : K → ℕ) (status : ℕ) (old new : K) (e : ServeEnd)
    → ServeFinishes held count status old new e → status ≡ 4 → e ≡ end.WriteFault
write_ended held count status old new end.Served is four = absurd (omega (arith, is.0, four))
write_ended held count status old new end.ListenerFault is four = absurd (omega (arith, is.0, four))
write_ended held count status old new end.WriteFault is four = refl
write_ended held count status old new end.FolderFault is four = absurd (omega (arith, is.0, four))
write_ended held count status old new (end.TooLarge name) (inl told) four = absurd (omega (arith, told.0, four))
write_ended held count status old new (end.TooLarge name) (inr want) four = absurd (omega (arith, want.0, four))
write_ended held count status old new end.JournalFault is four = absurd (omega (arith, is.0, four))
write_ended held count status old new end.Memory is four = absurd (omega (arith, is.0, four))

ServeFinishes-known : {K : Type 0} (held : K → Option (List ℕ)) (count : K → ℕ) (status : ℕ) (old new : K) (e : ServeEnd)
    → ServeFinishes held count status old new e → status ≢ 2
ServeFinishes-known held count status old new end.Served is two = absurd (omega (arith, is.0, two))
ServeFinishes-known held count status old new end.ListenerFault is two = absurd (omega (arith, is.0, two))
ServeFinishes-known held count status old new end.WriteFault is two = absurd (omega (arith, is.0, two))
ServeFinishes-known held count status old new end.FolderFault is two = absurd (omega (arith, is.0, two))
ServeFinishes-known held count status old new (end.TooLarge name) (inl told) two = absurd (omega (arith, told.0, two))
ServeFinishes-known held count status old new (end.TooLarge name) (inr want) two = absurd (omega (arith, want.0, two))
ServeFinishes-known held count status old new end.JournalFault is two = absurd (omega (arith, is.0, two))
ServeFinishes-known held count status old new end.Memory is two = absurd (omega (arith, is.0, two))

-- a run of `serve` doesn't end as words that are no command
pub ServeEnds-known : {S K F N D C G L : Type 0} (m : Meanings S K F N D C G L) (words : List (List ℕ)) (status : ℕ) (old new : Outside S K F N D C G)
    → ServeEnds m words status old new → status ≢ 2
ServeEnds-known m words status old new (inl want) = λ two. let six = want.status_is in absurd (omega (arith, six, two))
ServeEnds-known m words status old new (inr (inr ran)) = ServeFinishes-known m.held m.write_faults status ran.notes new.notes ran.end ran.finishes
ServeEnds-known m words status old new (inr (inl ran)) = ServeFinishes-known m.held m.write_faults status ran.notes new.notes ran.end ran.finishes

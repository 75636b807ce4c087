-- What is told of files has the sizes of the shard's, and a line is right where its entry is allowed.
use Rattle.std.proofs.Common.{◌≡◌, ◌↔◌, ℕ, ◌≤◌, ◌<◌, ◌+◌, ◌==◌, max, Bool, true, false, cond, List, [], ◌∷◌, ◌++◌, length, Option, None, Some, refl, ap, sym, ◌∙◌, subst, arith}
use Rattle.std.specs.Prelude.{option_map, replicate}
use Rattle.std.proofs.lemmas.List.{length-replicate}
use Rattle.wopi_model.specs.declared.calls.Act.{Act}
use Rattle.wopi_model.specs.declared.calls.Act.TheVariants as asks
use Rattle.wopi_model.specs.declared.calls.Call.{Call}
use Rattle.wopi_model.specs.declared.calls.Ruling.{Ruling}
use Rattle.wopi_model.specs.File.{File}
use Rattle.wopi_model.specs.Begin.{at_name}
use Rattle.wopi_model.specs.Settle.{settled}
use Rattle.wopi_model.specs.Step.{IsOutcome}
use Rattle.wopi_model.specs.Kept.{Shows}
use Rattle.wopi_model.specs.Shard.{IsAllowed, Shard, Step, at_moment}
use Rattle.wopi_model.proofs.Keeping.{shows-tick, shown-at_moment}
use Rattle.host_core.specs.declared.entry.EntryAct.{EntryAct}
use Rattle.host_core.specs.declared.entry.EntryAct.TheVariants as act
use Rattle.host_core.specs.Entries.{Made, accepted_contents, brought_by, kept_act}
use Rattle.journal_text.specs.declared.text.Line.{Line}
use Rattle.journal_text.specs.Lines.{size_of, told_size}
use Rattle.journal_text.specs.Told.{line_of}
use Rattle.journal_audit.specs.Calls.{act_of, call_of, contents_of, said_by, said_of}
use Rattle.journal_audit.specs.Judging.{IsSize, SaysOutcome, shows_spent}
use Rattle.journal_audit.specs.Lines.{IsRuledOn}
use Rattle.journal_segments.specs.Line.{size_in}
use Rattle.journal_segments.specs.Told.{Placed, Tells, Told, files_in, unmet, whole}
use Rattle.journal_segments.proofs.Apart.{some_of_size}
use Rattle.journal_segments.proofs.Sized.{AreSized, IsSized}
use Rattle.segment_audit.specs.Sizes.{file_of, refused_at, sized_at}
use Rattle.segment_audit.specs.Legal.{IsRuledAt}
use Rattle.segment_audit.specs.Making.{HasSizes, MayBeMade}
use Rattle.segment_audit.proofs.Sizing.{Stands, outcome_of, says_outcome}
use Rattle.segment_audit.proofs.Ruling.{ruled_on}

-- ---- one file

stands_whole : (kept : Option (List ℕ)) (place : Placed) (now : ℕ) → IsSized kept place → Stands (sized_at place now) (refused_at place now) (settled (whole kept place) now)
stands_whole kept place now sized = record { version_is = refl; size_is = sized; lock_is = refl; spent_is = λ id. refl }

-- contents that are told decide what zero bytes do
pub ruled_whole : (kept : Option (List ℕ)) (place : Placed) (line : Line) (opened : ℕ) → IsSized kept place → IsRuledOn (settled (file_of place) line.now) line opened line.now →
    IsRuledOn (settled (whole kept place) line.now) line opened line.now
ruled_whole kept place line opened sized ruled =
    outcome_of (sized_at place line.now) (refused_at place line.now) (settled (whole kept place) line.now) line opened (stands_whole kept place line.now sized)
    ((ruled_on place line opened).1 ruled)

-- a line tells as many bytes as it says
abbrev pub Brings : Line → Type 0
Brings line = size_in line.contents ≡ told_size line.act line.status

-- ---- a line and its entry

-- the act with the contents that it brought
act_again : (one : Act) → act_of (kept_act one) (brought_by one) ≡ one
act_again asks.Info = refl
act_again (asks.Get most) = refl
act_again (asks.Put lock contents) = refl
act_again (asks.Lock id) = refl
act_again asks.GetLock = refl
act_again (asks.Refresh id) = refl
act_again (asks.Unlock id) = refl
act_again (asks.Relock old id) = refl
act_again asks.Look = refl
act_again (asks.Create overwrite contents) = refl
act_again asks.Delete = refl

-- what is decided of a line doesn't depend on what it tells of contents
abbrev with_brought : Made → Line
with_brought one = record (line_of one) { contents = brought_by one.step.call.act }

same_call : (one : Made) → call_of (with_brought one) ≡ one.step.call
same_call one = λ i. record { name = one.step.call.name; token = one.step.call.token; act = act_again one.step.call.act i }

-- the line of an entry that is allowed is right, by the sizes that are told
pub allowed_right : (folder : List ℕ → Option (List ℕ)) (told : Told) (shard : Shard) (one : Made) → Tells folder told shard → AreSized folder told → shard.now ≤ one.time → one.step.moment ≤ one.time →
    IsAllowed (at_moment shard one.time) (Step one.step) → IsRuledAt told (line_of one)
allowed_right folder told shard one tells sized late soon allowed =
    let own = one.step.call.name in
    let place = at_name (unmet told.first) told.files own in
    let kept = files_in folder told in
    let before = at_moment shard one.time in
    let shown : Shows kept before = shows-tick kept shard one.time tells.files_are in
    let time : max (max shard.now one.time) one.step.moment ≡ one.time = omega (arith, late, soon) in
    let P : File × ℕ × ℕ × Call → Type 0 = λ p. IsOutcome p.0 p.3 p.1 p.2 one.step.ruling in
    let at = shown-at_moment kept before one.step.moment shown own in
    let opened = tells.opened_is in
    let call = same_call one in
    let outcome : IsOutcome (settled (kept own) one.time) (call_of (with_brought one)) told.opened one.time one.step.ruling =
    subst P (λ i. ((at ∙ ap (settled (kept own)) time) i, sym opened i, time i, sym call i)) allowed in
    let ruled : IsRuledOn (settled (whole (folder own) place) one.time) (with_brought one) told.opened one.time = (one.step.ruling, outcome, refl) in
    let says : SaysOutcome (sized_at place one.time) (shows_spent (refused_at place one.time) (kept_act one.step.call.act)) (line_of one) told.opened =
    says_outcome (sized_at place one.time) (refused_at place one.time) (settled (whole (folder own) place) one.time) (with_brought one) told.opened (stands_whole (folder own) place one.time (sized own)) ruled in
    (ruled_on place (line_of one) told.opened).0 says

-- ---- an entry of a line

kept_size : (size status : ℕ) (contents : Option (List ℕ)) → size_in contents ≡ (cond (status == 200) (Some size) None) → length (contents_of size contents) ≡ size
kept_size size status None e = length-replicate size 0
kept_size size status (Some bytes) e =
    elim (status == 200) as (λ b. size_in (Some bytes) ≡ (cond b (Some size) None) → length bytes ≡ size) [
      | true ↦ λ h. some_of_size (length bytes) size h
      | false ↦ λ h. absurd (cc (h))
    ] e

pub kept_again : (one : EntryAct) (status : ℕ) (contents : Option (List ℕ)) → size_in contents ≡ told_size one status → kept_act (act_of one contents) ≡ one
kept_again act.Info status contents e = refl
kept_again (act.Get most) status contents e = refl
kept_again (act.Put lock size) status contents e = ap (λ (n : ℕ). act.Put lock n) (kept_size size status contents e)
kept_again (act.Lock id) status contents e = refl
kept_again act.GetLock status contents e = refl
kept_again (act.Refresh id) status contents e = refl
kept_again (act.Unlock id) status contents e = refl
kept_again (act.Relock old id) status contents e = refl
kept_again act.Look status contents e = refl
kept_again (act.Create overwrite size) status contents e = ap (λ (n : ℕ). act.Create overwrite n) (kept_size size status contents e)
kept_again act.Delete status contents e = refl

no_size : (contents : Option (List ℕ)) → size_in contents ≡ None → contents ≡ None
no_size None e = refl
no_size (Some bytes) e = absurd (cc (e))

some_told : (size : ℕ) (contents : Option (List ℕ)) → size_in contents ≡ Some size → Some (contents_of size contents) ≡ contents
some_told size None e = absurd (cc (e))
some_told size (Some bytes) e = refl

brought_again : (one : EntryAct) (contents : Option (List ℕ)) → size_in contents ≡ size_of one → brought_by (act_of one contents) ≡ contents
brought_again act.Info contents e = sym (no_size contents e)
brought_again (act.Get most) contents e = sym (no_size contents e)
brought_again (act.Put lock size) contents e = some_told size contents e
brought_again (act.Lock id) contents e = sym (no_size contents e)
brought_again act.GetLock contents e = sym (no_size contents e)
brought_again (act.Refresh id) contents e = sym (no_size contents e)
brought_again (act.Unlock id) contents e = sym (no_size contents e)
brought_again (act.Relock old id) contents e = sym (no_size contents e)
brought_again act.Look contents e = sym (no_size contents e)
brought_again (act.Create overwrite size) contents e = some_told size contents e
brought_again act.Delete contents e = sym (no_size contents e)

pub contents_again : (one : EntryAct) (status : ℕ) (contents : Option (List ℕ)) → size_in contents ≡ told_size one status →
    cond (status == 200) (brought_by (act_of one contents)) None ≡ contents
contents_again one status contents e =
    elim (status == 200) as (λ b. size_in contents ≡ (cond b (size_of one) None) → cond b (brought_by (act_of one contents)) None ≡ contents) [
      | true ↦ λ h. brought_again one contents h
      | false ↦ λ h. sym (no_size contents h)
    ] e

-- the entry that a line tells, with that ruling
abbrev pub made_of : Line → Ruling → Made
made_of line ruling =
    record {
      time = line.now;
      step = record { stamp = line.stamp; pass = line.pass; moment = line.moment; call = call_of line; ruling = ruling };
      told = true;
    }

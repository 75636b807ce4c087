-- Lines of entries whose contents stand elsewhere.
use Rattle.std.proofs.Common.{◌≡◌, ℕ, ◌<◌, true, false, List, [], ◌∷◌, ◌++◌, get_or, Option, None, refl, sym, ap, ◌∙◌, arith}
use Rattle.std.specs.Prelude.{decimal}
use Rattle.std.proofs.lemmas.Fmt.{decimal_injective}
use Rattle.wopi_text.proofs.IdLemmas.{id_of-injective}
use Rattle.host_table.specs.Text.{optional_hex, optional_number, reason_text, token_fields, version_text}
use Rattle.journal_text.specs.declared.text.Format.TheVariants.{Second}
use Rattle.journal_text.specs.declared.text.Line.{Line}
use Rattle.journal_text.specs.Entries.{AreEnds, IsHead}
use Rattle.journal_text.specs.Lines.{IsBare, told_size}
use Rattle.journal_text.specs.Words.{act_words, bare_words}
use Rattle.journal_text.proofs.Asking.{one_act}
use Rattle.journal_text.proofs.EntryWords.{behind_head, head_of, small}
use Rattle.journal_text.proofs.Uniqueness.{same_act, same_optional_lock, same_reason, same_token, same_version}

abbrev pub bare_end : Line → List (List ℕ)
bare_end line =
    token_fields line.token ∷ decimal line.status ∷ optional_hex line.lock ∷ reason_text line.reason ∷ version_text line.version
    ∷ optional_number (told_size line.act line.status) ∷ []

pub IsHead-bare : (line : Line) → IsBare line → IsHead (head_of line)
IsHead-bare line h = record {
  place = record { stamp = h.stamp; shard = h.shard; pass = h.pass; moment = h.moment };
  now = h.now;
  name = h.name;
}

pub AreEnds-bare : (line : Line) → IsBare line → AreEnds line.token line.status line.lock line.version
AreEnds-bare line h = record { token_is = h.token; status_is = h.status; lock_is = h.lock; version_is = h.version }

-- lines with the same words are one
pub same_bare : (line other : Line) → IsBare line → IsBare other → bare_words line ≡ bare_words other → line ≡ other
same_bare line other h k e =
    let stamp = decimal_injective line.stamp other.stamp h.stamp k.stamp (ap (λ l. get_or l 0 []) e) in
    let a = h.shard in
    let b = k.shard in
    let shard = decimal_injective line.shard other.shard (omega (arith, a)) (omega (arith, b)) (ap (λ l. get_or l 1 []) e) in
    let p = h.pass in
    let q = k.pass in
    let pass = decimal_injective line.pass other.pass (omega (arith, p)) (omega (arith, q)) (ap (λ l. get_or l 2 []) e) in
    let m = h.moment in
    let n = k.moment in
    let moment = decimal_injective line.moment other.moment (omega (arith, m)) (omega (arith, n)) (ap (λ l. get_or l 3 []) e) in
    let t = h.now in
    let u = k.now in
    let now = decimal_injective line.now other.now (omega (arith, t)) (omega (arith, u)) (ap (λ l. get_or l 4 []) e) in
    let name = id_of-injective line.name other.name h.name k.name (ap (λ l. get_or l 5 []) e) in
    let rest : act_words line.act ++ bare_end line ≡ act_words other.act ++ bare_end other = behind_head Second (bare_words line) _ _ (head_of line) (head_of other) refl e in
    let acts = one_act (act_words line.act ++ bare_end line) (bare_end line) (bare_end other) line.act other.act refl rest in
    let asked = same_act line.act other.act h.asked k.asked acts.0 in
    let token = same_token line.token other.token h.token k.token (ap (λ l. get_or l 0 []) acts.1) in
    let s = small line.status h.status in
    let r = small other.status k.status in
    let status = decimal_injective line.status other.status (omega (arith, s)) (omega (arith, r)) (ap (λ l. get_or l 1 []) acts.1) in
    let lock = same_optional_lock line.lock other.lock h.lock k.lock (ap (λ l. get_or l 2 []) acts.1) in
    let why = same_reason line.reason other.reason (ap (λ l. get_or l 3 []) acts.1) in
    let version = same_version line.version other.version h.version k.version (ap (λ l. get_or l 4 []) acts.1) in
    let contents : line.contents ≡ other.contents = h.contents ∙ sym k.contents in
    λ i. record {
      stamp = stamp i;
      shard = shard i;
      pass = pass i;
      moment = moment i;
      now = now i;
      name = name i;
      act = asked i;
      token = token i;
      status = status i;
      lock = lock i;
      reason = why i;
      version = version i;
      contents = contents i;
    }

use Rattle.std.proofs.Common.{◌≡◌, ◌++◌, ap, chars, string_bytes, subst, sym, ◌∙◌}
use Rattle.utf7_text.proofs.Runs.{Writes, next_char, plain_below, reads_back, writes_end, writes_other, writes_plain}
use Rattle.utf7_text.specs.Readings.{IsReading}
use Rattle.utf7_text.specs.Writing.{written}
use Rattle.utf7_text.proofs.writing.utf7_write.Goals as goal

pub loop-character-preserved-in-Continue-branch-2 :
    goal.loop-character-preserved-in-Continue-branch-2
loop-character-preserved-in-Continue-branch-2 c =
    let character = c.in-Some.character in
    let rest = c.loop-character.character-iterator.rest.now in
    let after = c.next.new.self.rest.now in
    let inv = c.loop-character.invariant in
    let next = next_char rest after character inv.utf8 c.in-Some.ensures.steps.0 in
    let plain = sym c.if-is_plain.ensures in
    let made = c.in_ok-push.ensures.bytes ∙ ap (λ bytes. string_bytes c.close.new.out ++ bytes) (c.in_ok-push.ensures.ascii (plain_below character plain)) in
    let whole = written c.args.text.now in
    let writes = subst (λ cs. Writes (string_bytes c.loop-character.out) c.loop-character.held.items cs whole) next.0 inv.so_far in
    record {
      utf8 = next.1;
      so_far = writes_plain (string_bytes c.loop-character.out) (string_bytes c.close.new.out) (string_bytes c.push.new.self) c.loop-character.held.items c.close.new.held.items (chars after) whole character writes plain c.in_ok-close.ensures.written c.in_ok-close.ensures.empty made;
    }

pub loop-character-preserved : goal.loop-character-preserved
loop-character-preserved c =
    let character = c.in-Some.character in
    let rest = c.loop-character.character-iterator.rest.now in
    let after = c.next.new.self.rest.now in
    let inv = c.loop-character.invariant in
    let next = next_char rest after character inv.utf8 c.in-Some.ensures.steps.0 in
    let whole = written c.args.text.now in
    let writes = subst (λ cs. Writes (string_bytes c.loop-character.out) c.loop-character.held.items cs whole) next.0 inv.so_far in
    record {
      utf8 = next.1;
      so_far = writes_other (string_bytes c.loop-character.out) c.loop-character.held.items c.hold.new.held.items (chars after) whole character writes (sym c.if-is_plain.ensures) next.2 c.in_ok-hold.ensures;
    }

-- the bytes that are handed out
all_bytes : (c : goal.After-drop-held-2) → c.from_vec.result ≡ written c.args.text.now
all_bytes c =
    c.from_vec.ensures ∙ ap (λ v. v.items) c.into_bytes.ensures.value
    ∙ writes_end (string_bytes c.loop-character.out) (string_bytes c.close-2.new.out) c.loop-character.held.items c.loop-character.character-iterator.rest.now (written c.args.text.now) c.loop-character.invariant.so_far c.in-None.ensures.steps.0.0 c.in_ok-close-2.ensures.written

pub returns-clause-text : goal.returns-clause-text
returns-clause-text c = all_bytes c

pub returns-clause-reads_back : goal.returns-clause-reads_back
returns-clause-reads_back c =
    subst (λ bytes. IsReading bytes c.args.text.now) (sym (all_bytes c)) (reads_back c.args.text.now c.utf8.text)

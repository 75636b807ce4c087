use Rattle.std.proofs.Common.{◌≡◌, ◌↔◌, ℕ, IsTrue, Option, Some, None, length, sym, ap, subst, ◌∙◌}
use Rattle.wopi_model.specs.Shard.{entries}
use Rattle.host_core.specs.Fullness.{AreBytes, IsNearlyFull}
use Rattle.host_core.specs.Value.{Book, happened}
use Rattle.host_core.proofs.Brimming.{length_happened, nearly_all, nearly_live}
use Rattle.host_core.proofs.shard.Shard.is_nearly_full.Goals as goal

pub returns-in-Some-clause-value : goal.returns-in-Some-clause-value
returns-in-Some-clause-value g c =
    let book = c.args.self.now in
    let calls : Some c.in-Some.calls ≡ book.limits.calls = sym c.in-Some.is ∙ ap (λ (b : Book _). b.limits.calls) c.self.view_is in
    let many : c.len-entries.result ≡ length (entries (happened book)) = c.len-entries.ensures.count ∙ sym (length_happened book.ticked book.made book.time) in
    let bytes = subst (λ (o : Option ℕ). AreBytes o book.begin (happened book) c.bytes-bytes.result) (sym calls) c.bytes-bytes.ensures in
    subst (λ (o : Option ℕ). IsTrue c.are_nine_tenths.result ↔ IsNearlyFull o book.begin (happened book)) calls
    (nearly_all c.in-Some.calls c.len-entries.result c.bytes-bytes.result c.are_nine_tenths.result book.begin (happened book) many bytes c.are_nine_tenths.ensures)

pub returns-in-None-clause-value : goal.returns-in-None-clause-value
returns-in-None-clause-value g c =
    let book = c.args.self.now in
    let calls : None ≡ book.limits.calls = sym c.in-None.is ∙ ap (λ (b : Book _). b.limits.calls) c.self.view_is in
    let bytes = subst (λ (o : Option ℕ). AreBytes o book.begin (happened book) c.bytes-bytes.result) (sym calls) c.bytes-bytes.ensures in
    subst (λ (o : Option ℕ). IsTrue c.are_most_kept.result ↔ IsNearlyFull o book.begin (happened book)) calls
    (nearly_live c.bytes-bytes.result c.are_most_kept.result book.begin (happened book) bytes c.are_most_kept.ensures)

use Rattle.std.proofs.Common.{sym, ◌∙◌}
use Rattle.wopi_text.proofs.Shorts.{short_are, long_are}
use Rattle.wopi_text.proofs.bytes.Bytes.into_vec.Goals as goal

pub returns-then-is_empty : goal.returns-then-is_empty
returns-then-is_empty c =
    let same = c.as_slice.ensures.value ∙ sym (short_are _ _ _ _ c.is_empty.ensures c.if-is_empty.true c.self.inside.long.ok.0) ∙ c.self.view_is in
    rw same at c.copied.ensures

pub returns : goal.returns
returns c = sym (long_are _ _ _ _ c.is_empty.ensures c.if-is_empty.false c.self.inside.long.ok.0) ∙ c.self.view_is

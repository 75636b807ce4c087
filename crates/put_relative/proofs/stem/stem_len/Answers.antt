use Rattle.std.proofs.Common.{length, sym, ap, ◌∙◌, arith}
use Rattle.std.proofs.lemmas.List.{take_all}
use Rattle.put_relative.specs.CopyNames.{is_period}
use Rattle.put_relative.proofs.Stems.{stem_back, stem_none}
use Rattle.put_relative.proofs.stem.stem_len.Goals as goal

pub returns-then-name-end-eq46-clause-stem : goal.returns-then-name-end-eq46-clause-stem
returns-then-name-end-eq46-clause-stem c =
    stem_back c.args.name.now c.back.end (omega arith) c.back.invariant.inside c.back.invariant.none (ap is_period c.if-name-end-eq46.true)

pub returns-clause-stem : goal.returns-clause-stem
returns-clause-stem c =
    let name = c.args.name.now in
    stem_none name c.back.end (omega arith) c.back.invariant.none ∙ sym (take_all (length name) name (omega arith))

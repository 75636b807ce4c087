use Rattle.std.proofs.Common.{sym, subst}
use Rattle.serde_json.specs.View.{view}
use Rattle.file_info.specs.Info.{IsInfoOf}
use Rattle.file_info.proofs.Writing.{info_tells}
use Rattle.file_info.proofs.info.info_text.Goals as goal

pub returns-clause-tells : goal.returns-clause-tells
returns-clause-tells c =
    let text = c.in_ok-to_vec.field-0.items in
    let tells = info_tells text c.args.info.now (view c.in_ok-value.value) c.in_ok-value.ensures c.in_ok-to_vec.ensures.utf8 c.in_ok-to_vec.ensures.reads_back in
    subst (λ t. IsInfoOf t c.args.info.now) (sym c.from_vec.ensures) tells

use Rattle.std.proofs.Common.{◌≡◌, ◌++◌, ◌∷◌, [], ℕ, List, length, None, arith, ap, sym, subst, ◌∙◌}
use Rattle.std.proofs.lemmas.List.{length-map}
use Rattle.name_index.specs.Index.{number_of}
use Rattle.host_core.specs.Names.{place_in}
use Rattle.host_core.specs.declared.file.KeptFile.{KeptFile}
use Rattle.host_core.specs.Numbers.{named, IsNumbered}
use Rattle.host_core.proofs.Numbering.{numbered_push, named_push}
use Rattle.host_core.proofs.going.add_gone.Goals as goal

pub returns-clause-numbered : goal.returns-clause-numbered
returns-clause-numbered c =
    let stock = c.args.stock.now in
    let name = c.copy.result in
    let same : name ≡ c.args.file.now.name = c.copy.ensures in
    let long : c.len-count.result ≡ length stock.files.items = omega (arith, stock.files.ok.0, c.len-count.ensures) in
    let long' : c.len-count.result ≡ length (named stock.files.items) = long ∙ sym (length-map stock.files.items (λ (k : KeptFile). k.name)) in
    let fresh : number_of stock.index name ≡ None = c.requires.numbered name ∙ ap (place_in (named stock.files.items)) same ∙ c.requires.fresh in
    let names : named c.push-2.new.self.items ≡ named stock.files.items ++ name ∷ [] =
    ap named c.in_ok-push-2.ensures.items ∙ named_push stock.files.items _ ∙ ap (λ (n : List ℕ). named stock.files.items ++ n ∷ []) (c.copy-2.ensures ∙ sym same) in
    subst (IsNumbered c.add.new.self) (sym names) (numbered_push stock.index c.add.new.self (named stock.files.items) name c.len-count.result c.requires.numbered fresh long' c.in_ok-add.ensures.ok)

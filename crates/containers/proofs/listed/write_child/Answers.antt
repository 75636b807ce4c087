use Rattle.std.proofs.Common.{◌++◌, [], ◌∷◌, codes, ◌∙◌}
use Rattle.std.specs.Fmt.{decimal}
use Rattle.json.specs.Token.{begin_object, end_object, key, string, number}
use Rattle.containers.proofs.Writing.{seven_more}
use Rattle.containers.proofs.listed.write_child.Goals as goal

pub returns-clause-tokens : goal.returns-clause-tokens
returns-clause-tokens c =
    let name = c.as_str.ensures.value in
    let url = c.text_of.ensures ∙ c.deref.ensures.value ∙ c.in_ok-put_address.ensures.value in
    let version = c.text_of-2.ensures ∙ c.deref-2.ensures.value ∙ c.in_ok-put_version.ensures.value in
    let size = c.args.child.now.size in
    seven_more _ _ _ _ _ _ _ _ _ _ _ _ _ _ _ c.in_ok-begin_object.ensures.ok c.in_ok-write_text.ensures.tokens c.in_ok-key.ensures.ok
    c.in_ok-u64.ensures.ok c.in_ok-write_text-2.ensures.tokens c.in_ok-write_text-3.ensures.tokens c.in_ok-end_object.ensures.ok
    ∙ (λ i. c.args.out.now.tokens ++ (begin_object ∷ key (codes "Name") ∷ string (name i) ∷ key (codes "Size") ∷ number (decimal size)
    ∷ key (codes "Url") ∷ string (url i) ∷ key (codes "Version") ∷ string (version i) ∷ end_object ∷ []))

use Rattle.std.proofs.Common.{◌≡◌, ◌++◌, ◌∷◌, [], List, ℕ, Bool, true, false, is_none, Option, if◌then◌else◌, sym, ap, ◌∙◌}
use Rattle.std.proofs.lemmas.List.{append-nil}
use Rattle.kept_locks.specs.Locks.{Standing}
use Rattle.host_core.specs.declared.file.KeptFile.{KeptFile}
use Rattle.host_core.specs.Going.{is_unmet, kept_gone, locks_on}
use Rattle.host_core.specs.Numbers.{named}
use Rattle.host_core.proofs.going.add_if_gone.Goals as goal

pub returns-in-Some-clause-files : goal.returns-in-Some-clause-files
returns-in-Some-clause-files c =
    let files = c.args.stock.now.files.items in
    let file = c.args.file.now in
    let met : is_unmet (named files) file ≡ false = ap (λ (o : Option ℕ). is_none o) (sym (c.requires.numbered file.name) ∙ sym c.in-Some.ensures) in
    sym (ap (λ (b : Bool). files ++ (if b then kept_gone file ∷ [] else [])) met ∙ append-nil files)

pub returns-in-Some-clause-told : goal.returns-in-Some-clause-told
returns-in-Some-clause-told c =
    let told = c.args.told.now.items in
    let file = c.args.file.now in
    let met : is_unmet (named c.args.stock.now.files.items) file ≡ false = ap (λ (o : Option ℕ). is_none o) (sym (c.requires.numbered file.name) ∙ sym c.in-Some.ensures) in
    sym (ap (λ (b : Bool). told ++ (if b then locks_on c.args.now file ∷ [] else [])) met ∙ append-nil told)

pub returns-clause-files : goal.returns-clause-files
returns-clause-files c =
    let files = c.args.stock.now.files.items in
    let file = c.args.file.now in
    let gone : is_unmet (named files) file ≡ true = ap (λ (o : Option ℕ). is_none o) (sym (c.requires.numbered file.name) ∙ sym c.in-None.ensures) in
    c.in_ok-add_gone.ensures.files ∙ sym (ap (λ (b : Bool). files ++ (if b then kept_gone file ∷ [] else [])) gone)

pub returns-clause-told : goal.returns-clause-told
returns-clause-told c =
    let told = c.args.told.now.items in
    let file = c.args.file.now in
    let gone : is_unmet (named c.args.stock.now.files.items) file ≡ true = ap (λ (o : Option ℕ). is_none o) (sym (c.requires.numbered file.name) ∙ sym c.in-None.ensures) in
    c.in_ok-add_gone.ensures.told ∙ sym (ap (λ (b : Bool). told ++ (if b then locks_on c.args.now file ∷ [] else [])) gone)

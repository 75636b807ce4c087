use Rattle.std.proofs.Common.{◌≡◌, ◌∙◌, ap, map, string_bytes}
use Rattle.std.proofs.lemmas.Result.{IfErr-weaker}
use Rattle.command_words.specs.Parts.{halved, parted_of, parts_of}
use Rattle.command_words.proofs.RefusalLemmas.{of_ctoken, of_token}
use Rattle.command_words.proofs.meaning.meant_of.Goals as goal

pub returns-in-Token-clause-refused : goal.returns-in-Token-clause-refused
returns-in-Token-clause-refused c =
    let at_halves : c.deref.result.now ≡ c.in_ok-halves.halves.items = c.deref.ensures.value in
    let halves : map string_bytes c.in_ok-halves.halves.items ≡ halved c.args.kind (map string_bytes c.args.rest.now) = c.in_ok-halves.ensures in
    let parts : parts_of c.in_ok-parted.parted ≡ parted_of c.args.kind (map string_bytes c.in_ok-halves.halves.items) = rw at_halves at c.in_ok-parted.ensures.parts in
    let same : parts_of c.in_ok-parted.parted ≡ parted_of c.args.kind (halved c.args.kind (map string_bytes c.args.rest.now)) = parts ∙ ap (λ l. parted_of c.args.kind l) halves in
    IfErr-weaker c.token_meant.result _ _
    (λ refused lacking. of_token c.args.chance.now.moment _ c.args.kind _ (parts_of c.in_ok-parted.parted) refused c.in-Token.is same lacking) c.token_meant.ensures.refused

pub returns-clause-refused : goal.returns-clause-refused
returns-clause-refused c =
    let at_halves : c.deref.result.now ≡ c.in_ok-halves.halves.items = c.deref.ensures.value in
    let halves : map string_bytes c.in_ok-halves.halves.items ≡ halved c.args.kind (map string_bytes c.args.rest.now) = c.in_ok-halves.ensures in
    let parts : parts_of c.in_ok-parted.parted ≡ parted_of c.args.kind (map string_bytes c.in_ok-halves.halves.items) = rw at_halves at c.in_ok-parted.ensures.parts in
    let same : parts_of c.in_ok-parted.parted ≡ parted_of c.args.kind (halved c.args.kind (map string_bytes c.args.rest.now)) = parts ∙ ap (λ l. parted_of c.args.kind l) halves in
    IfErr-weaker c.ctoken_meant.result _ _
    (λ refused lacking. of_ctoken c.args.chance.now.moment _ c.args.kind _ (parts_of c.in_ok-parted.parted) refused c.in-Ctoken.is same lacking) c.ctoken_meant.ensures.refused

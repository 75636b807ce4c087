use Rattle.std.proofs.Common.{map, string_bytes, sym, ap, ◌∙◌}
use Rattle.std.proofs.lemmas.List.{drop-map, take_rest}
use Rattle.wopi_program.proofs.editor_words.words_from.Goals as goal

pub returns : goal.returns
returns c = ap (map string_bytes) (take_rest c.args.words.now c.args.place) ∙ sym (drop-map string_bytes c.args.place c.args.words.now)

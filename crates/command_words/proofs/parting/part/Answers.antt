use Rattle.std.proofs.Common.{map, string_bytes, ◌+◌, drop, sym, ◌∙◌, arith}
use Rattle.command_words.proofs.PartingSteps.{AreLeft, flag_left, one_left, place_left}
use Rattle.command_words.proofs.parting.part.Goals as goal

pub words-preserved-then-is_flag : goal.words-preserved-then-is_flag
words-preserved-then-is_flag c =
    let words = c.args.words.now in
    let word = c.as_str-word.result.now in
    let is = one_left string_bytes words c.words.at c.index-words-at.result word c.words-test.true c.index-words-at.is c.as_str-word.ensures.value in
    let before : AreLeft c.args.kind (map string_bytes c.words.places.items) (map string_bytes c.words.options.items) (map string_bytes c.words.flags.items) (map string_bytes (drop c.words.at words)) (map string_bytes words)
    = record { places_are = c.words.invariant.places; options_are = c.words.invariant.options; flags_are = c.words.invariant.flags; lacks_is = c.words.invariant.lacks } in
    let left = flag_left c.args.kind word _ _ _ (map string_bytes c.push_word.new.words.items) _ (map string_bytes (drop (c.words.at + 1) words)) _
    (sym c.is_flag.ensures ∙ c.if-is_flag.true) is c.in-Ok.ensures before in
    record { inside = omega (arith, c.words-test.true); places = left.places_are; options = left.options_are; flags = left.flags_are; lacks = left.lacks_is }

pub words-preserved-then-not-takes : goal.words-preserved-then-not-takes
words-preserved-then-not-takes c =
    let words = c.args.words.now in
    let word = c.as_str-word.result.now in
    let is = one_left string_bytes words c.words.at c.index-words-at.result word c.words-test.true c.index-words-at.is c.as_str-word.ensures.value in
    let before : AreLeft c.args.kind (map string_bytes c.words.places.items) (map string_bytes c.words.options.items) (map string_bytes c.words.flags.items) (map string_bytes (drop c.words.at words)) (map string_bytes words)
    = record { places_are = c.words.invariant.places; options_are = c.words.invariant.options; flags_are = c.words.invariant.flags; lacks_is = c.words.invariant.lacks } in
    let left = place_left c.args.kind word _ _ _ (map string_bytes c.push_word-then-not-takes.new.words.items) _ (map string_bytes (drop (c.words.at + 1) words)) _
    (sym c.is_flag.ensures ∙ c.if-is_flag.false) (sym c.takes.ensures ∙ c.if-not-takes.true) is c.in-Ok-push_word.ensures before in
    record { inside = omega (arith, c.words-test.true); places = left.places_are; options = left.options_are; flags = left.flags_are; lacks = left.lacks_is }

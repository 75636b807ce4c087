use Rattle.std.proofs.Common.{◌≤◌, length, string_bytes, arith}
use Rattle.std.proofs.lemmas.Str.Pattern.{strip_prefix_char}
use Rattle.command_words.proofs.SecretLemmas.{a_path, no_path, no_word}
use Rattle.command_words.proofs.secret.secret_place.Goals as goal

pub returns-in_err-word-clause-none : goal.returns-in_err-word-clause-none
returns-in_err-word-clause-none c =
    let past : length c.args.words.now ≤ c.in_ok-place.place = grind (arith, c.in_err-word.ensures.lookup.0) in
    rw c.from_residual-in_err-word.ensures
    (no_word string_bytes c.args.words.now c.in_ok-name.name.now c.as_str.result.now c.in_ok-place.place c.in_ok-name.ensures.value c.as_str.ensures.value c.in_ok-place.ensures past)

pub returns-in_err-path-clause-none : goal.returns-in_err-path-clause-none
returns-in_err-path-clause-none c =
    let word = c.in_ok-word.ensures.lookup in
    let other = rw c.in_err-path.was at (strip_prefix_char 64 c.as_str-2.result.now c.strip_prefix.result c.strip_prefix.ensures.cases (omega arith)) in
    rw c.from_residual-in_err-path.ensures
    (no_path string_bytes c.args.words.now c.in_ok-name.name.now c.in_ok-word.word.now c.as_str.result.now c.as_str-2.result.now c.in_ok-place.place
    c.in_ok-name.ensures.value c.as_str.ensures.value c.in_ok-place.ensures word.1 word.3.0 c.as_str-2.ensures.value other)

pub returns-clause-some : goal.returns-clause-some
returns-clause-some c =
    let word = c.in_ok-word.ensures.lookup in
    let begins = rw c.in_ok-path.was at (strip_prefix_char 64 c.as_str-2.result.now c.strip_prefix.result c.strip_prefix.ensures.cases (omega arith)) in
    a_path string_bytes c.args.words.now c.in_ok-name.name.now c.in_ok-word.word.now c.as_str.result.now c.as_str-2.result.now c.in_ok-path.path.now c.in_ok-place.place
    c.in_ok-name.ensures.value c.as_str.ensures.value c.in_ok-place.ensures word.1 word.3.0 c.as_str-2.ensures.value begins

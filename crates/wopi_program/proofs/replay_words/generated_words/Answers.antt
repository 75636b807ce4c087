use Rattle.std.proofs.Common.{◌≡◌, Some, None, codes, map, string_bytes, decimal, ap, arith, rules}
use Rattle.wopi_text.specs.Decimals.{decimal_of}
use Rattle.wopi_text.proofs.Decimals.{decimal_of-some}
use Rattle.wopi_program.proofs.ReplayRows.{no_decimal, three_alone}
use Rattle.wopi_program.proofs.replay_words.generated_words.Goals as goal

pub returns-in_default-decimal_read-clause-none : goal.returns-in_default-decimal_read-clause-none
returns-in_default-decimal_read-clause-none c =
    let are = ap (map string_bytes) (three_alone c.args.words.now c.word-item.result c.seed-item.result c.count-item.result
    (omega arith) (omega arith) c.word-item.is c.seed-item.is c.count-item.is) in
    let is : decimal_of (string_bytes c.seed-item.result) ≡ None = cc (c.in_default-decimal_read.ensures, c.as_bytes.ensures.value) in
    λ seed count row. (let same : string_bytes c.seed-item.result ≡ decimal seed = cc (are, row.words_are) in
    no_decimal (string_bytes c.seed-item.result) seed is row.seed_is same)

pub returns-in-Some-count_of-clause-some : goal.returns-in-Some-count_of-clause-some
returns-in-Some-count_of-clause-some c =
    let word : string_bytes c.word-item.result ≡ codes "replay" = search rules in
    let seed_is : decimal_of (string_bytes c.seed-item.result) ≡ Some c.in-Some.seed = cc (c.in-Some.ensures, c.as_bytes.ensures.value) in
    let seed = decimal_of-some (string_bytes c.seed-item.result) c.in-Some.seed seed_is in
    let count = c.in-Some-count_of.ensures.some in
    let are = ap (map string_bytes) (three_alone c.args.words.now c.word-item.result c.seed-item.result c.count-item.result
    (omega arith) (omega arith) c.word-item.is c.seed-item.is c.count-item.is) in
    let digits : string_bytes c.count-item.result ≡ decimal c.in-Some-count_of.count = cc (count.0, c.as_str-in-len3.ensures.value) in
    record { words_are = cc (are, word, seed.1, digits); seed_is = seed.0; count_is = count.1 }

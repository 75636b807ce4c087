use Rattle.std.proofs.Common.{◌≡◌, Some, None, codes, map, string_bytes, decimal, sym, ap, ◌∙◌, arith, rules}
use Rattle.wopi_text.specs.Decimals.{decimal_of}
use Rattle.wopi_text.specs.Ids.{id_of}
use Rattle.wopi_text.proofs.Decimals.{decimal_of-some}
use Rattle.wopi_program.proofs.ReplayRows.{no_decimal, three_alone}
use Rattle.wopi_program.proofs.contents_words.contents_words.Goals as goal

pub returns-in_default-decimal_read-clause-none : goal.returns-in_default-decimal_read-clause-none
returns-in_default-decimal_read-clause-none c =
    let are = ap (map string_bytes) (three_alone c.args.words.now c.word-item.result c.id-item.result c.version-item.result
    (omega arith) (omega arith) c.word-item.is c.id-item.is c.version-item.is) in
    let is : decimal_of (string_bytes c.version-item.result) ≡ None = cc (c.in_default-decimal_read.ensures, c.as_bytes-in-len3.ensures.value) in
    λ row. (let asked = row.2 in
    let same : string_bytes c.version-item.result ≡ decimal row.1 = cc (are, asked.words_are) in
    no_decimal (string_bytes c.version-item.result) row.1 is asked.version_is same)

pub returns-in-Some-clause-some : goal.returns-in-Some-clause-some
returns-in-Some-clause-some c =
    let word : string_bytes c.word-item.result ≡ codes "contents" = search rules in
    let id : string_bytes c.id-item.result ≡ id_of c.in-Ok.name = sym c.as_bytes.ensures.value ∙ c.in-Ok.ensures.value in
    let is : decimal_of (string_bytes c.version-item.result) ≡ Some c.in-Some.version = cc (c.in-Some.ensures, c.as_bytes-in-len3.ensures.value) in
    let version = decimal_of-some (string_bytes c.version-item.result) c.in-Some.version is in
    let are = ap (map string_bytes) (three_alone c.args.words.now c.word-item.result c.id-item.result c.version-item.result
    (omega arith) (omega arith) c.word-item.is c.id-item.is c.version-item.is) in
    record { words_are = cc (are, word, id, version.1); name_is = search rules; version_is = version.0 }

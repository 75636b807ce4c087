use Rattle.std.proofs.Common.{◌≡◌, codes, map, string_bytes, ap, subst, sym, ◌∙◌, arith, rules}
use Rattle.wopi_text.specs.Ids.{id_of}
use Rattle.wopi_program.specs.EditWords.{IsAuthority, IsTokenWord}
use Rattle.wopi_program.proofs.EditRows.{five_alone}
use Rattle.wopi_program.proofs.edit_words.edit_words.Goals as goal

pub returns-in_ok-nonce-in-len5-clause-some : goal.returns-in_ok-nonce-in-len5-clause-some
returns-in_ok-nonce-in-len5-clause-some c =
    let word : string_bytes c.word-item.result ≡ codes "edit" = search rules in
    let authority : IsAuthority (string_bytes c.authority-item.result) = search rules in
    let token : IsTokenWord (string_bytes c.token-item.result) = search rules in
    let id : string_bytes c.id-item.result ≡ id_of c.in-Ok.file = sym c.as_bytes.ensures.value ∙ c.in-Ok.ensures.value in
    let nonce : string_bytes c.nonce-item.result ≡ c.in_ok-nonce-in-len5.nonce = search rules in
    let are = ap (map string_bytes) (five_alone c.args.words.now c.word-item.result c.authority-item.result c.id-item.result c.token-item.result c.nonce-item.result
    (omega arith) (omega arith) c.word-item.is c.authority-item.is c.id-item.is c.token-item.is c.nonce-item.is) in
    record {
      words_are = cc (are, word, id, nonce, c.as_str-in-len5.ensures.value, c.as_str-in-len5-2.ensures.value);
      authority_is = subst IsAuthority (sym c.as_str-in-len5.ensures.value) authority;
      file_is = search rules;
      token_is = subst IsTokenWord (sym c.as_str-in-len5-2.ensures.value) token;
      nonce_is = search rules;
    }

-- The text of a token without its code, and its fields.
use Rattle.std.proofs.Common.{◌≡◌, ℕ, ◌<◌, ◌^◌, Bool, true, false, List, refl, sym, ap, ◌∙◌, append_assoc, arith}
use Rattle.std.specs.Prelude.{codes}
use Rattle.std.specs.List.{join_with_byte}
use Rattle.std.specs.Char.{is_ascii_digit}
use Rattle.std.specs.Fmt.{decimal}
use Rattle.wopi_text.specs.Ids.{id_of}
use Rattle.wopi_text.specs.FileName.{IsFileName}
use Rattle.wopi_text.proofs.Decimals.{digits-decimal}
use Rattle.wopi_text.proofs.Utf8Bytes.{IsBytes-IsUtf8}
use Rattle.wopi_model.specs.User.{is_user_byte}
use Rattle.wopi_model.specs.declared.token.Token.{Token}
use Rattle.journal_text.specs.Words.{parts_of, token_parts}
use Rattle.journal_text.specs.Lines.{IsToken}
use Rattle.host_table.specs.Text.{token_fields, rights_text}
use Rattle.journal_text.proofs.Hexes.{Lacks-hex}
use Rattle.line_text.proofs.Splits.{EachLacks, Lacks, Lacks-list_all, join-parts, parts-join}

-- a token's text is its fields, joined by periods
pub joined : (token : Token) → token_fields token ≡ join_with_byte 46 (token_parts token)
unfolding token_fields
joined token = grind (arith, append_assoc)

pub Lacks-rights : (mark : ℕ) (write : Bool) → is_user_byte mark ≡ false → Lacks mark (rights_text write)
unfolding rights_text
Lacks-rights mark true apart = Lacks-list_all mark is_user_byte (codes "w") apart refl
Lacks-rights mark false apart = Lacks-list_all mark is_user_byte (codes "r") apart refl

pub Lacks-decimal : (mark n : ℕ) → is_ascii_digit mark ≡ false → n < 2 ^ 64 → Lacks mark (decimal n)
Lacks-decimal mark n apart h = Lacks-list_all mark is_ascii_digit (decimal n) apart (digits-decimal n h)

pub Lacks-id : (mark : ℕ) (name : List ℕ) → is_user_byte mark ≡ false → IsFileName name → Lacks mark (id_of name)
Lacks-id mark name apart form = Lacks-hex mark name apart (IsBytes-IsUtf8 name form.utf8)

-- no field has a byte that is no letter, digit, underscore or dash
pub fields-lack : (mark : ℕ) (token : Token) → is_user_byte mark ≡ false → is_ascii_digit mark ≡ false → IsToken token → EachLacks mark (token_parts token)
unfolding EachLacks
fields-lack mark token letter digit form = (
  Lacks-list_all mark is_user_byte token.user letter form.user.letters,
  (
    Lacks-id mark token.file letter form.file,
    (
      Lacks-rights mark token.write letter,
      (
        Lacks-decimal mark token.serial digit form.serial,
        (Lacks-decimal mark token.issued digit form.issued, (Lacks-decimal mark token.expires digit form.expires, tt)),
      ),
    ),
  ),
)

-- the fields of a token's text
pub parts_of-token : (token : Token) → IsToken token → parts_of (token_fields token) ≡ token_parts token
parts_of-token token form = ap parts_of (joined token) ∙ parts-join 46 _ _ (fields-lack 46 token refl refl form)

pub parts_of-text : (text : List ℕ) (token : Token) → IsToken token → text ≡ token_fields token → parts_of text ≡ token_parts token
parts_of-text text token form is = ap parts_of is ∙ parts_of-token token form

-- and a text with these fields is the token's
pub text_from_parts : (text : List ℕ) (token : Token) → parts_of text ≡ token_parts token → text ≡ token_fields token
text_from_parts text token are = join-parts 46 text (token_parts token) are ∙ sym (joined token)

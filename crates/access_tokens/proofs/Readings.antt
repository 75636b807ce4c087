-- The readings of a text.
use Rattle.std.proofs.Common.{◌≡◌, ℕ, Bool, true, false, List, [], ◌∷◌, ◌++◌, length, get_or, drop, Option, Some, None, ◌≢◌, refl, sym, ap, subst, ◌∙◌, append_assoc, arith}
use Rattle.std.specs.Prelude.{IfSome, codes}
use Rattle.std.specs.List.{join_with_byte, list_all}
use Rattle.std.proofs.lemmas.Fmt.{decimal_injective}
use Rattle.std.proofs.lemmas.List.Splits.{join_with_byte-slice_split}
use Rattle.wopi_text.specs.Ids.{id_of}
use Rattle.wopi_text.proofs.IdLemmas.{id_of-injective}
use Rattle.wopi_text.proofs.Utf8Bytes.{IsBytes-IsUtf8}
use Rattle.wopi_model.specs.User.{IsUser, is_user_byte}
use Rattle.wopi_model.specs.declared.token.Token.{Token}
use Rattle.access_tokens.specs.Claims.{AreWritable}
use Rattle.access_tokens.specs.Fields.{claim_fields, claims_of, fields_of, head_fields, list_of, parts_of, token_fields}
use Rattle.access_tokens.specs.Keys.{IsKeyNumber}
use Rattle.access_tokens.specs.Marks.{Lacks}
use Rattle.access_tokens.specs.declared.claims.Claims.{Claims}
use Rattle.access_tokens.specs.declared.fields.Fields.{Fields}
use Rattle.access_tokens.specs.TokenText.{HasReading, ReadsAs, IsWritable, IsMac, is_lower_digit, period, rights_of, signed_text}
use Rattle.access_tokens.proofs.Bytes.{lower-encode}
use Rattle.access_tokens.proofs.Heads.{Headless, same_heads}
use Rattle.access_tokens.proofs.MarkLemmas.{Lacks-decimal, Lacks-list_all}
use Rattle.access_tokens.proofs.Parts.{EachLacks, parts_of-join}

-- a token's text is its fields, joined by periods
joined : (written : Option ℕ) (token : Token) (mac : List ℕ) → signed_text written token ++ period ∷ mac ≡ join_with_byte 46 (fields_of written token mac)
unfolding signed_text
joined None token mac = simp append_assoc
joined (Some number) token mac = simp append_assoc

pub Lacks-word : (field : List ℕ) → list_all (λ byte. is_user_byte byte) field ≡ true → Lacks 46 field
Lacks-word field h = Lacks-list_all 46 (λ byte. is_user_byte byte) field refl h

Lacks-rights : (write : Bool) → Lacks 46 (rights_of write)
Lacks-rights true = Lacks-word (codes "w") refl
Lacks-rights false = Lacks-word (codes "r") refl

-- no field of claims has a period
pub claim_fields-lack : (claims : Claims) (mac : List ℕ) → AreWritable claims → IsMac mac → EachLacks (claim_fields claims mac)
unfolding EachLacks
claim_fields-lack claims mac form digits = (
  Lacks-rights claims.write,
  (
    Lacks-decimal 46 claims.serial refl form.serial,
    (
      Lacks-decimal 46 claims.issued refl (omega (arith, form.issued)),
      (
        Lacks-decimal 46 claims.expires refl (omega (arith, form.expires)),
        (Lacks-list_all 46 is_lower_digit mac refl digits.lower, tt),
      ),
    ),
  ),
)

-- a token's claims can be written
pub claims-writable : (token : Token) → IsWritable token → AreWritable (claims_of token)
claims-writable token form = record { serial = form.serial; issued = form.issued; expires = form.expires }

pub Lacks-user : (user : List ℕ) → IsUser user → Lacks 46 user
Lacks-user user form = Lacks-list_all 46 is_user_byte user refl form.letters

-- no field of a token has a period
token_fields-lack : (token : Token) (mac : List ℕ) → IsWritable token → IsMac mac → EachLacks (token_fields token mac)
unfolding EachLacks
token_fields-lack token mac form digits = (
  Lacks-user token.user form.user,
  (
    Lacks-list_all 46 is_lower_digit (id_of token.file) refl (lower-encode token.file (IsBytes-IsUtf8 token.file form.file.utf8)),
    claim_fields-lack (claims_of token) mac (claims-writable token form) digits,
  ),
)

-- a reading shows the parts of the text
pub parts_of-reading : (text : List ℕ) (written : Option ℕ) (token : Token) (mac : List ℕ) → ReadsAs text written token mac
    → parts_of text ≡ fields_of written token mac
unfolding EachLacks
parts_of-reading text None token mac reading =
    ap parts_of (reading.fields ∙ joined None token mac)
    ∙ parts_of-join _ _ (Lacks-word (codes "v1") refl, token_fields-lack token mac reading.form reading.digits)
parts_of-reading text (Some number) token mac reading =
    ap parts_of (reading.fields ∙ joined (Some number) token mac)
    ∙ parts_of-join _ _ (
      Lacks-word (codes "v2") refl,
      (Lacks-decimal 46 number refl (omega (arith, reading.number)), token_fields-lack token mac reading.form reading.digits),
    )

-- the parts of a text show what it is
text_from_parts : (text : List ℕ) (written : Option ℕ) (token : Token) (mac : List ℕ) → parts_of text ≡ fields_of written token mac
    → text ≡ signed_text written token ++ period ∷ mac
text_from_parts text written token mac parts =
    sym (join_with_byte-slice_split 46 text) ∙ ap (join_with_byte 46) parts ∙ sym (joined written token mac)

same_rights : (write other : Bool) → rights_of write ≡ rights_of other → write ≡ other
same_rights true true e = refl
same_rights true false e =
    let letters : ◌≡◌ {A = ℕ} 119 114 = ap (λ text. get_or text 0 0) e in absurd (omega (arith, letters))
same_rights false true e =
    let letters : ◌≡◌ {A = ℕ} 114 119 = ap (λ text. get_or text 0 0) e in absurd (omega (arith, letters))
same_rights false false e = refl

place : List (List ℕ) → ℕ → List ℕ
place fields n = get_or fields n []

last_field : (fields : Fields) (token : Token) (mac : List ℕ) → list_of fields ≡ token_fields token mac → fields.tail.mac.now ≡ mac
unfolding place
last_field fields token mac same = ap (λ all. place all 6) same

-- the text begins with this head, and this rest stands behind it
abbrev pub HasHead : List ℕ → Option ℕ → List ℕ → Type 0
HasHead text written rest = IfSome written IsKeyNumber × (parts_of text ≡ head_fields written ++ parts_of rest)

-- behind the head of a text that has a reading there are the fields of the token
pub behind_head : (text : List ℕ) (written : Option ℕ) (rest : List ℕ) → HasHead text written rest
    → (also_written : Option ℕ) (token : Token) (mac : List ℕ) → ReadsAs text also_written token mac
    → (written ≡ also_written) × (parts_of rest ≡ token_fields token mac)
behind_head text written rest head also_written token mac reading =
    same_heads written also_written (parts_of rest) (token_fields token mac) head.0 reading.number
    (sym head.1 ∙ parts_of-reading text also_written token mac reading)

-- where a text begins with no head, there is no reading
pub headless : (text : List ℕ) → Headless (parts_of text) → ¬ HasReading text
headless text none reading =
    none reading.0 _ _ reading.3.number (parts_of-reading text reading.0 reading.1 reading.2 reading.3)

-- where not seven fields stand behind a head, there is no reading
pub uncounted : (text : List ℕ) (written : Option ℕ) (rest : List ℕ) → HasHead text written rest → length (parts_of rest) ≢ 7 → ¬ HasReading text
uncounted text written rest head other reading =
    other (ap length (behind_head text written rest head reading.0 reading.1 reading.2 reading.3).1)

-- where the fields behind a head tell no token, there is no reading
pub untold : (text : List ℕ) (written : Option ℕ) (rest : List ℕ) (fields : Fields) → HasHead text written rest → parts_of rest ≡ list_of fields
    → ((token : Token) → IsWritable token → IsMac fields.tail.mac.now → list_of fields ≢ token_fields token fields.tail.mac.now) → ¬ HasReading text
untold text written rest fields head are none reading =
    let token = reading.1 in
    let parts : list_of fields ≡ token_fields token reading.2 =
    sym are ∙ (behind_head text written rest head reading.0 token reading.2 reading.3).1 in
    let mac = last_field fields token reading.2 parts in
    none token reading.3.form (subst IsMac (sym mac) reading.3.digits) (parts ∙ ap (token_fields token) (sym mac))

-- fields that are a token's make a reading
pub ReadsAs-fields : (text : List ℕ) (written : Option ℕ) (rest : List ℕ) (fields : Fields) (token : Token) → HasHead text written rest
    → parts_of rest ≡ list_of fields
    → (IsWritable token × IsMac fields.tail.mac.now × (list_of fields ≡ token_fields token fields.tail.mac.now))
    → ReadsAs text written token fields.tail.mac.now
ReadsAs-fields text written rest fields token head are told = record {
  number = head.0;
  form = told.0;
  digits = told.1;
  fields = text_from_parts text written token fields.tail.mac.now (head.1 ∙ ap (λ parts. head_fields written ++ parts) (are ∙ told.2));
}

-- a first and a second field before the same others
pub same_fields : (a b c d : List ℕ) (l m : List (List ℕ)) → a ≡ c → b ≡ d → l ≡ m → a ∷ b ∷ l ≡ c ∷ d ∷ m
same_fields a b c d l m h i j = cc

-- the fields that tell the same claims, one by one
pub same_claims : (a b c d a' b' c' d' mac : List ℕ) → a ≡ a' → b ≡ b' → c ≡ c' → d ≡ d' → a ∷ b ∷ c ∷ d ∷ mac ∷ [] ≡ a' ∷ b' ∷ c' ∷ d' ∷ mac ∷ []
same_claims a b c d a' b' c' d' mac h i j k = cc

-- claims are told by their fields
pub one_claims : (claims other : Claims) (mac code : List ℕ) → AreWritable claims → AreWritable other
    → claim_fields claims mac ≡ claim_fields other code → (claims ≡ other) × (mac ≡ code)
unfolding place
one_claims claims other mac code a b e =
    let at : (n : ℕ) → place (claim_fields claims mac) n ≡ place (claim_fields other code) n = λ n. ap (λ all. place all n) e in
    let write = same_rights claims.write other.write (at 0) in
    let serial = decimal_injective claims.serial other.serial a.serial b.serial (at 1) in
    let issued = decimal_injective claims.issued other.issued (omega (arith, a.issued)) (omega (arith, b.issued)) (at 2) in
    let expires = decimal_injective claims.expires other.expires (omega (arith, a.expires)) (omega (arith, b.expires)) (at 3) in
    (λ i. record { write = write i; serial = serial i; issued = issued i; expires = expires i }, at 4)

-- a text has one reading
pub one_reading : (text : List ℕ) (written also_written : Option ℕ) (token other : Token) (mac code : List ℕ)
    → ReadsAs text written token mac → ReadsAs text also_written other code → (written ≡ also_written) × (token ≡ other) × (mac ≡ code)
unfolding place
one_reading text written also_written token other mac code first second =
    let heads = same_heads written also_written (token_fields token mac) (token_fields other code) first.number second.number
    (sym (parts_of-reading text written token mac first) ∙ parts_of-reading text also_written other code second) in
    let user : token.user ≡ other.user = ap (λ all. place all 0) heads.1 in
    let file = id_of-injective token.file other.file first.form.file second.form.file (ap (λ all. place all 1) heads.1) in
    let claims = one_claims (claims_of token) (claims_of other) mac code (claims-writable token first.form) (claims-writable other second.form)
    (ap (λ (all : List (List ℕ)). drop 2 all) heads.1) in
    let made = claims.0 in (
      heads.0,
      λ i. record {
        user = user i;
        file = file i;
        write = (made i).write;
        serial = (made i).serial;
        issued = (made i).issued;
        expires = (made i).expires;
      },
      claims.1,
    )

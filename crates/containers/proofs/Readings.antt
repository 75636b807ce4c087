-- The readings of a text as a container's token.
use Rattle.std.proofs.Common.{◌≡◌, ◌≢◌, ℕ, List, [], ◌∷◌, ◌++◌, length, get_or, drop, refl, sym, ap, subst, ◌∙◌, append_assoc, arith}
use Rattle.std.specs.Prelude.{codes}
use Rattle.std.specs.Fmt.{decimal}
use Rattle.std.specs.List.{join_with_byte}
use Rattle.std.proofs.lemmas.Fmt.{decimal_injective}
use Rattle.std.proofs.lemmas.List.Splits.{join_with_byte-slice_split}
use Rattle.wopi_model.specs.User.{IsUser}
use Rattle.access_tokens.specs.Claims.{AreWritable}
use Rattle.access_tokens.specs.Fields.{claim_fields, parts_of, tail_list}
use Rattle.access_tokens.specs.Keys.{IsKeyNumber}
use Rattle.access_tokens.specs.TokenText.{IsMac, period}
use Rattle.access_tokens.specs.declared.claims.Claims.{Claims}
use Rattle.access_tokens.specs.declared.fields.Tail.{Tail}
use Rattle.access_tokens.proofs.MarkLemmas.{Lacks-decimal}
use Rattle.access_tokens.proofs.Parts.{EachLacks, parts_of-join}
use Rattle.access_tokens.proofs.Readings.{Lacks-user, Lacks-word, claim_fields-lack, one_claims}
use Rattle.containers.specs.TokenText.{HasReading, IsWritable, ReadsAs, signed_text}
use Rattle.containers.specs.declared.token.ContainerToken.{ContainerToken}

-- what a token claims beside its user
abbrev pub claims_in : ContainerToken → Claims
claims_in token = record { write = token.write; serial = token.serial; issued = token.issued; expires = token.expires }

-- the fields of a token's text with these digits of a code
abbrev pub fields_of : ℕ → ContainerToken → List ℕ → List (List ℕ)
fields_of number token mac = codes "c1" ∷ decimal number ∷ token.user ∷ claim_fields (claims_in token) mac

-- a token's text is its fields, joined by periods
joined : (number : ℕ) (token : ContainerToken) (mac : List ℕ) → signed_text number token ++ period ∷ mac ≡ join_with_byte 46 (fields_of number token mac)
unfolding signed_text
joined number token mac = simp append_assoc

claims-writable : (token : ContainerToken) → IsWritable token → AreWritable (claims_in token)
claims-writable token form = record { serial = form.serial; issued = form.issued; expires = form.expires }

fields-lack : (number : ℕ) (token : ContainerToken) (mac : List ℕ) → IsKeyNumber number → IsWritable token → IsMac mac
    → EachLacks (fields_of number token mac)
unfolding EachLacks
fields-lack number token mac small form digits = (
  Lacks-word (codes "c1") refl,
  (
    Lacks-decimal 46 number refl (omega (arith, small)),
    (Lacks-user token.user form.user, claim_fields-lack (claims_in token) mac (claims-writable token form) digits),
  ),
)

-- a reading shows the parts of the text
pub parts_of-reading : (text : List ℕ) (number : ℕ) (token : ContainerToken) (mac : List ℕ) → ReadsAs text number token mac
    → parts_of text ≡ fields_of number token mac
parts_of-reading text number token mac reading =
    ap parts_of (reading.fields ∙ joined number token mac)
    ∙ parts_of-join _ _ (fields-lack number token mac reading.range reading.form reading.digits)

-- the parts of a text show what it is
text_from_parts : (text : List ℕ) (number : ℕ) (token : ContainerToken) (mac : List ℕ) → parts_of text ≡ fields_of number token mac
    → text ≡ signed_text number token ++ period ∷ mac
text_from_parts text number token mac parts =
    sym (join_with_byte-slice_split 46 text) ∙ ap (join_with_byte 46) parts ∙ sym (joined number token mac)

place : ℕ → List (List ℕ) → List ℕ
place n fields = get_or fields n []

-- a text has one reading
pub one_reading : (text : List ℕ) (number also_number : ℕ) (token other : ContainerToken) (mac code : List ℕ)
    → ReadsAs text number token mac → ReadsAs text also_number other code → (number ≡ also_number) × (token ≡ other) × (mac ≡ code)
unfolding place
one_reading text number also_number token other mac code first second =
    let same : fields_of number token mac ≡ fields_of also_number other code =
    sym (parts_of-reading text number token mac first) ∙ parts_of-reading text also_number other code second in
    let a = first.range in
    let b = second.range in
    let user : token.user ≡ other.user = ap (place 2) same in
    let claims = one_claims (claims_in token) (claims_in other) mac code (claims-writable token first.form) (claims-writable other second.form)
    (ap (λ (all : List (List ℕ)). drop 3 all) same) in
    let made = claims.0 in (
      decimal_injective number also_number (omega (arith, a)) (omega (arith, b)) (ap (place 1) same),
      λ i. record {
        user = user i;
        write = (made i).write;
        serial = (made i).serial;
        issued = (made i).issued;
        expires = (made i).expires;
      },
      claims.1,
    )

-- the text begins with the form's name, this number and this user, and this rest stands behind them
abbrev pub HasHead : List ℕ → ℕ → List ℕ → List ℕ → Type 0
HasHead text number user rest = IsKeyNumber number × IsUser user × (parts_of text ≡ codes "c1" ∷ decimal number ∷ user ∷ parts_of rest)

-- behind the head of a text that has a reading there are the fields of the claims
behind_head : (text : List ℕ) (number : ℕ) (user rest : List ℕ) → HasHead text number user rest
    → (also_number : ℕ) (token : ContainerToken) (mac : List ℕ) → ReadsAs text also_number token mac → parts_of rest ≡ claim_fields (claims_in token) mac
behind_head text number user rest head also_number token mac reading =
    ap (λ (all : List (List ℕ)). drop 3 all) (sym head.2 ∙ parts_of-reading text also_number token mac reading)

-- where a text begins with no head, there is no reading
pub headless : (text : List ℕ) → ((number : ℕ) (user : List ℕ) (field : List ℕ) (fields : List (List ℕ)) → IsKeyNumber number → IsUser user
    → parts_of text ≢ codes "c1" ∷ decimal number ∷ user ∷ field ∷ fields) → ¬ HasReading text
headless text none reading =
    none reading.0 reading.1.user _ _ reading.3.range reading.3.form.user (parts_of-reading text reading.0 reading.1 reading.2 reading.3)

-- where not five fields stand behind a head, there is no reading
pub uncounted : (text : List ℕ) (number : ℕ) (user rest : List ℕ) → HasHead text number user rest → length (parts_of rest) ≢ 5 → ¬ HasReading text
uncounted text number user rest head other reading =
    other (ap length (behind_head text number user rest head reading.0 reading.1 reading.2 reading.3))

last_field : (tail : Tail) (claims : Claims) (mac : List ℕ) → tail_list tail ≡ claim_fields claims mac → tail.mac.now ≡ mac
unfolding place
last_field tail claims mac same = ap (place 4) same

-- where the fields behind a head tell no claims, there is no reading
pub untold : (text : List ℕ) (number : ℕ) (user rest : List ℕ) (tail : Tail) → HasHead text number user rest → parts_of rest ≡ tail_list tail
    → ((claims : Claims) → AreWritable claims → IsMac tail.mac.now → tail_list tail ≢ claim_fields claims tail.mac.now) → ¬ HasReading text
untold text number user rest tail head are none reading =
    let claims = claims_in reading.1 in
    let parts : tail_list tail ≡ claim_fields claims reading.2 =
    sym are ∙ behind_head text number user rest head reading.0 reading.1 reading.2 reading.3 in
    let mac = last_field tail claims reading.2 parts in
    none claims (claims-writable reading.1 reading.3.form) (subst IsMac (sym mac) reading.3.digits) (parts ∙ ap (claim_fields claims) (sym mac))

abbrev pub made : List ℕ → Claims → ContainerToken
made user claims = record {
  user = user;
  write = claims.write;
  serial = claims.serial;
  issued = claims.issued;
  expires = claims.expires;
}

-- fields that are a token's make a reading
pub ReadsAs-fields : (text : List ℕ) (number : ℕ) (user rest : List ℕ) (tail : Tail) (claims : Claims) → HasHead text number user rest
    → parts_of rest ≡ tail_list tail
    → (AreWritable claims × IsMac tail.mac.now × (tail_list tail ≡ claim_fields claims tail.mac.now))
    → ReadsAs text number (made user claims) tail.mac.now
ReadsAs-fields text number user rest tail claims head are told = record {
  range = head.0;
  form = record { user = head.1; serial = told.0.serial; issued = told.0.issued; expires = told.0.expires };
  digits = told.1;
  fields =
      text_from_parts text number (made user claims) tail.mac.now
      (head.2 ∙ ap (λ parts. codes "c1" ∷ decimal number ∷ user ∷ parts) (are ∙ told.2));
}

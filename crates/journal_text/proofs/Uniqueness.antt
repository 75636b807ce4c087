-- A text reads in one way.
use Rattle.std.proofs.Common.{◌≡◌, ℕ, ◌<◌, Bool, true, false, List, [], ◌∷◌, length, get_or, drop, Option, None, Some, if◌then◌else◌, refl, sym, ap, ◌∙◌, arith}
use Rattle.std.specs.Prelude.{codes, decimal}
use Rattle.std.specs.Char.{is_ascii_digit}
use Rattle.std.specs.List.{list_all}
use Rattle.std.specs.Str.{bytes_eq}
use Rattle.wopi_text.proofs.Decimals.{digits-decimal}
use Rattle.std.proofs.lemmas.Fmt.{decimal_injective}
use Rattle.hex.specs.Hex.{IsBytes, encode_lower, lower_digits}
use Rattle.hex.proofs.HexLemmas.{decode_of-encode_lower, length-encode_with}
use Rattle.hex.specs.Hex.{decode_of}
use Rattle.wopi_text.specs.LockId.{IsLockId}
use Rattle.wopi_text.specs.declared.reason.Reason.{Reason}
use Rattle.wopi_text.specs.declared.reason.Reason.TheVariants as reason
use Rattle.wopi_text.proofs.IdLemmas.{id_of-injective}
use Rattle.wopi_model.specs.declared.token.Token.{Token}
use Rattle.host_core.specs.declared.entry.EntryAct.{EntryAct}
use Rattle.host_core.specs.declared.entry.EntryAct.TheVariants as act
use Rattle.host_table.specs.Text.{hex_text, optional_hex, optional_number, overwrite_text, reason_text, rights_text, token_fields, version_text}
use Rattle.journal_text.specs.Lines.{AreSized, Fits, IsAct, IsFile, IsToken, MayBeLock, MayFit}
use Rattle.journal_text.specs.Words.{act_words, file_words, parts_of, token_parts}
use Rattle.line_text.proofs.HexWords.{same_many}
use Rattle.journal_text.proofs.Locks.{IsBytes-lock}
use Rattle.journal_text.proofs.TokenTexts.{parts_of-token}

-- ---- single words

pub same_hex : (bytes other : List ℕ) → IsBytes bytes → IsBytes other → hex_text bytes ≡ hex_text other → bytes ≡ other
same_hex [] [] h k e = refl
same_hex [] (b ∷ other) h k e = absurd (omega (arith, same_many [] (b ∷ other) e))
same_hex (a ∷ bytes) [] h k e = absurd (omega (arith, same_many (a ∷ bytes) [] e))
same_hex (a ∷ bytes) (b ∷ other) h k e =
    let first = decode_of-encode_lower (a ∷ bytes) h in
    let second = decode_of-encode_lower (b ∷ other) k in
    let across : decode_of (encode_lower (a ∷ bytes)) ≡ decode_of (encode_lower (b ∷ other)) = ap decode_of e in
    cc (sym first ∙ across ∙ second)

pub same_lock_id : (id other : List ℕ) → IsLockId id → IsLockId other → hex_text id ≡ hex_text other → id ≡ other
same_lock_id id other h k e = same_hex id other (IsBytes-lock id h) (IsBytes-lock other k) e

-- a dash is the text of no bytes alone
no_dash : (bytes : List ℕ) → 0 < length bytes → codes "-" ≡ hex_text bytes → ⊥
no_dash [] some e = omega (arith, some)
no_dash (b ∷ bytes) some e = omega (arith, ap length e, length-encode_with lower_digits (b ∷ bytes))

pub same_optional_lock : (lock other : Option (List ℕ)) → MayBeLock lock → MayBeLock other → optional_hex lock ≡ optional_hex other → lock ≡ other
same_optional_lock None None h k e = refl
same_optional_lock None (Some id) h k e = absurd (no_dash id k.not_empty e)
same_optional_lock (Some id) None h k e = absurd (no_dash id h.not_empty (sym e))
same_optional_lock (Some id) (Some other) h k e = ap Some (same_lock_id id other h k e)

pub same_contents : (size : Option ℕ) (contents other : Option (List ℕ)) → AreSized size contents → AreSized size other → optional_hex contents ≡ optional_hex other → contents ≡ other
same_contents None None None h k e = refl
same_contents None None (Some other) h k e = absurd k
same_contents None (Some bytes) other h k e = absurd h
same_contents (Some size) None other h k e = absurd h
same_contents (Some size) (Some bytes) None h k e = absurd k
same_contents (Some size) (Some bytes) (Some other) h k e = ap Some (same_hex bytes other h.0 k.0 e)

dash_no_number : (n : ℕ) → Fits n → codes "-" ≡ decimal n → ⊥
dash_no_number n h e =
    let digits : list_all is_ascii_digit (codes "-") ≡ true = ap (list_all is_ascii_digit) e ∙ digits-decimal n h in absurd (cc digits)

pub same_reason : (why other : Option Reason) → reason_text why ≡ reason_text other → why ≡ other
unfolding reason_text
same_reason None None e = refl
same_reason None (Some reason.Locked) e = absurd (omega (arith, ap (λ l. get_or l 0 0) e))
same_reason None (Some reason.NotLocked) e = absurd (omega (arith, ap (λ l. get_or l 0 0) e))
same_reason None (Some reason.Spent) e = absurd (omega (arith, ap (λ l. get_or l 0 0) e))
same_reason None (Some reason.Taken) e = absurd (omega (arith, ap (λ l. get_or l 0 0) e))
same_reason None (Some reason.Changed) e = absurd (omega (arith, ap (λ l. get_or l 0 0) e))
same_reason (Some reason.Locked) (Some reason.Locked) e = refl
same_reason (Some reason.NotLocked) (Some reason.NotLocked) e = refl
same_reason (Some reason.Spent) (Some reason.Spent) e = refl
same_reason (Some reason.Taken) (Some reason.Taken) e = refl
same_reason (Some reason.Changed) (Some reason.Changed) e = refl
same_reason _ _ e = absurd (omega (arith, ap (λ l. get_or l 0 0) e))

pub same_overwrite : (may other : Bool) → overwrite_text may ≡ overwrite_text other → may ≡ other
unfolding overwrite_text
same_overwrite true true e = refl
same_overwrite false false e = refl
same_overwrite true false e = absurd (omega (arith, ap (λ l. get_or l 0 0) e))
same_overwrite false true e = absurd (omega (arith, ap (λ l. get_or l 0 0) e))

same_rights : (write other : Bool) → rights_text write ≡ rights_text other → write ≡ other
unfolding rights_text
same_rights true true e = refl
same_rights false false e = refl
same_rights true false e = absurd (omega (arith, ap (λ l. get_or l 0 0) e))
same_rights false true e = absurd (omega (arith, ap (λ l. get_or l 0 0) e))

pub same_version : (version other : Option ℕ) → MayFit version → MayFit other → version_text version ≡ version_text other → version ≡ other
unfolding version_text
same_version None None h k e = refl
same_version None (Some n) h k e = absurd (omega (arith, ap (λ l. get_or l 0 0) e))
same_version (Some n) None h k e = absurd (omega (arith, ap (λ l. get_or l 0 0) e))
same_version (Some n) (Some m) h k e = ap Some (decimal_injective n m h k (ap (drop 1) e))

pub same_number : (most other : Option ℕ) → MayFit most → MayFit other → optional_number most ≡ optional_number other → most ≡ other
same_number None None h k e = refl
same_number None (Some n) h k e = absurd (dash_no_number n k e)
same_number (Some n) None h k e = absurd (dash_no_number n h (sym e))
same_number (Some n) (Some m) h k e = ap Some (decimal_injective n m h k e)

-- ---- tokens

made : List ℕ → List ℕ → Bool → ℕ → ℕ → ℕ → Token
made user file write serial issued expires = record { user = user; file = file; write = write; serial = serial; issued = issued; expires = expires }

pub same_token : (token other : Token) → IsToken token → IsToken other → token_fields token ≡ token_fields other → token ≡ other
same_token token other h k e =
    let parts : token_parts token ≡ token_parts other = sym (parts_of-token token h) ∙ ap parts_of e ∙ parts_of-token other k in
    let user : token.user ≡ other.user = ap (λ l. get_or l 0 []) parts in
    let file = id_of-injective token.file other.file h.file k.file (ap (λ l. get_or l 1 []) parts) in
    let write = same_rights token.write other.write (ap (λ l. get_or l 2 []) parts) in
    let serial = decimal_injective token.serial other.serial h.serial k.serial (ap (λ l. get_or l 3 []) parts) in
    let issued = decimal_injective token.issued other.issued h.issued k.issued (ap (λ l. get_or l 4 []) parts) in
    let expires = decimal_injective token.expires other.expires h.expires k.expires (ap (λ l. get_or l 5 []) parts) in
    λ i. record { user = user i; file = file i; write = write i; serial = serial i; issued = issued i; expires = expires i }

-- ---- acts

abbrev kind : EntryAct → ℕ
kind act.Info = 0
kind (act.Get most) = 1
kind (act.Put lock size) = 2
kind (act.Lock id) = 3
kind act.GetLock = 4
kind (act.Refresh id) = 5
kind (act.Unlock id) = 6
kind (act.Relock old id) = 7
kind act.Look = 8
kind (act.Create overwrite size) = 9
kind act.Delete = 10

abbrev kind_word : List ℕ → ℕ
kind_word word =
    if bytes_eq word (codes "info") then 0 else if bytes_eq word (codes "get") then 1 else if bytes_eq word (codes "put") then 2 else if bytes_eq word (codes "lock") then 3 else if bytes_eq word (codes "getlock") then 4 else if bytes_eq word (codes "refresh") then 5 else if bytes_eq word (codes "unlock") then 6 else if bytes_eq word (codes "relock") then 7 else if bytes_eq word (codes "look") then 8 else if bytes_eq word (codes "create") then 9 else 10

kinds : (asked : EntryAct) → kind asked ≡ kind_word (get_or (act_words asked) 0 [])
kinds act.Info = refl
kinds (act.Get most) = refl
kinds (act.Put lock size) = refl
kinds (act.Lock id) = refl
kinds act.GetLock = refl
kinds (act.Refresh id) = refl
kinds (act.Unlock id) = refl
kinds (act.Relock old id) = refl
kinds act.Look = refl
kinds (act.Create overwrite size) = refl
kinds act.Delete = refl

one_kind : (asked other : EntryAct) → kind asked ≡ kind other → IsAct asked → IsAct other → act_words asked ≡ act_words other → asked ≡ other
one_kind act.Info act.Info n h k e = refl
one_kind (act.Get most) (act.Get other) n h k e = ap (λ o. act.Get o) (same_number most other h k (ap (λ l. get_or l 1 []) e))
one_kind (act.Put lock size) (act.Put other more) n h k e =
    let locks = same_optional_lock lock other h.0 k.0 (ap (λ l. get_or l 1 []) e) in
    let sizes = decimal_injective size more h.1 k.1 (ap (λ l. get_or l 2 []) e) in
    λ i. act.Put (locks i) (sizes i)
one_kind (act.Lock id) (act.Lock other) n h k e = ap (λ o. act.Lock o) (same_lock_id id other h k (ap (λ l. get_or l 1 []) e))
one_kind act.GetLock act.GetLock n h k e = refl
one_kind (act.Refresh id) (act.Refresh other) n h k e = ap (λ o. act.Refresh o) (same_lock_id id other h k (ap (λ l. get_or l 1 []) e))
one_kind (act.Unlock id) (act.Unlock other) n h k e = ap (λ o. act.Unlock o) (same_lock_id id other h k (ap (λ l. get_or l 1 []) e))
one_kind (act.Relock old id) (act.Relock before other) n h k e =
    let olds = same_lock_id old before h.0 k.0 (ap (λ l. get_or l 1 []) e) in
    let ids = same_lock_id id other h.1 k.1 (ap (λ l. get_or l 2 []) e) in
    λ i. act.Relock (olds i) (ids i)
one_kind act.Look act.Look n h k e = refl
one_kind (act.Create overwrite size) (act.Create may more) n h k e =
    let rights = same_overwrite overwrite may (ap (λ l. get_or l 1 []) e) in
    let sizes = decimal_injective size more h k (ap (λ l. get_or l 2 []) e) in
    λ i. act.Create (rights i) (sizes i)
one_kind act.Delete act.Delete n h k e = refl
one_kind _ _ n h k e = absurd (omega (arith, n))

pub same_act : (asked other : EntryAct) → IsAct asked → IsAct other → act_words asked ≡ act_words other → asked ≡ other
same_act asked other h k e =
    one_kind asked other (kinds asked ∙ ap (λ (words : List (List ℕ)). kind_word (get_or words 0 [])) e ∙ sym (kinds other)) h k e

pub same_file : (file other : List ℕ × List ℕ) → IsFile file → IsFile other → file_words file ≡ file_words other → file ≡ other
same_file file other h k e =
    let name = id_of-injective file.0 other.0 h.name k.name (ap (λ l. get_or l 1 []) e) in
    let contents = same_hex file.1 other.1 h.contents k.contents (ap (λ l. get_or l 2 []) e) in
    λ i. (name i, contents i)

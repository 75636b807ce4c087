-- What reading a text under keys answers, whatever its form is.
use Rattle.std.proofs.Common.{◌≡◌, ◌≢◌, ℕ, ◌-◌, ◌≤◌, List, ◌∷◌, ◌++◌, length, take, Option, Some, None, Result, Ok, Err, refl, sym, ap, subst, ◌∙◌, arith, length-append}
use Rattle.std.specs.Prelude.{◌↔◌}
use Rattle.std.proofs.lemmas.Bool.{eq-eqb}
use Rattle.std.proofs.Math.Seq.{take-append_seam}
use Rattle.access_tokens.specs.Keys.{key_of}
use Rattle.access_tokens.specs.Signed.{front_of, IsChecked}
use Rattle.access_tokens.specs.TokenText.{IsMac, mac_of, period}
use Rattle.access_tokens.specs.declared.checking.TokenFault.{TokenFault}
use Rattle.access_tokens.specs.declared.checking.TokenFault.TheVariants.{BadForm, BadMac, NoKey}
use Rattle.access_tokens.specs.declared.keys.Keys.{Keys}

some_none : (key : List ℕ) (o : Option (List ℕ)) → o ≡ Some key → o ≢ None
some_none key o some none = cc (sym some ∙ none)

some_key : (first second : List ℕ) → Some first ≡ Some second → first ≡ second
some_key first second e = cc e

-- what stands before a code and its period
pub front_is : (text front mac : List ℕ) → IsMac mac → text ≡ front ++ period ∷ mac → (65 ≤ length text) × (front_of text ≡ front)
front_is text front mac digits is =
    let len = ap length is ∙ length-append front (period ∷ mac) in
    let sized = digits.sized in
    let before : length text - 65 ≡ length front = omega (arith, len, sized) in (
      omega (arith, len, sized),
      ap (λ n. take n text) before ∙ ap (take (length front)) is ∙ take-append_seam front (period ∷ mac),
    )

-- the current key is in force
pub own_key : (keys : Keys) → key_of keys keys.current.number ≡ Some keys.current.key
own_key keys = rw (eq-eqb keys.current.number keys.current.number refl) refl

-- A text of a form: it reads as what tells the number of a key, as a token and as the digits of a code, in one way at most, and
-- what is signed is made of the first two.
module _ (N T : Type 0) (keys : Keys) (text : List ℕ) (number : N → ℕ) (signed : N → T → List ℕ) (Reads : N → T → List ℕ → Type 0)
    (one : (n m : N) (t u : T) (a b : List ℕ) → Reads n t a → Reads m u b → (n ≡ m) × (t ≡ u) × (a ≡ b)) where
  pub record IsAnswer (result : Result T TokenFault) : Type 0 where
    pub exact : (t : T) → (result ≡ Ok t) ↔ ((n : N) × (key : List ℕ) × (key_of keys (number n) ≡ Some key) × Reads n t (mac_of key (signed n t)))
    pub bad_form : (result ≡ Err BadForm) ↔ (¬ ((n : N) × (t : T) × (mac : List ℕ) × Reads n t mac))
    pub no_key : (result ≡ Err NoKey) ↔ ((n : N) × (t : T) × (mac : List ℕ) × Reads n t mac × (key_of keys (number n) ≡ None))
    pub bad_mac : (result ≡ Err BadMac)
        ↔ ((n : N) × (t : T) × (mac : List ℕ) × (key : List ℕ) × Reads n t mac × (key_of keys (number n) ≡ Some key) × (mac ≢ mac_of key (signed n t)))

  pub IsAnswer-unread : ¬ ((n : N) × (t : T) × (mac : List ℕ) × Reads n t mac) → IsAnswer (Err BadForm)
  IsAnswer-unread unread = record {
    exact = λ t. (λ e. cc e, λ h. absurd (unread (h.0, t, mac_of h.1 (signed h.0 t), h.3)));
    bad_form = (λ _. unread, λ _. refl);
    no_key = (λ e. cc e, λ h. absurd (unread (h.0, h.1, h.2, h.3)));
    bad_mac = (λ e. cc e, λ h. absurd (unread (h.0, h.1, h.2, h.4)));
  }

  -- the key of two readings
  one_key : (n m : N) → n ≡ m → key_of keys (number n) ≡ key_of keys (number m)
  one_key n m same = ap (λ k. key_of keys (number k)) same

  unkeyed : (n : N) (t : T) (mac : List ℕ) → Reads n t mac → key_of keys (number n) ≡ None → IsAnswer (Err NoKey)
  unkeyed n t mac reading none = record {
    exact = λ u. (
      λ e. cc e,
      λ h. let same = one h.0 n u t _ mac h.3 reading in absurd (some_none h.1 _ h.2 (one_key h.0 n same.0 ∙ none)),
    );
    bad_form = (λ e. cc e, λ unread. absurd (unread (n, t, mac, reading)));
    no_key = (λ _. (n, t, mac, reading, none), λ _. refl);
    bad_mac = (
      λ e. cc e,
      λ h. let same = one h.0 n h.1 t h.2 mac h.4 reading in absurd (some_none h.3 _ h.5 (one_key h.0 n same.0 ∙ none)),
    );
  }

  code : List ℕ → N → T → List ℕ
  code key n t = mac_of key (signed n t)

  same_code : (key other : List ℕ) (n m : N) (t u : T) → key ≡ other → n ≡ m → t ≡ u → code key n t ≡ code other m u
  same_code key other n m t u h i j = cc

  -- two readings have one key and one right code
  same_right : (n m : N) (t u : T) (mac other key also_key : List ℕ) → Reads n t mac → Reads m u other
      → key_of keys (number n) ≡ Some key → key_of keys (number m) ≡ Some also_key → code key n t ≡ code also_key m u
  same_right n m t u mac other key also_key reading again is_key is_also =
      let same = one n m t u mac other reading again in
      same_code key also_key n m t u (some_key key also_key (sym is_key ∙ one_key n m same.0 ∙ is_also)) same.0 same.1

  right : (n : N) (t : T) (key : List ℕ) → key_of keys (number n) ≡ Some key → Reads n t (mac_of key (signed n t)) → IsAnswer (Ok t)
  unfolding code
  right n t key is_key reading = record {
    exact = λ u. (
      λ e.
          let same : t ≡ u = cc e in
          let Signs : T → Type 0 =
          λ v. (m : N) × (other : List ℕ) × (key_of keys (number m) ≡ Some other) × Reads m v (mac_of other (signed m v)) in
          subst Signs same (n, key, is_key, reading),
      λ h. ap Ok (one n h.0 t u _ _ reading h.3).1,
    );
    bad_form = (λ e. cc e, λ unread. absurd (unread (n, t, mac_of key (signed n t), reading)));
    no_key = (
      λ e. cc e,
      λ h. let same = one n h.0 t h.1 _ h.2 reading h.3 in absurd (some_none key _ is_key (one_key n h.0 same.0 ∙ h.4)),
    );
    bad_mac = (
      λ e. cc e,
      λ h.
          let same = one n h.0 t h.1 _ h.2 reading h.4 in
          absurd (h.6 (sym same.2 ∙ same_right n h.0 t h.1 _ h.2 key h.3 reading h.4 is_key h.5)),
    );
  }

  forged : (n : N) (t : T) (mac key : List ℕ) → key_of keys (number n) ≡ Some key → Reads n t mac → mac ≢ mac_of key (signed n t)
      → IsAnswer (Err BadMac)
  unfolding code
  forged n t mac key is_key reading differs = record {
    exact = λ u. (
      λ e. cc e,
      λ h.
          let same = one n h.0 t u mac _ reading h.3 in
          absurd (differs (same.2 ∙ sym (same_right n h.0 t u mac _ key h.1 reading h.3 is_key h.2))),
    );
    bad_form = (λ e. cc e, λ unread. absurd (unread (n, t, mac, reading)));
    no_key = (
      λ e. cc e,
      λ h. let same = one n h.0 t h.1 mac h.2 reading h.3 in absurd (some_none key _ is_key (one_key n h.0 same.0 ∙ h.4)),
    );
    bad_mac = (λ _. (n, t, mac, key, reading, is_key, differs), λ _. refl);
  }

  told : T → Result (Unit {0}) TokenFault → Result T TokenFault
  told t (Ok done) = Ok t
  told t (Err fault) = Err fault

  -- a reading whose code was checked
  checked : (n : N) (t : T) (mac : List ℕ) (r : Result (Unit {0}) TokenFault) → Reads n t mac → front_of text ≡ signed n t
      → IsChecked keys (number n) text mac r → IsAnswer (told t r)
  unfolding told
  checked n t mac (Ok done) reading front (key, is_key, same) =
      right n t key is_key (subst (Reads n t) (same ∙ ap (mac_of key) front) reading)
  checked n t mac (Err NoKey) reading front none = unkeyed n t mac reading none
  checked n t mac (Err BadMac) reading front (key, is_key, wrong) =
      forged n t mac key is_key reading (λ e. wrong (e ∙ ap (mac_of key) (sym front)))
  checked n t mac (Err BadForm) reading front never = absurd never

  pub IsAnswer-right : (n : N) (t : T) (mac : List ℕ) → Reads n t mac → front_of text ≡ signed n t
      → IsChecked keys (number n) text mac (Ok (record {})) → IsAnswer (Ok t)
  unfolding told
  IsAnswer-right n t mac reading front found = checked n t mac (Ok (record {})) reading front found

  pub IsAnswer-wrong : (n : N) (t : T) (mac : List ℕ) (fault : TokenFault) → Reads n t mac → front_of text ≡ signed n t
      → IsChecked keys (number n) text mac (Err fault) → IsAnswer (Err fault)
  unfolding told
  IsAnswer-wrong n t mac fault reading front found = checked n t mac (Err fault) reading front found

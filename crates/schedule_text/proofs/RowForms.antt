-- The words of a line, and what they ask for.
use Rattle.std.proofs.Common.{◌≡◌, ◌≢◌, ◌==◌, false, ℕ, ◌+◌, ◌<◌, List, [], ◌∷◌, None, length, get_or, drop, refl, sym, ap, ◌∙◌, subst}
use Rattle.std.proofs.lemmas.Bool.{ne_eqb}
use Rattle.std.proofs.lemmas.List.{drop_more, drop_all}
use Rattle.schedule_text.specs.Schedules.{carried}
use Rattle.std.specs.Prelude.{codes, ◌≤◌}
use Rattle.wopi_text.specs.FileName.{IsFileName}
use Rattle.wopi_text.specs.Ids.{id_of}
use Rattle.wopi_headers.specs.declared.ask.Op.{Op}
use Rattle.wopi_headers.specs.declared.ask.Op.TheVariants as op
use Rattle.schedule_text.specs.declared.schedule.ForeignAsk.{ForeignAsk}
use Rattle.schedule_text.specs.Grammar.{AreAsked, IsAsked, IsLockWord, yes_or_no}
use Rattle.wopi_headers.specs.declared.ask.Target.TheVariants.{Suggested, Relative}
use Rattle.line_text.specs.Words.{hex_text}
use Rattle.schedule_text.specs.RowKinds.{IsBare, IsBareOp, IsCopy, IsLocked, IsLockedOp}

-- ---- words that are equal

pub two_same : (words : List (List ℕ)) (a b c d : List ℕ) → words ≡ a ∷ b ∷ [] → words ≡ c ∷ d ∷ [] → (a ≡ c) × (b ≡ d)
two_same words a b c d h k = let same = sym h ∙ k in (cc same, cc same)

pub three_same : (words : List (List ℕ)) (a b c d e f : List ℕ) → words ≡ a ∷ b ∷ c ∷ [] → words ≡ d ∷ e ∷ f ∷ [] → (a ≡ d) × (b ≡ e) × (c ≡ f)
three_same words a b c d e f h k = let same = sym h ∙ k in (cc same, cc same, cc same)

pub five_same : (words : List (List ℕ)) (a b c d e f g i j l : List ℕ) → words ≡ a ∷ b ∷ c ∷ d ∷ e ∷ [] → words ≡ f ∷ g ∷ i ∷ j ∷ l ∷ []
    → (a ≡ f) × (b ≡ g) × (c ≡ i) × (d ≡ j) × (e ≡ l)
five_same words a b c d e f g i j l h k = let same = sym h ∙ k in (cc same, cc same, cc same, cc same, cc same)

-- ---- requests without a lock or under one

-- the words of such a request
pub bare_words : (words : List (List ℕ)) (ask : ForeignAsk) → IsAsked words ask → (o : Op) → ask.op ≡ o → IsBareOp o
    → (word : List ℕ) × IsBare word o × (words ≡ word ∷ id_of ask.file ∷ [])
bare_words words ask asked op.Info e is = (codes "info", refl, subst (AreAsked words ask.file ask.body) e asked.asked)
bare_words words ask asked (op.Get most) e is = (codes "get", (body_of e, refl), subst (AreAsked words ask.file ask.body) e asked.asked) where
  body_of : ask.op ≡ op.Get most → most ≡ None
  body_of e = let has = asked.bodies in (rw e at has).0
bare_words words ask asked op.GetLock e is = (codes "getlock", refl, subst (AreAsked words ask.file ask.body) e asked.asked)
bare_words words ask asked op.Delete e is = (codes "delete", refl, subst (AreAsked words ask.file ask.body) e asked.asked)
bare_words words ask asked (op.Put _) e is = elim is [ ]
bare_words words ask asked (op.Lock _) e is = elim is [ ]
bare_words words ask asked (op.Refresh _) e is = elim is [ ]
bare_words words ask asked (op.Unlock _) e is = elim is [ ]
bare_words words ask asked (op.Relock _ _) e is = elim is [ ]
bare_words words ask asked (op.PutRelative _) e is = elim is [ ]

pub locked_words : (words : List (List ℕ)) (ask : ForeignAsk) → IsAsked words ask → (o : Op) → ask.op ≡ o → IsLockedOp o
    → (word id : List ℕ) × IsLocked word id o × IsLockWord id × (words ≡ word ∷ id_of ask.file ∷ id ∷ [])
locked_words words ask asked (op.Lock id) e is = let are = subst (AreAsked words ask.file ask.body) e asked.asked in (codes "lock", id, (refl, refl), are.0, are.1)
locked_words words ask asked (op.Refresh id) e is = let are = subst (AreAsked words ask.file ask.body) e asked.asked in (codes "refresh", id, (refl, refl), are.0, are.1)
locked_words words ask asked (op.Unlock id) e is = let are = subst (AreAsked words ask.file ask.body) e asked.asked in (codes "unlock", id, (refl, refl), are.0, are.1)
locked_words words ask asked op.Info e is = elim is [ ]
locked_words words ask asked (op.Get _) e is = elim is [ ]
locked_words words ask asked (op.Put _) e is = elim is [ ]
locked_words words ask asked op.GetLock e is = elim is [ ]
locked_words words ask asked (op.Relock _ _) e is = elim is [ ]
locked_words words ask asked (op.PutRelative _) e is = elim is [ ]
locked_words words ask asked op.Delete e is = elim is [ ]

-- the words of a copy
pub copy_words : (words : List (List ℕ)) (ask : ForeignAsk) → IsAsked words ask → (o : Op) → ask.op ≡ o → IsCopy o
    → (name overwrite digits : List ℕ) × IsFileName name × (words ≡ codes "relative" ∷ id_of ask.file ∷ id_of name ∷ overwrite ∷ digits ∷ [])
copy_words words ask asked (op.PutRelative (Relative found overwrite)) e is =
    let are = subst (AreAsked words ask.file ask.body) e asked.asked in (are.0, yes_or_no overwrite, hex_text ask.body, are.1, are.3)
copy_words words ask asked (op.PutRelative (Suggested text)) e is = elim (subst (AreAsked words ask.file ask.body) e asked.asked) [ ]
copy_words words ask asked op.Info e is = elim is [ ]
copy_words words ask asked (op.Get _) e is = elim is [ ]
copy_words words ask asked (op.Put _) e is = elim is [ ]
copy_words words ask asked (op.Lock _) e is = elim is [ ]
copy_words words ask asked op.GetLock e is = elim is [ ]
copy_words words ask asked (op.Refresh _) e is = elim is [ ]
copy_words words ask asked (op.Unlock _) e is = elim is [ ]
copy_words words ask asked (op.Relock _ _) e is = elim is [ ]
copy_words words ask asked op.Delete e is = elim is [ ]

-- a name from a place on, where it is carried from its front
pub carried_front : (name : List ℕ) (front : ℕ) → front < length name → get_or name front 0 ≡ 32 → carried (drop front name) ≡ carried (drop (front + 1) name)
carried_front name front below space =
    let parts = drop_more name front 0 below in
    let first : drop front name ≡ 32 ∷ drop (front + 1) name = parts ∙ ap (λ b. b ∷ drop (front + 1) name) space in
    ap carried first

pub carried_end : (name : List ℕ) (front : ℕ) → front < length name → get_or name front 0 ≢ 32 → carried (drop front name) ≡ drop front name
carried_end name front below other =
    let parts = drop_more name front 0 below in
    let test : (get_or name front 0 == 32) ≡ false = ne_eqb (get_or name front 0) 32 other in
    let kept : carried (get_or name front 0 ∷ drop (front + 1) name) ≡ get_or name front 0 ∷ drop (front + 1) name = rw test refl in
    ap carried parts ∙ kept ∙ sym parts

pub carried_none : (name : List ℕ) (front : ℕ) → length name ≤ front → carried (drop front name) ≡ drop front name
carried_none name front past =
    let none : drop front name ≡ [] = drop_all front name past in
    ap carried none ∙ sym none

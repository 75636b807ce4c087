-- All accepted requests under one token stand between the same two restarts.
use Rattle.std.proofs.Common.{◌≡◌, ℕ, ◌<◌, ◌≤◌, List, [], ◌∷◌, ◌++◌, length, Some, inl, inr, sym, subst, arith}
use Rattle.std.proofs.lemmas.List.{append_assoc, append-nil}
use Rattle.std.specs.List.{slice_get, AllByRecursion}
use Rattle.wopi_model.specs.declared.token.Token.{Token}
use Rattle.wopi_model.specs.Shard.{Shard, Tick, Step, at_moment}
use Rattle.wopi_world.specs.Requests.{Client}
use Rattle.wopi_world.specs.History.{Item, Ran, Restarted, happens, after, IsAllowed, Along}
use Rattle.wopi_world.specs.Valid.{IsIssuedBefore}
use Rattle.wopi_world.specs.Sessions.{IsDead, IsUse, IsNoRestart, StandsInOneRun}
use Rattle.wopi_world.proofs.Lists.{get_left, get_new, all_at}
use Rattle.wopi_world.proofs.Moving.{accepted_live, stepped}
use Rattle.wopi_world.proofs.Positions.{Along-split}

-- the session's token was used before
abbrev pub WasUsed : Client → List Item → Type 0
WasUsed client history = (at : ℕ) × (item : Item) × (slice_get history at ≡ Some item) × IsUse client item

pub used-push : (client : Client) (history : List Item) (item : Item) → WasUsed client history → WasUsed client (history ++ item ∷ [])
used-push client history item used = (used.0, used.1, get_left history (item ∷ []) used.0 used.1 used.2, used.3)

pub used-new : (client : Client) (history : List Item) (item : Item) → IsUse client item → WasUsed client (history ++ item ∷ [])
used-new client history item use_ = (length history, item, get_new history item, use_)

-- a token that was used was issued before the restart
issued_by : (client : Client) (moment : ℕ) (item : Item) → IsIssuedBefore moment item → IsUse client item → client.token.issued < moment
issued_by client moment (Ran (Tick other)) before use_ = absurd use_
issued_by client moment (Ran (Step entry)) before use_ = let less = before use_.1 in subst (λ (t : Token). t.issued < moment) use_.0 less
issued_by client moment (Restarted other first) before use_ = absurd use_

pub issued : (client : Client) (moment : ℕ) (history : List Item) → AllByRecursion (IsIssuedBefore moment) history → WasUsed client history → client.token.issued < moment
issued client moment history before used = issued_by client moment used.1 (all_at (IsIssuedBefore moment) history used.0 used.1 before used.2) used.3

-- at a restart all tokens that were accepted before were issued before it
abbrev pub IsAfter : List Item → Item → Type 0
IsAfter seen (Ran item) = Unit {0}
IsAfter seen (Restarted moment first) = AllByRecursion (IsIssuedBefore moment) seen

abbrev pub AreSpaced : List Item → List Item → Type 0
AreSpaced seen [] = Unit {0}
AreSpaced seen (item ∷ items) = IsAfter seen item × AreSpaced (seen ++ item ∷ []) items

pub spaced-push : (seen history : List Item) (item : Item) → AreSpaced seen history → IsAfter (seen ++ history) item → AreSpaced seen (history ++ item ∷ [])
spaced-push seen [] item h a = (subst (λ (l : List Item). IsAfter l item) (append-nil seen) a, tt)
spaced-push seen (one ∷ history) item h a =
    (h.0, spaced-push (seen ++ one ∷ []) history item h.1 (subst (λ (l : List Item). IsAfter l item) (sym (append_assoc seen (one ∷ []) history)) a))

pub spaced-split : (seen first rest : List Item) → AreSpaced seen (first ++ rest) → AreSpaced (seen ++ first) rest
spaced-split seen [] rest h = subst (λ (l : List Item). AreSpaced l rest) (sym (append-nil seen)) h
spaced-split seen (item ∷ first) rest h =
    subst (λ (l : List Item). AreSpaced l rest) (append_assoc seen (item ∷ []) first) (spaced-split (seen ++ item ∷ []) first rest h.1)

-- an entry is accepted under a live token
use_lives : (client : Client) (shard : Shard) (item : Item) → IsAllowed shard item → IsUse client item → shard.opened ≤ client.token.issued
use_lives client shard (Ran (Tick moment)) allowed use_ = absurd use_
use_lives client shard (Restarted moment first) allowed use_ = absurd use_
use_lives client shard (Ran (Step entry)) allowed use_ =
    let at = at_moment shard entry.moment in
    elim (stepped (at.files entry.call.name) entry.call at.opened at.now entry.ruling allowed) [
      | inl same ↦ absurd (same.1 use_.1)
      | inr went ↦ subst (λ (t : Token). shard.opened ≤ t.issued) use_.0 (accepted_live (at.files entry.call.name) entry.call at.opened at.now went.0)
    ]

-- a token that is dead stays dead, and isn't used again

opened-on : (client : Client) (shard : Shard) (item : Item) → IsAllowed shard item → shard.opened ≤ shard.now → IsDead client shard →
    IsDead client (happens shard item) × ((happens shard item).opened ≤ (happens shard item).now)
opened-on client shard (Ran (Tick moment)) allowed le dead = (dead, omega (arith, le))
opened-on client shard (Ran (Step entry)) allowed le dead = (dead, omega (arith, le))
opened-on client shard (Restarted moment first) allowed le dead = (omega (arith, dead, le, allowed), omega arith)

dead_unused : (client : Client) (shard : Shard) (middle last : List Item) (q : Item) → Along IsAllowed shard (middle ++ q ∷ last) → shard.opened ≤ shard.now → IsDead client shard →
    IsUse client q → ⊥
dead_unused client shard [] last q h le dead use_ = let lives = use_lives client shard q h.0 use_ in absurd (omega (arith, lives, dead))
dead_unused client shard (item ∷ middle) last q h le dead use_ =
    let on = opened-on client shard item h.0 le dead in
    dead_unused client (happens shard item) middle last q h.1 on.1 on.0 use_

no_restart : (client : Client) (shard : Shard) (seen middle last : List Item) (q : Item) → WasUsed client seen → IsUse client q → AreSpaced seen (middle ++ q ∷ last) →
    Along IsAllowed shard (middle ++ q ∷ last) → AllByRecursion IsNoRestart middle
no_restart client shard seen [] last q used use_ spaced allowed = tt
no_restart client shard seen (Ran item ∷ middle) last q used use_ spaced allowed =
    (tt, no_restart client (happens shard (Ran item)) (seen ++ Ran item ∷ []) middle last q (used-push client seen (Ran item) used) use_ spaced.1 allowed.1)
no_restart client shard seen (Restarted moment first ∷ middle) last q used use_ spaced allowed =
    absurd (dead_unused client (happens shard (Restarted moment first)) middle last q allowed.1 (omega arith) (issued client moment seen spaced.0 used) use_)

pub one_run_lem : (client : Client) (start : Shard) (history : List Item) → Along IsAllowed start history → AreSpaced [] history → StandsInOneRun client history
one_run_lem client start history allowed spaced first middle last p q e use_p use_q =
    let rest = p ∷ (middle ++ q ∷ last) in
    let whole : Along IsAllowed start (first ++ rest) = subst (Along IsAllowed start) (sym e) allowed in
    let all : AreSpaced [] (first ++ rest) = subst (AreSpaced []) (sym e) spaced in
    no_restart client (happens (after start first) p) (first ++ p ∷ []) middle last q (used-new client first p use_p) use_q
    (spaced-split [] first rest all).1 (Along-split IsAllowed start first rest whole).1

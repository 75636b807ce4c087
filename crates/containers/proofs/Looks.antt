-- Listings of one shard after another.
use Rattle.std.proofs.Common.{◌≡◌, ◌≢◌, ℕ, suc, ◌+◌, ◌<◌, Bool, true, false, ◌==◌, List, [], ◌∷◌, ◌++◌, length, refl, sym, ap, subst, ◌∙◌, arith, append-nil, append_assoc, eqb-true, true≢false}
use Rattle.std.proofs.lemmas.Bool.{eqb-false}
use Rattle.std.specs.List.{AllByRecursion}
use Rattle.wopi_model.specs.Begin.{Begin}
use Rattle.wopi_model.specs.Shard.{Entry, Item, entries}
use Rattle.host_core.specs.Caller.{Extends, FramesAt, KeepsTelling, Sight}
use Rattle.host_core.specs.Listing.{AreListed, Follows, IsListing, Lists, ListsAll, LooksAt, LooksOn}
use Rattle.host_core.specs.declared.children.Child.{Child}
use Rattle.host_core.specs.declared.listing.Listing.{Listing}

pub Extends-same : (old : List Entry) → Extends old old
Extends-same old = ([], sym (append-nil old))

pub Extends-trans : (a b c : List Entry) → Extends a b → Extends b c → Extends a c
Extends-trans a b c (m, e) (n, f) = (m ++ n, f ∙ ap (λ l. l ++ n) e ∙ append_assoc a m n)

-- whether all may be told, after nothing and one listing after another
pub telling_same : (loses telling : Bool) → KeepsTelling telling telling loses
telling_same loses telling = (λ is. is, λ told ended. absurd (true≢false (sym told ∙ ended)))

pub telling_on : (loses a b c : Bool) → KeepsTelling a b loses → KeepsTelling b c loses → KeepsTelling a c loses
telling_on loses a b c first second = (λ is. first.0 (second.0 is), λ told ended. ceases b refl told ended) where
  ceases : (m : Bool) → b ≡ m → a ≡ true → c ≡ false → loses ≡ true
  ceases true is told ended = second.1 is ended
  ceases false is told ended = first.1 told is

pub Follows-same : (s : Sight) → Follows s s
Follows-same s = record {
  seen = λ shard. Extends-same (entries (s.seen shard));
  begins = λ shard. refl;
  dates = λ shard. refl;
  home = λ name. refl;
  pass = refl;
  limits = refl;
  ticked = refl;
}

pub Follows-trans : (a b c : Sight) → Follows a b → Follows b c → Follows a c
Follows-trans a b c p q = record {
  seen = λ shard. Extends-trans (entries (a.seen shard)) (entries (b.seen shard)) (entries (c.seen shard)) (p.seen shard) (q.seen shard);
  begins = λ shard. q.begins shard ∙ p.begins shard;
  dates = λ shard. q.dates shard ∙ p.dates shard;
  home = λ name. q.home name ∙ p.home name;
  pass = q.pass ∙ p.pass;
  limits = q.limits ∙ p.limits;
  ticked = q.ticked ∙ p.ticked;
}

same_history : (old new : List Item) → new ≡ old → Extends (entries old) (entries new)
same_history old new same = ([], ap entries same ∙ sym (append-nil (entries old)))

seen_on : (old new : Sight) (asked : ℕ) → LooksAt old new asked → (shard : ℕ) → Extends (entries (old.seen shard)) (entries (new.seen shard))
seen_on old new asked looks shard =
    elim (shard == asked) as (λ b. (shard == asked) ≡ b → Extends (entries (old.seen shard)) (entries (new.seen shard))) [
      | true ↦ λ e.
          let same = eqb-true shard asked e in
          subst (λ s. Extends (entries (old.seen s)) (entries (new.seen s))) (sym same) looks.begins
      | false ↦ λ e. same_history (old.seen shard) (new.seen shard) (looks.rest.others shard (eqb-false shard asked e))
    ] refl

-- asking for one listing
LooksOn-one : (old new : Sight) (asked : ℕ) → LooksAt old new asked → LooksOn old new
LooksOn-one old new asked looks = record {
  own = looks.own;
  told = looks.told;
  follows = record {
    seen = seen_on old new asked looks;
    begins = looks.rest.begins;
    dates = looks.rest.dates;
    home = looks.rest.home;
    pass = looks.rest.pass;
    limits = looks.rest.limits;
    ticked = looks.rest.ticked;
  };
}

pub LooksOn-same : (s : Sight) → LooksOn s s
LooksOn-same s = record { own = refl; told = refl; follows = Follows-same s }

-- asking for one more
pub LooksOn-more : (a b c : Sight) (asked : ℕ) → LooksOn a b → LooksAt b c asked → LooksOn a c
LooksOn-more a b c asked looks one =
    let on = LooksOn-one b c asked one in
    record { own = on.own ∙ looks.own; told = on.told ∙ looks.told; follows = Follows-trans a b c looks.follows on.follows }

at_home : (old new : Sight) (shard : ℕ) (children : List Child) → ((name : List ℕ) → new.home name ≡ old.home name)
    → AllByRecursion (λ child. old.home child.name ≡ shard) children → AllByRecursion (λ child. new.home child.name ≡ shard) children
at_home old new shard [] home h = tt
at_home old new shard (child ∷ children) home h = (home child.name ∙ h.0, at_home old new shard children home h.1)

listing_kept : (shard : ℕ) (begin begin' : Begin) (history history' : List Item) (listing : Listing) → begin' ≡ begin → history' ≡ history → IsListing shard begin history listing → IsListing shard begin' history' listing
listing_kept shard begin begin' history history' listing a b h =
    subst (λ z. IsListing shard z history' listing) (sym a) (subst (λ l. IsListing shard begin l listing) (sym b) h)

-- a listing of another shard stays one
lists_kept : (old new : Sight) (asked shard : ℕ) (listing : Listing) → FramesAt old new asked → shard ≢ asked → Lists old shard listing → Lists new shard listing
lists_kept old new asked shard listing frames other h = record {
  shows =
      listing_kept shard (old.begins shard) (new.begins shard) (old.seen shard) (new.seen shard) listing
      (frames.begins shard) (frames.others shard other) h.shows;
  homes = at_home old new shard listing.children frames.home h.homes;
}

-- the listings so far and the one of the next shard
pub listed_more : (old new : Sight) (start asked : ℕ) (listings : List Listing) (listing : Listing) → start + length listings ≡ asked
    → FramesAt old new asked → AreListed old start listings → Lists new asked listing → AreListed new start (listings ++ listing ∷ [])
listed_more old new start asked [] listing at frames h one =
    let same : start ≡ asked = omega (arith, at) in (subst (λ s. Lists new s listing) (sym same) one, tt)
listed_more old new start asked (first ∷ listings) listing at frames h one = (
  lists_kept old new asked start first frames (λ e. omega (arith, at, e)) h.0,
  listed_more old new (start + 1) asked listings listing (omega (arith, at)) frames h.1 one,
)

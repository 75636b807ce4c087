-- Lists whose nodes name their neighbours.
use Rattle.std.proofs.Common.{◌≡◌, ◌≢◌, ◌⊎◌, inl, inr, ◌+◌, ◌≤◌, ℕ, zero, suc, ◌==◌, true, false, ◌||◌, List, [], ◌∷◌, ◌++◌, length, Option, None, Some, refl, sym, ap, subst, ◌∙◌, arith, length-append, set, cond, is_some, ◌<◌}
use Rattle.std.proofs.lemmas.List.{get_or_past}
use Rattle.std.proofs.lemmas.List.Sums.{sum_by-set}
use Rattle.std.proofs.lemmas.Bool.{eq-eqb}
use Rattle.slab.specs.Slab.{Slab}
use Rattle.wopi_text.proofs.Disjunctions.{or_none, or_second}
use Rattle.expiry_queue.specs.declared.links.Node.{Node}
use Rattle.expiry_queue.specs.declared.links.Links.{Links}
use Rattle.expiry_queue.specs.Waiting.{Waiting, has_key, key_of, without, Differ, IsInOrder}
use Rattle.expiry_queue.specs.Links.{Slots, node_at, count, first_key, last_key, node_of, AreInOrder, StandsIn, entry_and, walk, waiting_in, IsLinked, Changes, with_before, with_after, end_by, IsThere}
use Rattle.expiry_queue.proofs.Lists.{not_same, Splits, splits, without_is, differ_push, differ_without, apart, differs, Parts, differ_parts}

abbrev one_if : Option Node → ℕ
one_if slot = cond (is_some slot) 1 0

-- a node in another's place
pub count_set : (slots : Slots) (key : ℕ) (old new : Node) → node_at slots key ≡ Some old → count (set slots key (Some new)) ≡ count slots
count_set slots key old new is =
    let within : key < length slots = grind (arith, get_or_past) in
    let counted : count (set slots key (Some new)) + one_if (node_at slots key) ≡ count slots + one_if (Some new) = sum_by-set one_if slots key (Some new) None within in
    let was : one_if (node_at slots key) ≡ one_if (Some new) = ap one_if is in
    omega (arith, counted, was)

first-append : (xs ys : List Waiting) (other : Option ℕ) → first_key (xs ++ ys) other ≡ first_key xs (first_key ys other)
first-append [] ys other = refl
first-append (x ∷ xs) ys other = refl

last-append : (other : Option ℕ) (xs ys : List Waiting) → last_key other (xs ++ ys) ≡ last_key (last_key other xs) ys
last-append other [] ys = refl
last-append other (x ∷ xs) ys = last-append (Some x.key) xs ys

pub stands_split : (slots : Slots) (before : Option ℕ) (xs ys : List Waiting) (after : Option ℕ) → StandsIn slots before (xs ++ ys) after
    → StandsIn slots before xs (first_key ys after) × StandsIn slots (last_key before xs) ys after
stands_split slots before [] ys after h = (tt, h)
stands_split slots before (x ∷ xs) ys after h =
    let rest = stands_split slots (Some x.key) xs ys after h.1 in
    ((h.0 ∙ ap (λ k. Some (node_of x before k)) (first-append xs ys after), rest.0), rest.1)

pub stands_joined : (slots : Slots) (before : Option ℕ) (xs ys : List Waiting) (after : Option ℕ) → StandsIn slots before xs (first_key ys after) → StandsIn slots (last_key before xs) ys after
    → StandsIn slots before (xs ++ ys) after
stands_joined slots before [] ys after front back = back
stands_joined slots before (x ∷ xs) ys after front back =
    (front.0 ∙ ap (λ k. Some (node_of x before k)) (sym (first-append xs ys after)), stands_joined slots (Some x.key) xs ys after front.1 back)

here : (one : Waiting) (rest : List Waiting) → has_key one.key (one ∷ rest) ≡ true
here one rest = ap (λ b. b || has_key one.key rest) (eq-eqb one.key one.key refl)

pub stands_kept : (old new : Slots) (before : Option ℕ) (waiting : List Waiting) (after : Option ℕ)
    → ((key : ℕ) → has_key key waiting ≡ true → node_at new key ≡ node_at old key) → StandsIn old before waiting after → StandsIn new before waiting after
stands_kept old new before [] after same h = tt
stands_kept old new before (one ∷ rest) after same h =
    (same one.key (here one rest) ∙ h.0, stands_kept old new (Some one.key) rest after (λ key there. same key (or_second (one.key == key) (has_key key rest) there)) h.1)

-- the last is one of them
last_there : (first : ℕ) (rest : List Waiting) (key : ℕ) → Some key ≡ last_key (Some first) rest → (key ≡ first) ⊎ (has_key key rest ≡ true)
last_there first [] key e = inl (cc)
last_there first (one ∷ rest) key e =
    elim (last_there one.key rest key e) [
      | inl same ↦ inr (ap (λ b. b || has_key key rest) (eq-eqb one.key key (sym same)))
      | inr there ↦ inr (or_second (one.key == key) (has_key key rest) there)
    ]

pub not_last : (key : ℕ) (waiting : List Waiting) → has_key key waiting ≡ false → Some key ≢ last_key None waiting
not_last key [] free e = absurd (cc)
not_last key (one ∷ rest) free e =
    let parts = or_none (one.key == key) (has_key key rest) free in
    elim (last_there one.key rest key e) [
      | inl same ↦ absurd (apart one.key key parts.0 (sym same))
      | inr there ↦ absurd (cc (there, parts.1))
    ]

-- the last one is followed by another
pub relink_after : (old new : Slab Node) (at before : Option ℕ) (waiting : List Waiting) (after next : Option ℕ) → at ≡ last_key before waiting → Changes old new at (with_after next)
    → Differ key_of waiting → StandsIn old.slots before waiting after → StandsIn new.slots before waiting next
relink_after old new at before [] after next is change differ h = tt
relink_after old new at before (x ∷ []) after next is change differ h = (change.changed x.key (node_of x before after) is h.0, tt)
relink_after old new at before (x ∷ (y ∷ rest)) after next is change differ h =
    let other : Some x.key ≢ at = λ e. elim (last_there y.key rest x.key (e ∙ is)) [
      | inl same ↦ absurd (apart y.key x.key (or_none (y.key == x.key) (has_key x.key rest) differ.0).0 (sym same))
      | inr there ↦ absurd (cc (there, (or_none (y.key == x.key) (has_key x.key rest) differ.0).1))
    ] in
    (change.others x.key other ∙ h.0, relink_after old new at (Some x.key) (y ∷ rest) after next is change differ.1 h.1)

-- the first one is preceded by another
pub relink_before : (old new : Slab Node) (at before : Option ℕ) (waiting : List Waiting) (after former : Option ℕ) → at ≡ first_key waiting after → Changes old new at (with_before former)
    → Differ key_of waiting → StandsIn old.slots before waiting after → StandsIn new.slots former waiting after
relink_before old new at before [] after former is change differ h = tt
relink_before old new at before (x ∷ rest) after former is change differ h = (
  change.changed x.key (node_of x before (first_key rest after)) is h.0,
  stands_kept old.slots new.slots (Some x.key) rest after
      (λ key there. change.others key (λ e. absurd (not_same key_of key x.key rest there differ.0 (cc (e, is))))) h.1,
)

walk_is : (slots : Slots) (before : Option ℕ) (waiting : List Waiting) (most : ℕ) → length waiting ≤ most → StandsIn slots before waiting None → walk slots most (first_key waiting None) ≡ waiting
walk_is slots before [] zero le h = refl
walk_is slots before [] (suc most) le h = refl
walk_is slots before (x ∷ rest) zero le h = absurd (omega arith)
walk_is slots before (x ∷ rest) (suc most) le h =
    ap (λ n. entry_and x.key n (λ next. walk slots most next)) h.0 ∙ ap (λ (l : List Waiting). x ∷ l) (walk_is slots (Some x.key) rest most (omega arith) h.1)

pub waiting_is : (links : Links) (waiting : List Waiting) → IsLinked links waiting → waiting_in links ≡ waiting
waiting_is links waiting linked =
    ap (walk links.nodes.slots (count links.nodes.slots)) linked.first ∙ walk_is links.nodes.slots None waiting (count links.nodes.slots) linked.fits linked.stands

pub not_first : (key : ℕ) (waiting : List Waiting) → has_key key waiting ≡ false → Some key ≢ first_key waiting None
not_first key [] free e = absurd (cc)
not_first key (one ∷ rest) free e = absurd (apart one.key key (or_none (one.key == key) (has_key key rest) free).0 (cc e))

last_is_there : (slots : Slots) (before : Option ℕ) (x : Waiting) (rest : List Waiting) (after : Option ℕ) → StandsIn slots before (x ∷ rest) after → IsThere slots (last_key (Some x.key) rest)
last_is_there slots before x [] after h = (node_of x before after, h.0)
last_is_there slots before x (y ∷ rest) after h = last_is_there slots (Some x.key) y rest after h.1

pub there_last : (slots : Slots) (waiting : List Waiting) (after : Option ℕ) → StandsIn slots None waiting after → IsThere slots (last_key None waiting)
there_last slots [] after h = tt
there_last slots (x ∷ rest) after h = last_is_there slots None x rest after h

pub there_first : (slots : Slots) (before : Option ℕ) (waiting : List Waiting) → StandsIn slots before waiting None → IsThere slots (first_key waiting None)
there_first slots before [] h = tt
there_first slots before (x ∷ rest) h = (node_of x before (first_key rest None), h.0)

end_stays : (first : ℕ) (rest : List Waiting) (end other : Option ℕ) → end_by (last_key (Some first) rest) end other ≡ end
end_stays first [] end other = refl
end_stays first (x ∷ rest) end other = end_stays x.key rest end other

first_without : (xs ys : List Waiting) (one : Waiting) → end_by (last_key None xs) (first_key (xs ++ one ∷ ys) None) (first_key ys None) ≡ first_key (xs ++ ys) None
first_without [] ys one = refl
first_without (x ∷ xs) ys one = end_stays x.key xs (Some x.key) (first_key ys None)

last_without : (xs ys : List Waiting) (one : Waiting) → end_by (first_key ys None) (last_key None (xs ++ one ∷ ys)) (last_key None xs) ≡ last_key None (xs ++ ys)
last_without xs [] one = sym (last-append None xs [])
last_without xs (y ∷ ys) one = last-append None xs (one ∷ (y ∷ ys)) ∙ sym (last-append None xs (y ∷ ys))

-- a list with one more at its end
pub linked_last : (old new : Links) (mid : Slab Node) (one : Waiting) (waiting : List Waiting) → IsLinked old waiting → has_key one.key waiting ≡ false
    → ((key : ℕ) → key ≢ one.key → node_at mid.slots key ≡ node_at old.nodes.slots key) → node_at mid.slots one.key ≡ Some (node_of one old.last None)
    → Changes mid new.nodes old.last (with_after (Some one.key)) → new.first ≡ end_by old.last old.first (Some one.key) → new.last ≡ Some one.key
    → length waiting + 1 ≤ count new.nodes.slots → IsLinked new (waiting ++ one ∷ [])
linked_last old new mid one waiting linked free others node change first last fits =
    let stood : StandsIn mid.slots None waiting None =
    stands_kept old.nodes.slots mid.slots None waiting None (λ key there. others key (not_same key_of key one.key waiting there free)) linked.stands in
    let front : StandsIn new.nodes.slots None waiting (Some one.key) = relink_after mid new.nodes old.last None waiting None (Some one.key) linked.last change linked.keys stood in
    let kept : node_at new.nodes.slots one.key ≡ node_at mid.slots one.key = change.others one.key (λ e. not_last one.key waiting free (e ∙ linked.last)) in
    let back : node_at new.nodes.slots one.key ≡ Some (node_of one (last_key None waiting) None) = kept ∙ node ∙ ap (λ k. Some (node_of one k None)) linked.last in
    record {
      stands = stands_joined new.nodes.slots None waiting (one ∷ []) None front (back, tt);
      first = first ∙ ap (λ k. end_by k old.first (Some one.key)) linked.last ∙ ap (λ k. end_by (last_key None waiting) k (Some one.key)) linked.first ∙ first_more waiting one;
      last = last ∙ sym (last-append None waiting (one ∷ []));
      keys = differ_push key_of waiting one linked.keys free;
      fits = omega (arith, length-append waiting (one ∷ []));
    }
  where
    first_more : (waiting : List Waiting) (one : Waiting) → end_by (last_key None waiting) (first_key waiting None) (Some one.key) ≡ first_key (waiting ++ one ∷ []) None
    first_more [] one = refl
    first_more (x ∷ rest) one = end_stays x.key rest (Some x.key) (Some one.key)

-- what a key's node says, and its neighbours
pub middle : (slots : Slots) (key : ℕ) (waiting : List Waiting) (s : Splits key waiting) → StandsIn slots None waiting None
    → node_at slots key ≡ Some (node_of s.one (last_key None s.before) (first_key s.after None))
middle slots key waiting s h =
    let parts = stands_split slots None s.before (s.one ∷ s.after) None (subst (λ (l : List Waiting). StandsIn slots None l None) s.is h) in
    ap (node_at slots) (sym s.here) ∙ parts.1.0

-- a list cut at a key, whose node is that
pub record CutAt (slots : Slots) (key : ℕ) (waiting : List Waiting) (node : Node) : Type 0 where
  pub at : Splits key waiting
  pub before_is : node.before ≡ last_key None at.before
  pub after_is : node.after ≡ first_key at.after None
  pub front : StandsIn slots None at.before (Some at.one.key)
  pub back : StandsIn slots (Some at.one.key) at.after None
  pub parts : Parts key_of at.before (at.one ∷ at.after)
  pub file_is : node.file ≡ at.one.file
  pub since_is : node.since ≡ at.one.since

pub cut : (links : Links) (key : ℕ) (node : Node) (waiting : List Waiting) → IsLinked links waiting → has_key key waiting ≡ true → node_at links.nodes.slots key ≡ Some node
    → CutAt links.nodes.slots key waiting node
cut links key node waiting linked live at =
    let s = splits key waiting linked.keys live in
    let parts = stands_split links.nodes.slots None s.before (s.one ∷ s.after) None (subst (λ (l : List Waiting). StandsIn links.nodes.slots None l None) s.is linked.stands) in
    let node_is : node ≡ node_of s.one (last_key None s.before) (first_key s.after None) = cc (at, middle links.nodes.slots key waiting s linked.stands) in
    record {
      at = s;
      before_is = ap (λ (n : Node). n.before) node_is;
      after_is = ap (λ (n : Node). n.after) node_is;
      front = parts.0;
      back = parts.1.1;
      parts = differ_parts key_of s.before (s.one ∷ s.after) (subst (Differ key_of) s.is linked.keys);
      file_is = ap (λ (n : Node). n.file) node_is;
      since_is = ap (λ (n : Node). n.since) node_is;
    }

pub is_there : (links : Links) (key : ℕ) (waiting : List Waiting) → IsLinked links waiting → has_key key waiting ≡ true → (node : Node) × (node_at links.nodes.slots key ≡ Some node)
is_there links key waiting linked live =
    let s = splits key waiting linked.keys live in
    (node_of s.one (last_key None s.before) (first_key s.after None), middle links.nodes.slots key waiting s linked.stands)

pub there_before : (slots : Slots) (key : ℕ) (waiting : List Waiting) (node : Node) → CutAt slots key waiting node → IsThere slots node.before
there_before slots key waiting node c = subst (IsThere slots) (sym c.before_is) (there_last slots c.at.before (Some c.at.one.key) c.front)

back_kept : (old mid : Slab Node) (key : ℕ) (waiting : List Waiting) (node : Node) (change : Node → Node) → Changes old mid node.before change
    → (c : CutAt old.slots key waiting node) → StandsIn mid.slots (Some c.at.one.key) c.at.after None
back_kept old mid key waiting node change changes c =
    stands_kept old.slots mid.slots (Some c.at.one.key) c.at.after None
    (λ k there. changes.others k (λ e. not_last k c.at.before (c.parts.not_front k (or_second (c.at.one.key == k) (has_key k c.at.after) there)) (e ∙ c.before_is))) c.back

pub there_after : (old mid : Slab Node) (key : ℕ) (waiting : List Waiting) (node : Node) (change : Node → Node) → CutAt old.slots key waiting node → Changes old mid node.before change → IsThere mid.slots node.after
there_after old mid key waiting node change c changes =
    subst (IsThere mid.slots) (sym c.after_is) (there_first mid.slots (Some c.at.one.key) c.at.after (back_kept old mid key waiting node change changes c))

-- a list with one taken out
pub linked_without : (old new : Links) (mid : Slab Node) (key : ℕ) (node : Node) (waiting : List Waiting) → IsLinked old waiting → has_key key waiting ≡ true → node_at old.nodes.slots key ≡ Some node
    → Changes old.nodes mid node.before (with_after node.after) → Changes mid new.nodes node.after (with_before node.before)
    → new.first ≡ end_by node.before old.first node.after → new.last ≡ end_by node.after old.last node.before
    → IsLinked new (without key waiting) × (node_at new.nodes.slots key ≡ node_at old.nodes.slots key)
linked_without old new mid key node waiting linked live at one_change other_change first last =
    let c = cut old key node waiting linked live at in
    let s = c.at in
    let front : StandsIn mid.slots None s.before node.after = relink_after old.nodes mid node.before None s.before (Some s.one.key) node.after c.before_is one_change c.parts.front c.front in
    let back : StandsIn mid.slots (Some s.one.key) s.after None = back_kept old.nodes mid key waiting node (with_after node.after) one_change c in
    let front_new : StandsIn new.nodes.slots None s.before node.after =
    stands_kept mid.slots new.nodes.slots None s.before node.after
    (λ k there. other_change.others k (λ e. not_first k s.after (or_none (s.one.key == k) (has_key k s.after) (c.parts.not_back k there)).1 (e ∙ c.after_is))) front in
    let back_new : StandsIn new.nodes.slots node.before s.after None =
    relink_before mid new.nodes node.after (Some s.one.key) s.after None node.before c.after_is other_change c.parts.back.1 back in
    let stands : StandsIn new.nodes.slots None (s.before ++ s.after) None =
    stands_joined new.nodes.slots None s.before s.after None
    (subst (λ k. StandsIn new.nodes.slots None s.before k) c.after_is front_new) (subst (λ k. StandsIn new.nodes.slots k s.after None) c.before_is back_new) in
    let is = without_is key waiting s in (
      record {
        stands = subst (λ (l : List Waiting). StandsIn new.nodes.slots None l None) (sym is) stands;
        first = first ∙ ap (λ k. end_by k old.first node.after) c.before_is ∙ ap (λ k. end_by (last_key None s.before) k node.after) (linked.first ∙ ap (λ (l : List Waiting). first_key l None) s.is)
            ∙ ap (λ k. end_by (last_key None s.before) (first_key (s.before ++ s.one ∷ s.after) None) k) c.after_is
            ∙ first_without s.before s.after s.one ∙ ap (λ (l : List Waiting). first_key l None) (sym is);
        last = last ∙ ap (λ k. end_by k old.last node.before) c.after_is ∙ ap (λ k. end_by (first_key s.after None) k node.before) (linked.last ∙ ap (last_key None) s.is)
            ∙ ap (λ k. end_by (first_key s.after None) (last_key None (s.before ++ s.one ∷ s.after)) k) c.before_is
            ∙ last_without s.before s.after s.one ∙ ap (last_key None) (sym is);
        keys = differ_without key_of key waiting linked.keys;
        fits = fewer s;
      },
      other_change.others key (λ e. not_first key s.after s.none_after (e ∙ c.after_is)) ∙ one_change.others key (λ e. not_last key s.before s.none_before (e ∙ c.before_is)),
    )
  where
    fewer : (s : Splits key waiting) → length (without key waiting) ≤ count new.nodes.slots
    fewer s =
        let long : length waiting ≡ length s.before + suc (length s.after) = ap length s.is ∙ length-append s.before (s.one ∷ s.after) in
        let short : length (without key waiting) ≡ length s.before + length s.after = ap length (without_is key waiting s) ∙ length-append s.before s.after in
        let fits : length waiting ≤ count old.nodes.slots = linked.fits in
        let same : count new.nodes.slots ≡ count old.nodes.slots = other_change.count ∙ one_change.count in
        omega arith

-- links of a list in order
pub in_order : (links : Links) (waiting : List Waiting) → IsLinked links waiting → IsInOrder waiting → count links.nodes.slots ≡ length waiting → AreInOrder links
in_order links waiting linked order all =
    let is = sym (waiting_is links waiting linked) in
    record { linked = subst (IsLinked links) is linked; order = subst IsInOrder is order; all = all ∙ ap length is }

-- nodes of other keys may change
pub linked_beside : (old : Links) (nodes : Slab Node) (key : ℕ) (waiting : List Waiting) → IsLinked old waiting → has_key key waiting ≡ false
    → ((other : ℕ) → other ≢ key → node_at nodes.slots other ≡ node_at old.nodes.slots other) → length waiting ≤ count nodes.slots
    → IsLinked (record { nodes = nodes; first = old.first; last = old.last }) waiting
linked_beside old nodes key waiting linked free others fits = record {
  stands = stands_kept old.nodes.slots nodes.slots None waiting None (λ k there. others k (not_same key_of k key waiting there free)) linked.stands;
  first = linked.first;
  last = linked.last;
  keys = linked.keys;
  fits = fits;
}

vacant : (slots : Slots) (before : Option ℕ) (waiting : List Waiting) (after : Option ℕ) (key : ℕ) → StandsIn slots before waiting after → node_at slots key ≡ None → has_key key waiting ≡ false
vacant slots before [] after key h none = refl
vacant slots before (one ∷ rest) after key h none =
    ap (λ b. b || has_key key rest) (differs one.key key (λ same. absurd (cc (h.0, none, ap (node_at slots) same)))) ∙ vacant slots (Some one.key) rest after key h.1 none

pub free_key : (links : Links) (key : ℕ) (waiting : List Waiting) → IsLinked links waiting → node_at links.nodes.slots key ≡ None → has_key key waiting ≡ false
free_key links key waiting linked none = vacant links.nodes.slots None waiting None key linked.stands none

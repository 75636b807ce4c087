-- Listings of a shard, and what its caller sees.
use Rattle.std.proofs.Common.{◌≡◌, ◌<◌, ℕ, Bool, true, false, Option, List, [], ◌∷◌, length, refl, sym, ap, subst, ◌∙◌, arith}
use Rattle.std.proofs.lemmas.List.{append-nil}
use Rattle.std.specs.List.{AllByRecursion}
use Rattle.outside.specs.Folder.{Files}
use Rattle.wopi_model.specs.File.{File}
use Rattle.wopi_model.specs.Settle.{settled}
use Rattle.wopi_model.specs.Shard as model
use Rattle.wopi_model.specs.Begin.{Begin}
use Rattle.wopi_model.specs.Shard.{Tick, Entry, begun, at_moment, after, entries}
use Rattle.wopi_model.proofs.Histories.{after-append}
use Rattle.host_core.specs.declared.children.Child.{Child}
use Rattle.host_core.specs.Children.{AreChildren}
use Rattle.host_core.specs.Listing.{Lists, LooksAt}
use Rattle.host_core.specs.Entries.{Made, items_of}
use Rattle.host_core.specs.Files.{files_of}
use Rattle.host_core.specs.Single.{sight_of, entries-happened}
use Rattle.host_core.specs.Times.{untimed, IsTimely, GoesByEntries, happened_of}
use Rattle.host_core.specs.Value.{Book, Reflects, IsLawful, state_of}
use Rattle.host_core.specs.Whole.{Whole}
use Rattle.host_core.proofs.History.{length_of, shown-file}
use Rattle.host_core.proofs.Showing.{same_children}
use Rattle.host_core.proofs.SingleCalls.{single_frames}
use Rattle.host_core.proofs.Timing.{after-untimed}

-- what the kept files show is what the history leaves
pub children_shown : (begin : Begin) (made : List Made) (time last bytes : ℕ) (files : List Whole) (children : List Child)
    → Reflects begin made time last bytes files → AreChildren (files_of begin.first files) children → AreChildren (state_of begin made time).files children
children_shown begin made time last bytes files children keeps are =
    let shown : (name : List ℕ) → settled (files_of begin.first files name) time ≡ (state_of begin made time).files name = shown-file begin made time last bytes files keeps in
    same_children (files_of begin.first files) (state_of begin made time).files children (λ name. ap (λ (f : File). f.contents) (shown name)) (λ name. ap (λ (f : File). f.version) (shown name)) are

-- and where time went on with the entries, what these leave alone
pub children_untimed : (begin : Begin) (made : List Made) (time : ℕ) (children : List Child) → IsTimely begin.now made
    → AreChildren (state_of begin made time).files children → AreChildren (after (begun begin) (untimed made)).files children
children_untimed begin made time children timely are =
    let shard = begun begin in
    let end = after shard (untimed made) in
    let same : state_of begin made time ≡ at_moment end time = after-append shard (items_of made) (Tick time ∷ []) ∙ ap (λ (s : model.Shard). at_moment s time) (after-untimed shard made timely) in
    same_children (state_of begin made time).files end.files children (λ name. ap (λ (s : model.Shard). (s.files name).contents) same) (λ name. ap (λ (s : model.Shard). (s.files name).version) same) are

children_happened : (ticked : Bool) (begin : Begin) (made : List Made) (time : ℕ) (children : List Child) → (ticked ≡ false → GoesByEntries begin.now made time)
    → AreChildren (state_of begin made time).files children → AreChildren (after (begun begin) (happened_of ticked made time)).files children
children_happened true begin made time children goes are = are
children_happened false begin made time children goes are = children_untimed begin made time children (goes refl).timely are

in_shard_0 : (children : List Child) → let none : ℕ = 0 in AllByRecursion (λ child. none ≡ none) children
in_shard_0 [] = tt
in_shard_0 (child ∷ children) = (refl, in_shard_0 children)

-- a listing by the caller over one shard
pub single_lists : {F : Type 0} (book : Book F) (shard place : ℕ) (children : List Child) → shard < 1 → place ≡ length book.made → (book.ticked ≡ false → GoesByEntries book.begin.now book.made book.time)
    → AreChildren (state_of book.begin book.made book.time).files children
    → Lists (sight_of book) shard (record { shard = shard; place = place; children = children })
single_lists book shard place children low at goes are =
    let none : 0 ≡ shard = omega (arith, low) in
    subst (λ (n : ℕ). Lists (sight_of book) n (record { shard = n; place = place; children = children })) none (record {
      shows = record {
        shard_is = refl;
        place_is = at ∙ sym (ap (λ (es : List Entry). length es) (entries-happened book.ticked book.made book.time) ∙ length_of book.made);
        children_are = children_happened book.ticked book.begin book.made book.time children goes are;
      };
      homes = in_shard_0 children;
    })

-- and what it leaves
pub single_looks : {F : Type 0} (book : Book F) (shard : ℕ) (start now : Option Files) (began count : ℕ) → shard < 1 → IsLawful book start now began count → LooksAt (sight_of book) (sight_of book) shard
single_looks book shard start now began count low lawful =
    let none : 0 ≡ shard = omega (arith, low) in
    subst (λ (n : ℕ). LooksAt (sight_of book) (sight_of book) n) none (record {
      own = refl;
      told = refl;
      begins = ([], sym (append-nil (entries ((sight_of book).seen 0))));
      rest = single_frames book book [] start now began count refl refl refl refl lawful;
    })

-- Words in which nothing new stands mean themselves.
use Rattle.std.proofs.Common.{◌≡◌, ◌≢◌, ◌==◌, ℕ, Bool, true, false, if◌then◌else◌, List, [], ◌∷◌, ◌++◌, append-nil, length, codes, Option, None, Some, string_bytes, rules, refl, sym, ap, ◌∙◌, subst, true≢false}
use Rattle.std.specs.List.{AllByRecursion}
use Rattle.std.specs.Str.{bytes_eq}
use Rattle.command_words.specs.declared.around.Around.{Around}
use Rattle.command_words.specs.declared.options.Kind.{Kind}
use Rattle.command_words.specs.declared.options.Kind.TheVariants as kind
use Rattle.command_words.specs.Meaning.{IsAround, IsDefault, MeansBehind, MeansEdit, MeansOf, MeansServe, MeansShort, MeansWhole, kind_of, short_for, front_words, run_options_of}
use Rattle.command_words.specs.Options.{is_flag, takes}
use Rattle.command_words.specs.Parts.{Parts, halved, lacks_value, parted_of}
use Rattle.command_words.specs.Values.{number_of, text_of}
use Rattle.command_words.specs.Laws.{AreRunOptions, IsAsBefore, IsPlain, NothingOfBeforeChanges, NothingOfBeforeIsRefused}
use Rattle.command_words.proofs.OptionLemmas.{not_true, plain_no_flag, plain_untaken, same_bytes}
use Rattle.command_words.proofs.PartLemmas.{no_front, no_values, options_halved, options_parted, plain_halved, plain_parted, run_no_flag, run_options_stay, run_taken, second}
use Rattle.command_words.proofs.PartingSteps.{lacks_place}

abbrev parts_as : List (List ℕ) → List (List ℕ) → Parts
parts_as places options = record { places = places; options = options; flags = [] }

serve_parts : (places options : List (List ℕ)) → AllByRecursion IsPlain places → AreRunOptions options
    → parted_of kind.Serve (halved kind.Serve (places ++ options)) ≡ parts_as places options
serve_parts places options plain are =
    ap (λ (l : List (List ℕ)). parted_of kind.Serve l) (plain_halved kind.Serve places options plain ∙ ap (λ (l : List (List ℕ)). places ++ l) (options_halved options are))
    ∙ plain_parted kind.Serve places options plain ∙ ap (λ (p : Parts). record { places = places ++ p.places; options = p.options; flags = p.flags }) (options_parted options are)
    ∙ ap (λ (l : List (List ℕ)). parts_as l options) (append-nil places)

plain_parts : (k : Kind) (places : List (List ℕ)) → AllByRecursion IsPlain places → parted_of k (halved k (places ++ [])) ≡ parts_as places []
plain_parts k places plain =
    ap (λ (l : List (List ℕ)). parted_of k l) (plain_halved k places [] plain)
    ∙ plain_parted k places [] plain ∙ ap (λ (l : List (List ℕ)). parts_as l []) (append-nil places)

-- of these options the adapters take nothing
as_default : (options : List (List ℕ)) (verbose : Bool) (around : Around) → AreRunOptions options → IsAround options verbose around → IsAround [] verbose around
as_default options verbose around are is = record {
  listen = subst (λ (l : List (List ℕ)). text_of (codes "127.0.0.1") l ≡ Some (string_bytes around.listen)) (no_values (codes "--listen") refl refl refl refl refl refl options are) is.listen;
  idle = subst (λ (l : List (List ℕ)). number_of 60 l ≡ Some around.idle) (no_values (codes "--idle") refl refl refl refl refl refl options are) is.idle;
  patience = subst (λ (l : List (List ℕ)). number_of 120 l ≡ Some around.patience) (no_values (codes "--patience") refl refl refl refl refl refl options are) is.patience;
  grace = subst (λ (l : List (List ℕ)). number_of 30 l ≡ Some around.grace) (no_values (codes "--grace") refl refl refl refl refl refl options are) is.grace;
  verbose_is = is.verbose_is;
}

-- the name of a kind
abbrev name_of : Kind → List ℕ
name_of kind.Serve = codes "serve"
name_of kind.Edit = codes "edit"
name_of kind.Token = codes "token"
name_of kind.Ctoken = codes "ctoken"

named : (a b c d : Bool) (name : List ℕ) (k : Kind) → (a ≡ true → name ≡ codes "serve") → (b ≡ true → name ≡ codes "edit") → (c ≡ true → name ≡ codes "token") → (d ≡ true → name ≡ codes "ctoken")
    → (if a then Some kind.Serve else if b then Some kind.Edit else if c then Some kind.Token else if d then Some kind.Ctoken else None) ≡ Some k → name ≡ name_of k
named true b c d name k s e t o is = let same : kind.Serve ≡ k = cc is in s refl ∙ ap name_of same
named false true c d name k s e t o is = let same : kind.Edit ≡ k = cc is in e refl ∙ ap name_of same
named false false true d name k s e t o is = let same : kind.Token ≡ k = cc is in t refl ∙ ap name_of same
named false false false true name k s e t o is = let same : kind.Ctoken ≡ k = cc is in o refl ∙ ap name_of same
named false false false false name k s e t o is = absurd (cc is)

name_is : (name : List ℕ) (k : Kind) → kind_of name ≡ Some k → name ≡ name_of k
unfolding kind_of
name_is name k is =
    named (bytes_eq name (codes "serve")) (bytes_eq name (codes "edit")) (bytes_eq name (codes "token")) (bytes_eq name (codes "ctoken")) name k
    (same_bytes name (codes "serve")) (same_bytes name (codes "edit")) (same_bytes name (codes "token")) (same_bytes name (codes "ctoken")) is

abbrev Stays : List (List ℕ) → List (List ℕ) → Around → Type 0
Stays words meant around = (meant ≡ words) × IsDefault around

-- those options are the words that the program reads itself
run_words_stay : (places options : List (List ℕ)) → AreRunOptions options → codes "serve" ∷ (places ++ (front_words options ++ run_options_of options)) ≡ codes "serve" ∷ (places ++ options)
run_words_stay places options are =
    ap (λ (l : List (List ℕ)). codes "serve" ∷ (places ++ (l ++ run_options_of options))) (no_front options are)
    ∙ ap (λ (l : List (List ℕ)). codes "serve" ∷ (places ++ l)) (run_options_stay options are)

serve_stays : (places options : List (List ℕ)) (meant : List (List ℕ)) (around : Around) → AreRunOptions options → MeansServe (parts_as places options) meant around
    → Stays (codes "serve" ∷ (places ++ options)) meant around
serve_stays places options meant around are means =
    (means.words_are ∙ run_words_stay places options are, as_default options false around are means.around_is)

three_no : (places : List (List ℕ)) (own : List ℕ) → length places ≢ 3 → (if length places == 3 then places ++ (own ∷ []) else places) ≡ places
three_no places own not_three =
    ap (λ b. if b then places ++ (own ∷ []) else places) (not_true (length places == 3) (λ is. not_three (search (rules, is))))

edit_stays : (own : List ℕ) (places meant : List (List ℕ)) (around : Around) → length places ≢ 3 → MeansEdit own (parts_as places []) meant around
    → Stays (codes "edit" ∷ places) meant around
edit_stays own places meant around not_three means =
    let inner = means.places_are in
    let named : inner.named ≡ places = inner.named_are in
    let whole = subst (λ (l : List (List ℕ)). means.places ≡ (if length l == 3 then l ++ (own ∷ []) else l)) named inner.words_are in
    (means.words_are ∙ ap (λ (l : List (List ℕ)). codes "edit" ∷ l) (whole ∙ three_no places own not_three), means.around_is)

kind_stays : (moment : ℕ) (own : List ℕ) (k : Kind) (name : List ℕ) (places options meant : List (List ℕ)) (around : Around) → name ≡ name_of k
    → AllByRecursion IsPlain places → AreRunOptions options → (Some k ≢ Some kind.Serve → options ≡ []) → (Some k ≡ Some kind.Edit → length places ≢ 3)
    → MeansOf moment own k (parted_of k (halved k (places ++ options))) meant around → Stays (name ∷ (places ++ options)) meant around
kind_stays moment own kind.Serve name places options meant around is plain are others edits means =
    subst (λ (n : List ℕ). Stays (n ∷ (places ++ options)) meant around) (sym is)
    (serve_stays places options meant around are (subst (λ (p : Parts). MeansServe p meant around) (serve_parts places options plain are) means))
kind_stays moment own kind.Edit name places options meant around is plain are others edits means =
    let none : options ≡ [] = others (λ e. absurd (cc e)) in
    let bare = subst (λ (l : List (List ℕ)). MeansOf moment own kind.Edit (parted_of kind.Edit (halved kind.Edit (places ++ l))) meant around) none means in
    let stays = edit_stays own places meant around (edits refl) (subst (λ (p : Parts). MeansEdit own p meant around) (plain_parts kind.Edit places plain) bare) in
    subst (λ (n : List ℕ). Stays (n ∷ (places ++ options)) meant around) (sym is)
    (subst (λ (l : List (List ℕ)). Stays (codes "edit" ∷ l) meant around) (sym (ap (λ (l : List (List ℕ)). places ++ l) none ∙ append-nil places)) stays)
kind_stays moment own kind.Token name places options meant around is plain are others edits means =
    let none : options ≡ [] = others (λ e. absurd (cc e)) in
    let bare = subst (λ (l : List (List ℕ)). MeansOf moment own kind.Token (parted_of kind.Token (halved kind.Token (places ++ l))) meant around) none means in
    let parts = subst (λ (p : Parts). MeansOf moment own kind.Token p meant around) (plain_parts kind.Token places plain) bare in
    subst (λ (n : List ℕ). Stays (n ∷ (places ++ options)) meant around) (sym is)
    (subst (λ (l : List (List ℕ)). Stays (codes "token" ∷ l) meant around) (sym (ap (λ (l : List (List ℕ)). places ++ l) none ∙ append-nil places)) (parts.0 refl, parts.2))
kind_stays moment own kind.Ctoken name places options meant around is plain are others edits means =
    let none : options ≡ [] = others (λ e. absurd (cc e)) in
    let bare = subst (λ (l : List (List ℕ)). MeansOf moment own kind.Ctoken (parted_of kind.Ctoken (halved kind.Ctoken (places ++ l))) meant around) none means in
    let parts = subst (λ (p : Parts). MeansOf moment own kind.Ctoken p meant around) (plain_parts kind.Ctoken places plain) bare in
    subst (λ (n : List ℕ). Stays (n ∷ (places ++ options)) meant around) (sym is)
    (subst (λ (l : List (List ℕ)). Stays (codes "ctoken" ∷ l) meant around) (sym (ap (λ (l : List (List ℕ)). places ++ l) none ∙ append-nil places)) (parts.0 refl, parts.2))

behind_stays : (moment : ℕ) (own : List ℕ) (k : Option Kind) (name : List ℕ) (places options meant : List (List ℕ)) (around : Around) → kind_of name ≡ k
    → AllByRecursion IsPlain places → AreRunOptions options → (k ≢ Some kind.Serve → options ≡ []) → (k ≡ Some kind.Edit → length places ≢ 3)
    → MeansBehind moment own k name (places ++ options) meant around → Stays (name ∷ (places ++ options)) meant around
behind_stays moment own None name places options meant around is plain are others edits means = means
behind_stays moment own (Some k) name places options meant around is plain are others edits means =
    kind_stays moment own k name places options meant around (name_is name k is) plain are others edits means.1

pub nothing_changes : NothingOfBeforeChanges
nothing_changes moment own words meant around before means =
    let named : words ≡ before.name ∷ (before.places ++ before.options) = before.words_are in
    let whole = subst (λ (o : Option (List ℕ)). MeansShort moment own o words meant around) before.short means.1 in
    let behind = subst (λ (l : List (List ℕ)). MeansWhole moment own l meant around) named whole in
    subst (λ (l : List (List ℕ)). Stays l meant around) (sym named)
    (behind_stays moment own (kind_of before.name) before.name before.places before.options meant around refl before.plain before.options_are before.others before.edits behind)

-- their last word is no option that lacks its value
plain_lacks : (k : Kind) (places options : List (List ℕ)) → AllByRecursion IsPlain places → lacks_value k (places ++ options) ≡ lacks_value k options
plain_lacks k [] options plain = refl
plain_lacks k (word ∷ places) options plain =
    lacks_place k word (places ++ options) (plain_no_flag k word plain.0) (plain_untaken k word plain.0) ∙ plain_lacks k places options plain.1

options_lack : (options : List (List ℕ)) → AreRunOptions options → lacks_value kind.Serve options ≡ false
options_lack [] are = refl
options_lack (name ∷ []) are = absurd are
options_lack (name ∷ value ∷ options) are =
    second (is_flag kind.Serve name) (takes kind.Serve name) _ _ _ (run_no_flag name are.0) (run_taken name are.0) ∙ options_lack options are.2

all_lack : (k : Kind) (places options : List (List ℕ)) → AllByRecursion IsPlain places → lacks_value k (halved k (places ++ options)) ≡ lacks_value k (halved k options)
all_lack k places options plain = ap (λ (l : List (List ℕ)). lacks_value k l) (plain_halved k places options plain) ∙ plain_lacks k places (halved k options) plain

of_default : (options : List (List ℕ)) (around : Around) → AreRunOptions options → IsAround [] false around → IsAround options false around
of_default options around are is = record {
  listen = subst (λ (l : List (List ℕ)). text_of (codes "127.0.0.1") l ≡ Some (string_bytes around.listen)) (sym (no_values (codes "--listen") refl refl refl refl refl refl options are)) is.listen;
  idle = subst (λ (l : List (List ℕ)). number_of 60 l ≡ Some around.idle) (sym (no_values (codes "--idle") refl refl refl refl refl refl options are)) is.idle;
  patience = subst (λ (l : List (List ℕ)). number_of 120 l ≡ Some around.patience) (sym (no_values (codes "--patience") refl refl refl refl refl refl options are)) is.patience;
  grace = subst (λ (l : List (List ℕ)). number_of 30 l ≡ Some around.grace) (sym (no_values (codes "--grace") refl refl refl refl refl refl options are)) is.grace;
  verbose_is = is.verbose_is;
}

-- the words behind the name of a kind mean these
abbrev Behind : ℕ → List ℕ → Kind → List (List ℕ) → List (List ℕ) → Around → Type 0
Behind moment own k behind words around = (lacks_value k (halved k behind) ≡ false) × MeansOf moment own k (parted_of k (halved k behind)) words around

serve_means : (moment : ℕ) (own : List ℕ) (places options : List (List ℕ)) (around : Around) → AllByRecursion IsPlain places → AreRunOptions options → IsDefault around
    → Behind moment own kind.Serve (places ++ options) (codes "serve" ∷ (places ++ options)) around
serve_means moment own places options around plain are default =
    let whole : MeansServe (parts_as places options) (codes "serve" ∷ (places ++ options)) around = record {
      words_are = sym (run_words_stay places options are);
      around_is = of_default options around are default;
    } in (
      all_lack kind.Serve places options plain ∙ ap (λ (l : List (List ℕ)). lacks_value kind.Serve l) (options_halved options are) ∙ options_lack options are,
      subst (λ (p : Parts). MeansServe p (codes "serve" ∷ (places ++ options)) around) (sym (serve_parts places options plain are)) whole,
    )

-- a kind other than `serve` has no options there
bare_means : (moment : ℕ) (own : List ℕ) (k : Kind) (name : List ℕ) (places options : List (List ℕ)) (around : Around) → AllByRecursion IsPlain places → options ≡ []
    → MeansOf moment own k (parts_as places []) (name ∷ places) around → Behind moment own k (places ++ options) (name ∷ (places ++ options)) around
bare_means moment own k name places options around plain none means =
    subst (λ (l : List (List ℕ)). Behind moment own k (places ++ l) (name ∷ (places ++ l)) around) (sym none) (
      all_lack k places [] plain,
      subst (λ (l : List (List ℕ)). MeansOf moment own k (parted_of k (halved k (places ++ []))) (name ∷ l) around) (sym (append-nil places))
          (subst (λ (p : Parts). MeansOf moment own k p (name ∷ places) around) (sym (plain_parts k places plain)) means),
    )

edit_means : (own : List ℕ) (places : List (List ℕ)) (around : Around) → length places ≢ 3 → IsDefault around → MeansEdit own (parts_as places []) (codes "edit" ∷ places) around
edit_means own places around not_three default = record {
  places = places;
  places_are = record { named = places; named_are = refl; words_are = sym (three_no places own not_three) };
  words_are = refl;
  around_is = default;
}

kind_means : (moment : ℕ) (own : List ℕ) (k : Kind) (places options : List (List ℕ)) (around : Around) → AllByRecursion IsPlain places → AreRunOptions options
    → (Some k ≢ Some kind.Serve → options ≡ []) → (Some k ≡ Some kind.Edit → length places ≢ 3) → IsDefault around
    → Behind moment own k (places ++ options) (name_of k ∷ (places ++ options)) around
kind_means moment own kind.Serve places options around plain are others edits default = serve_means moment own places options around plain are default
kind_means moment own kind.Edit places options around plain are others edits default =
    bare_means moment own kind.Edit (codes "edit") places options around plain (others (λ e. absurd (cc e))) (edit_means own places around (edits refl) default)
kind_means moment own kind.Token places options around plain are others edits default =
    bare_means moment own kind.Token (codes "token") places options around plain (others (λ e. absurd (cc e))) ((λ bare. refl), (λ no. absurd (true≢false no)), default)
kind_means moment own kind.Ctoken places options around plain are others edits default =
    bare_means moment own kind.Ctoken (codes "ctoken") places options around plain (others (λ e. absurd (cc e))) ((λ bare. refl), (λ no. absurd (true≢false no)), default)

behind_means : (moment : ℕ) (own : List ℕ) (k : Option Kind) (name : List ℕ) (places options : List (List ℕ)) (around : Around) → kind_of name ≡ k
    → AllByRecursion IsPlain places → AreRunOptions options → (k ≢ Some kind.Serve → options ≡ []) → (k ≡ Some kind.Edit → length places ≢ 3) → IsDefault around
    → MeansBehind moment own k name (places ++ options) (name ∷ (places ++ options)) around
behind_means moment own None name places options around is plain are others edits default = (refl, default)
behind_means moment own (Some k) name places options around is plain are others edits default =
    subst (λ (n : List ℕ). Behind moment own k (places ++ options) (n ∷ (places ++ options)) around) (sym (name_is name k is))
    (kind_means moment own k places options around plain are others edits default)

before_means : (moment : ℕ) (own : List ℕ) (words : List (List ℕ)) (around : Around) → IsDefault around → IsAsBefore words → MeansShort moment own (short_for words) words words around
before_means moment own words around default before =
    let named : words ≡ before.name ∷ (before.places ++ before.options) = before.words_are in
    let behind = behind_means moment own (kind_of before.name) before.name before.places before.options around refl before.plain before.options_are before.others before.edits default in
    subst (λ (o : Option (List ℕ)). MeansShort moment own o words words around) (sym before.short)
    (subst (λ (l : List (List ℕ)). MeansWhole moment own l l around) (sym named) behind)

pub nothing_refused : NothingOfBeforeIsRefused
nothing_refused moment own words around default few = (
  (λ before. (few, before_means moment own words around default before)),
  (λ word is. (few, subst (λ (o : Option (List ℕ)). MeansShort moment own o words (word ∷ []) around) (sym is) (refl, default))),
)

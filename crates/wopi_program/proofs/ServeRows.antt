-- The row of `serve` in the table of words.
use Rattle.std.proofs.Common.{◌≡◌, ◌↔◌, ℕ, suc, ◌<◌, ◌≤◌, ◌+◌, Bool, true, false, if◌then◌else◌, List, [], ◌∷◌, None, Some, Option, IfSome, is_some, length, map, get_or, drop, codes, refl, sym, ap, ◌∙◌, subst, arith, Bor}
use Rattle.std.specs.Option.{option_copied, option_len}
use Rattle.std.specs.Str.{bytes_eq}
use Rattle.access_tokens.specs.Keys.{IsWordOf}
use Rattle.host_core.specs.Opening.{most_first}
use Rattle.access_tokens.specs.Addresses.{is_base}
use Rattle.wopi_program.specs.declared.serve_words.ServeAsk.{ServeAsk}
use Rattle.wopi_program.specs.declared.serve_words.ServeOptions.{ServeOptions}
use Rattle.wopi_program.specs.EditorWords.{TellsOrigin, behind_editor, origin_told, serves_editors}
use Rattle.wopi_program.specs.ServeWords.{IsServe, IsServeRow, ask_of, asked, asked_of, before_others, behind_keep, goes_with, kept_as, logs_told, number_in, option_before, options_of, unless_told, with_each, with_first, with_ids, with_journal, with_links, with_sync, sync_in}
use Rattle.access_tokens.specs.declared.keys.Keys.{Keys}

-- a list with these six things at its front
pub six_items : {A : Type 0} (xs : List A) (u v w x y z : A) → 5 < length xs
    → u ≡ get_or xs 0 u → v ≡ get_or xs 1 v → w ≡ get_or xs 2 w → x ≡ get_or xs 3 x → y ≡ get_or xs 4 y → z ≡ get_or xs 5 z
    → xs ≡ u ∷ v ∷ w ∷ x ∷ y ∷ z ∷ drop 6 xs
six_items [] u v w x y z some a b c d e f = absurd (omega (arith, some))
six_items (p ∷ []) u v w x y z some a b c d e f = absurd (omega (arith, some))
six_items (p ∷ q ∷ []) u v w x y z some a b c d e f = absurd (omega (arith, some))
six_items (p ∷ q ∷ r ∷ []) u v w x y z some a b c d e f = absurd (omega (arith, some))
six_items (p ∷ q ∷ r ∷ s ∷ []) u v w x y z some a b c d e f = absurd (omega (arith, some))
six_items (p ∷ q ∷ r ∷ s ∷ t ∷ []) u v w x y z some a b c d e f = absurd (omega (arith, some))
six_items (p ∷ q ∷ r ∷ s ∷ t ∷ o ∷ xs) u v w x y z some a b c d e f = cc

-- how many options were told
abbrev told_many : ServeOptions → ℕ
told_many told = option_len told.journal + (option_len told.each + (option_len told.first + (option_len told.links + (option_len told.ids + option_len told.sync))))

few_len : {A : Type 0} (told : Option A) → option_len told ≤ 1
few_len None = omega arith
few_len (Some one) = omega arith

few_told : (told : ServeOptions) → told_many told ≤ 6
few_told told =
    let a = few_len told.journal in let b = few_len told.each in let c = few_len told.first in let d = few_len told.links in let e = few_len told.ids in let f = few_len told.sync in omega (arith, a, b, c, d, e, f)

-- what is told with one option more
abbrev IsMore : ServeOptions → Option ServeOptions → Type 0
IsMore options result = IfSome result (λ told. told_many told ≡ told_many options + 1)

journal_more : (journal number : Option ℕ) (options : ServeOptions) → options.journal ≡ journal → IsMore options (with_journal options (unless_told journal number))
journal_more (Some told) number options is = tt
journal_more None None options is = tt
journal_more None (Some number) options is = let none : option_len options.journal ≡ 0 = ap option_len is in omega (arith, none)

each_more : (each number : Option ℕ) (options : ServeOptions) → options.each ≡ each → IsMore options (with_each options (unless_told each number))
each_more (Some told) number options is = tt
each_more None None options is = tt
each_more None (Some number) options is = let none : option_len options.each ≡ 0 = ap option_len is in omega (arith, none)

first_more : (first number : Option ℕ) (options : ServeOptions) → options.first ≡ first → IsMore options (with_first options (unless_told first number))
first_more (Some told) number options is = tt
first_more None None options is = tt
first_more None (Some number) options is = let none : option_len options.first ≡ 0 = ap option_len is in omega (arith, none)

links_more : (links number : Option ℕ) (options : ServeOptions) → options.links ≡ links → IsMore options (with_links options (unless_told links number))
links_more (Some told) number options is = tt
links_more None None options is = tt
links_more None (Some number) options is = let none : option_len options.links ≡ 0 = ap option_len is in omega (arith, none)

ids_more : (ids number : Option ℕ) (options : ServeOptions) → options.ids ≡ ids → IsMore options (with_ids options (unless_told ids number))
ids_more (Some told) number options is = tt
ids_more None None options is = tt
ids_more None (Some number) options is = let none : option_len options.ids ≡ 0 = ap option_len is in omega (arith, none)

sync_more : (sync all : Option Bool) (options : ServeOptions) → options.sync ≡ sync → IsMore options (with_sync options (unless_told sync all))
sync_more (Some told) all options is = tt
sync_more None None options is = tt
sync_more None (Some all) options is = let none : option_len options.sync ≡ 0 = ap option_len is in omega (arith, none)

either : {X : Type 0} (P : X → Type 0) (test : Bool) (x y : X) → P x → P y → P (if test then x else y)
either P true x y p q = p
either P false x y p q = q

before_more : (name word : List ℕ) (options : ServeOptions) → IsMore options (option_before name word options)
before_more name word options =
    either (IsMore options) (bytes_eq name (codes "--journal")) _ _ (journal_more options.journal (number_in 32768 word) options refl)
    (either (IsMore options) (bytes_eq name (codes "--each")) _ _ (each_more options.each (number_in 1000000 word) options refl)
    (either (IsMore options) (bytes_eq name (codes "--first")) _ _ (first_more options.first (number_in (most_first) word) options refl)
    (either (IsMore options) (bytes_eq name (codes "--links")) _ _ (links_more options.links (number_in 1024 word) options refl)
    (either (IsMore options) (bytes_eq name (codes "--ids")) _ _ (ids_more options.ids (number_in 32768 word) options refl)
    (either (IsMore options) (bytes_eq name (codes "--sync")) _ _ (sync_more options.sync (sync_in word) options refl) tt)))))

-- each option has two words
abbrev HaveTwo : ℕ → Option ServeOptions → Type 0
HaveTwo words result = IfSome result (λ told. words ≡ told_many told + told_many told)

two_more : (result : Option ServeOptions) (options : ServeOptions) (words : ℕ) → IsMore options result → words ≡ told_many options + told_many options
    → HaveTwo (suc (suc words)) result
two_more None options words more two = tt
two_more (Some told) options words more two = omega (arith, more, two)

two_before : (name word : List ℕ) (others : Option ServeOptions) (words : ℕ) → HaveTwo words others → HaveTwo (suc (suc words)) (before_others name word others)
two_before name word None words two = tt
two_before name word (Some options) words two = two_more (option_before name word options) options words (before_more name word options) two

have_two : (words : List (List ℕ)) → HaveTwo (length words) (options_of words)
have_two [] = refl
have_two (name ∷ []) = tt
have_two (name ∷ word ∷ words) = two_before name word (options_of words) (length words) (have_two words)

none_told : (result : Option ServeOptions) (words : ℕ) → 12 < words → HaveTwo words result → None ≡ result
none_told None words many two = refl
none_told (Some told) words many two = let few = few_told told in absurd (omega (arith, many, two, few))

module _ {A : Type 0} (f : A → List ℕ) where
  many_mapped : (xs : List A) → length (map f xs) ≡ length xs
  many_mapped [] = refl
  many_mapped (x ∷ xs) = ap suc (many_mapped xs)

  -- more words than those of six options are no options, nor is one
  pub many_words : (xs : List A) → 12 < length xs → None ≡ options_of (map f xs)
  many_words xs many = none_told (options_of (map f xs)) (length (map f xs)) (subst (λ n. 12 < n) (sym (many_mapped xs)) many) (have_two (map f xs))

  pub one_word : (xs : List A) → 0 < length xs → length xs < 2 → None ≡ options_of (map f xs)
  one_word [] some few = absurd (omega (arith, some))
  one_word (p ∷ []) some few = refl
  one_word (p ∷ q ∷ xs) some few = absurd (omega (arith, few))

  -- nor are fewer than six a row
  pub too_few : (xs : List A) → length xs < 6 → IsServe (map f xs) → ⊥
  too_few xs few (keys, base, ask, row) =
      let long = ap (λ (l : List (List ℕ)). length l) row.words_are in let same = many_mapped xs in omega (arith, few, long, same)

-- where words are a row, each of them has its form
pub refused : (words : List (List ℕ)) (word folder port key_word base workers : List ℕ) (rest : List (List ℕ))
    → words ≡ word ∷ folder ∷ port ∷ key_word ∷ base ∷ workers ∷ rest
    → ((keys : Keys) (ask : ServeAsk) → word ≡ codes "serve" → 0 < length folder → IsWordOf keys key_word → is_base base ≡ true
    → TellsOrigin rest → IfSome (logs_told rest) (λ logs. 0 < length logs) → asked_of port workers rest ≡ Some ask → ⊥) → IsServe words → ⊥
refused words word folder port key_word base workers rest are denied (keys, base', ask, row) =
    let same : word ∷ folder ∷ port ∷ key_word ∷ base ∷ workers ∷ rest ≡ codes "serve" ∷ row.folder ∷ row.port ∷ row.key_word ∷ base' ∷ row.workers ∷ row.options =
    sym are ∙ row.words_are in
    let a : word ≡ codes "serve" = cc same in
    let b : row.folder ≡ folder = cc same in
    let p : row.port ≡ port = cc same in
    let d : row.key_word ≡ key_word = cc same in
    let e : base' ≡ base = cc same in
    let w : row.workers ≡ workers = cc same in
    let o : row.options ≡ rest = cc same in
    denied keys ask a (subst (λ (l : List ℕ). 0 < length l) b row.folder_is) (subst (IsWordOf keys) d row.keys_are) (ap is_base (sym e) ∙ row.base_is)
    (subst TellsOrigin o row.origin_is) (subst (λ (l : List (List ℕ)). IfSome (logs_told l) (λ logs. 0 < length logs)) o row.logs_are)
    (ap (λ (l : List ℕ). asked_of l workers rest) (sym p) ∙ ap (λ (l : List ℕ). asked_of row.port l rest) (sym w)
    ∙ ap (λ (l : List (List ℕ)). asked_of row.port row.workers l) (sym o) ∙ row.ask_is)

-- what they tell of a page is read off them
pub serve_page : (words : List (List ℕ)) (keys : Keys) (base : List ℕ) (ask : ServeAsk) (row : IsServeRow words keys base ask) → origin_told (drop 6 words) ≡ origin_told row.options
serve_page words keys base ask row = ap (λ (l : List (List ℕ)). origin_told (drop 6 l)) row.words_are

-- and what they tell of logs
pub serve_logs : (words : List (List ℕ)) (keys : Keys) (base : List ℕ) (ask : ServeAsk) (row : IsServeRow words keys base ask) → logs_told (drop 6 words) ≡ logs_told row.options
serve_logs words keys base ask row = ap (λ (l : List (List ℕ)). logs_told (drop 6 l)) row.words_are

told_kept : (keeps : Bool) (ids : Option ℕ) (sync : Option Bool) → is_some (kept_as keeps ids sync) ≡ keeps
told_kept true ids sync = refl
told_kept false ids sync = refl

chosen_kept : (b keeps : Bool) (one ask : ServeAsk) → is_some one.keep ≡ keeps → (if b then Some one else None) ≡ Some ask → is_some ask.keep ≡ keeps
chosen_kept true keeps one ask is same = let are : one ≡ ask = cc same in subst (λ (a : ServeAsk). is_some a.keep ≡ keeps) are is
chosen_kept false keeps one ask is same = absurd (cc same)

asked_kept : (port workers : Option ℕ) (editor keeps : Bool) (options : Option ServeOptions) (ask : ServeAsk) → asked port workers editor keeps options ≡ Some ask → is_some ask.keep ≡ keeps
asked_kept None workers editor keeps options ask is = absurd (cc is)
asked_kept (Some port) None editor keeps options ask is = absurd (cc is)
asked_kept (Some port) (Some workers) editor keeps None ask is = absurd (cc is)
asked_kept (Some port) (Some workers) editor keeps (Some options) ask is =
    chosen_kept (goes_with keeps options) keeps (ask_of port workers editor keeps options) ask (told_kept keeps options.ids options.sync) is

-- where they name a folder of logs, and there alone, logs are kept
pub row_kept : (words : List (List ℕ)) (keys : Keys) (base : List ℕ) (ask : ServeAsk) (row : IsServeRow words keys base ask) → is_some ask.keep ≡ is_some (logs_told row.options)
row_kept words keys base ask row =
    asked_kept (number_in 65535 row.port) (number_in 16 row.workers) (serves_editors row.options) (is_some (logs_told row.options)) (options_of (behind_keep (behind_editor row.options))) ask row.ask_is

-- the words have these numbers alone
pub ask_same : (words : List (List ℕ)) (keys : Keys) (base : List ℕ) (keys' : Keys) (base' : List ℕ) (ask ask' : ServeAsk) → IsServeRow words keys base ask → IsServeRow words keys' base' ask'
    → Some ask ≡ Some ask'
ask_same words keys base keys' base' ask ask' one two =
    let same : codes "serve" ∷ one.folder ∷ one.port ∷ one.key_word ∷ base ∷ one.workers ∷ one.options
    ≡ codes "serve" ∷ two.folder ∷ two.port ∷ two.key_word ∷ base' ∷ two.workers ∷ two.options = sym one.words_are ∙ two.words_are in
    let p : one.port ≡ two.port = cc same in
    let w : one.workers ≡ two.workers = cc same in
    let o : one.options ≡ two.options = cc same in
    sym one.ask_is ∙ ap (λ (l : List ℕ). asked_of l one.workers one.options) p ∙ ap (λ (l : List ℕ). asked_of two.port l one.options) w
    ∙ ap (λ (l : List (List ℕ)). asked_of two.port two.workers l) o ∙ two.ask_is

pub ask_exact : (words : List (List ℕ)) (keys : Keys) (base : List ℕ) (ask : ServeAsk) → IsServeRow words keys base ask → (other : ServeAsk)
    → (Some ask ≡ Some other) ↔ ((keys : Keys) × (base : List ℕ) × IsServeRow words keys base other)
ask_exact words keys base ask row = λ other.
    ((λ e. let same : ask ≡ other = cc e in (keys, base, subst (IsServeRow words keys base) same row)), λ all. ask_same words keys base all.0 all.1 ask other row all.2)

pub ask_none : (words : List (List ℕ)) → (IsServe words → ⊥) → (other : ServeAsk)
    → (None ≡ Some other) ↔ ((keys : Keys) × (base : List ℕ) × IsServeRow words keys base other)
ask_none words none = λ other. ((λ e. absurd (cc e)), λ all. absurd (none (all.0, all.1, other, all.2)))

pub copied_some : {X : Type 0} (found : Option (Bor X)) → is_some (option_copied found) ≡ is_some found
copied_some None = refl
copied_some (Some x) = refl

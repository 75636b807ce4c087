-- A request has one reading at most.
use Rattle.std.specs.Str.{str_to_ascii_lowercase}
use Rattle.std.specs.Str.Parse.{digits_value}
use Rattle.std.proofs.Common.{subst, codes, ◌≡◌, ℕ, Bool, true, false, List, [], ◌++◌, length, Option, Some, None, refl, sym, ap, ◌∙◌, inl, inr, arith, append-nil}
use Rattle.std.proofs.lemmas.List.{append_cancel_left, append_cancel_right}
use Rattle.std.proofs.lemmas.Slice.Eq.{bytes_eq-Decides}
use Rattle.wopi_http.specs.declared.message.Field.{Field}
use Rattle.wopi_http.specs.declared.message.Request.{Request}
use Rattle.wopi_text.proofs.IdLemmas.{id_of-injective}
use Rattle.wopi_text.specs.FileName.{IsFileName}
use Rattle.wopi_text.specs.Ids.{id_of}
use Rattle.wopi_headers.specs.declared.ask.Ask.{Ask}
use Rattle.utf7_text.specs.Readings.{IsReading}
use Rattle.utf7_text.proofs.Cutting.{one_reading}
use Rattle.wopi_headers.specs.declared.ask.Op.{Op}
use Rattle.wopi_headers.specs.declared.ask.Target.{Target}
use Rattle.wopi_headers.specs.declared.ask.Target.TheVariants.{Suggested, Relative}
use Rattle.wopi_headers.specs.declared.ask.Op.TheVariants.{Info, Get, Put, Lock, GetLock, Refresh, Unlock, Relock, PutRelative, Delete}
use Rattle.wopi_headers.specs.declared.row.Row.{Row}
use Rattle.wopi_headers.specs.declared.row.Row.TheVariants.{CheckFileInfo, GetFile, PutFile, Lock as LockRow, GetLock as GetLockRow, RefreshLock, Unlock as UnlockRow, PutRelativeFile, DeleteFile}
use Rattle.wopi_headers.specs.Targets.{path_of, token_of}
use Rattle.wopi_headers.specs.Paths.{ending, file_path, IsFilePath}
use Rattle.wopi_headers.specs.Rows.{row_asked}
use Rattle.wopi_headers.specs.Readings.{lock_name, old_lock_name, most_name, suggested_name, relative_name, overwrite_name, IsOnce, IsMissing, IsLock, IsAnyLock, IsMost, IsText, word_of, IsWordOf, IsOverwrite, IsTarget}
use Rattle.wopi_headers.specs.Operations.{Says, HasOneOverride, AsksFor, IsRefusal}
use Rattle.wopi_headers.specs.Operations.IsRefusal.{no_file, no_row, no_reading}
use Rattle.wopi_headers.proofs.PathLemmas.{id_has_no_ending}

-- what is read as one word isn't read as the other
lower : (value : List ℕ) (choice : Bool) → IsWordOf value choice → str_to_ascii_lowercase value ≡ word_of choice
lower value true h = (bytes_eq-Decides (str_to_ascii_lowercase value) (codes "true")).0 h
lower value false h = (bytes_eq-Decides (str_to_ascii_lowercase value) (codes "false")).0 h

two_words : word_of true ≡ word_of false → ⊥
two_words e = let long = ap length e in omega (arith, long)

pub one_value : (name : List ℕ) (fields : List Field) (a b : List ℕ) → IsOnce name fields a → IsOnce name fields b → a ≡ b
one_value name fields a b h k = let e = h.value_is in let f = k.value_is in cc

not_both : (name : List ℕ) (fields : List Field) (id : List ℕ) → IsMissing name fields → ¬ (IsLock name fields id)
not_both name fields id (inl none) k = let once = k.0.once in absurd (cc)
not_both name fields id (inr empty) k = let e = one_value name fields [] id empty k.0 in let some = k.1.not_empty in absurd (omega (arith, ap length e, some))

one_lock : (name : List ℕ) (fields : List Field) (a b : Option (List ℕ)) → IsAnyLock name fields a → IsAnyLock name fields b → a ≡ b
one_lock name fields None None h k = refl
one_lock name fields None (Some id) h k = absurd (not_both name fields id h k)
one_lock name fields (Some id) None h k = absurd (not_both name fields id k h)
one_lock name fields (Some a) (Some b) h k = ap Some (one_value name fields a b h.0 k.0)

one_most : (fields : List Field) (a b : Option ℕ) → IsMost fields a → IsMost fields b → a ≡ b
one_most fields None None h k = refl
one_most fields None (Some n) h k = let once = k.1.once in absurd (cc)
one_most fields (Some n) None h k = let once = h.1.once in absurd (cc)
one_most fields (Some a) (Some b) h k =
    let same = one_value most_name fields h.0 k.0 h.1 k.1 in
    ap Some (h.2.value_is ∙ ap (digits_value 10) same ∙ sym k.2.value_is)

one_text : (name : List ℕ) (fields : List Field) (a b : List ℕ) → IsText name fields a → IsText name fields b → a ≡ b
one_text name fields a b h k =
    one_reading h.value a b h.reads (subst (λ v. IsReading v b) (one_value name fields k.value h.value k.once h.once) k.reads)

one_word : (value : List ℕ) (a b : Bool) → IsWordOf value a → IsWordOf value b → a ≡ b
one_word value true true h k = refl
one_word value false false h k = refl
one_word value true false h k = absurd (two_words (sym (lower value true h) ∙ lower value false k))
one_word value false true h k = absurd (two_words (sym (lower value true k) ∙ lower value false h))

one_choice : (fields : List Field) (a b : Bool) → IsOverwrite fields a → IsOverwrite fields b → a ≡ b
one_choice fields a b (inl (off, none)) (inl (other, nothing)) = off ∙ sym other
one_choice fields a b (inl (off, none)) (inr (value, once, word)) = let there = once.once in absurd (cc)
one_choice fields a b (inr (value, once, word)) (inl (off, none)) = let there = once.once in absurd (cc)
one_choice fields a b (inr (value, once, word)) (inr (other, again, same)) =
    one_word value a b word (subst (λ v. IsWordOf v b) (one_value overwrite_name fields other value again once) same)

one_target : (fields : List Field) (a b : Target) → IsTarget fields a → IsTarget fields b → a ≡ b
one_target fields (Suggested a) (Suggested b) h k = ap Suggested (one_text suggested_name fields a b h.1 k.1)
one_target fields (Suggested a) (Relative b choice) h k = let none = k.0 in let there = h.1.once.once in absurd (cc)
one_target fields (Relative a choice) (Suggested b) h k = let none = h.0 in let there = k.1.once.once in absurd (cc)
one_target fields (Relative a c) (Relative b d) h k =
    ap (λ n. Relative n c) (one_text relative_name fields a b h.1 k.1) ∙ ap (Relative b) (one_choice fields c d h.2 k.2)

one_op : (row : Row) (fields : List Field) (a b : Op) → Says row fields a → Says row fields b → a ≡ b
one_op CheckFileInfo fields Info Info h k = refl
one_op CheckFileInfo fields Info b h k = absurd k
one_op GetFile fields (Get a) (Get b) h k = ap Get (one_most fields a b h k)
one_op GetFile fields (Get a) b h k = absurd k
one_op PutFile fields (Put a) (Put b) h k = ap Put (one_lock lock_name fields a b h k)
one_op PutFile fields (Put a) b h k = absurd k
one_op LockRow fields (Lock a) (Lock b) h k = ap Lock (one_value lock_name fields a b h.0.0 k.0.0)
one_op LockRow fields (Lock a) (Relock old b) h k = absurd (not_both old_lock_name fields old h.1 k.1)
one_op LockRow fields (Lock a) b h k = absurd k
one_op LockRow fields (Relock old a) (Lock b) h k = absurd (not_both old_lock_name fields old k.1 h.1)
one_op LockRow fields (Relock o a) (Relock p b) h k =
    ap (λ x. Relock x a) (one_value old_lock_name fields o p h.1.0 k.1.0) ∙ ap (Relock p) (one_value lock_name fields a b h.0.0 k.0.0)
one_op LockRow fields (Relock o a) b h k = absurd k
one_op GetLockRow fields GetLock GetLock h k = refl
one_op GetLockRow fields GetLock b h k = absurd k
one_op RefreshLock fields (Refresh a) (Refresh b) h k = ap Refresh (one_value lock_name fields a b h.0 k.0)
one_op RefreshLock fields (Refresh a) b h k = absurd k
one_op UnlockRow fields (Unlock a) (Unlock b) h k = ap Unlock (one_value lock_name fields a b h.0 k.0)
one_op UnlockRow fields (Unlock a) b h k = absurd k
one_op PutRelativeFile fields (PutRelative a) (PutRelative b) h k = ap PutRelative (one_target fields a b h k)
one_op PutRelativeFile fields (PutRelative a) b h k = absurd k
one_op DeleteFile fields Delete Delete h k = refl
one_op DeleteFile fields Delete b h k = absurd k
one_op row fields a b h k = absurd h

one_tail : (n m : List ℕ) (c d : Bool) → IsFileName n → IsFileName m → id_of n ++ ending c ≡ id_of m ++ ending d → (n ≡ m) × (c ≡ d)
one_tail n m true true h k e = (id_of-injective n m h k (append_cancel_right (id_of n) (id_of m) (codes "/contents") e), refl)
one_tail n m false false h k e = (id_of-injective n m h k (sym (append-nil (id_of n)) ∙ e ∙ append-nil (id_of m)), refl)
one_tail n m true false h k e = absurd (id_has_no_ending m (id_of n) (sym (append-nil (id_of m)) ∙ sym e))
one_tail n m false true h k e = absurd (id_has_no_ending n (id_of m) (sym (append-nil (id_of n)) ∙ e))

one_place : (path n m : List ℕ) (c d : Bool) → IsFilePath path n c → IsFilePath path m d → (n ≡ m) × (c ≡ d)
unfolding file_path
one_place path n m c d h k =
    let tails = append_cancel_left (codes "/wopi/files/") (id_of n ++ ending c) (id_of m ++ ending d) (sym h.path_is ∙ k.path_is) in
    one_tail n m c d h.form k.form tails

one_row : (q : Request) (c d : Bool) (r s : Row) → c ≡ d → row_asked q.method c q.fields ≡ Some r
    → row_asked q.method d q.fields ≡ Some s → r ≡ s
one_row q c d r s e h k =
    let across = ap (λ x. row_asked q.method x q.fields) e in
    let both : Some r ≡ Some s = sym h ∙ across ∙ k in
    cc

pub one_ask : (q : Request) (a b : Ask) → AsksFor q a → AsksFor q b → a ≡ b
one_ask q a b h k =
    let place = one_place (path_of q.target) a.file b.file h.contents k.contents h.path k.path in
    let row = one_row q h.contents k.contents h.row k.row place.1 h.row_is k.row_is in
    let op = one_op k.row q.fields a.op b.op (subst (λ r. Says r q.fields a.op) row h.says) k.says in
    let token = h.token_is ∙ sym k.token_is in
    λ i. record { file = place.0 i; token = token i; op = op i }

not_refused : (q : Request) (a : Ask) → AsksFor q a → (s : ℕ) → ¬ (IsRefusal q s)
not_refused q a h s (no_file e none) = none a.file h.contents h.path
not_refused q a h s (no_row e name contents path none) =
    let place = one_place (path_of q.target) name a.file contents h.contents path h.path in
    let across = ap (λ x. row_asked q.method x q.fields) place.1 in
    let row = h.row_is in
    absurd (cc)
not_refused q a h s (no_reading e name contents row path is none) =
    let place = one_place (path_of q.target) name a.file contents h.contents path h.path in
    let same = one_row q h.contents contents h.row row (sym place.1) h.row_is is in
    none a.op (subst (λ r. HasOneOverride r q.fields) same h.once) (subst (λ r. Says r q.fields a.op) same h.says)

pub nothing_asked : (q : Request) (a : Ask) (s : ℕ) → AsksFor q a → ¬ (IsRefusal q s)
nothing_asked q a s h = not_refused q a h s

row_or_none : (q : Request) (n m : List ℕ) (c d : Bool) (r : Row) → IsFilePath (path_of q.target) n c → IsFilePath (path_of q.target) m d
    → row_asked q.method c q.fields ≡ None → ¬ (row_asked q.method d q.fields ≡ Some r)
row_or_none q n m c d r h k none some =
    let place = one_place (path_of q.target) n m c d h k in
    let across = ap (λ x. row_asked q.method x q.fields) place.1 in
    absurd (cc)

pub one_status : (q : Request) (s t : ℕ) → IsRefusal q s → IsRefusal q t → s ≡ t
one_status q s t (no_file e none) (no_file f other) = e ∙ sym f
one_status q s t (no_file e none) (no_row f name contents path is) = absurd (none name contents path)
one_status q s t (no_file e none) (no_reading f name contents row path is nothing) = absurd (none name contents path)
one_status q s t (no_row e name contents path is) (no_file f none) = absurd (none name contents path)
one_status q s t (no_row e name contents path is) (no_row f other which way none) = e ∙ sym f
one_status q s t (no_row e name contents path is) (no_reading f other which row way some nothing) =
    absurd (row_or_none q name other contents which row path way is some)
one_status q s t (no_reading e name contents row path is nothing) (no_file f none) = absurd (none name contents path)
one_status q s t (no_reading e name contents row path is nothing) (no_row f other which way none) =
    absurd (row_or_none q other name which contents row way path none is)
one_status q s t (no_reading e name contents row path is nothing) (no_reading f other which again way some none) = e ∙ sym f

-- a path that names a file leads to a row or to none, and a row to a reading or to none
pub never_neither : (q : Request) → ((a : Ask) → ¬ (AsksFor q a)) → ¬ ((s : ℕ) → ¬ (IsRefusal q s))
never_neither q nothing unrefused = unrefused 404 (no_file refl at_path) where
  at_row : (name : List ℕ) (contents : Bool) (path : IsFilePath (path_of q.target) name contents) (row : Option Row) → row_asked q.method contents q.fields ≡ row → ⊥
  at_row name contents path None e = unrefused 501 (no_row refl name contents path e)
  at_row name contents path (Some row) e =
      unrefused 400 (no_reading refl name contents row path e (λ op once says.
      nothing (record { file = name; token = token_of q.target; op = op })
      (record { contents = contents; row = row; path = path; row_is = e; once = once; says = says; token_is = refl })))

  at_path : (name : List ℕ) (contents : Bool) → ¬ (IsFilePath (path_of q.target) name contents)
  at_path name contents path = at_row name contents path (row_asked q.method contents q.fields) refl

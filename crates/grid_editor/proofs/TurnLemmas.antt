-- What an editor does about a command, put together.
use Rattle.std.proofs.Common.{◌≡◌, ◌≢◌, ℕ, ◌+◌, ◌≤◌, ◌^◌, min, Bool, true, false, List, [], ◌∷◌, ◌++◌, Option, None, Some, Result, Ok, Err, length, get_or, take, drop, ◌<◌, refl, sym, ap, ◌∙◌, subst, arith, append_assoc, append-nil, inl, inr}
use Rattle.std.specs.Io.KnownBytes.{Appends}
use Rattle.std.proofs.lemmas.List.{drop_more}
use Rattle.outside.specs.Stream.{GrewByPrefix}
use Rattle.outside.specs.declared.dialer.Exchange.{Exchange}
use Rattle.save_session.specs.declared.output.Outcome.{Outcome}
use Rattle.save_session.specs.declared.output.Outcome.TheVariants as outcome
use Rattle.wopi_client.specs.Talk.{Grew, Exchanged, lost_in}
use Rattle.wopi_client.proofs.TalkLemmas.{grew_nothing, grew_then, rose_then}
use Rattle.grid_sheet.specs.declared.fault.GridFault.{GridFault}
use Rattle.grid_sheet.specs.Rows.{Rows}
use Rattle.grid_editor.specs.declared.command.Command.{Command}
use Rattle.grid_editor.specs.declared.editor.Editor.{Editor}
use Rattle.grid_editor.specs.declared.turns.EditFault.{EditFault}
use Rattle.grid_editor.specs.declared.turns.EditFault.TheVariants as fault
use Rattle.grid_editor.specs.declared.turns.Turn.{Turn}
use Rattle.grid_editor.specs.declared.turns.Went.{Went}
use Rattle.grid_editor.specs.declared.turns.Went.TheVariants.{On, Ended}
use Rattle.grid_editor.specs.Sheets.{Edited, IsEdited, IsUndone, after_edit}
use Rattle.grid_editor.specs.Turns.{Does, Done, IsTold, edits, sheet_after, tells, undoes, writes}
use Rattle.grid_editor.specs.Runs.{Commands, Runs, StaysAt, Writes, over, goes_on, ends}

-- ---- exchanges

pub made_none : (told : Option (List Exchange)) (faults : ℕ) (P : List Exchange → Type 0) → P [] → Exchanged told told faults faults P
made_none told faults P are = record { exchanges = []; grew = grew_nothing told; lost = omega arith; are = are }

pub made_so : (a b : Option (List Exchange)) (f g : ℕ) (P Q : List Exchange → Type 0) → Exchanged a b f g P → ((exchanges : List Exchange) → P exchanges → Q exchanges) → Exchanged a b f g Q
made_so a b f g P Q made so = record { exchanges = made.exchanges; grew = made.grew; lost = made.lost; are = so made.exchanges made.are }

pub appends_then : (a b c : Option (List ℕ)) (xs ys : List ℕ) → Appends a b xs → Appends b c ys → Appends a c (xs ++ ys)
appends_then None b c xs ys x y = tt
appends_then (Some a) None c xs ys x y = absurd x
appends_then (Some a) (Some b) None xs ys x y = absurd y
appends_then (Some a) (Some b) (Some c) xs ys x y = y ∙ ap (λ z. z ++ ys) x ∙ append_assoc a xs ys

pub appends_none : (a : Option (List ℕ)) → Appends a a []
appends_none None = tt
appends_none (Some a) = sym (append-nil a)

pub writes_then : (a b c : Option (List ℕ)) (t u v : Option (List Exchange)) (f g h : ℕ) (P Q R : List ℕ → List Exchange → Type 0)
    → Writes a b t u f g P → Writes b c u v g h Q
    → ((first second : List ℕ) (sent more : List Exchange) → P first sent → Q second more → R (first ++ second) (sent ++ more))
    → Writes a c t v f h R
writes_then a b c t u v f g h P Q R x y so = record {
  written = x.written ++ y.written;
  grew = appends_then a b c x.written y.written x.grew y.grew;
  made = record {
    exchanges = x.made.exchanges ++ y.made.exchanges;
    grew = grew_then t u v x.made.exchanges y.made.exchanges x.made.grew y.made.grew;
    lost = rose_then f g h x.made.exchanges y.made.exchanges x.made.lost y.made.lost;
    are = so x.written y.written x.made.exchanges y.made.exchanges x.made.are y.made.are;
  };
}

-- ---- sheets

pub edits_ok : (old new : Edited) (edit : Result Rows GridFault) (turn : Turn) → IsEdited edit old new → turn ≡ writes [] → edits old edit ≡ record { sheet = new; turn = turn }
edits_ok old new edit turn is empty =
    let sheet : record { rows = new.rows; past = take 64 (old.rows ∷ old.past) } ≡ new = λ i. record { rows = new.rows; past = sym is.past i } in
    ap (edits old) is.edit_is ∙ (λ i. record { sheet = sheet i; turn = sym empty i })

pub undoes_ok : (old new : Edited) (turn : Turn) → IsUndone old new true → turn ≡ writes [] → undoes old old.past ≡ record { sheet = new; turn = turn }
undoes_ok old new turn is empty = ap (undoes old) is ∙ (λ i. record { sheet = new; turn = sym empty i })

-- ---- what the session told

pub told_other : (before : Option Edited) (contents : List ℕ) (told : Outcome) (sheet : Option Edited) (turn : Turn)
    → ((version : Option ℕ) → told ≢ outcome.Opened version) → sheet ≡ sheet_after before told → turn ≡ tells told → IsTold before contents told sheet turn
told_other before contents (outcome.Opened version) sheet turn other s t = absurd (other version refl)
told_other before contents (outcome.Read version) sheet turn other s t = (s, t)
told_other before contents (outcome.Saved version) sheet turn other s t = (s, t)
told_other before contents outcome.Refreshed sheet turn other s t = (s, t)
told_other before contents outcome.Closed sheet turn other s t = (s, t)
told_other before contents (outcome.Conflict lock reason) sheet turn other s t = (s, t)
told_other before contents (outcome.LockLost lock reason) sheet turn other s t = (s, t)
told_other before contents outcome.TooLarge sheet turn other s t = (s, t)
told_other before contents (outcome.HostFault status) sheet turn other s t = (s, t)
told_other before contents outcome.TokenDead sheet turn other s t = (s, t)
told_other before contents outcome.Gone sheet turn other s t = (s, t)
told_other before contents outcome.NoAnswer sheet turn other s t = (s, t)

-- ---- a run

-- what goes on from here goes on from there
abbrev pub Leads : Editor → List Command → Editor → List Command → List ℕ → List Exchange → Type 0
Leads start all now rest written sent =
    (new : Editor) (result : Result Went EditFault) (second : List ℕ) (more : List Exchange) → Runs now rest new result second more → Runs start all new result (written ++ second) (sent ++ more)

pub leads_start : (start : Editor) (all : List Command) → Leads start all start all [] []
leads_start start all = λ new result second more runs. runs

pub leads_on : (start now next : Editor) (all rest later : List Command) (asked : Command) (written first : List ℕ) (sent more : List Exchange)
    → rest ≡ asked ∷ later → StaysAt now next → Leads start all now rest written sent → Commands now asked next (Ok On) first more
    → Leads start all next later (written ++ first) (sent ++ more)
leads_on start now next all rest later asked written first sent more is stays leads does = λ new result second others runs.
    let whole : Runs now rest new result (first ++ second) (more ++ others) =
    subst (λ l. Runs now l new result (first ++ second) (more ++ others)) (sym is) (goes_on now next new asked later result first second more others does stays runs) in
    let all_runs = leads new result (first ++ second) (more ++ others) whole in
    subst (λ x. Runs start all new result x ((sent ++ more) ++ others)) (sym (append_assoc written first second))
    (subst (λ x. Runs start all new result (written ++ (first ++ second)) x) (sym (append_assoc sent more others)) all_runs)

pub leads_over : (start now : Editor) (all rest : List Command) (written : List ℕ) (sent : List Exchange) → rest ≡ [] → Leads start all now rest written sent
    → Runs start all now (Ok On) written sent
leads_over start now all rest written sent none leads =
    let last : Runs now rest now (Ok On) [] [] = subst (λ l. Runs now l now (Ok On) [] []) (sym none) (over now) in
    subst (λ x. Runs start all now (Ok On) x sent) (append-nil written) (subst (λ x. Runs start all now (Ok On) (written ++ []) x) (append-nil sent) (leads now (Ok On) [] [] last))

pub leads_end : (start now new : Editor) (all rest later : List Command) (asked : Command) (result : Result Went EditFault) (written first : List ℕ) (sent more : List Exchange)
    → rest ≡ asked ∷ later → StaysAt now new → Leads start all now rest written sent → Commands now asked new result first more → result ≢ Ok On
    → Runs start all new result (written ++ first) (sent ++ more)
leads_end start now new all rest later asked result written first sent more is stays leads does other =
    leads new result first more (subst (λ l. Runs now l new result first more) (sym is) (ends now new asked later result first more does stays other))

-- ---- a command

pub writes_ok : (a b : Option (List ℕ)) (t u : Option (List Exchange)) (f g : ℕ) (old new : Editor) (asked : Command) (turn : Turn) → Appends a b turn.line
    → Exchanged t u f g (Does old asked new (Ok turn)) → Writes a b t u f g (Commands old asked new (Ok turn.went))
writes_ok a b t u f g old new asked turn grew made = record {
  written = turn.line;
  grew = grew;
  made = made_so t u f g (Does old asked new (Ok turn)) (Commands old asked new (Ok turn.went) turn.line) made (λ exchanges does. (turn, does, refl, refl));
}

pub writes_cut : (a b : Option (List ℕ)) (t u : Option (List Exchange)) (f g : ℕ) (old new : Editor) (asked : Command) (turn : Turn) → GrewByPrefix a b turn.line
    → Exchanged t u f g (Does old asked new (Ok turn)) → Writes a b t u f g (Commands old asked new (Err fault.WriteFault))
writes_cut a b t u f g old new asked turn (front, rest, is, grew) made = record {
  written = front;
  grew = grew;
  made = made_so t u f g (Does old asked new (Ok turn)) (Commands old asked new (Err fault.WriteFault) front) made (λ exchanges does. (turn, rest, does, is));
}

pub writes_none : (a : Option (List ℕ)) (t u : Option (List Exchange)) (f g : ℕ) (old new : Editor) (asked : Command) (why : EditFault) → (why ≡ fault.WriteFault → ⊥)
    → Exchanged t u f g (Does old asked new (Err why)) → Writes a a t u f g (Commands old asked new (Err why))
writes_none a t u f g old new asked (fault.BadReply at) other made = record {
  written = [];
  grew = appends_none a;
  made = made_so t u f g (Does old asked new (Err (fault.BadReply at))) (Commands old asked new (Err (fault.BadReply at)) []) made (λ exchanges does. (does, refl));
}
writes_none a t u f g old new asked fault.WriteFault other made = absurd (other refl)
writes_none a t u f g old new asked fault.Memory other made = record {
  written = [];
  grew = appends_none a;
  made = made_so t u f g (Does old asked new (Err fault.Memory)) (Commands old asked new (Err fault.Memory) []) made (λ exchanges does. (does, refl));
}

-- ---- a run's steps

pub run_starts : (a : Option (List ℕ)) (t : Option (List Exchange)) (f : ℕ) (start : Editor) (all : List Command) → Writes a a t t f f (Leads start all start all)
run_starts a t f start all = record {
  written = [];
  grew = appends_none a;
  made = made_none t f (Leads start all start all []) (leads_start start all);
}

pub run_on : (a b c : Option (List ℕ)) (t u v : Option (List Exchange)) (f g h : ℕ) (start now next : Editor) (all rest later : List Command) (asked : Command) → rest ≡ asked ∷ later
    → StaysAt now next → Writes a b t u f g (Leads start all now rest) → Writes b c u v g h (Commands now asked next (Ok On)) → Writes a c t v f h (Leads start all next later)
run_on a b c t u v f g h start now next all rest later asked is stays so does =
    writes_then a b c t u v f g h (Leads start all now rest) (Commands now asked next (Ok On)) (Leads start all next later) so does
    (λ first second sent more leads commands. leads_on start now next all rest later asked first second sent more is stays leads commands)

pub run_over : (a b : Option (List ℕ)) (t u : Option (List Exchange)) (f g : ℕ) (start now : Editor) (all rest : List Command) → rest ≡ []
    → Writes a b t u f g (Leads start all now rest) → Writes a b t u f g (Runs start all now (Ok On))
run_over a b t u f g start now all rest none so = record {
  written = so.written;
  grew = so.grew;
  made = made_so t u f g (Leads start all now rest so.written) (Runs start all now (Ok On) so.written) so.made (λ exchanges leads. leads_over start now all rest so.written exchanges none leads);
}

pub run_ends : (a b c : Option (List ℕ)) (t u v : Option (List Exchange)) (f g h : ℕ) (start now new : Editor) (all rest later : List Command) (asked : Command) (result : Result Went EditFault)
    → rest ≡ asked ∷ later → StaysAt now new → result ≢ Ok On → Writes a b t u f g (Leads start all now rest) → Writes b c u v g h (Commands now asked new result) → Writes a c t v f h (Runs start all new result)
run_ends a b c t u v f g h start now new all rest later asked result is stays other so does =
    writes_then a b c t u v f g h (Leads start all now rest) (Commands now asked new result) (Runs start all new result) so does
    (λ first second sent more leads commands. leads_end start now new all rest later asked result first second sent more is stays leads commands other)

pub stays-trans : (a b c : Editor) → StaysAt a b → StaysAt b c → StaysAt a c
stays-trans a b c p q = record { desktop = q.desktop ∙ p.desktop; nonce = q.nonce ∙ p.nonce }

-- the next command
pub next_is : (script items : List Command) (i : ℕ) (asked : Command) → items ≡ script → i < length items → asked ≡ get_or items i asked → drop i script ≡ asked ∷ drop (i + 1) script
next_is script items i asked same within is =
    ap (drop i) (sym same) ∙ drop_more items i asked within ∙ ap (λ c. c ∷ drop (i + 1) items) (sym is) ∙ ap (λ l. asked ∷ drop (i + 1) l) same

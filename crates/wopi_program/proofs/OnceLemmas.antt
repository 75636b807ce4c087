-- From a shard that was served to a run of `once`.
use Rattle.std.proofs.Common.{◌≡◌, ◌≢◌, ℕ, Bool, false, List, [], ◌++◌, map, Option, None, refl, sym, ap, ◌∙◌, subst, inl, inr, arith}
use Rattle.outside.specs.Clock.{Gives}
use Rattle.outside.specs.Folder.{Files}
use Rattle.wopi_model.specs.Begin.{Begin, new_life}
use Rattle.wopi_model.specs.Host.{kept_limits}
use Rattle.wopi_model.specs.Shard.{Opening, Item, Step, Entry, Legal, LegalFrom, entries}
use Rattle.host_core.specs.Entries.{Made, items_of}
use Rattle.host_core.specs.Times.{untimed, happened_of}
use Rattle.host_core.specs.Value.{Book, InMemory, IsLawful}
use Rattle.host_core.specs.Opening.{AreDatesOf, IsOpening, Fits}
use Rattle.host_core.specs.Single.{sight_of, sees_its_own, SeesItsOwn}
use Rattle.host_server.specs.declared.desk.Desk.{Desk}
use Rattle.host_server.specs.declared.connection.ConnEnd.{ConnEnd}
use Rattle.host_server.specs.declared.connection.ConnEnd.TheVariants as conn
use Rattle.host_server.specs.Connection.{Serves}
use Rattle.host_server.specs.Deeds.{made}
use Rattle.wopi_program.specs.declared.outside_world.Outside.{Outside}
use Rattle.wopi_program.specs.declared.once.OnceEnd.{OnceEnd}
use Rattle.wopi_program.specs.declared.once.OnceEnd.TheVariants.{Served, FolderFault, TooLarge, Memory}
use Rattle.wopi_program.specs.Files.{AreShownIn}
use Rattle.wopi_program.specs.Meanings.{Meanings}
use Rattle.wopi_program.specs.Once.{over_folder, IsFresh, ServesShard, OpensAndServes, OnceRuns, OnceRunsIn, Untouched, Finishes, OnceEnds}
use Rattle.access_tokens.specs.declared.keys.Keys.{Keys}
use Rattle.wopi_program.proofs.ListingLemmas.{all_shown}

-- what is lawful over a store is so over its folder
pub lawful_over : {F : Type 0} (book : Book (InMemory F)) (start now : Option Files) (began count : ℕ) → IsLawful book start now began count → IsLawful (over_folder book) start now began count
lawful_over book start now began count l = record { legal = l.legal; folder = l.folder; faults = l.faults; timely = l.timely; alone = l.alone }

module _ {S K F N D C G L : Type 0} (m : Meanings S K F N D C G L) where
  pub shard_serves : (desk : Desk) (end : ConnEnd) (first began ended last : Book F) (folder : F) (clock clock' : C) (old new : Outside S K F N D C G)
      → began ≡ first → last ≡ ended
      → Serves desk SeesItsOwn end (m.left old.input) (m.left new.input) (m.work.moments clock) (m.work.moments clock') (sight_of began) (sight_of ended) (m.held old.output) (m.held new.output)
      → ended.start ≡ began.start → last.only ≡ None
      → IsLawful last (m.files last.start) (m.files last.folder) (m.folder_faults last.start) (m.folder_faults last.folder) → folder ≡ last.folder → end ≢ conn.Lost
      → ServesShard m desk end first folder clock clock' old new
  shard_serves desk end first began ended last folder clock clock' old new begins ends serves start only lawful folder_is kept =
      let Served : Book F → Book F → Type 0 = λ a b. Serves desk SeesItsOwn end (m.left old.input) (m.left new.input) (m.work.moments clock) (m.work.moments clock') (sight_of a) (sight_of b)
      (m.held old.output) (m.held new.output)
      in
      record {
        last = last;
        serves = subst (λ (b : Book F). Served first b) (sym ends) (subst (λ (b : Book F). Served b ended) begins serves);
        start = ap (λ (b : Book F). b.start) ends ∙ start ∙ ap (λ (b : Book F). b.start) begins;
        only = only;
        lawful = lawful;
        folder_is = folder_is;
        kept = kept;
      }

  -- the entries of a connection over a fresh shard are legal by themselves
  legal_alone : (desk : Desk) (end : ConnEnd) (first : Book F) (folder : F) (clock clock' : C) (old new : Outside S K F N D C G) → first.made ≡ [] → first.ticked ≡ false
      → (s : ServesShard m desk end first folder clock clock' old new) → LegalFrom first.begin (map Step (made s.serves.deeds))
  legal_alone desk end first folder clock clock' old new none unticked s =
      let last = s.last in
      let does = s.serves.makes in
      let calm : last.ticked ≡ false = does.follows.ticked ∙ unticked in
      let own : entries (items_of last.made) ≡ made s.serves.deeds = does.own ∙ ap (λ (l : List Made). entries (items_of l) ++ made s.serves.deeds) none in
      let items : untimed last.made ≡ map Step (made s.serves.deeds) =
      sym (ap (λ (b : Bool). happened_of b last.made last.time) calm) ∙ (sees_its_own last).alone calm ∙ ap (λ (es : List Entry). map Step es) own
      in
      let begin : last.begin ≡ first.begin = does.follows.begins 0 in
      subst (λ (b : Begin). LegalFrom b (map Step (made s.serves.deeds))) begin
      (subst (λ (l : List Item). LegalFrom last.begin l) items (s.lawful.alone calm))

  -- each listing of a connection over a fresh shard shows it after the entries that were made before
  shown_alone : (desk : Desk) (end : ConnEnd) (stood : Opening) (opened : ℕ) (first : Book F) (folder : F) (clock clock' : C) (old new : Outside S K F N D C G) → first.begin ≡ new_life stood opened 1 → first.made ≡ [] → first.ticked ≡ false
      → (s : ServesShard m desk end first folder clock clock' old new) → AreShownIn stood opened 1 [] s.serves.deeds
  shown_alone desk end stood opened first folder clock clock' old new life none unticked s =
      all_shown stood opened 1 (sight_of s.last) (sight_of first) [] s.serves.deeds
      (record { begin_is = life; calm = unticked; own_is = ap (λ (l : List Made). entries (items_of l)) none }) s.serves.makes.met

  pub opens_and_serves : (desk : Desk) (keys : Keys) (base : List ℕ) (editor : Bool) (origin : Option (List ℕ)) (opened : ℕ) (end : ConnEnd) (folder folder' : F) (clock mid clock' : C) (old new : Outside S K F N D C G)
      (stood : Opening) (first : Book F) → desk.keys ≡ keys → desk.base ≡ base → desk.editor ≡ editor → desk.origin ≡ origin → desk.opened ≡ opened → Gives (m.work.moments clock) (m.work.moments mid) opened
      → first ≡ record {
        only = None;
        begin = new_life stood opened 1;
        limits = kept_limits 4096;
        dates = first.dates;
        made = [];
        time = opened;
        ticked = false;
        start = folder;
        folder = first.folder;
      }
      → IsOpening None (m.files folder) stood → Fits stood → map (λ one. one.0) first.dates ≡ map (λ one. one.0) first.begin.files → AreDatesOf (m.times folder) first.dates
      → ServesShard m desk end first folder' mid clock' old new
      → OpensAndServes m keys base editor origin end folder folder' clock clock' old new
  opens_and_serves desk keys base editor origin opened end folder folder' clock mid clock' old new stood first keys_are base_is editor_is origin_is opened_is times book opening fits dated told serves = record {
    desk = desk;
    mid = mid;
    first = first;
    keys_are = keys_are;
    base_is = base_is;
    editor_is = editor_is;
    origin_is = origin_is;
    times = subst (Gives (m.work.moments clock) (m.work.moments mid)) (sym opened_is) times;
    stood = stood;
    opens = subst (λ n. IsFresh m folder stood n first) (sym opened_is) (record { book = book; opening = opening; fits = fits; dated = dated; told = told });
    serves = serves;
    legal = subst (λ (n : ℕ). Legal stood n 1 (map Step (made serves.serves.deeds))) (sym opened_is)
        (subst (λ (b : Begin). LegalFrom b (map Step (made serves.serves.deeds))) (ap (λ (b : Book F). b.begin) book)
        (legal_alone desk end first folder' mid clock' old new (ap (λ (b : Book F). b.made) book) (ap (λ (b : Book F). b.ticked) book) serves));
    shown = subst (λ (n : ℕ). AreShownIn stood n 1 [] serves.serves.deeds) (sym opened_is)
        (shown_alone desk end stood opened first folder' mid clock' old new (ap (λ (b : Book F). b.begin) book) (ap (λ (b : Book F). b.made) book) (ap (λ (b : Book F). b.ticked) book) serves);
  }

  -- the same where the shard was opened over a store round the folder
  pub kept_and_served : (desk : Desk) (keys : Keys) (base : List ℕ) (editor : Bool) (origin : Option (List ℕ)) (opened : ℕ) (end : ConnEnd) (folder kept folder' : F) (clock mid clock' : C) (old new : Outside S K F N D C G)
      (stood : Opening) (first : Book F) → kept ≡ folder → desk.keys ≡ keys → desk.base ≡ base → desk.editor ≡ editor → desk.origin ≡ origin → desk.opened ≡ opened → Gives (m.work.moments clock) (m.work.moments mid) opened
      → first ≡ record {
        only = None;
        begin = new_life stood opened 1;
        limits = kept_limits 4096;
        dates = first.dates;
        made = [];
        time = opened;
        ticked = false;
        start = kept;
        folder = first.folder;
      }
      → IsOpening None (m.files kept) stood → Fits stood → map (λ one. one.0) first.dates ≡ map (λ one. one.0) first.begin.files → AreDatesOf (m.times kept) first.dates
      → ServesShard m desk end first folder' mid clock' old new
      → OpensAndServes m keys base editor origin end folder folder' clock clock' old new
  kept_and_served desk keys base editor origin opened end folder kept folder' clock mid clock' old new stood first same keys_are base_is editor_is origin_is opened_is times book opening fits dated told serves =
      subst (λ (f : F). OpensAndServes m keys base editor origin end f folder' clock clock' old new) same
      (opens_and_serves desk keys base editor origin opened end kept folder' clock mid clock' old new stood first keys_are base_is editor_is origin_is opened_is times book opening fits dated told serves)

  -- a run speaks of the streams alone, and of the folder and the clock that it was given
  module _ (keys : Keys) (base : List ℕ) (editor : Bool) (origin : Option (List ℕ)) (folder folder' : F) (clock clock' : C) (old new old' new' : Outside S K F N D C G)
      (input_is : old.input ≡ old'.input) (input_then : new.input ≡ new'.input) (output_is : old.output ≡ old'.output) (output_then : new.output ≡ new'.output) where
    moved : (end : ConnEnd) → OpensAndServes m keys base editor origin end folder folder' clock clock' old new → OpensAndServes m keys base editor origin end folder folder' clock clock' old' new'
    moved end served =
        let one = served.serves in
        let At : S × S × K × K → Type 0 = λ z. OpensAndServes m keys base editor origin end folder folder' clock clock' (record old' { input = z.0; output = z.2 }) (record new' { input = z.1; output = z.3 }) in
        let streams : (old.input, new.input, old.output, new.output) ≡ (old'.input, new'.input, old'.output, new'.output) =
        λ i. (input_is i, input_then i, output_is i, output_then i)
        in
        let here : At (old.input, new.input, old.output, new.output) = record {
          desk = served.desk;
          mid = served.mid;
          first = served.first;
          stood = served.stood;
          keys_are = served.keys_are;
          base_is = served.base_is;
          editor_is = served.editor_is;
          origin_is = served.origin_is;
          times = served.times;
          opens = served.opens;
          serves = record { last = one.last; serves = one.serves; start = one.start; only = one.only; lawful = one.lawful; folder_is = one.folder_is; kept = one.kept };
          legal = served.legal;
          shown = served.shown;
        }
        in
        subst At streams here

    pub runs_moved : (end : OnceEnd) → OnceRuns m keys base editor origin end folder folder' clock clock' old new → OnceRuns m keys base editor origin end folder folder' clock clock' old' new'
    runs_moved (Served end) served = moved end served
    runs_moved FolderFault none = none
    runs_moved (TooLarge name) none = none
    runs_moved Memory none = none

  -- nor does it speak of the notes
  pub once_noted : (keys : Keys) (base base' : List ℕ) (editor : Bool) (origin origin' : Option (List ℕ)) (end : OnceEnd) (old new : Outside S K F N D C G) (notes : K) → base ≡ base' → origin ≡ origin' → OnceRunsIn m keys base editor origin end old new
      → OnceRunsIn m keys base' editor origin' end old (record new { notes = notes })
  once_noted keys base base' editor origin origin' end old new notes is same ran =
      let new' : Outside S K F N D C G = record new { notes = notes } in
      let noted : OnceRunsIn m keys base editor origin end old new' = record {
        folder = ran.folder;
        folder' = ran.folder';
        folders_are = ran.folders_are;
        folders_then = ran.folders_then;
        clock = ran.clock;
        clock' = ran.clock';
        clocks_are = ran.clocks_are;
        clocks_then = ran.clocks_then;
        runs = runs_moved keys base editor origin ran.folder ran.folder' ran.clock ran.clock' old new old new' refl refl refl refl end ran.runs;
      }
      in
      subst (λ o. OnceRunsIn m keys base' editor o end old new') same (subst (λ b. OnceRunsIn m keys b editor origin end old new') is noted)

pub untouched_noted : {S K F N D C G : Type 0} (end : OnceEnd) (old new : Outside S K F N D C G) (notes : K) → Untouched end old new
    → Untouched end old (record new { notes = notes })
untouched_noted (Served end) old new notes same = tt
untouched_noted FolderFault old new notes same = same
untouched_noted (TooLarge name) old new notes same = same
untouched_noted Memory old new notes same = same

-- status 3 comes only with a fault of reading
pub by_read_fault : {K : Type 0} (R : Type 0) (held : K → Option (List ℕ)) (count : K → ℕ) (status : ℕ) (old new : K) (end : OnceEnd)
    → Finishes held count status old new end → (end ≡ Served conn.ReadFault → R) → status ≡ 3 → R
by_read_fault R held count status old new (Served conn.Done) is cause s = absurd (omega (arith, is.0, s))
by_read_fault R held count status old new (Served conn.ReadFault) is cause s = cause refl
by_read_fault R held count status old new (Served conn.WriteFault) is cause s = absurd (omega (arith, is.0, s))
by_read_fault R held count status old new (Served conn.Lost) is cause s = absurd (omega (arith, is.0, s))
by_read_fault R held count status old new (Served conn.Memory) is cause s = absurd (omega (arith, is.0, s))
by_read_fault R held count status old new FolderFault is cause s = absurd (omega (arith, is.0, s))
by_read_fault R held count status old new (TooLarge name) (inl told) cause s = absurd (omega (arith, told.0, s))
by_read_fault R held count status old new (TooLarge name) (inr want) cause s = absurd (omega (arith, want.0, s))
by_read_fault R held count status old new Memory is cause s = absurd (omega (arith, is.0, s))

-- with any other status the end is no fault of reading
pub by_no_read_fault : {K : Type 0} (R : Type 0) (held : K → Option (List ℕ)) (count : K → ℕ) (status : ℕ) (old new : K) (end : OnceEnd)
    → Finishes held count status old new end → (end ≢ Served conn.ReadFault → R) → status ≢ 3 → R
by_no_read_fault R held count status old new (Served conn.Done) is fine s = fine (λ e. absurd (cc e))
by_no_read_fault R held count status old new (Served conn.ReadFault) is fine s = absurd (s is.0)
by_no_read_fault R held count status old new (Served conn.WriteFault) is fine s = fine (λ e. absurd (cc e))
by_no_read_fault R held count status old new (Served conn.Lost) is fine s = fine (λ e. absurd (cc e))
by_no_read_fault R held count status old new (Served conn.Memory) is fine s = fine (λ e. absurd (cc e))
by_no_read_fault R held count status old new FolderFault is fine s = fine (λ e. absurd (cc e))
by_no_read_fault R held count status old new (TooLarge name) is fine s = fine (λ e. absurd (cc e))
by_no_read_fault R held count status old new Memory is fine s = fine (λ e. absurd (cc e))

-- status 4 comes only with a fault of writing
pub by_write_fault : {K : Type 0} (R : Type 0) (held : K → Option (List ℕ)) (count : K → ℕ) (status : ℕ) (old new : K) (end : OnceEnd)
    → Finishes held count status old new end → (end ≡ Served conn.WriteFault → R) → status ≡ 4 → R
by_write_fault R held count status old new (Served conn.Done) is cause s = absurd (omega (arith, is.0, s))
by_write_fault R held count status old new (Served conn.ReadFault) is cause s = absurd (omega (arith, is.0, s))
by_write_fault R held count status old new (Served conn.WriteFault) is cause s = cause refl
by_write_fault R held count status old new (Served conn.Lost) is cause s = absurd (omega (arith, is.0, s))
by_write_fault R held count status old new (Served conn.Memory) is cause s = absurd (omega (arith, is.0, s))
by_write_fault R held count status old new FolderFault is cause s = absurd (omega (arith, is.0, s))
by_write_fault R held count status old new (TooLarge name) (inl told) cause s = absurd (omega (arith, told.0, s))
by_write_fault R held count status old new (TooLarge name) (inr want) cause s = absurd (omega (arith, want.0, s))
by_write_fault R held count status old new Memory is cause s = absurd (omega (arith, is.0, s))

Finishes-known : {K : Type 0} (held : K → Option (List ℕ)) (count : K → ℕ) (status : ℕ) (old new : K) (end : OnceEnd)
    → Finishes held count status old new end → status ≢ 2
Finishes-known held count status old new (Served conn.Done) is two = absurd (omega (arith, is.0, two))
Finishes-known held count status old new (Served conn.ReadFault) is two = absurd (omega (arith, is.0, two))
Finishes-known held count status old new (Served conn.WriteFault) is two = absurd (omega (arith, is.0, two))
Finishes-known held count status old new (Served conn.Lost) is two = absurd (omega (arith, is.0, two))
Finishes-known held count status old new (Served conn.Memory) is two = absurd (omega (arith, is.0, two))
Finishes-known held count status old new FolderFault is two = absurd (omega (arith, is.0, two))
Finishes-known held count status old new (TooLarge name) (inl told) two = absurd (omega (arith, told.0, two))
Finishes-known held count status old new (TooLarge name) (inr want) two = absurd (omega (arith, want.0, two))
Finishes-known held count status old new Memory is two = absurd (omega (arith, is.0, two))

-- a run of `once` doesn't end as words that are no command
pub OnceEnds-known : {S K F N D C G L : Type 0} (m : Meanings S K F N D C G L) (words : List (List ℕ)) (status : ℕ) (old new : Outside S K F N D C G)
    → OnceEnds m words status old new → status ≢ 2
OnceEnds-known m words status old new (inl want) = λ two. let six = want.status_is in absurd (omega (arith, six, two))
OnceEnds-known m words status old new (inr ran) = Finishes-known m.held m.write_faults status old.notes new.notes ran.end ran.finishes

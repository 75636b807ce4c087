-- A folder beside a log, after a call.
use Rattle.std.proofs.Common.{◌≡◌, ◌≤◌, ◌<◌, ◌+◌, ◌^◌, ◌==◌, ◌||◌, ℕ, Bool, true, false, List, [], ◌∷◌, ◌++◌, length, Option, None, Some, option_map, refl, sym, ap, subst, ◌∙◌, arith, append-nil}
use Rattle.std.specs.Prelude.{is_some, not, ◌&&◌, if◌then◌else◌}
use Rattle.std.proofs.lemmas.Bool.{eqb-false, eqb-true}
use Rattle.std.proofs.lemmas.List.{length-append}
use Rattle.wopi_model.specs.Act.{is_stored}
use Rattle.wopi_model.specs.declared.calls.Ruling.{Ruling}
use Rattle.host_core.specs.Entries.{Asked, Made, accepted_contents, brought_by, ruled, ruled_as}
use Rattle.host_core.specs.Notes.{Brought, accepted, saved_in, told_version}
use Rattle.outside.specs.Log.{IsFront}
use Rattle.host_log.specs.declared.logged.Logged.TheInside.{Inside}
use Rattle.host_log.specs.declared.logged.Saved.{Saved}
use Rattle.host_log.specs.Lines.{AreLines, LinesView, GoesOn, IsOf}
use Rattle.host_log.specs.Logs.{AreToldFirst, AreUnsaved, HasEnded, IsDoubt, IsLogged, MayStand, brought_as, view_of}
use Rattle.host_log.specs.Rows.{IsInDoubt, IsLog, IsTail}
use Rattle.host_log.proofs.Noting.{nothing_accepted}
use Rattle.host_log.proofs.Standing.{front_of, log_of, none_stands}
use Rattle.host_log.proofs.Telling.{first_of, missing_first, more_first}

-- nothing was saved
pub unsaved : (saved : Option Saved) → option_map brought_as saved ≡ None → saved ≡ None
unsaved None is = refl
unsaved (Some one) is = absurd (cc (is))

-- nor was anything, where no line stands for it
pub nothing_saved : (saved : Option Saved) (standing : Option Made) → (is_some saved ≡ true → is_some standing ≡ true) → standing ≡ None → saved ≡ None
nothing_saved None standing stands none = refl
nothing_saved (Some one) standing stands none = none_stands standing _ none (stands refl)

-- no line stands where no call was begun
no_standing : (begun : Option Asked) (saved : Option Brought) (standing : Option Made) → MayStand begun saved standing → begun ≡ None → standing ≡ None
no_standing begun saved None may none = refl
no_standing begun saved (Some one) may none = let (asked, is, stored, stands) = may refl in absurd (cc (is, none))

-- where neither is, none of two is
pub neither_first : (a b : Bool) → (a || b) ≡ false → a ≡ false
neither_first true b is = absurd (cc (is))
neither_first false b is = refl

pub neither_second : (a b : Bool) → (a || b) ≡ false → b ≡ false
neither_second true b is = absurd (cc (is))
neither_second false b is = is

-- of two one is, and not the first
second_of : (a b : Bool) → (a || b) ≡ true → a ≡ false → b ≡ true
second_of true b is not_first = absurd (cc (not_first))
second_of false b is not_first = is

neither_is : (a b : Bool) → (not a && not b) ≡ not (a || b)
neither_is true b = refl
neither_is false b = refl

pub unlost : (b : Bool) → not b ≡ true → b ≡ false
unlost true is = absurd (cc (is))
unlost false is = refl

-- one more was ended
pub ended_made : (all made made' : List Made) (lost spent : Bool) (ruling : Ruling) (one one' : Asked) → all ≡ made ++ ruled_as (not lost && not spent) ruling one ∷ [] → made ≡ made' → one ≡ one'
    → all ≡ made' ++ ruled_as (not (lost || spent)) ruling one' ∷ []
ended_made all made made' lost spent ruling one one' more same is =
    more ∙ ap (λ (l : List Made). l ++ ruled_as (not lost && not spent) ruling one ∷ []) same ∙ ap (λ (a : Asked). made' ++ ruled_as (not lost && not spent) ruling a ∷ []) is
    ∙ ap (λ (b : Bool). made' ++ ruled_as b ruling one' ∷ []) (neither_is lost spent)

-- one more is none
one_more : (made : List Made) (one : Made) → AreUnsaved made → accepted_contents one ≡ None → AreUnsaved (made ++ one ∷ [])
one_more [] one are is = (is, tt)
one_more (first ∷ made) one are is = (are.0, one_more made one are.1 is)

-- what was saved was accepted
saved_status : (one : Made) (saved : Brought) → Some saved ≡ saved_in one → one.step.ruling.status ≡ 200
saved_status one saved is = go (one.step.ruling.status == 200) refl is where
  go : (b : Bool) → (one.step.ruling.status == 200) ≡ b → Some saved ≡ (if b then option_map {U = Brought} (λ contents. (one.step.ruling.version, contents)) (brought_by one.step.call.act) else None) → one.step.ruling.status ≡ 200
  go true test is = eqb-true one.step.ruling.status 200 test
  go false test is = absurd (cc (is))

-- true or false
either : (b : Bool) (P : Type 0) → (b ≡ true → P) → (b ≡ false → P) → P
either true P there away = there refl
either false P there away = away refl

-- the entry in doubt is of the call that is begun
doubt_begun : (begun : Option Asked) (one : Asked) (missing : List Made) (doubt : Option Made) → begun ≡ Some one → missing ≡ [] → IsOf one doubt → IsDoubt begun missing doubt
doubt_begun begun one missing doubt is none of = subst (λ (b : Option Asked). IsDoubt b missing doubt) (sym is) (none, of)

-- and is the same where nothing changed
doubt_same : (begun : Option Asked) (missing : List Made) (doubt doubt' : Option Made) → doubt' ≡ doubt → IsDoubt begun missing doubt → IsDoubt begun missing doubt'
doubt_same begun missing doubt doubt' same is = subst (λ (d : Option Made). IsDoubt begun missing d) (sym same) is

-- the call was given up
doubt_given_up : (begun : Option Asked) (missing : List Made) (doubt : Option Made) → IsDoubt begun missing doubt → IsDoubt None missing doubt
doubt_given_up None missing doubt is = is
doubt_given_up (Some one) missing doubt is = subst (λ (l : List Made). IsDoubt None l doubt) (sym is.0) tt

-- it was ended, and is missing
doubt_ended : (ruling : Ruling) (one : Asked) (missing missing' : List Made) (doubt : Option Made) → missing ≡ [] → missing' ≡ missing ++ ruled_as false ruling one ∷ [] → IsOf one doubt
    → IsDoubt None missing' doubt
doubt_ended ruling one missing missing' doubt none more of =
    let alone : missing' ≡ ruled_as false ruling one ∷ [] = more ∙ ap (λ (l : List Made). l ++ ruled_as false ruling one ∷ []) none in
    subst (λ (l : List Made). IsDoubt None l doubt) (sym alone) (refl, of)

-- more are counted yet
unspent : (count : ℕ) (spent : Bool) → spent ≡ (count == 4611686018427387904) → count < 2 ^ 62 → not spent ≡ true
unspent count false test few = refl
unspent count true test few = let full = eqb-true count 4611686018427387904 (sym test) in absurd (omega (arith, full, few))

module _ {F L : Type 0} where
  -- as many are told or missing
  as_many : (i : Inside F L) (told : List Made) → told ≡ i.lines.told → IsLogged i → i.count ≡ length (told ++ i.missing)
  as_many i told same inv = inv.number ∙ sym (ap (λ (l : List Made). length (l ++ i.missing)) same)

  -- and the same may be told
  may_as : (i : Inside F L) (told : List Made) → told ≡ i.lines.told → IsLogged i → AreToldFirst i.count told i.missing
  may_as i told same inv = subst (λ (l : List Made). AreToldFirst i.count l i.missing) (sym same) inv.may

  -- a line that stands is that of the call that was begun
  pub own_standing : (i : Inside F L) (begun : Asked) → IsLogged i → i.begun ≡ Some begun → is_some i.lines.standing ≡ true → IsOf begun i.lines.standing
  own_standing i begun inv is some =
      let (one, was, stored, stands) = inv.ahead some in
      let same : one ≡ begun = cc (was, is) in
      let version = told_version (option_map brought_as i.saved) in
      (accepted version, stands ∙ ap (λ (a : Asked). Some (ruled (accepted version) a)) same)

  -- of the call that was begun, where the log was lost before it was ended
  begun_doubt : (i : Inside F L) (one : Asked) → IsLogged i → i.begun ≡ Some one → i.lines.lost ≡ true → (i.missing ≡ []) × IsOf one i.lines.doubt
  begun_doubt i one inv is lost = subst (λ (b : Option Asked). IsDoubt b i.missing i.lines.doubt) is (inv.doubt_is lost)

  -- an entry at whose end the log was lost is no save that was accepted
  pub missing_bare : (i : Inside F L) (lost : Bool) (ruling : Ruling) (one : Asked) → IsLogged i → option_map brought_as i.saved ≡ saved_in (ruled ruling one)
      → (i.lines.lost ≡ false → is_some i.lines.standing ≡ true → ruling.status ≡ 200 → lost ≡ false) → lost ≡ true → accepted_contents (ruled_as false ruling one) ≡ None
  missing_bare i lost ruling one inv kept settled is = go i.saved refl
    where
      go : (s : Option Saved) → i.saved ≡ s → accepted_contents (ruled_as false ruling one) ≡ None
      go None none = nothing_accepted (ruled ruling one) (sym kept ∙ ap (λ (o : Option Saved). option_map brought_as o) none)
      go (Some saved) some =
          let there : is_some i.saved ≡ true = ap (λ (o : Option Saved). is_some o) some in
          let fine : i.lines.lost ≡ false = inv.safe there in
          let status : ruling.status ≡ 200 = saved_status (ruled ruling one) (brought_as saved) (sym (ap (λ (o : Option Saved). option_map brought_as o) some) ∙ kept) in
          absurd (cc (is, settled fine (inv.stands fine there) status))

  -- a call was begun
  pub begun_logged : (i : Inside F L) (one : Asked) → IsLogged i → i.begun ≡ None → (i.lines.lost || i.spent) ≡ false → IsLogged (record i { begun = Some one; saved = None })
  begun_logged i one inv none going =
      let fine = neither_first i.lines.lost i.spent going in
      let spare = inv.spare (neither_second i.lines.lost i.spent going) in
      record {
        told = inv.told;
        doubt_is = λ lost. absurd (cc (fine, lost));
        ahead = λ some. let (other, is, stored, stands) = inv.ahead some in absurd (cc (is, none));
        stands = λ _ some. absurd (cc (some));
        safe = λ some. absurd (cc (some));
        unsaved = inv.unsaved;
        refusals = inv.refusals;
        number = inv.number;
        few = inv.few;
        spare = inv.spare;
        full = inv.full;
        head_is = inv.head_is;
        room = λ _. spare;
        may = inv.may;
      }

  -- the log was lost, and a call failed for that
  pub refused_logged : (i : Inside F L) (lines : LinesView) (refused : ℕ) (one : Asked) → IsLogged i → i.begun ≡ Some one → lines.told ≡ i.lines.told → GoesOn i.lines lines → lines.lost ≡ true
      → lines.standing ≡ None → (i.lines.lost ≡ false → IsOf one lines.doubt) → (i.lines.lost ≡ true → lines.doubt ≡ i.lines.doubt) → i.saved ≡ None → IsLogged (record i { lines = lines; refused = refused })
  refused_logged i lines refused one inv is same goes lost free at still none = record {
    told = λ fine. absurd (cc (fine, lost));
    doubt_is = λ _. either i.lines.lost (IsDoubt i.begun i.missing lines.doubt)
        (λ was. doubt_same i.begun i.missing i.lines.doubt lines.doubt (still was) (inv.doubt_is was))
        (λ fine. doubt_begun i.begun one i.missing lines.doubt is (inv.told fine) (at fine));
    ahead = λ some. none_stands lines.standing _ free some;
    stands = λ fine. absurd (cc (fine, lost));
    safe = λ some. none_stands i.saved _ none some;
    unsaved = inv.unsaved;
    refusals = λ fine. absurd (cc (fine, lost));
    number = as_many i lines.told same inv;
    few = inv.few;
    spare = inv.spare;
    full = inv.full;
    head_is = goes.head ∙ inv.head_is;
    room = inv.room;
    may = may_as i lines.told same inv;
  }

  -- a line stands, and the folder took what it tells
  pub saved_logged : (i : Inside F L) (folder : F) (lines : LinesView) (saved : Saved) (one : Asked) → IsLogged i → lines.told ≡ i.lines.told → lines.lost ≡ false → GoesOn i.lines lines
      → i.begun ≡ Some one → is_stored one.call.act ≡ true → lines.standing ≡ Some (ruled (accepted (Some saved.version)) one)
      → IsLogged (record i { folder = folder; lines = lines; saved = Some saved })
  saved_logged i folder lines saved one inv same going goes is stored stands = record {
    told = λ fine. inv.told (goes.lost fine);
    doubt_is = λ lost. absurd (cc (going, lost));
    ahead = λ _. (one, is, stored, stands);
    stands = λ _ _. ap (λ (o : Option Made). is_some o) stands;
    safe = λ _. going;
    unsaved = inv.unsaved;
    refusals = λ fine. inv.refusals (goes.lost fine);
    number = as_many i lines.told same inv;
    few = inv.few;
    spare = inv.spare;
    full = inv.full;
    head_is = goes.head ∙ inv.head_is;
    room = inv.room;
    may = may_as i lines.told same inv;
  }

  -- a line stands, and the folder removed what it tells
  pub cleared_logged : (i : Inside F L) (folder : F) (lines : LinesView) (one : Asked) → IsLogged i → lines.told ≡ i.lines.told → lines.lost ≡ false → GoesOn i.lines lines → i.saved ≡ None
      → i.begun ≡ Some one → is_stored one.call.act ≡ true → lines.standing ≡ Some (ruled (accepted None) one) → IsLogged (record i { folder = folder; lines = lines })
  cleared_logged i folder lines one inv same going goes none is stored stands =
      let version : None ≡ told_version (option_map brought_as i.saved) = ap (λ (s : Option Saved). told_version (option_map brought_as s)) (sym none) in
      record {
        told = λ fine. inv.told (goes.lost fine);
        doubt_is = λ lost. absurd (cc (going, lost));
        ahead = λ _. (one, is, stored, stands ∙ ap (λ (v : Option ℕ). Some (ruled (accepted v) one)) version);
        stands = λ _ some. none_stands i.saved _ none some;
        safe = λ some. none_stands i.saved _ none some;
        unsaved = inv.unsaved;
        refusals = λ fine. inv.refusals (goes.lost fine);
        number = as_many i lines.told same inv;
        few = inv.few;
        spare = inv.spare;
        full = inv.full;
        head_is = goes.head ∙ inv.head_is;
        room = inv.room;
        may = may_as i lines.told same inv;
      }

  -- a line was taken back
  pub back_logged : (i : Inside F L) (folder : F) (between lines : LinesView) (ruling : Ruling) (one : Asked) → IsLogged i → i.begun ≡ Some one → between.told ≡ i.lines.told
      → lines.told ≡ between.told → between.lost ≡ false → GoesOn i.lines between → GoesOn between lines → i.saved ≡ None → lines.standing ≡ None
      → between.standing ≡ Some (ruled ruling one) → (lines.lost ≡ true → lines.doubt ≡ between.standing) → IsLogged (record i { folder = folder; lines = lines })
  back_logged i folder between lines ruling one inv is same same' going goes goes' none free stood at = record {
    told = λ fine. inv.told (goes.lost (goes'.lost fine));
    doubt_is = λ lost. doubt_begun i.begun one i.missing lines.doubt is (inv.told (goes.lost going)) (ruling, at lost ∙ stood);
    ahead = λ some. none_stands lines.standing _ free some;
    stands = λ _ some. none_stands i.saved _ none some;
    safe = λ some. none_stands i.saved _ none some;
    unsaved = inv.unsaved;
    refusals = λ fine. inv.refusals (goes.lost (goes'.lost fine));
    number = as_many i lines.told (same' ∙ same) inv;
    few = inv.few;
    spare = inv.spare;
    full = inv.full;
    head_is = goes'.head ∙ goes.head ∙ inv.head_is;
    room = inv.room;
    may = may_as i lines.told (same' ∙ same) inv;
  }

  -- the call that was begun is none
  pub given_up_logged : (i : Inside F L) (lines : LinesView) → IsLogged i → lines.told ≡ i.lines.told → GoesOn i.lines lines → lines.standing ≡ None
      → (i.lines.lost ≡ true → lines.doubt ≡ i.lines.doubt) → IsLogged (record i { lines = lines; begun = None; saved = None })
  given_up_logged i lines inv same goes free still = record {
    told = λ fine. inv.told (goes.lost fine);
    doubt_is = λ _. either i.lines.lost (IsDoubt None i.missing lines.doubt)
        (λ was. doubt_same None i.missing i.lines.doubt lines.doubt (still was) (doubt_given_up i.begun i.missing i.lines.doubt (inv.doubt_is was)))
        (λ fine. subst (λ (l : List Made). IsDoubt None l lines.doubt) (sym (inv.told fine)) tt);
    ahead = λ some. none_stands lines.standing _ free some;
    stands = λ _ some. absurd (cc (some));
    safe = λ some. absurd (cc (some));
    unsaved = inv.unsaved;
    refusals = λ fine. inv.refusals (goes.lost fine);
    number = as_many i lines.told same inv;
    few = inv.few;
    spare = inv.spare;
    full = inv.full;
    head_is = goes.head ∙ inv.head_is;
    room = λ some. absurd (cc (some));
    may = may_as i lines.told same inv;
  }

  -- an entry was ended
  pub ended_logged : (i : Inside F L) (lines : LinesView) (missing : List Made) (count : ℕ) (spent : Bool) (begun : Option Asked) (ruling : Ruling) (one : Asked) → IsLogged i → begun ≡ None
      → i.begun ≡ Some one → GoesOn i.lines lines → lines.told ++ missing ≡ (i.lines.told ++ i.missing) ++ ruled_as (not lines.lost && not spent) ruling one ∷ []
      → (lines.lost ≡ false → lines.told ≡ i.lines.told ++ ruled_as (not spent) ruling one ∷ []) → (lines.lost ≡ true → lines.told ≡ i.lines.told) → (lines.lost ≡ false → missing ≡ [])
      → (lines.lost ≡ true → missing ≡ i.missing ++ ruled_as false ruling one ∷ []) → (i.lines.lost ≡ false → lines.lost ≡ true → IsOf one lines.doubt)
      → (i.lines.lost ≡ true → lines.doubt ≡ i.lines.doubt) → lines.standing ≡ None → count ≡ i.count + 1 → spent ≡ (count == 4611686018427387904)
      → (lines.lost ≡ true → accepted_contents (ruled_as false ruling one) ≡ None)
      → IsLogged (record i { lines = lines; missing = missing; count = count; begun = begun; saved = None; spent = spent })
  ended_logged i lines missing count spent begun ruling one inv over is goes more told stays present late at still free next test bare =
      let long : length (lines.told ++ missing) ≡ length (i.lines.told ++ i.missing) + 1 =
      ap (λ (l : List Made). length l) more ∙ length-append (i.lines.told ++ i.missing) (ruled_as (not lines.lost && not spent) ruling one ∷ []) in
      let room : i.count < 2 ^ 62 = inv.room (ap (λ (b : Option Asked). is_some b) is) in
      let number = inv.number in
      let few : count ≤ 2 ^ 62 = omega (arith, room, next) in
      record {
        told = present;
        doubt_is = λ lost. subst (λ (b : Option Asked). IsDoubt b missing lines.doubt) (sym over) (either i.lines.lost (IsDoubt None missing lines.doubt)
            (λ was. let (none, of) = begun_doubt i one inv is was in
            doubt_ended ruling one i.missing missing lines.doubt none (late lost) (of.0, still was ∙ of.1))
            (λ fine. doubt_ended ruling one i.missing missing lines.doubt (inv.told fine) (late lost) (at fine lost)));
        ahead = λ some. none_stands lines.standing _ free some;
        stands = λ _ some. absurd (cc (some));
        safe = λ some. absurd (cc (some));
        unsaved = either lines.lost (AreUnsaved missing)
            (λ lost. subst AreUnsaved (sym (late lost)) (one_more i.missing (ruled_as false ruling one) inv.unsaved (bare lost)))
            (λ fine. subst AreUnsaved (sym (present fine)) tt);
        refusals = λ fine. inv.refusals (goes.lost fine);
        number = omega (arith, next, number, long);
        few = few;
        spare = λ left. let other = eqb-false count 4611686018427387904 (sym test ∙ left) in omega (arith, few, other);
        full = λ over. eqb-true count 4611686018427387904 (sym test ∙ over);
        head_is = goes.head ∙ inv.head_is;
        room = λ some. none_stands begun _ over some;
        may = either lines.lost (AreToldFirst count lines.told missing)
            (λ lost. missing_first i.count count i.lines.told lines.told i.missing missing ruling one inv.may room (stays lost) (late lost))
            (λ fine. more_first count i.lines.told lines.told missing (not spent) ruling one (inv.may.all room) (unspent count spent test) (told fine) (present fine));
      }

  -- what is held and synced is what the log has
  log_as : (i : Inside F L) (held synced : Option (List ℕ)) (told : List Made) (tail : List ℕ) → held ≡ i.lines.held → synced ≡ i.lines.synced → told ≡ i.lines.told
      → IsLog i.lines.all i.lines.start i.lines.held i.lines.synced i.lines.head i.lines.told tail → IsLog i.lines.all i.lines.start held synced i.lines.head told tail
  log_as i held synced told tail same reached made log =
      let all : IsLog i.lines.all i.lines.start i.lines.held i.lines.synced i.lines.head told tail = subst (λ (l : List Made). IsLog i.lines.all i.lines.start i.lines.held i.lines.synced i.lines.head l tail) (sym made) log in
      let there : IsLog i.lines.all i.lines.start held i.lines.synced i.lines.head told tail = subst (λ (h : Option (List ℕ)). IsLog i.lines.all i.lines.start h i.lines.synced i.lines.head told tail) (sym same) all in
      subst (λ (s : Option (List ℕ)). IsLog i.lines.all i.lines.start held s i.lines.head told tail) (sym reached) there

  -- unless it was lost, the log has all entries
  told_log : (i : Inside F L) (held synced : Option (List ℕ)) → IsLogged i → AreLines i.lines → held ≡ i.lines.held → synced ≡ i.lines.synced → i.lines.lost ≡ false → i.begun ≡ None
      → IsLog i.lines.all i.lines.start held synced i.lines.head (i.lines.told ++ i.missing) []
  told_log i held synced inv are same reached fine none =
      let free = no_standing i.begun (option_map brought_as i.saved) i.lines.standing inv.ahead none in
      let made : i.lines.told ++ i.missing ≡ i.lines.told = ap (λ (l : List Made). i.lines.told ++ l) (inv.told fine) ∙ append-nil i.lines.told in
      let log : IsLog i.lines.all i.lines.start i.lines.held i.lines.synced i.lines.head i.lines.told [] = log_of i.lines are fine None free in
      log_as i held synced (i.lines.told ++ i.missing) [] same reached made log

  -- and else those that were told, and a front of one line
  lost_log : (i : Inside F L) (held synced : Option (List ℕ)) → AreLines i.lines → held ≡ i.lines.held → synced ≡ i.lines.synced → i.lines.lost ≡ true
      → (tail : List ℕ) × IsInDoubt i.lines.head i.lines.told i.lines.doubt tail × IsLog i.lines.all i.lines.start held synced i.lines.head i.lines.told tail
  lost_log i held synced are same reached lost =
      let doubt : IsTail i.lines.head i.lines.told true i.lines.standing i.lines.doubt are.tail = subst (λ (b : Bool). IsTail i.lines.head i.lines.told b i.lines.standing i.lines.doubt are.tail) lost are.tail_is in
      (are.tail, doubt.1, log_as i held synced i.lines.told are.tail same reached refl are.log)

  -- what is left at the end
  pub left_at_end : (i : Inside F L) (held synced : Option (List ℕ)) (faults : ℕ) → IsLogged i → AreLines i.lines → held ≡ i.lines.held → synced ≡ i.lines.synced → faults ≡ i.lines.faults
      → HasEnded (view_of i) i.folder held synced faults
  left_at_end i held synced faults inv are same reached count =
      let first = first_of i.count i.lines.told i.missing inv.may in
      record {
        folder_is = refl;
        faults_are = count;
        log = refl;
        head_is = inv.head_is;
        made = refl;
        rest = first.0;
        kept = first.1;
        fine = neither_first i.lines.lost i.spent;
        whole = inv.told;
        unsaved = inv.unsaved;
        refusals = inv.refusals;
        front = subst (λ (h : Option (List ℕ)). IsFront i.lines.start h) (sym same) (front_of i.lines are);
        told = λ fine none. told_log i held synced inv are same reached fine none;
        full = λ lost fine. sym inv.number ∙ inv.full (second_of i.lines.lost i.spent lost fine);
        lost = λ lost. lost_log i held synced are same reached lost;
        doubt = inv.doubt_is;
        rose = are.rose;
        counts = are.counts;
      }

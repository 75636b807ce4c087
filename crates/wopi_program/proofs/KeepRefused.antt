-- From stores over logs that were handed back to a run of `serve` that opened no host.
use Rattle.std.proofs.Common.{◌≡◌, ◌⊎◌, ℕ, ◌+◌, ◌||◌, Bool, true, false, true≢false, if◌then◌else◌, inl, inr, List, [], ◌∷◌, ◌++◌, length, map, Option, Some, None, refl, sym, ap, ◌∙◌, subst, append-nil, arith}
use Rattle.std.proofs.lemmas.List.{map-append, length-map}
use Rattle.std.specs.List.{list_any}
use Rattle.outside.specs.Faults.{Rose}
use Rattle.outside.specs.Folder.{Keeps}
use Rattle.outside.specs.Log.{IsFront}
use Rattle.host_core.specs.declared.opening.StartFault.{StartFault}
use Rattle.host_core.specs.declared.opening.StartFault.TheVariants as fault
use Rattle.host_core.specs.Opening.{IsOpening, IsTooLarge, IfTooLarge}
use Rattle.host_core.proofs.Decisions.{keeps_self}
use Rattle.host_log.specs.Logs.{LogView}
use Rattle.host_table.specs.Start.{AreHanded, Blames, HaveOpenings, IsBlamed}
use Rattle.host_table.proofs.Starting.{handed_self}
use Rattle.access_tokens.specs.declared.keys.Keys.{Keys}
use Rattle.wopi_program.specs.declared.outside_world.Outside.{Outside}
use Rattle.wopi_program.specs.declared.serve_words.Keep.{Keep}
use Rattle.wopi_program.specs.declared.serve_words.ServeAsk.{ServeAsk}
use Rattle.wopi_program.specs.declared.serving.ServeEnd.{ServeEnd}
use Rattle.wopi_program.specs.declared.serving.ServeEnd.TheVariants as end
use Rattle.wopi_program.specs.Meanings.{Meanings}
use Rattle.wopi_program.specs.Keep.{AreGrown, AreSame, HasFailed, HasOpenedNone, HasRefusedKeep, KeepRuns}
use Rattle.wopi_program.specs.Paired.{failed_in, faults_of, files_of, opening_end}
use Rattle.wopi_program.specs.Serve.{Opens, refused_end}
use Rattle.wopi_program.proofs.KeepLives.{AreLives, HasLives, IsLife, Life, folder_of, folder_then, last_of, log_of, log_then, same_log, store_of}

or_false : (a b : Bool) → (a || b) ≡ false → (a ≡ false) × (b ≡ false)
or_false false b is = (refl, is)
or_false true b is = absurd (true≢false is)

or_true : (a b : Bool) → (a || b) ≡ true → (a ≡ true) ⊎ (b ≡ true)
or_true true b is = inl refl
or_true false b is = inr is

module _ {S K F N D C G L : Type 0} (m : Meanings S K F N D C G L) (every : Bool) where
  abbrev AreLivesOf : ℕ → List (Life F G) → Type 0
  AreLivesOf = AreLives m.log_held m.log_synced m.log_faults every

  grown : (number : ℕ) (lives : List (Life F G)) → AreLivesOf number lives → AreGrown m (map log_of lives) (map log_then lives)
  grown number [] are = tt
  grown number (life ∷ lives) are =
      let same = same_log m.log_held m.log_synced m.log_faults every number life are.0 in
      let e = are.0.ended in
      let began = same.began in
      let less = e.counts in
      let now = e.faults_are in
      (subst (λ o. IsFront o (m.log_held life.log')) same.start e.front, omega (arith, began, less, now), grown (number + 1) lives are.1)

  kept_files : (number : ℕ) (lives : List (Life F G)) → AreLivesOf number lives → AreHanded (files_of m.files) (faults_of m.folder_faults) (map store_of lives) (map last_of lives)
      → AreSame m (map folder_of lives) (map folder_then lives)
  kept_files number [] are handed = tt
  kept_files number (life ∷ lives) are handed =
      let was = are.0.paired.anew.folder_is in
      let now = are.0.ended.folder_is in (
        subst (λ (f : F). Keeps (m.files life.folder) (m.files f)) (sym now) (subst (λ (f : F). Keeps (m.files f) (m.files life.last.folder)) was handed.0.same),
        kept_files (number + 1) lives are.1 handed.1,
      )

  -- where no log failed no call was refused
  handed_folders : (number : ℕ) (lives : List (Life F G)) → AreLivesOf number lives → list_any failed_in (map last_of lives) ≡ false
      → AreHanded (files_of m.files) (faults_of m.folder_faults) (map store_of lives) (map last_of lives)
      → AreHanded m.files m.folder_faults (map folder_of lives) (map folder_then lives)
  handed_folders number [] are fine handed = tt
  handed_folders number (life ∷ lives) are fine handed =
      let both = or_false life.last.lines.lost (list_any failed_in (map last_of lives)) fine in
      let was : m.folder_faults life.store.folder ≡ m.folder_faults life.folder = ap m.folder_faults are.0.paired.anew.folder_is in
      let now : m.folder_faults life.folder' ≡ m.folder_faults life.last.folder = ap m.folder_faults are.0.ended.folder_is in
      let none = are.0.ended.refusals both.0 in
      let counts = handed.0.counts in
      let same = kept_files number (life ∷ []) (are.0, tt) (handed.0, tt) in (
        record { same = same.0; counts = omega (arith, was, now, none, counts) },
        handed_folders (number + 1) lives are.1 both.1 handed.1,
      )

  has_failed : (number : ℕ) (lives : List (Life F G)) → AreLivesOf number lives → list_any failed_in (map last_of lives) ≡ true → HasFailed m (map log_of lives) (map log_then lives)
  has_failed number [] are failed = absurd (true≢false (sym failed))
  has_failed number (life ∷ lives) are failed =
      let e = are.0.ended in
      let began = (same_log m.log_held m.log_synced m.log_faults every number life are.0).began in
      elim (or_true life.last.lines.lost (list_any failed_in (map last_of lives)) failed) as (λ _. HasFailed m (map log_of (life ∷ lives)) (map log_then (life ∷ lives))) [
        | inl lost ↦ inl (subst (λ n. Rose (m.log_faults life.log) n) (sym e.faults_are) (subst (λ n. Rose n life.last.lines.faults) began (e.rose lost)))
        | inr rest ↦ inr (has_failed (number + 1) lives are.1 rest)
      ]

  -- ---- whose fault it is

  openings_of : (number at : ℕ) (lives : List (Life F G)) (before : List (LogView F)) → AreLivesOf at lives → map store_of lives ≡ before → HaveOpenings (files_of m.files) (faults_of m.folder_faults) number before
      → HaveOpenings m.files m.folder_faults number (map folder_of lives)
  openings_of number at [] before are is have = tt
  openings_of number at (life ∷ lives) [] are is have = absurd (cc is)
  openings_of number at (life ∷ lives) (store ∷ before) are is have =
      let here : store ≡ life.store = cc is in
      let rest : map store_of lives ≡ before = cc is in
      let folder : store.folder ≡ life.folder = ap (λ (s : LogView F). s.folder) here ∙ are.0.paired.anew.folder_is in (
        (have.0.0, subst (λ (f : F). IsOpening (Some number) (m.files f) have.0.0) folder have.0.1, have.0.2),
        openings_of (number + 1) (at + 1) lives before are.1 rest have.1,
      )

  -- a list of lives, cut where their stores are
  pub record IsCut (at : ℕ) (lives : List (Life F G)) (before : List (LogView F)) (old : LogView F) (handed : List (LogView F)) (new : LogView F) : Type 0 where
    pub front : List (Life F G)
    pub life : Life F G
    pub rest : List (Life F G)
    pub lives_are : lives ≡ front ++ life ∷ rest
    pub fronts : AreLivesOf at front
    pub is_life : IsLife m.log_held m.log_synced m.log_faults every (at + length front) life
    pub before_is : map store_of front ≡ before
    pub handed_is : map last_of front ≡ handed
    pub old_is : life.store ≡ old
    pub new_is : life.last ≡ new

  cut : (at : ℕ) (lives : List (Life F G)) (before after handed others : List (LogView F)) (old new : LogView F) → AreLivesOf at lives → map store_of lives ≡ before ++ old ∷ after
      → map last_of lives ≡ handed ++ new ∷ others → length handed ≡ length before → IsCut at lives before old handed new
  cut at [] [] after handed others old new are is lasts there = absurd (cc is)
  cut at [] (b ∷ before) after handed others old new are is lasts there = absurd (cc is)
  cut at (life ∷ lives) [] after [] others old new are is lasts there =
      let here : at ≡ at + 0 = omega arith in
      record {
        front = [];
        life = life;
        rest = lives;
        lives_are = refl;
        fronts = tt;
        is_life = subst (λ n. IsLife m.log_held m.log_synced m.log_faults every n life) here are.0;
        before_is = refl;
        handed_is = refl;
        old_is = cc is;
        new_is = cc lasts;
      }
  cut at (life ∷ lives) [] after (h ∷ handed) others old new are is lasts there = absurd (omega (arith, there))
  cut at (life ∷ lives) (b ∷ before) after [] others old new are is lasts there = absurd (omega (arith, there))
  cut at (life ∷ lives) (b ∷ before) after (h ∷ handed) others old new are is lasts there =
      let store : life.store ≡ b = cc is in
      let stores : map store_of lives ≡ before ++ old ∷ after = cc is in
      let last : life.last ≡ h = cc lasts in
      let more : map last_of lives ≡ handed ++ new ∷ others = cc lasts in
      let r = cut (at + 1) lives before after handed others old new are.1 stores more (omega (arith, there)) in
      let place : (at + 1) + length r.front ≡ at + length (life ∷ r.front) = omega arith in
      record {
        front = life ∷ r.front;
        life = r.life;
        rest = r.rest;
        lives_are = ap (λ (l : List (Life F G)). life ∷ l) r.lives_are;
        fronts = (are.0, r.fronts);
        is_life = subst (λ n. IsLife m.log_held m.log_synced m.log_faults every n r.life) place r.is_life;
        before_is = λ i. store i ∷ r.before_is i;
        handed_is = λ i. last i ∷ r.handed_is i;
        old_is = r.old_is;
        new_is = r.new_is;
      }

  any_front : (front rest : List (Life F G)) (life : Life F G) → list_any failed_in (map last_of (front ++ life ∷ rest)) ≡ false → life.last.lines.lost ≡ false
  any_front [] rest life fine = (or_false life.last.lines.lost (list_any failed_in (map last_of rest)) fine).0
  any_front (first ∷ front) rest life fine =
      any_front front rest life (or_false first.last.lines.lost (list_any failed_in (map last_of (front ++ life ∷ rest))) fine).1

  blames : (lives : List (Life F G)) (refusal : StartFault) → AreLivesOf 0 lives → list_any failed_in (map last_of lives) ≡ false
      → Blames (files_of m.files) (faults_of m.folder_faults) 0 (map store_of lives) (map last_of lives) refusal → Blames m.files m.folder_faults 0 (map folder_of lives) (map folder_then lives) refusal
  blames lives refusal are fine blamed =
      let c = cut 0 lives blamed.before blamed.after blamed.handed blamed.others blamed.old blamed.new are blamed.was blamed.is blamed.there in
      let lost = any_front c.front c.rest c.life (subst (λ (l : List (Life F G)). list_any failed_in (map last_of l) ≡ false) c.lives_are fine) in
      let long : length (map folder_of c.front) ≡ length blamed.before =
      length-map c.front folder_of ∙ sym (length-map c.front store_of) ∙ ap (λ (l : List (LogView F)). length l) c.before_is
      in
      let long' : length (map folder_then c.front) ≡ length (map folder_of c.front) = length-map c.front folder_then ∙ sym (length-map c.front folder_of) in
      let was : blamed.old.folder ≡ c.life.folder = ap (λ (s : LogView F). s.folder) (sym c.old_is) ∙ c.is_life.paired.anew.folder_is in
      let now : blamed.new.folder ≡ c.life.folder' = ap (λ (s : LogView F). s.folder) (sym c.new_is) ∙ sym c.is_life.ended.folder_is in
      let none : blamed.old.refused ≡ 0 = ap (λ (s : LogView F). s.refused) (sym c.old_is) ∙ c.is_life.paired.anew.refused in
      let none' : blamed.new.refused ≡ 0 = ap (λ (s : LogView F). s.refused) (sym c.new_is) ∙ c.is_life.ended.refusals lost in
      let before : m.folder_faults blamed.old.folder + blamed.old.refused ≡ m.folder_faults c.life.folder = let e = ap m.folder_faults was in omega (arith, none, e) in
      let after : m.folder_faults blamed.new.folder + blamed.new.refused ≡ m.folder_faults c.life.folder' = let e = ap m.folder_faults now in omega (arith, none', e) in
      record {
        before = map folder_of c.front;
        old = c.life.folder;
        after = map folder_of c.rest;
        was = ap (map folder_of) c.lives_are ∙ map-append folder_of c.front (c.life ∷ c.rest);
        fine = openings_of 0 0 c.front blamed.before c.fronts c.before_is blamed.fine;
        handed = map folder_then c.front;
        new = c.life.folder';
        others = map folder_then c.rest;
        is = ap (map folder_then) c.lives_are ∙ map-append folder_then c.front (c.life ∷ c.rest);
        there = long';
        too_large = subst (λ n. IfTooLarge refusal (IsTooLarge (Some (0 + n)) (m.files c.life.folder))) (sym long)
            (subst (λ (f : F). IfTooLarge refusal (IsTooLarge (Some (0 + length blamed.before)) (m.files f))) was blamed.too_large);
        failed = λ is. subst (λ n. Rose (m.folder_faults c.life.folder) n) after (subst (λ n. Rose n (m.folder_faults blamed.new.folder + blamed.new.refused)) before (blamed.failed is));
      }

  is_blamed : (lives : List (Life F G)) (refusal : StartFault) → AreLivesOf 0 lives → list_any failed_in (map last_of lives) ≡ false
      → IsBlamed (files_of m.files) (faults_of m.folder_faults) (map store_of lives) (map last_of lives) refusal → IsBlamed m.files m.folder_faults (map folder_of lives) (map folder_then lives) refusal
  is_blamed lives fault.FolderFault are fine blamed = blames lives fault.FolderFault are fine blamed
  is_blamed lives (fault.TooLarge name) are fine blamed = blames lives (fault.TooLarge name) are fine blamed
  is_blamed lives fault.Memory are fine blamed = tt

  -- ---- a run

  pub same_self : (folders : List F) → AreSame m folders folders
  same_self [] = tt
  same_self (folder ∷ folders) = (keeps_self (m.files folder), same_self folders)

  front_self : (o : Option (List ℕ)) → IsFront o o
  front_self None = ([], tt)
  front_self (Some bytes) = ([], sym (append-nil bytes))

  pub grown_self : (logs : List G) → AreGrown m logs logs
  grown_self [] = tt
  grown_self (log ∷ logs) = (front_self (m.log_held log), omega arith, grown_self logs)

  module _ (keys : Keys) (base : List ℕ) (origin : Option (List ℕ)) (ask : ServeAsk) (keep : Keep) (old new : Outside S K F N D C G) where
    -- for want of memory before anything was opened
    pub keep_wanted : (opened : ℕ) → new.notes ≡ old.notes → new.listeners.items ≡ old.listeners.items → new.folders.items ≡ old.folders.items → new.logs.items ≡ old.logs.items
        → Opens m.work.moments opened old.clocks.items new.clocks.items → KeepRuns m keys base origin ask keep new.notes end.Memory old new
    keep_wanted opened notes listeners folders logs opens =
        let both : (old.folders.items, old.logs.items) ≡ (new.folders.items, new.logs.items) = λ i. (sym folders i, sym logs i) in
        let P : List F × List G → Type 0 = λ z. AreSame m old.folders.items z.0 × AreGrown m old.logs.items z.1 × AreHanded m.files m.folder_faults old.folders.items z.0 in
        let all : P (new.folders.items, new.logs.items) = subst P both (same_self old.folders.items, grown_self old.logs.items, handed_self m.files m.folder_faults old.folders.items) in
        inl ((notes, listeners, all.0, all.1, (opened, opens)), all.2, tt)

    opened_none : (refusal : StartFault) → HasRefusedKeep m keys base origin ask keep new.notes refusal old new → KeepRuns m keys base origin ask keep new.notes (refused_end refusal) old new
    opened_none fault.FolderFault refused = refused
    opened_none (fault.TooLarge name) refused = refused
    opened_none fault.Memory refused = inl refused

    -- over stores that were handed back
    pub keep_refused : (opened : ℕ) (stores lasts : List (LogView F)) (refusal : StartFault) (e : ServeEnd) → new.notes ≡ old.notes → new.listeners.items ≡ old.listeners.items
        → HasLives m.log_held m.log_synced m.log_faults every 0 old.folders.items old.logs.items stores lasts new.folders.items new.logs.items
        → AreHanded (files_of m.files) (faults_of m.folder_faults) stores lasts → IsBlamed (files_of m.files) (faults_of m.folder_faults) stores lasts refusal
        → Opens m.work.moments opened old.clocks.items new.clocks.items → e ≡ opening_end lasts refusal → KeepRuns m keys base origin ask keep new.notes e old new
    keep_refused opened stores lasts refusal e notes listeners h handed blamed opens is =
        go (list_any failed_in (map last_of h.lives)) refl
      where
        given : AreHanded (files_of m.files) (faults_of m.folder_faults) (map store_of h.lives) (map last_of h.lives)
        given = subst (λ (l : List (LogView F)). AreHanded (files_of m.files) (faults_of m.folder_faults) (map store_of h.lives) l) (sym h.lasts_are)
            (subst (λ (l : List (LogView F)). AreHanded (files_of m.files) (faults_of m.folder_faults) l lasts) (sym h.stores_are) handed)

        whose : IsBlamed (files_of m.files) (faults_of m.folder_faults) (map store_of h.lives) (map last_of h.lives) refusal
        whose = subst (λ (l : List (LogView F)). IsBlamed (files_of m.files) (faults_of m.folder_faults) (map store_of h.lives) l refusal) (sym h.lasts_are)
            (subst (λ (l : List (LogView F)). IsBlamed (files_of m.files) (faults_of m.folder_faults) l lasts refusal) (sym h.stores_are) blamed)

        folders : ◌≡◌ {A = List F × List F} (map folder_of h.lives, map folder_then h.lives) (old.folders.items, new.folders.items)
        folders = λ i. (h.folders_are i, h.folders_then i)

        logs : ◌≡◌ {A = List G × List G} (map log_of h.lives, map log_then h.lives) (old.logs.items, new.logs.items)
        logs = λ i. (h.logs_are i, h.logs_then i)

        none : HasOpenedNone m keys base origin ask keep new.notes old new
        none = (
          notes,
          listeners,
          subst (λ (z : List F × List F). AreSame m z.0 z.1) folders (kept_files 0 h.lives h.are given),
          subst (λ (z : List G × List G). AreGrown m z.0 z.1) logs (grown 0 h.lives h.are),
          (opened, opens),
        )

        -- the end, by whether a log failed
        ends_so : (b : Bool) → list_any failed_in (map last_of h.lives) ≡ b → e ≡ (if b then end.JournalFault else refused_end refusal)
        ends_so b any =
            is ∙ ap (λ (l : List (LogView F)). opening_end l refusal) (sym h.lasts_are)
            ∙ ap (λ (c : Bool). if c then end.JournalFault else refused_end refusal) any

        go : (b : Bool) → list_any failed_in (map last_of h.lives) ≡ b → KeepRuns m keys base origin ask keep new.notes e old new
        go true any =
            let failed = subst (λ (z : List G × List G). HasFailed m z.0 z.1) logs (has_failed 0 h.lives h.are any) in
            let runs : KeepRuns m keys base origin ask keep new.notes end.JournalFault old new = inl (none, failed) in
            subst (λ z. KeepRuns m keys base origin ask keep new.notes z old new) (sym (ends_so true any)) runs
        go false any =
            let refused : HasRefusedKeep m keys base origin ask keep new.notes refusal old new = (
              none,
              subst (λ (z : List F × List F). AreHanded m.files m.folder_faults z.0 z.1) folders (handed_folders 0 h.lives h.are any given),
              subst (λ (z : List F × List F). IsBlamed m.files m.folder_faults z.0 z.1 refusal) folders (is_blamed h.lives refusal h.are any whose),
            )
            in
            subst (λ z. KeepRuns m keys base origin ask keep new.notes z old new) (sym (ends_so false any)) (opened_none refusal refused)

-- What a shard goes on with is what was left.
use Rattle.std.proofs.Common.{◌≡◌, ◌+◌, ℕ, suc, Bool, true, false, if◌then◌else◌, List, [], ◌∷◌, ◌++◌, length, map, filter, is_none, Option, None, Some, option_map, unwrap_or, refl, sym, ap, subst, ◌∙◌}
use Rattle.std.proofs.lemmas.Slice.Eq.{bytes_eq-Decides}
use Rattle.std.specs.Str.{bytes_eq}
use Rattle.std.specs.List.{AllByRecursion}
use Rattle.outside.specs.Folder.{Files}
use Rattle.wopi_model.specs.Begin.{Begin, at_name}
use Rattle.wopi_model.specs.File.{File, never_met}
use Rattle.wopi_model.specs.Settle.{settled}
use Rattle.wopi_model.specs.Shard.{Opening, Shard, begun}
use Rattle.host_core.specs.declared.life.Life.{Life}
use Rattle.host_core.specs.declared.life.LifeFile.{LifeFile}
use Rattle.host_core.specs.Life.{IsGoodLife, TellsFile, TellsShard, file_on, found_as, found_on, goes_on, gone_on, is_as_told, is_gone, life_names, mended, mended_by, mended_with, told_at, version_with}
use Rattle.host_core.specs.Names.{AreOnce, place_in}
use Rattle.host_core.specs.Opening.{IsOpening, MayKeep, opened_contents}
use Rattle.host_core.specs.Places.{first_of}
use Rattle.host_core.proofs.Goods.{told_none}

-- ---- the folder, by one name

pub mended_untold : (life : List LifeFile) (files : Files) (name : List ℕ) → told_at life name ≡ None → mended life files name ≡ files name
mended_untold [] files name e = refl
mended_untold (file ∷ life) files name e = go (bytes_eq file.name name) refl (λ h. mended_untold life (mended_by file files) name h) e where
  go : (b : Bool) → bytes_eq file.name name ≡ b → (told_at life name ≡ None → mended life (mended_by file files) name ≡ mended_by file files name) → (if b then Some file else told_at life name) ≡ None → mended life (mended_by file files) name ≡ files name
  go true at rest h = absurd (cc (h))
  go false at rest h = rest h ∙ ap (λ (c : Bool). if c then mended_with file.contents (files name) else files name) at

pub mended_told : (life : List LifeFile) (files : Files) (name : List ℕ) (told : LifeFile) → AreOnce (life_names life) → told_at life name ≡ Some told → mended life files name ≡ mended_with told.contents (files name)
mended_told [] files name told once e = absurd (cc (e))
mended_told (file ∷ life) files name told once e = go (bytes_eq file.name name) refl (λ h. mended_told life (mended_by file files) name told once.1 h) e where
  same : (x y : LifeFile) → Some x ≡ Some y → x ≡ y
  same x y h = ap (λ (o : Option LifeFile). unwrap_or o x) h

  go : (b : Bool) → bytes_eq file.name name ≡ b → (told_at life name ≡ Some told → mended life (mended_by file files) name ≡ mended_with told.contents (mended_by file files name))
      → (if b then Some file else told_at life name) ≡ Some told → mended life (mended_by file files) name ≡ mended_with told.contents (files name)
  go true at rest h =
      let none : place_in (life_names life) name ≡ None = subst (λ (n : List ℕ). place_in (life_names life) n ≡ None) ((bytes_eq-Decides file.name name).0 at) once.0 in
      mended_untold life (mended_by file files) name (told_none life name none)
      ∙ ap (λ (c : Bool). if c then mended_with file.contents (files name) else files name) at
      ∙ ap (λ (f : LifeFile). mended_with f.contents (files name)) (same file told h)
  go false at rest h =
      rest h
      ∙ ap (λ (c : Bool). mended_with told.contents (if c then mended_with file.contents (files name) else files name)) at

-- ---- the beginning, by one name

at_found : (life : Life) (other : File) (rest : List (List ℕ × File)) (opening : Opening) (name held : List ℕ) → opened_contents opening name ≡ Some held
    → at_name other (map (found_on life) opening ++ rest) name ≡ found_as life.first life.now (told_at life.files.items name) held
at_found life other rest [] name held e = absurd (cc (e))
at_found life other rest (one ∷ opening) name held e = go (bytes_eq one.0 name) refl (λ h. at_found life other rest opening name held h) e where
  same : (x y : List ℕ) → Some x ≡ Some y → x ≡ y
  same x y h = ap (λ (o : Option (List ℕ)). unwrap_or o x) h

  go : (b : Bool) → bytes_eq one.0 name ≡ b
      → (opened_contents opening name ≡ Some held → at_name other (map (found_on life) opening ++ rest) name ≡ found_as life.first life.now (told_at life.files.items name) held)
      → (if b then Some one.1 else opened_contents opening name) ≡ Some held
      → (if b then found_as life.first life.now (told_at life.files.items one.0) one.1 else at_name other (map (found_on life) opening ++ rest) name) ≡ found_as life.first life.now (told_at life.files.items name) held
  go true at more h =
      ap (λ (n : List ℕ). found_as life.first life.now (told_at life.files.items n) one.1) ((bytes_eq-Decides one.0 name).0 at)
      ∙ ap (λ (c : List ℕ). found_as life.first life.now (told_at life.files.items name) c) (same one.1 held h)
  go false at more h = more h

at_unfound : (life : Life) (other : File) (rest : List (List ℕ × File)) (opening : Opening) (name : List ℕ) → opened_contents opening name ≡ None
    → at_name other (map (found_on life) opening ++ rest) name ≡ at_name other rest name
at_unfound life other rest [] name e = refl
at_unfound life other rest (one ∷ opening) name e = go (bytes_eq one.0 name) (λ h. at_unfound life other rest opening name h) e where
  go : (b : Bool) → (opened_contents opening name ≡ None → at_name other (map (found_on life) opening ++ rest) name ≡ at_name other rest name) → (if b then Some one.1 else opened_contents opening name) ≡ None
      → (if b then found_as life.first life.now (told_at life.files.items one.0) one.1 else at_name other (map (found_on life) opening ++ rest) name) ≡ at_name other rest name
  go true more h = absurd (cc (h))
  go false more h = more h

at_ungone : (life : Life) (other : File) (p : LifeFile → Bool) (files : List LifeFile) (name : List ℕ) → told_at files name ≡ None → at_name other (map (gone_on life) (filter p files)) name ≡ other
at_ungone life other p [] name e = refl
at_ungone life other p (file ∷ files) name e = go (p file) (bytes_eq file.name name) refl (λ h. at_ungone life other p files name h) e where
  go : (keep b : Bool) → bytes_eq file.name name ≡ b → (told_at files name ≡ None → at_name other (map (gone_on life) (filter p files)) name ≡ other) → (if b then Some file else told_at files name) ≡ None
      → at_name other (map (gone_on life) (if keep then file ∷ filter p files else filter p files)) name ≡ other
  go keep true at more h = absurd (cc (h))
  go false false at more h = more h
  go true false at more h = ap (λ (c : Bool). if c then file_on life.now file None else at_name other (map (gone_on life) (filter p files)) name) at ∙ more h

at_gone : (life : Life) (other : File) (opening : Opening) (files : List LifeFile) (name : List ℕ) (told : LifeFile) → told_at files name ≡ Some told → opened_contents opening name ≡ None
    → at_name other (map (gone_on life) (filter (is_gone opening) files)) name ≡ file_on life.now told None
at_gone life other opening [] name told e none = absurd (cc (e))
at_gone life other opening (file ∷ files) name told e none = go (is_gone opening file) refl (bytes_eq file.name name) refl (λ h. at_gone life other opening files name told h none) e where
  same : (x y : LifeFile) → Some x ≡ Some y → x ≡ y
  same x y h = ap (λ (o : Option LifeFile). unwrap_or o x) h

  go : (keep : Bool) → is_gone opening file ≡ keep → (b : Bool) → bytes_eq file.name name ≡ b
      → (told_at files name ≡ Some told → at_name other (map (gone_on life) (filter (is_gone opening) files)) name ≡ file_on life.now told None) → (if b then Some file else told_at files name) ≡ Some told
      → at_name other (map (gone_on life) (if keep then file ∷ filter (is_gone opening) files else filter (is_gone opening) files)) name ≡ file_on life.now told None
  go true kept true at more h =
      ap (λ (c : Bool). if c then file_on life.now file None else at_name other (map (gone_on life) (filter (is_gone opening) files)) name) at
      ∙ ap (λ (f : LifeFile). file_on life.now f None) (same file told h)
  go false kept true at more h =
      let there : is_gone opening file ≡ true = ap (λ (n : List ℕ). is_none (opened_contents opening n)) ((bytes_eq-Decides file.name name).0 at) ∙ ap (λ (o : Option (List ℕ)). is_none o) none in
      absurd (cc (sym kept ∙ there))
  go true kept false at more h =
      ap (λ (c : Bool). if c then file_on life.now file None else at_name other (map (gone_on life) (filter (is_gone opening) files)) name) at
      ∙ more h
  go false kept false at more h = more h

of_opening : (P : List ℕ → Type 0) (opening : Opening) (name held : List ℕ) → AllByRecursion (λ file. P file.0) opening → opened_contents opening name ≡ Some held → P name
of_opening P [] name held all e = absurd (cc (e))
of_opening P (one ∷ opening) name held all e = go (bytes_eq one.0 name) refl (λ h. of_opening P opening name held all.1 h) e where
  go : (b : Bool) → bytes_eq one.0 name ≡ b → (opened_contents opening name ≡ Some held → P name) → (if b then Some one.1 else opened_contents opening name) ≡ Some held → P name
  go true at more h = subst P ((bytes_eq-Decides one.0 name).0 at) all.0
  go false at more h = more h

of_life : (P : List ℕ → Type 0) (files : List LifeFile) (name : List ℕ) (told : LifeFile) → AllByRecursion (λ file. P file.name) files → told_at files name ≡ Some told → P name
of_life P [] name told all e = absurd (cc (e))
of_life P (file ∷ files) name told all e = go (bytes_eq file.name name) refl (λ h. of_life P files name told all.1 h) e where
  go : (b : Bool) → bytes_eq file.name name ≡ b → (told_at files name ≡ Some told → P name) → (if b then Some file else told_at files name) ≡ Some told → P name
  go true at more h = subst P ((bytes_eq-Decides file.name name).0 at) all.0
  go false at more h = more h

-- a file that is as it was told goes on at its version
kept_version : (now : ℕ) (told : LifeFile) (held : Option (List ℕ)) → is_as_told told.contents held ≡ true
    → file_on now told held ≡ settled (record { contents = held; version = told.version; lock = told.lock; spent = told.spent.items }) now
kept_version now told held e =
    ap (λ (b : Bool). settled (record { contents = held; version = if b then told.version else told.version + 1; lock = told.lock; spent = told.spent.items }) now) e

pub stands_on : (only : Option ℕ) (files : Files) (life : Life) (shard : Shard) (opening : Opening) → IsGoodLife only life → TellsShard only files life shard → IsOpening only (Some (mended life.files.items files)) opening
    → (name : List ℕ) → at_name (never_met life.first) (goes_on life opening).files name ≡ shard.files name
stands_on only files life shard opening good tells is name = go (told_at life.files.items name) refl (opened_contents opening name) refl where
  gone : List (List ℕ × File)
  gone = map (gone_on life) (filter (is_gone opening) life.files.items)

  go : (told : Option LifeFile) → told_at life.files.items name ≡ told → (held : Option (List ℕ)) → opened_contents opening name ≡ held
      → at_name (never_met life.first) (goes_on life opening).files name ≡ shard.files name
  go None e None h =
      at_unfound life (never_met life.first) gone opening name h ∙ at_ungone life (never_met life.first) (is_gone opening) life.files.items name e ∙ sym (tells.unmet name e)
  go None e (Some held) h =
      let own = of_opening (MayKeep only) opening name held is.taken h in
      absurd (cc (sym h ∙ is.whole name own ∙ mended_untold life.files.items files name e ∙ tells.alone name e own))
  go (Some told) e None h =
      let own = of_life (MayKeep only) life.files.items name told good.own e in
      let whole : mended_with told.contents (files name) ≡ None = sym (mended_told life.files.items files name told good.once e) ∙ sym (is.whole name own) ∙ h in
      let one = tells.told name told e in
      at_unfound life (never_met life.first) gone opening name h ∙ at_gone life (never_met life.first) opening life.files.items name told e h
      ∙ kept_version life.now told None (ap (λ (o : Option (List ℕ)). is_as_told told.contents o) (sym whole) ∙ one.as_told)
      ∙ ap (λ (o : Option (List ℕ)). settled (record { contents = o; version = told.version; lock = told.lock; spent = told.spent.items }) life.now) (sym whole)
      ∙ sym one.stands_is
  go (Some told) e (Some held) h =
      let own = of_life (MayKeep only) life.files.items name told good.own e in
      let whole : mended_with told.contents (files name) ≡ Some held = sym (mended_told life.files.items files name told good.once e) ∙ sym (is.whole name own) ∙ h in
      let one = tells.told name told e in
      at_found life (never_met life.first) gone opening name held h
      ∙ ap (λ (o : Option LifeFile). found_as life.first life.now o held) e
      ∙ kept_version life.now told (Some held) (ap (λ (o : Option (List ℕ)). is_as_told told.contents o) (sym whole) ∙ one.as_told)
      ∙ ap (λ (o : Option (List ℕ)). settled (record { contents = o; version = told.version; lock = told.lock; spent = told.spent.items }) life.now) (sym whole)
      ∙ sym one.stands_is

pub begun_on : (only : Option ℕ) (files : Files) (life : Life) (shard : Shard) (opening : Opening) → IsGoodLife only life → TellsShard only files life shard → IsOpening only (Some (mended life.files.items files)) opening
    → begun (goes_on life opening) ≡ shard
begun_on only files life shard opening good tells is = λ i. record {
  opened = sym tells.opened_is i;
  first = sym tells.first_is i;
  now = sym tells.now_is i;
  files = λ name. stands_on only files life shard opening good tells is name i;
}

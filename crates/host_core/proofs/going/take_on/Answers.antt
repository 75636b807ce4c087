use Rattle.std.proofs.Common.{◌≡◌, List, ℕ, [], None, Some, Option, sym, ap, ◌∙◌, arith}
use Rattle.wopi_model.specs.declared.locks.Spent.{Spent}
use Rattle.host_core.specs.declared.life.LifeFile.{LifeFile}
use Rattle.host_core.specs.Going.{locks_found, version_found}
use Rattle.host_core.specs.Life.{MayGoOn, told_at}
use Rattle.host_core.proofs.Goods.{all_at, told_none, told_some}
use Rattle.host_core.proofs.Reopens.{moment_of}
use Rattle.host_core.proofs.Seams.{told_found}
use Rattle.host_core.proofs.going.take_on.Goals as goal

pub index-told-requires : goal.index-told-requires
index-told-requires c =
    let life = c.args.life.now in
    let name = c.args.file.now.name in
    let (one, told, there, inside) = told_some life.files.items name c.in-Some.number (sym (c.requires.numbered name) ∙ sym c.in-Some.ensures) in
    omega (arith, inside, life.files.ok.0)

pub locks_of-requires : goal.locks_of-requires
locks_of-requires c =
    let life = c.args.life.now in
    let name = c.args.file.now.name in
    let told = c.index-told.result.now in
    let (one, at, there, inside) = told_some life.files.items name c.in-Some.number (sym (c.requires.numbered name) ∙ sym c.in-Some.ensures) in
    let goes = all_at (MayGoOn life.now life.last) life.files.items c.in-Some.number told c.requires.files inside c.index-told.ensures in
    moment_of life.now told.lock c.requires.now goes.began

pub version_on-file-requires : goal.version_on-file-requires
version_on-file-requires c =
    let life = c.args.life.now in
    let name = c.args.file.now.name in
    let told = c.index-told.result.now in
    let (one, at, there, inside) = told_some life.files.items name c.in-Some.number (sym (c.requires.numbered name) ∙ sym c.in-Some.ensures) in
    let goes = all_at (MayGoOn life.now life.last) life.files.items c.in-Some.number told c.requires.files inside c.index-told.ensures in
    let low = goes.low in
    let last = c.requires.last in
    omega (arith, low, last)

pub returns-in-None-clause-file : goal.returns-in-None-clause-file
returns-in-None-clause-file c =
    let life = c.args.life.now in
    let file = c.args.file.now in
    let none = told_none life.files.items file.name (sym (c.requires.numbered file.name) ∙ sym c.in-None.ensures) in
    sym (ap (λ (o : Option LifeFile). record file { version = version_found life.first o file.contents }) none)

pub returns-in-None-clause-locks : goal.returns-in-None-clause-locks
returns-in-None-clause-locks c =
    let life = c.args.life.now in
    let file = c.args.file.now in
    let none = told_none life.files.items file.name (sym (c.requires.numbered file.name) ∙ sym c.in-None.ensures) in
    ap (λ (s : List Spent). record { lock = None; spent = s }) c.new.ensures.items ∙ sym (ap (locks_found life.now) none)

pub returns-in-Some-clause-file : goal.returns-in-Some-clause-file
returns-in-Some-clause-file c =
    let life = c.args.life.now in
    let file = c.args.file.now in
    let told = told_found life.files.items file.name c.in-Some.number c.index-told.result.now (sym (c.requires.numbered file.name) ∙ sym c.in-Some.ensures) c.index-told.ensures in
    ap (λ (v : ℕ). record file { version = v }) c.version_on-file.ensures
    ∙ sym (ap (λ (o : Option LifeFile). record file { version = version_found life.first o file.contents }) told)

pub returns-in-Some-clause-locks : goal.returns-in-Some-clause-locks
returns-in-Some-clause-locks c =
    let life = c.args.life.now in
    let file = c.args.file.now in
    let told = told_found life.files.items file.name c.in-Some.number c.index-told.result.now (sym (c.requires.numbered file.name) ∙ sym c.in-Some.ensures) c.index-told.ensures in
    c.in_ok-locks-in-Some.ensures ∙ sym (ap (locks_found life.now) told)

use Rattle.std.proofs.Common.{◌≡◌, ◌<◌, ◌≤◌, ◌-◌, ℕ, Bool, false, get_or, Option, option_map, unwrap_or, refl, sym, ap, subst, ◌∙◌, arith}
use Rattle.host_core.specs.Places.{IsFirst}
use Rattle.wopi_model.specs.File.{File, never_met}
use Rattle.wopi_model.specs.Settle.{settled}
use Rattle.host_core.specs.Whole.{Whole, seen}
use Rattle.host_core.specs.Files.{file_of, files_of, torn_in, is_named, BeganAtMoment}
use Rattle.host_core.specs.Ledger.{files_in}
use Rattle.host_core.specs.ShardView.{book_of}
use Rattle.host_core.specs.Value.{Book, state_of, is_torn}
use Rattle.host_core.specs.View.{IsViewOf}
use Rattle.host_core.proofs.FileLists.{file_at}
use Rattle.host_core.proofs.History.{shown-file}
use Rattle.host_core.proofs.Joining.{get_joined}
use Rattle.host_core.proofs.Meeting.{found_first, found_none, place_below}
use Rattle.host_core.proofs.shard.Shard.file.Goals as goal

pub index-file-requires : goal.index-file-requires
index-file-requires g c =
    let inside = c.self.inside in
    let ledger = inside.ledger in
    let name = c.args.name.now in
    let number = c.in-Some.number in
    let kept = files_in ledger in
    let first : IsFirst (is_named name) kept number = found_first ledger.rack.files.items ledger.rack.locks.files ledger.rack.index name number c.self.invariant.1.numbered c.in-Some.ensures in
    let lt = place_below ledger.rack.files.items ledger.rack.locks.files name number first in
    let long = ledger.rack.files.ok.0 in
    omega (arith, lt, long)

pub view_of-requires-clause-here : goal.view_of-requires-clause-here
view_of-requires-clause-here g c =
    let inside = c.self.inside in
    let ledger = inside.ledger in
    let name = c.args.name.now in
    let number = c.in-Some.number in
    let kept = files_in ledger in
    let first : IsFirst (is_named name) kept number = found_first ledger.rack.files.items ledger.rack.locks.files ledger.rack.index name number c.self.invariant.1.numbered c.in-Some.ensures in
    let lt = place_below ledger.rack.files.items ledger.rack.locks.files name number first in
    let long = c.self.invariant.1.locked.long in
    omega (arith, lt, long)

pub view_of-requires-clause-moment : goal.view_of-requires-clause-moment
view_of-requires-clause-moment g c =
    let inside = c.self.inside in
    let ledger = inside.ledger in
    let book = book_of (g.F.Store.notes inside.folder) inside in
    let name = c.args.name.now in
    let number = c.in-Some.number in
    let kept = files_in ledger in
    let first : IsFirst (is_named name) kept number = found_first ledger.rack.files.items ledger.rack.locks.files ledger.rack.index name number c.self.invariant.1.numbered c.in-Some.ensures in
    let k = seen c.index-file.result.now ledger.rack.locks number in
    let at : k ≡ get_or kept number k = get_joined ledger.rack.files.items number c.index-file.result.now ledger.rack.locks.files c.index-file.ensures in
    subst (λ (f : File). BeganAtMoment f.lock) (file_at file_of (never_met book.begin.first) kept name number k first at) (c.self.invariant.0.keeps.moments name)

pub returns-in-None-clause-met : goal.returns-in-None-clause-met
returns-in-None-clause-met g c =
    let inside = c.self.inside in
    let ledger = inside.ledger in
    let name = c.args.name.now in
    let kept = files_in ledger in
    let book = book_of (g.F.Store.notes inside.folder) inside in
    let none = found_none ledger.rack.files.items ledger.rack.locks.files ledger.rack.index name c.self.invariant.1.numbered c.in-None.ensures in
    let here : files_of book.begin.first kept name ≡ never_met book.begin.first = ap (λ (o : Option Whole). unwrap_or (option_map file_of o) (never_met book.begin.first)) none in
    let shown = shown-file book.begin book.made book.time ledger.last _ kept c.self.invariant.0.keeps name in
    let unmet : ((state_of c.args.self.now.begin c.args.self.now.made c.args.self.now.time).files name).version ≡ c.args.self.now.begin.first - 1 =
    subst (λ (b : Book _). ((state_of b.begin b.made b.time).files name).version ≡ b.begin.first - 1) c.self.view_is
    (sym (ap (λ (f : File). f.version) shown) ∙ ap (λ (f : File). f.version) here) in
    let number : 1 ≤ c.args.self.now.begin.first = subst (λ (b : Book _). 1 ≤ b.begin.first) c.self.view_is c.self.invariant.0.number.0 in
    (λ some. absurd (cc some), λ met. absurd (omega (arith, met, unmet, number)))

pub returns-else-is_met-clause-met : goal.returns-else-is_met-clause-met
returns-else-is_met-clause-met g c =
    let inside = c.self.inside in
    let ledger = inside.ledger in
    let name = c.args.name.now in
    let number = c.in-Some.number in
    let kept = files_in ledger in
    let first : IsFirst (is_named name) kept number = found_first ledger.rack.files.items ledger.rack.locks.files ledger.rack.index name number c.self.invariant.1.numbered c.in-Some.ensures in
    let k = seen c.index-file.result.now ledger.rack.locks number in
    let at : k ≡ get_or kept number k = get_joined ledger.rack.files.items number c.index-file.result.now ledger.rack.locks.files c.index-file.ensures in
    let book = book_of (g.F.Store.notes inside.folder) inside in
    let here : files_of book.begin.first kept name ≡ file_of k = file_at file_of (never_met book.begin.first) kept name number k first at in
    let shown = shown-file book.begin book.made book.time ledger.last _ kept c.self.invariant.0.keeps name in
    let below : c.index-file.result.now.version < book.begin.first = let is_met = c.if-is_met.false in let same = c.self.invariant.1.first in omega (arith, is_met, same) in
    let unmet : ((state_of c.args.self.now.begin c.args.self.now.made c.args.self.now.time).files name).version < c.args.self.now.begin.first =
    subst (λ (b : Book _). ((state_of b.begin b.made b.time).files name).version < b.begin.first) c.self.view_is
    (subst (λ (n : ℕ). n < book.begin.first) (sym (ap (λ (f : File). f.version) here) ∙ ap (λ (f : File). f.version) shown) below) in
    (λ some. absurd (cc some), λ met. absurd (omega (arith, met, unmet)))

pub returns-then-is_met-clause-met : goal.returns-then-is_met-clause-met
returns-then-is_met-clause-met g c =
    let inside = c.self.inside in
    let ledger = inside.ledger in
    let name = c.args.name.now in
    let number = c.in-Some.number in
    let kept = files_in ledger in
    let first : IsFirst (is_named name) kept number = found_first ledger.rack.files.items ledger.rack.locks.files ledger.rack.index name number c.self.invariant.1.numbered c.in-Some.ensures in
    let k = seen c.index-file.result.now ledger.rack.locks number in
    let at : k ≡ get_or kept number k = get_joined ledger.rack.files.items number c.index-file.result.now ledger.rack.locks.files c.index-file.ensures in
    let book = book_of (g.F.Store.notes inside.folder) inside in
    let here : files_of book.begin.first kept name ≡ file_of k = file_at file_of (never_met book.begin.first) kept name number k first at in
    let shown = shown-file book.begin book.made book.time ledger.last _ kept c.self.invariant.0.keeps name in
    let same : ((state_of c.args.self.now.begin c.args.self.now.made c.args.self.now.time).files name).version ≡ c.index-file.result.now.version =
    subst (λ (b : Book _). ((state_of b.begin b.made b.time).files name).version ≡ c.index-file.result.now.version) c.self.view_is
    (sym (ap (λ (f : File). f.version) shown) ∙ ap (λ (f : File). f.version) here) in
    let met = c.if-is_met.true in
    let number : book.begin.first ≡ c.args.self.now.begin.first = ap (λ (b : Book _). b.begin.first) c.self.view_is in
    let own = c.self.invariant.1.first in
    (λ some. omega (arith, met, same, number, own), λ _. refl)

pub returns-then-is_met-clause-view : goal.returns-then-is_met-clause-view
returns-then-is_met-clause-view g c =
    let inside = c.self.inside in
    let ledger = inside.ledger in
    let name = c.args.name.now in
    let number = c.in-Some.number in
    let kept = files_in ledger in
    let first : IsFirst (is_named name) kept number = found_first ledger.rack.files.items ledger.rack.locks.files ledger.rack.index name number c.self.invariant.1.numbered c.in-Some.ensures in
    let k = seen c.index-file.result.now ledger.rack.locks number in
    let at : k ≡ get_or kept number k = get_joined ledger.rack.files.items number c.index-file.result.now ledger.rack.locks.files c.index-file.ensures in
    let book = book_of (g.F.Store.notes inside.folder) inside in
    let here : files_of book.begin.first kept name ≡ file_of k = file_at file_of (never_met book.begin.first) kept name number k first at in
    let shown = shown-file book.begin book.made book.time ledger.last _ kept c.self.invariant.0.keeps name in
    let torn : torn_in kept name ≡ c.index-file.result.now.torn = file_at (λ (f : Whole). f.torn) false kept name number k first at in
    subst (λ (b : Book _). IsViewOf c.view_of.result ((state_of b.begin b.made b.time).files name) (is_torn b.made name)) c.self.view_is
    (subst (λ (t : Bool). IsViewOf c.view_of.result ((state_of book.begin book.made book.time).files name) t) (sym torn ∙ c.self.invariant.0.keeps.torn name)
    (subst (λ (f : File). IsViewOf c.view_of.result f c.index-file.result.now.torn) (ap (λ (f : File). settled f book.time) (sym here) ∙ shown) c.view_of.ensures))

use Rattle.std.proofs.Common.{◌≡◌, ◌+◌, ◌<◌, ◌≤◌, ◌^◌, ◌-◌, ℕ, List, [], map, Option, None, length, refl, sym, ap, subst, ◌∙◌, arith}
use Rattle.outside.specs.Faults.{RoseBy}
use Rattle.wopi_model.specs.Begin.{Begin, at_name}
use Rattle.wopi_model.specs.File.{File, never_met}
use Rattle.wopi_model.specs.Host.{kept_from}
use Rattle.wopi_model.specs.Lives.{live_bytes, live_ids}
use Rattle.host_core.specs.Opening.{IsFirstVersion}
use Rattle.host_core.specs.Names.{AreWithin, AreOnce, names_in}
use Rattle.host_core.specs.Entries.{Made, items_of}
use Rattle.host_core.specs.Facts.{Dates, dates_of}
use Rattle.host_core.specs.Files.{files_of, torn_in}
use Rattle.host_core.specs.Going.{AreHeld, ids_told}
use Rattle.host_core.specs.Life.{IsReopened, goes_on, listed_on}
use Rattle.host_core.specs.declared.ledger.Ledger.{Ledger}
use Rattle.host_core.specs.Value.{Book, KeepsLive, Reflects, Agrees, Stands, faults_in, most_version}
use Rattle.kept_locks.specs.Locks.{Standing}
use Rattle.wopi_model.specs.Settle.{standing}
use Rattle.host_core.specs.Whole.{Whole, joined}
use Rattle.host_core.proofs.Joining.{joined_as, long_joined, names_joined}
use Rattle.host_core.specs.Times.{GoesByEntries}
use Rattle.host_core.proofs.Chaining.{with_chains}
use Rattle.host_core.proofs.Dating.{dated_start}
use Rattle.host_core.proofs.Standing.{rose-begin, lawful}
use Rattle.host_core.proofs.Regains.{all_stand}
use Rattle.host_core.proofs.Reopens.{agrees_itself, agrees_on, began_all, began_files, bytes_on, files_listed, ids_on, keeps_begin, keeps_live, low_within, names_listed, none_torn}
use Rattle.host_core.proofs.shard.Shard.assemble_on.Goals as goal

pub invariant_of-result : goal.invariant_of-result
invariant_of-result g c =
    let files = g.F.Store.files in
    let faults = g.F.Store.faults in
    let notes = g.F.Store.notes c.args.folder in
    let life = c.args.life.now in
    let stock = c.args.going.stock in
    let told = c.args.going.told.items in
    let before = c.args.before.value in
    let start = c.of-start.result.value in
    let taken = c.requires.going in
    let is = taken.going_is in
    let begin = goes_on life taken.opening in
    let kept = joined stock.files.items c.args.locks.files in
    let wholes = joined stock.files.items told in
    let after : Ledger = record {
      alloc = c.args.alloc;
      opened = life.opened;
      first = life.first;
      calls = None;
      ids = c.args.ids;
      time = life.now;
      last = life.last;
      bytes = stock.bytes;
      rack = record { files = stock.files; index = stock.index; locks = c.args.locks };
      opening = c.of-opening.result;
    } in
    let book : Book _ = record {
      only = c.of.result.value;
      begin = notes.begin;
      limits = record { calls = None; ids = c.args.ids };
      dates = dates_of c.of-opening.result.value.items;
      made = notes.made;
      time = life.now;
      ticked = c.of-ticked.result.value;
      start = start;
      folder = c.args.folder;
    } in
    let begins : notes.begin ≡ begin =
    c.requires.begin ∙ ap (λ (l : List (List ℕ × File)). record { opened = life.opened; first = life.first; now = life.now; last = life.last; files = l }) is.listed in
    let none : length notes.made ≡ 0 = ap (λ (m : List Made). length m) c.requires.made in
    let long = is.long in
    let same : kept ≡ wholes = joined_as stock.files.items c.args.locks.files told (λ n lt. c.requires.held.stands n (omega (arith, lt, long))) in
    let shown : (name : List ℕ) → files_of life.first kept name ≡ at_name (never_met life.first) begin.files name =
    λ name. ap (λ (l : List Whole). files_of life.first l name) same ∙ files_listed life.first wholes name ∙ ap (λ (l : List (List ℕ × File)). at_name (never_met life.first) l name) is.listed in
    let live : stock.bytes ≡ live_bytes begin.files = is.kept ∙ sym (bytes_on life taken.opening) in
    let started : Reflects notes.begin notes.made life.now life.last (kept_from notes.begin (items_of notes.made)) kept =
    subst (λ (b : Begin). Reflects b notes.made life.now life.last (kept_from b (items_of notes.made)) kept) (sym begins)
    (subst (λ (m : List Made). Reflects begin m life.now life.last (kept_from begin (items_of m)) kept) (sym c.requires.made)
    (keeps_begin begin (kept_from begin []) kept c.requires.good.now shown (none_torn stock.files.items c.args.locks.files is.torn) (omega arith)
    (began_files life.first life.now stock.files.items c.args.locks.files c.requires.good.now (began_all c.args.locks.files life.now c.requires.held.as_of.began)))) in
    let ids : ids_told told ≤ c.args.ids = c.requires.enough in
    let counted = ids_on stock.files.items told long in
    let listed = ap (λ (l : List (List ℕ × File)). live_ids l) is.listed in
    let once : AreOnce (names_in begin.files) =
    subst AreOnce (sym (names_joined stock.files.items told) ∙ sym (names_listed wholes) ∙ ap names_in is.listed) is.once in
    let limits : KeepsLive c.args.ids notes.begin notes.made life.now life.last stock.bytes =
    subst (λ (b : Begin). KeepsLive c.args.ids b notes.made life.now life.last stock.bytes) (sym begins)
    (subst (λ (m : List Made). KeepsLive c.args.ids begin m life.now life.last stock.bytes) (sym c.requires.made)
    (keeps_live c.args.ids stock.bytes begin once (omega (arith, ids, counted, listed)) c.requires.good.last live)) in
    let same_start : start ≡ c.args.folder = c.of-start.ensures in
    let agrees : Agrees c.of.result.value (files start) (files c.args.folder) (files_of life.first kept) (torn_in kept) =
    subst (λ f. Agrees c.of.result.value (files f) (files c.args.folder) (files_of life.first kept) (torn_in kept)) (sym same_start)
    (subst (λ (only : Option ℕ). Agrees only (files c.args.folder) (files c.args.folder) (files_of life.first kept) (torn_in kept)) (sym c.of.ensures)
    (agrees_itself c.args.only (files before) (files c.args.folder) (files_of life.first kept) (torn_in kept)
    (agrees_on c.args.only (files before) (files c.args.folder) life taken.opening kept taken.read c.requires.mends c.requires.good.own shown))) in
    let first_is : life.first ≡ notes.begin.first = sym (ap (λ (b : Begin). b.first) begins) in
    let goes : GoesByEntries life.now notes.made life.now =
    subst (λ (m : List Made). GoesByEntries life.now m life.now) (sym c.requires.made) (record { timely = tt; time_is = refl }) in
    let bound : life.last + (2 ^ 63 - 1) ≡ most_version begin (length notes.made) = omega (arith, none) in
    let within : AreWithin (most_version begin (length notes.made)) kept =
    subst (λ (n : ℕ). AreWithin n kept) bound (low_within life.last stock.files.items c.args.locks.files is.low) in
    let few = is.few in
    let size = long_joined stock.files.items c.args.locks.files in
    let inside = c.requires.held.long in
    with_chains after notes book (files start) (files c.args.folder) (faults start) (faults c.args.folder) refl (
    record {
      keeps = started;
      folder = subst (λ (n : ℕ). Agrees c.of.result.value (files start) (files c.args.folder) (files_of n kept) (torn_in kept)) first_is agrees;
      faults = subst (λ (m : List Made). RoseBy (faults start) (faults_in m) (faults c.args.folder)) (sym c.requires.made) (rose-begin (faults start) (faults c.args.folder) (subst (λ f. faults f ≤ faults c.args.folder) (sym same_start) (omega arith)));
      timely = λ _. subst (λ (b : Begin). GoesByEntries b.now notes.made life.now) (sym begins) goes;
      within = subst (λ (b : Begin). AreWithin (most_version b (length notes.made)) kept) (sym begins) within;
      number = subst IsFirstVersion first_is c.requires.good.first;
      few = omega (arith, few, size);
      limits = limits;
    }) (record {
      numbered = is.numbered;
      once = is.once;
      locked = record {
        long = omega (arith, inside, long);
        beyond = λ n le. c.requires.held.beyond n (omega (arith, le, long));
        as_of = c.requires.held.as_of;
      };
      stand = λ n. all_stand told c.args.locks.files life.now n c.requires.held.stands c.requires.held.beyond is.settled;
      spare = c.requires.held.room;
      slots = c.requires.most;
      opened = sym (ap (λ (b : Begin). b.opened) begins);
      first = first_is;
      ended = c.requires.ended;
      dated = dated_start stock.files.items (dates_of c.of-opening.result.value.items) notes.begin notes.made life.now c.requires.made (ap (λ (b : Begin). b.now) begins) (ap (λ v. dates_of v.items) c.of-opening.ensures) is.moments is.digests;
    })

pub returns-clause-lawful : goal.returns-clause-lawful
returns-clause-lawful g c =
    let files = g.F.Store.files in
    let faults = g.F.Store.faults in
    let start = c.of-start.result.value in
    lawful _ c.args.life.now.last _ c.args.going.stock.bytes
    (files start) (files c.args.folder) (faults start) (faults c.args.folder) (invariant_of-result g c).0

pub returns-clause-reopened : goal.returns-clause-reopened
returns-clause-reopened g c =
    let life = c.args.life.now in
    let taken = c.requires.going in
    let is = taken.going_is in
    record {
      opening = taken.opening;
      read = taken.read;
      fits = taken.fits;
      begin_is = c.requires.begin ∙ ap (λ (l : List (List ℕ × File)). record { opened = life.opened; first = life.first; now = life.now; last = life.last; files = l }) is.listed;
      found = taken.found;
      found_are = taken.found_are;
      found_names = taken.found_names;
      dates_are = ap (λ v. dates_of v.items) c.of-opening.ensures ∙ is.dates_are;
    }

pub returns-clause-enough : goal.returns-clause-enough
returns-clause-enough g c =
    let stock = c.args.going.stock in
    let told = c.args.going.told.items in
    let counted = ids_on stock.files.items told c.requires.going.going_is.long in
    let enough = c.requires.enough in
    let begins = ap (λ (b : Begin). live_ids b.files) c.requires.begin in
    omega (arith, counted, enough, begins)

use Rattle.std.proofs.Common.{◌≡◌, ◌+◌, ◌<◌, ◌^◌, ℕ, List, [], map, Option, length, refl, sym, ap, subst, ◌∙◌, arith}
use Rattle.outside.specs.Faults.{RoseBy}
use Rattle.wopi_model.specs.Begin.{Begin, new_life}
use Rattle.wopi_model.specs.Host.{kept_from}
use Rattle.wopi_model.proofs.Fullness.{opening-bytes}
use Rattle.host_core.specs.Opening.{IsFirstVersion}
use Rattle.host_core.specs.Names.{AreWithin, AreOnce}
use Rattle.host_core.specs.Entries.{Made, items_of}
use Rattle.host_core.specs.Facts.{dates_of}
use Rattle.host_core.specs.Files.{files_of, torn_in}
use Rattle.host_core.specs.Notes.{opening_listed}
use Rattle.host_core.specs.declared.ledger.Ledger.{Ledger}
use Rattle.host_core.specs.Value.{Book, KeepsWithin, Reflects, Agrees, Stands, faults_in, most_version}
use Rattle.kept_locks.specs.Locks.{Standing}
use Rattle.wopi_model.specs.Settle.{standing}
use Rattle.host_core.specs.Whole.{Whole, joined}
use Rattle.host_core.proofs.Joining.{long_joined}
use Rattle.host_core.specs.Times.{GoesByEntries}
use Rattle.host_core.proofs.Chaining.{with_chains}
use Rattle.host_core.proofs.Dating.{dated_start}
use Rattle.host_core.proofs.History.{keeps-start}
use Rattle.host_core.proofs.Standing.{rose-begin, lawful}
use Rattle.host_core.proofs.Rising.{within_up}
use Rattle.host_core.proofs.Starting.{agrees_start, begun_spare, begun_within, free_joined, free_locked, sorted_once}
use Rattle.host_core.proofs.shard.Shard.assemble.Goals as goal

pub invariant_of-result : goal.invariant_of-result
invariant_of-result g c =
    let files = g.F.Store.files in
    let faults = g.F.Store.faults in
    let notes = g.F.Store.notes c.args.folder in
    let stock = c.args.stock in
    let kept = joined stock.files.items [] in
    let opening = opening_listed stock.files.items in
    let start = c.args.start.value in
    let none : length notes.made ≡ 0 = ap (λ (m : List Made). length m) c.requires.made in
    let few = c.requires.stock.few in
    let size = long_joined stock.files.items [] in
    let after : Ledger = record {
      alloc = c.args.alloc;
      opened = c.args.opened;
      first = c.args.first;
      calls = c.args.calls;
      ids = c.args.ids;
      time = c.args.opened;
      last = 0;
      bytes = stock.bytes;
      rack = record { files = stock.files; index = stock.index; locks = c.args.locks };
      opening = c.of-opening.result;
    } in
    let book : Book _ = record {
      only = c.of.result.value;
      begin = notes.begin;
      limits = record { calls = c.args.calls; ids = c.args.ids };
      dates = dates_of c.of-opening.result.value.items;
      made = notes.made;
      time = c.args.opened;
      ticked = c.of-ticked.result.value;
      start = start;
      folder = c.args.folder;
    } in
    let begin = new_life opening c.args.opened c.args.first in
    let started : Reflects notes.begin notes.made c.args.opened 0 (kept_from notes.begin (items_of notes.made)) kept =
    subst (λ (b : Begin). Reflects b notes.made c.args.opened 0 (kept_from b (items_of notes.made)) kept) (sym c.requires.listed)
    (subst (λ (m : List Made). Reflects begin m c.args.opened 0 (kept_from begin (items_of m)) kept) (sym c.requires.made)
    (keeps-start opening c.args.opened c.args.first (kept_from begin []) kept c.requires.moment c.requires.stock.files c.requires.stock.torn (let live = opening-bytes opening c.args.first in omega (arith, live)))) in
    let small : c.args.ids < 2 ^ 32 = search in
    let limits : KeepsWithin c.args.calls c.args.ids notes.begin notes.made c.args.opened 0 stock.bytes =
    subst (λ (b : Begin). KeepsWithin c.args.calls c.args.ids b notes.made c.args.opened 0 stock.bytes) (sym c.requires.listed)
    (subst (λ (m : List Made). KeepsWithin c.args.calls c.args.ids begin m c.args.opened 0 stock.bytes) (sym c.requires.made)
    (begun_within c.args.calls c.args.ids opening c.args.opened c.args.first stock.bytes c.requires.calls small c.requires.opening.ordered c.requires.stock.kept)) in
    let agrees : Agrees c.of.result.value (files start) (files c.args.folder) (files_of c.args.first kept) (torn_in kept) =
    subst (λ (only : Option ℕ). Agrees only (files start) (files c.args.folder) (files_of c.args.first kept) (torn_in kept)) (sym c.of.ensures)
    (agrees_start c.args.first c.args.only (files start) (files c.args.folder) opening kept c.requires.opening c.requires.same c.requires.stock.files) in
    let first_is : c.args.first ≡ notes.begin.first = sym (ap (λ (b : Begin). b.first) c.requires.listed) in
    let goes : GoesByEntries c.args.opened notes.made c.args.opened =
    subst (λ (m : List Made). GoesByEntries c.args.opened m c.args.opened) (sym c.requires.made) (record { timely = tt; time_is = refl }) in
    let low = c.requires.first.1 in
    let within : AreWithin (most_version begin (length notes.made)) kept = within_up c.args.first (most_version begin (length notes.made)) kept (omega (arith, low)) c.requires.stock.within in
    with_chains after notes book (files start) (files c.args.folder) (faults start) (faults c.args.folder) refl (
    subst (λ (l : List Whole). Stands book 0 l stock.bytes (files start) (files c.args.folder) (faults start) (faults c.args.folder))
    (sym (free_joined stock.files.items c.args.locks.files c.requires.none))
    (record {
      keeps = started;
      folder = subst (λ (n : ℕ). Agrees c.of.result.value (files start) (files c.args.folder) (files_of n kept) (torn_in kept)) first_is agrees;
      faults = subst (λ (m : List Made). RoseBy (faults start) (faults_in m) (faults c.args.folder)) (sym c.requires.made) (rose-begin (faults start) (faults c.args.folder) c.requires.faults);
      timely = λ _. subst (λ (b : Begin). GoesByEntries b.now notes.made c.args.opened) (sym c.requires.listed) goes;
      within = subst (λ (b : Begin). AreWithin (most_version b (length notes.made)) kept) (sym c.requires.listed) within;
      number = subst IsFirstVersion first_is c.requires.first;
      few = omega (arith, few, size);
      limits = limits;
    })
    ) (record {
      numbered = c.requires.stock.numbered;
      once = subst AreOnce (sym c.requires.stock.names) (sorted_once (map (λ (file : List ℕ × List ℕ). file.0) opening) c.requires.opening.ordered);
      locked = free_locked stock.files.items c.args.locks c.args.opened c.requires.none c.requires.as_of c.requires.long;
      stand = λ number. ap (λ (s : Standing). standing s.lock c.args.opened) (c.requires.none number) ∙ sym (ap (λ (s : Standing). s.lock) (c.requires.none number));
      spare = begun_spare c.args.calls c.args.ids c.args.locks (length notes.made) c.requires.calls c.requires.spare c.requires.room;
      slots = c.requires.slots;
      opened = sym (ap (λ (b : Begin). b.opened) c.requires.listed);
      first = first_is;
      ended = c.requires.ended;
      dated = dated_start stock.files.items (dates_of c.of-opening.result.value.items) notes.begin notes.made c.args.opened c.requires.made (ap (λ (b : Begin). b.now) c.requires.listed) (ap (λ v. dates_of v.items) c.of-opening.ensures) c.requires.stock.moments c.requires.stock.digests;
    })

pub returns-clause-lawful : goal.returns-clause-lawful
returns-clause-lawful g c =
    let files = g.F.Store.files in
    let faults = g.F.Store.faults in
    let start = c.args.start.value in
    lawful _ 0 _ c.args.stock.bytes
    (files start) (files c.args.folder) (faults start) (faults c.args.folder) (invariant_of-result g c).0

use Rattle.std.proofs.Common.{◌≡◌, map, string_bytes}
use Rattle.command_words.specs.Parts.{parts_of}
use Rattle.command_words.proofs.RefusalLemmas.{passed_up, places_no_file, places_no_nonce}
use Rattle.command_words.proofs.people.edit_words.Goals as goal

pub returns-clause-told : goal.returns-clause-told
returns-clause-told c =
    let at_file : c.deref.result.now ≡ c.args.parted.now.options.items = c.deref.ensures.value in
    let at_nonce : c.deref-2.result.now ≡ c.args.parted.now.options.items = c.deref-2.ensures.value in
    let at_places : c.deref-3.result.now ≡ c.args.parted.now.places.items = c.deref-3.ensures.value in
    let file = rw at_file at c.values_told-file.ensures in
    let nonce = rw at_nonce at c.values_told-nonce.ensures in
    record {
      named = map string_bytes c.in_ok-words.words.items;
      named_are = rw at_places at c.in_ok-words.ensures.put _ file;
      words_are = c.in_ok-push_nonce.ensures.put _ nonce;
    }

pub returns-in_err-words-clause-refused : goal.returns-in_err-words-clause-refused
returns-in_err-words-clause-refused c =
    let at_file : c.deref.result.now ≡ c.args.parted.now.options.items = c.deref.ensures.value in
    let at_places : c.deref-3.result.now ≡ c.args.parted.now.places.items = c.deref-3.ensures.value in
    let file = rw at_file at c.values_told-file.ensures in
    let why = places_no_file c.args.own.now (parts_of c.args.parted.now) c.in_err-words.field-0.0 (rw at_places at c.in_err-words.ensures.refused _ file) in
    passed_up _ c.in_err-words.field-0.0 _ c.from_residual.ensures.1 why

pub returns-in_err-push_nonce-clause-refused : goal.returns-in_err-push_nonce-clause-refused
returns-in_err-push_nonce-clause-refused c =
    let at_file : c.deref.result.now ≡ c.args.parted.now.options.items = c.deref.ensures.value in
    let at_nonce : c.deref-2.result.now ≡ c.args.parted.now.options.items = c.deref-2.ensures.value in
    let at_places : c.deref-3.result.now ≡ c.args.parted.now.places.items = c.deref-3.ensures.value in
    let file = rw at_file at c.values_told-file.ensures in
    let nonce = rw at_nonce at c.values_told-nonce.ensures in
    let named = rw at_places at c.in_ok-words.ensures.put _ file in
    let why = places_no_nonce c.args.own.now (parts_of c.args.parted.now) _ c.in_err-push_nonce.field-0.0 named (c.in_err-push_nonce.ensures.refused _ nonce) in
    passed_up _ c.in_err-push_nonce.field-0.0 _ c.from_residual-in_err-push_nonce.ensures.1 why

use Rattle.std.proofs.Common.{◌≡◌, ◌∙◌, ℕ, true, is_some, ap, arith, length, map, refl, string_bytes, subst, sym}
use Rattle.std.proofs.lemmas.List.{length-map}
use Rattle.std.specs.Prelude.{IfSome}
use Rattle.adapters.specs.LogNames.{ArePaths}
use Rattle.wopi_program.specs.ServeWords.{logs_told}
use Rattle.mokdrai.proofs.StopLemmas.{all_told}
use Rattle.mokdrai.proofs.main.Goals as goal

pub run-status-requires-clause-once : goal.run-status-requires-clause-once
run-status-requires-clause-once g c κs = λ found.
    c.in-Ok-world.ensures.once found.3.folder (c.asked_by-asked.ensures.once found.0 found.1 found.2 found.3)

pub run-status-requires-clause-serve : goal.run-status-requires-clause-serve
run-status-requires-clause-serve g c κs = λ keys base ask row. c.in-Ok-world.ensures.serve row.folder ask (c.asked_by-asked.ensures.serve keys base ask row)

pub run-status-requires-clause-has_all_back : goal.run-status-requires-clause-has_all_back
run-status-requires-clause-has_all_back g c κs = λ row. c.in-Ok-world.ensures.has_all_back

pub logs_for-logs-requires-clause-count : goal.logs_for-logs-requires-clause-count
logs_for-logs-requires-clause-count g c = λ keys base ask keep row keeps.
    let over = c.asked_by-asked.ensures.serve keys base ask row in
    let told : is_some c.logs_of-folder.result ≡ true = sym (c.logs_of-folder.ensures.kept c.asked_by-asked.ensures.kept row.folder ask over) ∙ ap is_some keeps in
    c.in-Ok-keep.ensures.count told

pub logs_for-logs-requires-clause-paths : goal.logs_for-logs-requires-clause-paths
logs_for-logs-requires-clause-paths g c = λ keys base ask row.
    let told = c.logs_of-folder.ensures.told (logs_told row.options) (c.asked_by-asked.ensures.logs keys base ask row) in
    subst (λ logs. IfSome logs (λ name. (number : ℕ) × ArePaths name number 0 (map (λ log. string_bytes log.path) c.in-Ok-keep.kept.logs.items))) told c.in-Ok-keep.ensures.paths

pub run-status-requires-clause-keep : goal.run-status-requires-clause-keep
run-status-requires-clause-keep g c κs = λ keys base ask keep row keeps.
    let over = c.asked_by-asked.ensures.serve keys base ask row in
    let told : is_some c.logs_of-folder.result ≡ true = sym (c.logs_of-folder.ensures.kept c.asked_by-asked.ensures.kept row.folder ask over) ∙ ap is_some keeps in
    let count = c.in-Ok-keep.ensures.count told in
    let own = c.in-Ok-world.outside.logs.items in
    let same = ap (λ logs. length logs) c.in-Ok-world.ensures.logs in
    let many = length-map own (λ one. one.log) in
    let whole = c.in-Ok-keep.kept.logs.ok.0 in
    let given = ap (λ logs. length logs.items) c.logs_for-logs.ensures in
    (omega (arith, same, many, given, whole, count), all_told _ (λ log. refl) own)

use Rattle.std.proofs.Common.{◌≡◌, ◌≤◌, ◌+◌, ◌-◌, ◌^◌, ℕ, min, Option, None, Some, refl, ap, sym, ◌∙◌, subst, arith}
use Rattle.outside.specs.Folder.{Files}
use Rattle.outside.specs.MemFolder.{contents_of}
use Rattle.outside.specs.MemFolderParts.{files_in}
use Rattle.wopi_model.specs.Shard.{Opening}
use Rattle.host_core.specs.Opening.{IsOpening, IsTooLarge}
use Rattle.host_core.specs.Value.{Book, InMemory, Agrees, state_of, is_torn, faults_in}
use Rattle.replay_cmd.specs.declared.faultless.FaultlessFolder.{FaultlessFolder}
use Rattle.replay_cmd.specs.Begun.{opening_in}
use Rattle.replay_cmd.specs.Hosts.{Watch, HasFileNames}
use Rattle.replay_cmd.specs.Pasts.{past_left_by}
use Rattle.replay_cmd.specs.Starts.{LeavesTooMuch, Reopens}
use Rattle.replay_cmd.proofs.Anew.{left_over, left_too_much}
use Rattle.replay_cmd.proofs.NewLives.{opening_is}
use Rattle.replay_cmd.proofs.Chosen.{of_some, of_none}
use Rattle.replay_cmd.proofs.watched.Watched.restart.Goals as goal

abbrev files : FaultlessFolder → Files
files f = contents_of (files_in f.folder)

-- of all names of a folder that tells
abbrev IsWhole : Book (InMemory FaultlessFolder) → Option ℕ → Type 0
IsWhole book only =
    Agrees only (Some (files book.start.folder)) (Some (files book.folder.folder)) (state_of book.begin book.made book.time).files (is_torn book.made)

whole_folder : (book : Book (InMemory FaultlessFolder)) → book.only ≡ None → IsWhole book book.only → IsWhole book None
whole_folder book none h = subst (IsWhole book) none h

none_failed : (faults : ℕ) → min (0 + faults) (2 ^ 64 - 1) ≤ 0 → faults ≡ 0
none_failed faults risen = omega (arith, risen)

pub returns-clause-reopens : goal.returns-clause-reopens
returns-clause-reopens c =
    let book = c.end.result in
    let lawful = c.leave-folder.ensures.lawful in
    let names : HasFileNames book = subst HasFileNames (sym c.end.ensures.same) c.self.invariant.3 in
    let agrees = whole_folder book c.end.ensures.whole lawful.folder in
    let stored = none_failed (faults_in book.made) lawful.faults in
    let same = c.end.ensures.same ∙ ap (λ (w : Watch (InMemory FaultlessFolder)). w.shard) c.self.view_is in
    let opens = of_some c.in_ok-opened.opened _ c.in_ok-opened.ensures.opens c.in-Some.host c.in-Some.is in
    let host = c.in-Some.host in
    let opening : IsOpening None (Some (files book.folder.folder)) (opening_in host.shard.begin) =
    subst (λ (f : FaultlessFolder). IsOpening None (Some (files f)) (opening_in host.shard.begin)) c.leave-folder.ensures.folder opens.opening in
    subst (λ (b : Book (InMemory FaultlessFolder)). Reopens b c.args.moment c.args.first host.shard) same
    (left_over book names (files book.start.folder) (files book.folder.folder) agrees stored (opening_in host.shard.begin) opening c.args.moment c.args.first host.shard refl opens.has lawful.legal)

pub returns-in_default-clause-none : goal.returns-in_default-clause-none
returns-in_default-clause-none c =
    let book = c.end.result in
    let lawful = c.leave-folder.ensures.lawful in
    let names : HasFileNames book = subst HasFileNames (sym c.end.ensures.same) c.self.invariant.3 in
    let agrees = whole_folder book c.end.ensures.whole lawful.folder in
    let stored = none_failed (faults_in book.made) lawful.faults in
    let same = c.end.ensures.same ∙ ap (λ (w : Watch (InMemory FaultlessFolder)). w.shard) c.self.view_is in
    let told = of_none c.in_ok-opened.opened c.in_ok-opened.ensures.none c.in_default.is in
    let large : IsTooLarge None (Some (files book.folder.folder)) told.0 = subst (λ (f : FaultlessFolder). IsTooLarge None (Some (files f)) told.0) c.leave-folder.ensures.folder told.1 in
    subst (λ (b : Book (InMemory FaultlessFolder)). LeavesTooMuch b) same (left_too_much book names (files book.start.folder) (files book.folder.folder) agrees stored lawful.legal told.0 large)

pub returns-clause-past : goal.returns-clause-past
returns-clause-past c =
    let book = c.end.result in
    let listed = opening_is book.begin book.folder.opening book.begin.opened book.begin.first c.leave-folder.ensures.begin in
    c.leave-folder.ensures.past ∙ ap (λ (o : Opening). record { opening = o; dates = book.dates; made = book.made; start = book.start.folder }) (sym listed)
    ∙ ap past_left_by (c.end.ensures.same ∙ ap (λ (w : Watch (InMemory FaultlessFolder)). w.shard) c.self.view_is)

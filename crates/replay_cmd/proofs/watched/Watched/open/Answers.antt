use Rattle.std.proofs.Common.{◌≡◌, None, Some, [], List, ℕ, map, ap, sym, ◌∙◌, subst}
use Rattle.std.specs.List.{AllByRecursion}
use Rattle.outside.specs.MemFolder.{contents_of}
use Rattle.outside.specs.MemFolderParts.{files_in}
use Rattle.wopi_model.specs.Begin.{Begin}
use Rattle.wopi_model.specs.Shard.{Opening}
use Rattle.host_core.specs.Entries.{Made}
use Rattle.host_core.specs.Opening.{IsOpening, MayKeep}
use Rattle.host_core.specs.Value.{Book, InMemory}
use Rattle.wopi_world.specs.Journals.{AreCounted}
use Rattle.replay_cmd.specs.declared.faultless.FaultlessFolder.{FaultlessFolder}
use Rattle.replay_cmd.specs.Begun.{opening_in}
use Rattle.replay_cmd.specs.Hosts.{HasGrown}
use Rattle.replay_cmd.specs.Starts.{Opens}
use Rattle.replay_cmd.proofs.NewLives.{opening_is, is_new}
use Rattle.replay_cmd.proofs.Watching.{fresh, opened_names}
use Rattle.replay_cmd.proofs.watched.Watched.open.Goals as goal

pub invariant_of-result : goal.invariant_of-result
invariant_of-result c =
    let book = c.new-single.result.shard in
    let opened = c.new-single.ensures ∙ c.in-Ok.ensures.opened in
    let made : book.made ≡ [] = ap (λ (b : Book (InMemory FaultlessFolder)). b.made) opened in
    let o = c.in-Ok.ensures.opening in
    let life = ap (λ (b : Book (InMemory FaultlessFolder)). b.begin) c.new-single.ensures ∙ o.1 in
    let taken = subst (AllByRecursion (λ (file : List ℕ × List ℕ). MayKeep None file.0)) (sym (opening_is book.begin o.0 c.args.moment c.args.first life)) o.2.taken in (
      subst (λ (b : Book (InMemory FaultlessFolder)). HasGrown b book) (sym (c.of-start.ensures ∙ c.shard.ensures)) (fresh book),
      subst (λ (l : List Made). AreCounted 0 (map (λ (one : Made). one.step) l)) (sym made) tt,
      sym (ap (λ (b : Begin). b.first) life),
      opened_names book (is_new book.begin o.0 c.args.moment c.args.first life) taken made,
    )

pub returns-in-Ok-clause-opens : goal.returns-in-Ok-clause-opens
returns-in-Ok-clause-opens c =
    let opened = c.in-Ok.ensures.opened in let o = c.in-Ok.ensures.opening in
    subst (λ (b : Book (InMemory FaultlessFolder)). Opens (contents_of (files_in c.args.folder.folder)) c.args.moment c.args.first b) (sym c.new-single.ensures)
    (record {
      has = record {
        made = ap (λ (b : Book (InMemory FaultlessFolder)). b.made) opened;
        time = ap (λ (b : Book (InMemory FaultlessFolder)). b.time) opened;
        new = is_new c.in-Ok.shard.begin o.0 c.args.moment c.args.first o.1;
        opened = ap (λ (b : Begin). b.opened) o.1;
        first = ap (λ (b : Begin). b.first) o.1;
        only = ap (λ (b : Book (InMemory FaultlessFolder)). b.only) opened;
        limits = ap (λ (b : Book (InMemory FaultlessFolder)). b.limits) opened;
      };
      opening = subst (λ (f : FaultlessFolder). IsOpening None (Some (contents_of (files_in f.folder))) (opening_in c.in-Ok.shard.begin)) c.new-store.ensures.folder
          (subst (λ (l : Opening). IsOpening None (Some (contents_of (files_in c.new-store.result.folder.folder))) l) (sym (opening_is c.in-Ok.shard.begin o.0 c.args.moment c.args.first o.1)) o.2);
    })

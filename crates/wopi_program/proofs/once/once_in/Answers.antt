use Rattle.std.proofs.Common.{refl, rules}
use Rattle.wopi_program.proofs.OnceLemmas.{runs_moved}
use Rattle.wopi_program.proofs.once.once_in.Goals as goal

pub returns-clause-runs : goal.returns-clause-runs
returns-clause-runs g c = record {
  folder = c.in-Some.folder;
  folder' = c.once_over-folder.result.0;
  folders_are = search rules;
  folders_then = search rules;
  clock = c.in-Some-pop.clock;
  clock' = c.once_over-folder.new.clock;
  clocks_are = search rules;
  clocks_then = search rules;
  runs = runs_moved _ c.args.keys c.args.base c.args.editor c.args.origin c.in-Some.folder c.once_over-folder.result.0 c.in-Some-pop.clock c.once_over-folder.new.clock _ _ _ _ refl refl refl refl
      c.once_over-folder.result.1 c.once_over-folder.ensures.runs;
}

use Rattle.wopi_program.proofs.edit.run_script.Goals as goal

pub returns-clause-ran : goal.returns-clause-ran
returns-clause-ran g c =
    let runs = c.run-ended.ensures.runs in
    record {
      last = c.run-ended.new.self;
      result = c.run-ended.result;
      written = runs.written;
      sent = runs.made.exchanges;
      runs = runs.made.are;
      output = c.finish.ensures.tells runs.written (g.K.Sink.held c.args.outside.now.output) runs.grew;
      exchanges = runs.made.grew;
      lost = runs.made.lost;
    }

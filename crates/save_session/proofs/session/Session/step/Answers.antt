use Rattle.save_session.proofs.Stepping.{kept_sound}
use Rattle.save_session.proofs.session.Session.step.Goals as goal

pub invariant_of-self : goal.invariant_of-self
invariant_of-self c = record {
  sound = kept_sound c.args.self.now.nonce c.args.self.now.state c.replace-state.result c.args.input c.stepped-turn.result c.replace-state.ensures.value c.stepped-turn.ensures
      c.args.self.now.sound;
}

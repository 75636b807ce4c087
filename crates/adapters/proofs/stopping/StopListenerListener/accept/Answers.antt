use Rattle.std.proofs.Common.{◌≡◌, ◌≢◌, None, Some, false}
use Rattle.adapters.specs.Stopping.{PassesOn}
use Rattle.adapters.proofs.ListenerLemmas.{turned_away}
use Rattle.adapters.proofs.stopping.StopListenerListener.accept.Goals as goal

pub returns-then-is_there-clause-asked : goal.returns-then-is_there-clause-asked
returns-then-is_there-clause-asked g c =
    let a = c.in-Ok-Link.ensures in
    let f = c.finish.ensures in
    let told : c.args.self.now.path ≢ None = λ none. let no : c.is_there.result ≡ false = c.is_there.ensures none in absurd (cc (no, c.if-is_there.true)) in
    let gone : PassesOn g.N.Listener.links_left g.N.Listener.finished_links g.N.Listener.accepted g.N.Listener.finished g.N.Listener.faults c.args.self.now.path c.in-Some.listener _ =
    turned_away g.N.Listener.links_left g.N.Listener.finished_links g.N.Listener.accepted g.N.Listener.finished g.N.Listener.faults c.args.self.now.path
    c.in-Some.listener c.accept.new.self c.finish.new.self c.in-Ok-Link.link told
    record {
      link = rw c.in-Ok-Link.field-0-is at a.link;
      number = rw c.in-Ok-Link.field-0-is at a.number;
      finished_are = a.finished;
      finished_links_are = a.finished_links;
      never_falls = a.never_falls;
      failed = rw c.in-Ok-Link.field-0-is at a.failed;
      fine = a.fine;
    }
    record { finished_are = f.finished; links = f.links; accepted_are = f.accepted; left = f.left; faults_are = f.faults } in
    let held : c.args.self.now.listener ≡ Some c.in-Some.listener = cc (c.take.ensures.value, c.in-Some.is) in
    rw held gone

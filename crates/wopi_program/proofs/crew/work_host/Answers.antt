use Rattle.std.proofs.Common.{◌≡◌, ◌+◌, ◌≤◌, List, [], ◌∷◌, ◌++◌, length, length-append, map, vec_capacity, refl, sym, ap, ◌∙◌, subst, rules, arith}
use Rattle.std.specs.List.{AllByRecursion}
use Rattle.host_table.specs.Passes.{HostView, PassView, locks_of, sight_of}
use Rattle.host_server.specs.declared.working.Worker.{Worker}
use Rattle.host_server.specs.WorkMeanings.{WorkMeanings}
use Rattle.host_server.specs.Working.{MayWork}
use Rattle.wopi_program.specs.Passes.{AreReady, AreSplit}
use Rattle.wopi_program.proofs.HostLemmas.{as_many, enough_room, worked_many, workers_may}
use Rattle.wopi_program.proofs.PassLemmas.{ready_front}
use Rattle.wopi_program.proofs.WatchLemmas.{none_right}
use Rattle.wopi_program.proofs.crew.work_host.Goals as goal

pub split_off-passes-requires-clause-few : goal.split_off-passes-requires-clause-few
split_off-passes-requires-clause-few g c = subst (λ n. n ≤ 1024) (sym (c.args.crew.splits_fit ∙ c.requires.crew)) c.requires.few

pub split_off-passes-requires-clause-room : goal.split_off-passes-requires-clause-room
split_off-passes-requires-clause-room g c =
    (c.args.crew.passes_fit.0, subst (λ n. n + 1 ≤ vec_capacity c.args.crew.passes) (sym c.args.crew.splits_fit) c.args.crew.passes_fit.1)

pub seat-workers-requires-clause-passes : goal.seat-workers-requires-clause-passes
seat-workers-requires-clause-passes g c =
    let olds = c.split_off-passes.result.0.items in
    let eye = c.split_off-passes.result.1 in
    let many : length (olds ++ eye ∷ []) ≡ length c.args.crew.splits.items + 1 = c.split_off-passes.ensures.split.many in
    let sums : length (olds ++ eye ∷ []) ≡ length olds + 1 = length-append olds (eye ∷ []) in
    let fit = c.args.crew.splits_fit in
    let count = c.requires.crew in
    let all : length olds ≡ length c.args.listeners.now.items = omega (arith, many, sums, fit, count) in
    all ∙ sym (λ i. length (c.replace-heard.ensures.value i).items)

pub work_all-workers-requires-clause-may : goal.work_all-workers-requires-clause-may
work_all-workers-requires-clause-may g c =
    let F = g.row.F.Denot in
    let host = c.args.host.now in
    let made = c.split_off-passes.new.host.made in
    let workers = c.seat-workers.result.items in
    let ready = subst (AreReady host 0) (sym c.seat-workers.ensures.passes) (ready_front host 0 c.split_off-passes.result.0.items c.split_off-passes.result.1 c.split_off-passes.ensures.split.ready).0 in
    let m : WorkMeanings g.row.N.Denot g.row.N-Link.Denot g.row.C.Denot = record {
      links_left = g.N.Listener.links_left;
      finished_links = g.N.Listener.finished_links;
      accepted = g.N.Listener.accepted;
      finished = g.N.Listener.finished;
      faults = g.N.Listener.faults;
      left = g.N.Link.Source.left;
      held = g.N.Link.Sink.held;
      read_faults = g.N.Link.Source.read_faults;
      write_faults = g.N.Link.Sink.write_faults;
      moments = g.C.Clock.moments;
      loses = g.F.Store.loses;
    }
    in
    let heard : c.args.listeners.now.items ≡ map (λ (w : Worker g.row.N.Denot g.row.C.Denot F). w.listener) workers =
    sym (c.seat-workers.ensures.listeners ∙ (λ i. (c.replace-heard.ensures.value i).items))
    in
    let back = subst (AllByRecursion (λ (listener : g.row.N.Denot). m.finished listener ≡ m.accepted listener)) heard c.requires.has_all_back in
    let fact : AllByRecursion (MayWork m c.split_off-passes.new.host) workers =
    subst (λ (h : HostView F). AllByRecursion (MayWork m h) workers) (sym c.split_off-passes.ensures.host) (workers_may m host made 0 workers ready back)
    in
    search (rules, fact)

pub work_all-workers-requires-clause-host : goal.work_all-workers-requires-clause-host
work_all-workers-requires-clause-host g c κs within =
    let fresh = (ready_front c.args.host.now 0 c.split_off-passes.result.0.items c.split_off-passes.result.1 c.split_off-passes.ensures.split.ready).1 in
    subst (λ (h : HostView g.row.F.Denot). locks_of c.split_off-passes.result.1 ≡ h.locks) (sym c.split_off-passes.ensures.host) fresh.of_host.locks

pub work_all-workers-requires-clause-right : goal.work_all-workers-requires-clause-right
work_all-workers-requires-clause-right g c κs within = none_right c.lowered-marks.result c.lowered-marks.ensures (sight_of c.split_off-passes.result.1)

pub unseat-requires-clause-listeners : goal.unseat-requires-clause-listeners
unseat-requires-clause-listeners g c =
    let olds = c.seat-workers.result.items in
    let worked = c.work_all-workers.result.items in
    let many : length worked ≡ length c.args.listeners.now.items =
    worked_many (λ (w : Worker g.row.N.Denot g.row.C.Denot g.row.F.Denot). w.listener) olds worked c.args.listeners.now.items (c.seat-workers.ensures.listeners ∙ (λ i. (c.replace-heard.ensures.value i).items))
    (as_many _ (λ (w : Worker g.row.N.Denot g.row.C.Denot g.row.F.Denot). w.listener) olds worked c.work_all-workers.ensures.works) in
    ((λ i. (c.replace-heard.ensures.after i).items) ∙ c.args.crew.listeners_fit.0, enough_room _ _ _ _ _ many c.requires.crew c.args.crew.listeners_fit.1 (λ i. vec_capacity (c.replace-heard.ensures.after i)))

pub unseat-requires-clause-clocks : goal.unseat-requires-clause-clocks
unseat-requires-clause-clocks g c =
    let olds = c.seat-workers.result.items in
    let worked = c.work_all-workers.result.items in
    let many : length worked ≡ length c.args.listeners.now.items =
    worked_many (λ (w : Worker g.row.N.Denot g.row.C.Denot g.row.F.Denot). w.listener) olds worked c.args.listeners.now.items (c.seat-workers.ensures.listeners ∙ (λ i. (c.replace-heard.ensures.value i).items))
    (as_many _ (λ (w : Worker g.row.N.Denot g.row.C.Denot g.row.F.Denot). w.listener) olds worked c.work_all-workers.ensures.works) in
    ((λ i. (c.replace-timed.ensures.after i).items) ∙ c.args.crew.clocks_fit.0, enough_room _ _ _ _ _ many c.requires.crew c.args.crew.clocks_fit.1 (λ i. vec_capacity (c.replace-timed.ensures.after i)))

pub unseat-requires-clause-passes : goal.unseat-requires-clause-passes
unseat-requires-clause-passes g c =
    let olds = c.seat-workers.result.items in
    let worked = c.work_all-workers.result.items in
    let many : length worked ≡ length c.args.listeners.now.items =
    worked_many (λ (w : Worker g.row.N.Denot g.row.C.Denot g.row.F.Denot). w.listener) olds worked c.args.listeners.now.items (c.seat-workers.ensures.listeners ∙ (λ i. (c.replace-heard.ensures.value i).items))
    (as_many _ (λ (w : Worker g.row.N.Denot g.row.C.Denot g.row.F.Denot). w.listener) olds worked c.work_all-workers.ensures.works) in
    let count = c.requires.crew in
    let room = c.args.crew.ended_fit.1 in
    (c.args.crew.ended_fit.0, omega (arith, many, count, room))

pub unseat-requires-clause-ends : goal.unseat-requires-clause-ends
unseat-requires-clause-ends g c =
    let olds = c.seat-workers.result.items in
    let worked = c.work_all-workers.result.items in
    let many : length worked ≡ length c.args.listeners.now.items =
    worked_many (λ (w : Worker g.row.N.Denot g.row.C.Denot g.row.F.Denot). w.listener) olds worked c.args.listeners.now.items (c.seat-workers.ensures.listeners ∙ (λ i. (c.replace-heard.ensures.value i).items))
    (as_many _ (λ (w : Worker g.row.N.Denot g.row.C.Denot g.row.F.Denot). w.listener) olds worked c.work_all-workers.ensures.works) in
    (c.args.crew.ends_fit.0, enough_room _ _ _ _ _ many c.requires.crew c.args.crew.ends_fit.1 refl)

pub returns-clause-returned : goal.returns-clause-returned
returns-clause-returned g c =
    let host = c.args.host.now in
    let made = c.split_off-passes.new.host.made in
    let eye = c.split_off-passes.result.1 in
    let count : length c.args.crew.splits.items + 1 ≡ length c.args.listeners.now.items + 1 = ap (λ n. n + 1) (c.args.crew.splits_fit ∙ c.requires.crew) in
    record {
      olds = c.seat-workers.result.items;
      news = c.work_all-workers.result.items;
      eye = eye;
      eye' = c.work_all-workers.new.pass;
      split = subst (λ (l : List (PassView g.row.F.Denot)). AreSplit host (length c.args.listeners.now.items + 1) made (l ++ eye ∷ [])) (sym c.seat-workers.ensures.passes)
          (subst (λ n. AreSplit host n made (c.split_off-passes.result.0.items ++ eye ∷ [])) count c.split_off-passes.ensures.split);
      works = c.work_all-workers.ensures.works;
      same = c.work_all-workers.ensures.same;
      own = c.work_all-workers.ensures.own;
      right = c.work_all-workers.ensures.right;
      passes_are = c.unseat.ensures.passes;
      ends_are = c.unseat.ensures.ends;
      listeners_were = c.seat-workers.ensures.listeners ∙ (λ i. (c.replace-heard.ensures.value i).items);
      listeners_are = c.unseat.ensures.listeners;
      clocks_were = c.seat-workers.ensures.clocks ∙ (λ i. (c.replace-timed.ensures.value i).items);
      clocks_are = c.unseat.ensures.clocks;
    }

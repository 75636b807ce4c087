use Rattle.std.proofs.Common.{arith, ◌≡◌, ◌∙◌, ◌++◌, ap, sym, subst, List, map, length}
use Rattle.std.proofs.lemmas.List.{length-map}
use Rattle.host_core.specs.Value.{Book}
use Rattle.host_table.specs.Histories.{as_opened}
use Rattle.host_table.specs.Passes.{HostView, top, AreBases}
use Rattle.host_table.specs.Reopen.{AllGoOn, AreHandedOn, AreOfOne, endless, greatest_last}
use Rattle.host_table.specs.Start.{start_of, log_in, first_seats, AreHanded}
use Rattle.host_table.proofs.Beginning.{starts_same}
use Rattle.host_table.proofs.OldLives.{going_bases, going_opened, going_top}
use Rattle.host_table.proofs.Resumed.{going_long, going_new, handed_back, on_self}
use Rattle.host_table.proofs.host.Host.reopen.Goals as goal

pub returns-then-not-are_of_one-clause-handed : goal.returns-then-not-are_of_one-clause-handed
returns-then-not-are_of_one-clause-handed g c =
    let f = g.F.Store in on_self f.files f.faults f.notes c.args.lives.items c.args.folders.items (c.requires.lives ∙ sym c.requires.folders)

pub returns-in_default-clause-handed : goal.returns-in_default-clause-handed
returns-in_default-clause-handed g c =
    let f = g.F.Store in on_self f.files f.faults f.notes c.args.lives.items c.args.folders.items (c.requires.lives ∙ sym c.requires.folders)

pub lock_all-requires-clause-new : goal.lock_all-requires-clause-new
lock_all-requires-clause-new g c =
    let f = g.F.Store in going_new f.files f.times f.faults f.notes c.args.ids 0 c.args.lives.items c.args.folders.items c.in-Ok-reopen_all.shards.items c.in-Ok-reopen_all.ensures.going

pub lock_all-requires-clause-many : goal.lock_all-requires-clause-many
lock_all-requires-clause-many g c =
    let f = g.F.Store in (going_long f.files f.times f.faults f.notes c.args.ids 0 c.args.lives.items c.args.folders.items c.in-Ok-reopen_all.shards.items c.in-Ok-reopen_all.ensures.going).0 ∙ c.requires.folders

pub hand_back-requires-clause-room : goal.hand_back-requires-clause-room
hand_back-requires-clause-room g c =
    let f = g.F.Store in
    let many : length c.in-Ok-reopen_all.shards.items ≡ 16 =
    (going_long f.files f.times f.faults f.notes c.args.ids 0 c.args.lives.items c.args.folders.items c.in-Ok-reopen_all.shards.items c.in-Ok-reopen_all.ensures.going).0 ∙ c.requires.folders in
    let back : length c.in-Err-lock_all.shards.items ≡ length c.in-Ok-reopen_all.shards.items =
    sym (length-map c.in-Err-lock_all.shards.items as_opened) ∙ (ap length c.in-Err-lock_all.ensures.back.0 ∙ length-map c.in-Ok-reopen_all.shards.items as_opened) in
    let none : length c.reopen_all.new.back.items ≡ 0 = ap length c.in-Ok-reopen_all.ensures.back.0 in
    let same = c.in-Ok-reopen_all.ensures.back.1 in let room = c.in-Ok.ensures.capacity in
    omega (arith, c.in-Err-lock_all.shards.ok.0, c.reopen_all.new.back.ok.0)

pub returns-in-Err-lock_all-clause-handed : goal.returns-in-Err-lock_all-clause-handed
returns-in-Err-lock_all-clause-handed g c =
    let F = g.row.F.Denot in let f = g.F.Store in let h = c.hand_back.ensures.handed in
    let lives = c.args.lives.items in let folders = c.args.folders.items in let shards = c.in-Ok-reopen_all.shards.items in
    let starts : map start_of c.in-Err-lock_all.shards.items ≡ map start_of shards =
    starts_same f.files f.times f.faults c.index.result.now.opened c.index-2.result.now.first (endless c.args.ids) c.in-Err-lock_all.shards.items shards c.in-Err-lock_all.ensures.back.0 in
    let back : c.hand_back.new.back.items ≡ h.0 = h.1 ∙ ap (λ (z : List F). z ++ h.0) c.in-Ok-reopen_all.ensures.back.0 in
    let handed : AreHanded f.files f.faults (map start_of shards) h.0 = subst (λ (olds : List F). AreHanded f.files f.faults olds h.0) starts h.2 in
    let logs : map (log_in f.notes) h.0 ≡ map (log_in f.notes) (map start_of shards) = h.3 ∙ ap (map (log_in f.notes)) starts in
    subst (λ (news : List F). AreHandedOn f.files f.faults f.notes lives folders news) (sym back)
    (handed_back f.files f.times f.faults f.notes c.args.ids 0 lives folders shards h.0 c.in-Ok-reopen_all.ensures.going handed logs)

pub begin-requires-clause-many : goal.begin-requires-clause-many
begin-requires-clause-many g c =
    let f = g.F.Store in (
      c.in-Ok-lock_all.ensures.many,
      ap (λ v. length v.items) c.of-about.ensures ∙ ((going_long f.files f.times f.faults f.notes c.args.ids 0 c.args.lives.items c.args.folders.items c.in-Ok-reopen_all.shards.items c.in-Ok-reopen_all.ensures.going).0 ∙ c.requires.folders),
    )

pub begin-requires-clause-last : goal.begin-requires-clause-last
begin-requires-clause-last g c =
    let f = g.F.Store in let shards = c.in-Ok-reopen_all.shards.items in let locks = c.in-Ok-lock_all.locks.items in
    let going = c.in-Ok-reopen_all.ensures.going in
    let long = (going_long f.files f.times f.faults f.notes c.args.ids 0 c.args.lives.items c.args.folders.items shards going).0 ∙ c.requires.folders in
    c.greatest_last-last.ensures
    ∙ going_top f.files f.times f.faults f.notes c.args.ids c.index.result.now.opened c.index-2.result.now.first 0 locks c.args.lives.items c.args.folders.items shards going (c.in-Ok-lock_all.ensures.many ∙ sym long)
    ∙ sym (ap (λ v. top (first_seats locks (map as_opened v.items))) c.of-about.ensures)

pub begin-requires-clause-bases : goal.begin-requires-clause-bases
begin-requires-clause-bases g c =
    let f = g.F.Store in let opened = c.index.result.now.opened in let first = c.index-2.result.now.first in
    let P : List (Book g.row.F.Denot) → Type 0 = λ books. AreBases opened first (endless c.args.ids) 0 (map as_opened books) in
    let of : AreOfOne opened first c.args.lives.items = c.are_of_one.ensures.0 c.if-not-are_of_one.false in
    subst P (sym (ap (λ v. v.items) c.of-about.ensures))
    (going_bases f.files f.times f.faults f.notes c.args.ids opened first 0 c.args.lives.items c.args.folders.items c.in-Ok-reopen_all.shards.items c.in-Ok-reopen_all.ensures.going of)

pub returns-in-Ok-lock_all-clause-going : goal.returns-in-Ok-lock_all-clause-going
returns-in-Ok-lock_all-clause-going g c =
    let F = g.row.F.Denot in let f = g.F.Store in let host = c.begin.ensures.host in
    let lives = c.args.lives.items in let folders = c.args.folders.items in
    let opened = c.index.result.now.opened in let first = c.index-2.result.now.first in
    let bases : c.begin.result.0.bases ≡ map as_opened c.in-Ok-reopen_all.shards.items = ap (λ (h : HostView F). h.bases) host ∙ ap (λ v. map as_opened v.items) c.of-about.ensures in
    let of : AreOfOne opened first lives = c.are_of_one.ensures.0 c.if-not-are_of_one.false in
    let P : List (Book F) → Type 0 = λ z. AllGoOn f.files f.times f.faults f.notes c.args.ids 0 lives folders z in
    record {
      one = subst (λ (h : HostView F). AreOfOne h.opened h.first lives) (sym host) of;
      bases = subst P (sym bases) (going_opened f.files f.times f.faults f.notes c.args.ids opened first 0 lives folders c.in-Ok-reopen_all.shards.items c.in-Ok-reopen_all.ensures.going);
      limits_is = ap (λ (h : HostView F). h.limits) host;
      made = ap (λ (h : HostView F). h.made) host;
      pass_is = c.begin.ensures.pass;
      of_host = c.begin.ensures.of_host;
    }

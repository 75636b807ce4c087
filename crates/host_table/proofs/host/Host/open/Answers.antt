use Rattle.std.proofs.Common.{arith, ◌≡◌, ◌∙◌, ◌++◌, ap, sym, subst, List, map, length}
use Rattle.std.proofs.lemmas.List.{length-map}
use Rattle.host_core.specs.Value.{Book}
use Rattle.host_table.specs.Histories.{as_opened}
use Rattle.host_table.specs.Passes.{HostView, top, AreBases}
use Rattle.host_table.specs.Start.{limits_of, start_of, log_in, first_seats, AreHanded, AreBegun}
use Rattle.host_table.proofs.Starting.{handed_self, begun_starts, begun_new, begun_long}
use Rattle.host_table.proofs.Beginning.{begun_opened, begun_bases, begun_top, starts_same}
use Rattle.host_table.proofs.host.Host.open.Goals as goal

pub returns-in_default-clause-handed : goal.returns-in_default-clause-handed
returns-in_default-clause-handed g c = let f = g.F.Store in handed_self f.files f.faults c.args.folders.items

pub lock_all-requires-clause-new : goal.lock_all-requires-clause-new
lock_all-requires-clause-new g c = let f = g.F.Store in begun_new f.files f.times f.faults c.args.opened c.args.first (limits_of c.args.most) 0 c.args.folders.items c.in-Ok-open_all.shards.items c.in-Ok-open_all.ensures.begun

pub lock_all-requires-clause-many : goal.lock_all-requires-clause-many
lock_all-requires-clause-many g c = let f = g.F.Store in begun_long f.files f.times f.faults c.args.opened c.args.first (limits_of c.args.most) 0 c.args.folders.items c.in-Ok-open_all.shards.items c.in-Ok-open_all.ensures.begun ∙ c.requires.folders

pub hand_back-requires-clause-room : goal.hand_back-requires-clause-room
hand_back-requires-clause-room g c =
    let f = g.F.Store in
    let many : length c.in-Ok-open_all.shards.items ≡ 16 = begun_long f.files f.times f.faults c.args.opened c.args.first (limits_of c.args.most) 0 c.args.folders.items c.in-Ok-open_all.shards.items c.in-Ok-open_all.ensures.begun ∙ c.requires.folders in
    let back : length c.in-Err-lock_all.shards.items ≡ length c.in-Ok-open_all.shards.items =
    sym (length-map c.in-Err-lock_all.shards.items as_opened) ∙ (ap length c.in-Err-lock_all.ensures.back.0 ∙ length-map c.in-Ok-open_all.shards.items as_opened) in
    let none : length c.open_all.new.back.items ≡ 0 = ap length c.in-Ok-open_all.ensures.back.0 in
    let same = c.in-Ok-open_all.ensures.back.1 in let room = c.in-Ok.ensures.capacity in
    omega (arith, c.in-Err-lock_all.shards.ok.0, c.open_all.new.back.ok.0)

pub returns-in-Err-lock_all-clause-handed : goal.returns-in-Err-lock_all-clause-handed
returns-in-Err-lock_all-clause-handed g c =
    let F = g.row.F.Denot in let f = g.F.Store in let h = c.hand_back.ensures.handed in
    let starts : map start_of c.in-Err-lock_all.shards.items ≡ c.args.folders.items =
    starts_same f.files f.times f.faults c.args.opened c.args.first (limits_of c.args.most) c.in-Err-lock_all.shards.items c.in-Ok-open_all.shards.items c.in-Err-lock_all.ensures.back.0 ∙ begun_starts f.files f.times f.faults c.args.opened c.args.first (limits_of c.args.most) 0 c.args.folders.items c.in-Ok-open_all.shards.items c.in-Ok-open_all.ensures.begun in
    let back : c.hand_back.new.back.items ≡ h.0 = h.1 ∙ ap (λ (z : List F). z ++ h.0) c.in-Ok-open_all.ensures.back.0 in
    let P : List F × List F → Type 0 = λ z. AreHanded f.files f.faults z.0 z.1 in
    let both : (map start_of c.in-Err-lock_all.shards.items, h.0) ≡ (c.args.folders.items, c.hand_back.new.back.items) = λ i. (starts i, sym back i) in
    subst P both h.2

pub returns-in-Err-lock_all-clause-logs : goal.returns-in-Err-lock_all-clause-logs
returns-in-Err-lock_all-clause-logs g c =
    let F = g.row.F.Denot in let f = g.F.Store in let h = c.hand_back.ensures.handed in
    let starts : map start_of c.in-Err-lock_all.shards.items ≡ c.args.folders.items =
    starts_same f.files f.times f.faults c.args.opened c.args.first (limits_of c.args.most) c.in-Err-lock_all.shards.items c.in-Ok-open_all.shards.items c.in-Err-lock_all.ensures.back.0 ∙ begun_starts f.files f.times f.faults c.args.opened c.args.first (limits_of c.args.most) 0 c.args.folders.items c.in-Ok-open_all.shards.items c.in-Ok-open_all.ensures.begun in
    let back : c.hand_back.new.back.items ≡ h.0 = h.1 ∙ ap (λ (z : List F). z ++ h.0) c.in-Ok-open_all.ensures.back.0 in
    ap (map (log_in f.notes)) back ∙ (h.3 ∙ ap (map (log_in f.notes)) starts)

pub begin-requires-clause-many : goal.begin-requires-clause-many
begin-requires-clause-many g c =
    let f = g.F.Store in
    (c.in-Ok-lock_all.ensures.many, ap (λ v. length v.items) c.of-about.ensures ∙ (begun_long f.files f.times f.faults c.args.opened c.args.first (limits_of c.args.most) 0 c.args.folders.items c.in-Ok-open_all.shards.items c.in-Ok-open_all.ensures.begun ∙ c.requires.folders))

pub begin-requires-clause-last : goal.begin-requires-clause-last
begin-requires-clause-last g c =
    let f = g.F.Store in let books = c.in-Ok-open_all.shards.items in let locks = c.in-Ok-lock_all.locks.items in
    sym (ap (λ v. top (first_seats locks (map as_opened v.items))) c.of-about.ensures
    ∙ begun_top f.files f.times f.faults c.args.opened c.args.first (limits_of c.args.most) 0 locks c.args.folders.items books c.in-Ok-open_all.ensures.begun)

pub begin-requires-clause-bases : goal.begin-requires-clause-bases
begin-requires-clause-bases g c =
    let f = g.F.Store in
    let P : List (Book g.row.F.Denot) → Type 0 = λ books. AreBases c.args.opened c.args.first (limits_of c.args.most) 0 (map as_opened books) in
    subst P (sym (ap (λ v. v.items) c.of-about.ensures)) (begun_bases f.files f.times f.faults c.args.opened c.args.first (limits_of c.args.most) 0 c.args.folders.items c.in-Ok-open_all.shards.items c.in-Ok-open_all.ensures.begun)

pub returns-in-Ok-lock_all-clause-starts : goal.returns-in-Ok-lock_all-clause-starts
returns-in-Ok-lock_all-clause-starts g c =
    let f = g.F.Store in let host = c.begin.ensures.host in
    let bases : c.begin.result.0.bases ≡ map as_opened c.in-Ok-open_all.shards.items = ap (λ (h : HostView g.row.F.Denot). h.bases) host ∙ ap (λ v. map as_opened v.items) c.of-about.ensures in
    let P : List (Book g.row.F.Denot) → Type 0 = λ z. AreBegun f.files f.times f.faults c.args.opened c.args.first (limits_of c.args.most) 0 c.args.folders.items z in
    record {
      bases = subst P (sym bases) (begun_opened f.files f.times f.faults c.args.opened c.args.first (limits_of c.args.most) 0 c.args.folders.items c.in-Ok-open_all.shards.items c.in-Ok-open_all.ensures.begun);
      opened_is = ap (λ (h : HostView g.row.F.Denot). h.opened) host;
      first_is = ap (λ (h : HostView g.row.F.Denot). h.first) host;
      limits_is = ap (λ (h : HostView g.row.F.Denot). h.limits) host;
      made = ap (λ (h : HostView g.row.F.Denot). h.made) host;
      pass_is = c.begin.ensures.pass;
      of_host = c.begin.ensures.of_host;
    }

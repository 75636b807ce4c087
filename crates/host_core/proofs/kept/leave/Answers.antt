use Rattle.std.proofs.Common.{◌≡◌, List, subst, sym}
use Rattle.wopi_model.specs.Begin.{Begin}
use Rattle.wopi_model.specs.Host.{kept_from}
use Rattle.host_core.specs.Entries.{Made}
use Rattle.host_core.specs.Times.{untimed}
use Rattle.host_core.proofs.Brimming.{bytes_kept}
use Rattle.host_core.proofs.kept.leave.Goals as goal

pub end-requires : goal.end-requires
end-requires g c =
    let shard = c.args.shard in
    let store = c.end-store.result.0 in
    let bytes = bytes_kept shard.limits.calls store.most shard.begin shard.made shard.time c.bytes-bytes.result shard.ticked c.end-store.ensures.most c.bytes-bytes.ensures in
    subst (λ (b : Begin). c.bytes-bytes.result ≡ kept_from b (untimed store.notes.made)) (sym c.end-store.ensures.begin)
    (subst (λ (m : List Made). c.bytes-bytes.result ≡ kept_from shard.begin (untimed m)) (sym c.end-store.ensures.made) bytes)

use Rattle.host_core.proofs.Listings.{single_lists, single_looks}
use Rattle.host_core.proofs.single.SingleLister.list.Goals as goal

pub returns-in-Ok-clause-listed : goal.returns-in-Ok-clause-listed
returns-in-Ok-clause-listed g c =
    single_lists c.args.self.now.shard c.args.shard c.len-place.result c.in-Ok.children c.requires c.len-place.ensures.count c.len-place.ensures.lawful.timely c.in-Ok.ensures

pub returns-in-Ok-clause-looks : goal.returns-in-Ok-clause-looks
returns-in-Ok-clause-looks g c =
    let f = g.F.Store in
    let book = c.args.self.now.shard in
    single_looks book c.args.shard (f.files book.start) (f.files book.folder) (f.faults book.start) (f.faults book.folder) c.requires c.len-place.ensures.lawful

pub returns-in-Err-clause-looks : goal.returns-in-Err-clause-looks
returns-in-Err-clause-looks g c =
    let f = g.F.Store in
    let book = c.args.self.now.shard in
    single_looks book c.args.shard (f.files book.start) (f.files book.folder) (f.faults book.start) (f.faults book.folder) c.requires c.len-place.ensures.lawful

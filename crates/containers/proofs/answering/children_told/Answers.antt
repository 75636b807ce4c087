use Rattle.containers.proofs.Merges.{listed_apart}
use Rattle.containers.proofs.answering.children_told.Goals as goal

pub merged-requires : goal.merged-requires
merged-requires g c = listed_apart (g.L.Caller.sight c.list_all.new.lister) 0 c.in_ok-listings.listings.items c.in_ok-listings.ensures.listed.each

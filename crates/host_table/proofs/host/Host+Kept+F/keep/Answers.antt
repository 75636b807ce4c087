use Rattle.std.proofs.Common.{◌≡◌, ◌≤◌, List, map, length, vec_len, vec_capacity, ap, sym, subst, ◌∙◌, arith}
use Rattle.std.proofs.lemmas.List.{length-map}
use Rattle.host_table.specs.Start.{folder_in, AreHanded, IsBlamed}
use Rattle.host_table.proofs.Freed.{handed_over, blamed_over}
use Rattle.host_table.proofs.Starting.{handed_long, handed_self}
use Rattle.host_table.proofs.host.Host+Kept+F.keep.Goals as goal

pub returns-in_default-clause-handed : goal.returns-in_default-clause-handed
returns-in_default-clause-handed g c = let f = g.F.Folder in handed_self f.files f.faults c.args.folders.items

pub returns-in-Err-clause-handed : goal.returns-in-Err-clause-handed
returns-in-Err-clause-handed g c =
    let F = g.row.F.Denot in let f = g.F.Folder in
    subst (λ (l : List F). AreHanded f.files f.faults c.args.folders.items l) (λ i. (sym c.in-Err.ensures.back i).items) (handed_self f.files f.faults c.args.folders.items)

pub free_all-requires : goal.free_all-requires
free_all-requires g c =
    let stores = c.in-Ok-keep_all.stores.items in let back = c.in-Err-start.stores in
    let long : length back.items ≡ length stores = handed_long _ _ stores back.items c.in-Err-start.ensures.handed in
    let many : length stores ≡ 16 = sym (length-map stores folder_in) ∙ (ap length c.in-Ok-keep_all.ensures.kept ∙ c.requires.folders) in
    let whole : vec_len back ≡ length back.items = back.ok.0 in
    let room' : 16 ≤ vec_capacity c.in-Ok.back = c.in-Ok.ensures.capacity in
    record { room = (c.in-Ok.ensures.items, omega (arith, long, many, whole, room')) }

pub returns-in-Err-start-clause-handed : goal.returns-in-Err-start-clause-handed
returns-in-Err-start-clause-handed g c =
    let F = g.row.F.Denot in let f = g.F.Folder in
    let stores = c.in-Ok-keep_all.stores.items in let back = c.in-Err-start.stores.items in
    let P : List F × List F → Type 0 = λ z. AreHanded f.files f.faults z.0 z.1 in
    let both : (map folder_in stores, map folder_in back) ≡ (c.args.folders.items, c.free_all.new.back.items) = λ i. (c.in-Ok-keep_all.ensures.kept i, sym c.free_all.ensures i) in
    subst P both (handed_over f.files f.faults stores back c.in-Err-start.ensures.handed)

pub returns-in-Err-start-clause-blamed : goal.returns-in-Err-start-clause-blamed
returns-in-Err-start-clause-blamed g c =
    let F = g.row.F.Denot in let f = g.F.Folder in
    let stores = c.in-Ok-keep_all.stores.items in let back = c.in-Err-start.stores.items in
    let P : List F × List F → Type 0 = λ z. IsBlamed f.files f.faults z.0 z.1 c.in-Err-start.fault in
    let both : (map folder_in stores, map folder_in back) ≡ (c.args.folders.items, c.free_all.new.back.items) = λ i. (c.in-Ok-keep_all.ensures.kept i, sym c.free_all.ensures i) in
    subst P both (blamed_over f.files f.faults stores back c.in-Err-start.fault c.in-Err-start.ensures.blamed)

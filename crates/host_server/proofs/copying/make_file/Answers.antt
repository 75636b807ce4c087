use Rattle.std.proofs.Common.{◌<◌, subst}
use Rattle.host_server.proofs.CopyLemmas.{tries_fit, made_tells, full_tells, begun_tells}
use Rattle.host_server.proofs.copying.make_file.Goals as goal

pub create-requires-clause-names : goal.create-requires-clause-names
create-requires-clause-names g c =
    let copying = c.args.copying in
    λ number few. tries_fit c.a_tidied_name_has_every_candidate.ensures copying.source copying.target c.args.name.now c.requires.good c.requires.asked number (subst (λ count. number < count) c.tries.ensures few)

pub returns-in-Ruled-clause-tells : goal.returns-in-Ruled-clause-tells
returns-in-Ruled-clause-tells g c =
    made_tells g.C.Caller.always c.args.desk.now c.args.copying (g.C.Caller.sight c.args.caller.now) (g.C.Caller.sight c.create.new.caller) c.requires.good
    c.args.name.now c.overwrites.result c.tries.result c.requires.asked c.overwrites.ensures c.tries.ensures c.in-Ruled.name c.in-Ruled.ruling c.file_told.result
    c.in-Ruled.ensures.creates c.file_told.ensures

pub returns-in-Full-clause-tells : goal.returns-in-Full-clause-tells
returns-in-Full-clause-tells g c =
    full_tells g.C.Caller.always c.args.desk.now c.args.copying (g.C.Caller.sight c.args.caller.now) (g.C.Caller.sight c.create.new.caller) c.requires.good
    c.args.name.now c.overwrites.result c.tries.result c.requires.asked c.overwrites.ensures c.tries.ensures c.journal_full.result
    c.in-Full.ensures.creates c.journal_full.ensures

pub returns-clause-tells : goal.returns-clause-tells
returns-clause-tells g c =
    begun_tells g.C.Caller.always c.args.desk.now c.args.copying (g.C.Caller.sight c.args.caller.now) (g.C.Caller.sight c.create.new.caller) c.requires.good
    c.args.name.now c.overwrites.result c.tries.result c.requires.asked c.overwrites.ensures c.tries.ensures _ c.in-Memory.ensures.creates

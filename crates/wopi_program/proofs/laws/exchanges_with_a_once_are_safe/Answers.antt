use Rattle.std.proofs.Common.{map}
use Rattle.wopi_model.specs.Shard.{Step}
use Rattle.host_server.specs.Deeds.{made}
use Rattle.wopi_program.proofs.laws.exchanges_with_a_once_are_safe.Goals as goal

pub returns : goal.returns
returns g c m keys base editor origin end folder folder' clock clock' old new desktop client ending spoken heard served hears crosses =
    c.both_ends_are_safe.ensures.shard desktop client ending spoken heard served.stood served.desk.opened 1 (map Step (made served.serves.serves.deeds)) served.legal hears crosses

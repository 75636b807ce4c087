use Rattle.std.specs.Prelude.{codes, ◌≡◌}
use Rattle.std.proofs.Common.{refl, sym, rules}
use Rattle.wopi_text.specs.FileName.{IsFileName}
use Rattle.wopi_text.specs.Ids.{id_of}
use Rattle.save_session.specs.Nonce.{IsNonce}
use Rattle.schedule_text.proofs.opening_rows.session_of.Goals as goal

pub returns-clause-some : goal.returns-clause-some
returns-clause-some c =
    let kind : c.args.kind.now ≡ codes "session" = search rules in
    let name : IsFileName c.in-Ok.file = search rules in
    let id : c.args.id.now ≡ id_of c.in-Ok.file = cc c.in-Ok.ensures.value in
    let nonce : c.in-Some.nonce ≡ c.args.nonce.now = c.in-Some.ensures.value in
    let form : IsNonce c.in-Some.nonce = rw nonce (c.in-Some.ensures.exact.0 refl) in
    let expires = (c.moment_read.ensures c.in-Some-moment_read.expires).0 c.in-Some-moment_read.is in
    record { file_form = name; nonce_form = form; expires_form = expires.0; kind_is = kind; id_is = id; nonce_is = sym nonce; expires_is = expires.1 }

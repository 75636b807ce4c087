use Rattle.wopi_http.proofs.EndLemmas.{whole_is_reply}
use Rattle.wopi_http.proofs.client_laws.a_whole_reply_is_a_reply.Goals as goal

pub returns : goal.returns
returns c = whole_is_reply

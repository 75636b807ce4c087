use Rattle.std.proofs.Common.{refl, sym, ap, ◌∙◌, ◌++◌}
use Rattle.std.proofs.lemmas.List.{append_cancel_left}
use Rattle.wopi_headers.specs.Containers.{front, behind_front, container_path}
use Rattle.wopi_headers.specs.Containers.IsContainerRefusal.{no_container, no_get}
use Rattle.wopi_headers.proofs.Queries.{token_is_of}
use Rattle.wopi_headers.proofs.placing.container_at.Goals as goal

pub returns-in_default : goal.returns-in_default
unfolding container_path
returns-in_default c =
    no_container refl (λ op e. c.in_default.ensures op (append_cancel_left front c.args.rest.now (behind_front op) (sym c.requires.path ∙ e)))

pub returns-in_ok-token-in-Get : goal.returns-in_ok-token-in-Get
unfolding container_path
returns-in_ok-token-in-Get c = record {
  path = c.requires.path ∙ ap (λ rest. front ++ rest) c.in-Some.ensures;
  get = c.in-Get.is;
  token_is = token_is_of c.args.query.now c.args.request.now.target c.in_ok-token-in-Get.token c.requires.query c.in_ok-token-in-Get.ensures;
}

pub returns-in_default-method : goal.returns-in_default-method
unfolding container_path
returns-in_default-method c =
    no_get refl c.in-Some.op (c.requires.path ∙ ap (λ rest. front ++ rest) c.in-Some.ensures) (λ e. c.in_default-method.not-Get e)

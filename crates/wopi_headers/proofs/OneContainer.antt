-- A request asks for one thing of the container at most.
use Rattle.std.proofs.Common.{◌≡◌, ℕ, Bool, List, ◌++◌, codes, length, get_or, refl, sym, ap, ◌∙◌, arith}
use Rattle.wopi_text.specs.Ids.{id_of}
use Rattle.wopi_http.specs.declared.message.Request.{Request}
use Rattle.wopi_headers.specs.declared.container.ContainerAsk.{ContainerAsk}
use Rattle.wopi_headers.specs.declared.container.ContainerOp.{ContainerOp}
use Rattle.wopi_headers.specs.declared.container.ContainerOp.TheVariants.{Info, Children}
use Rattle.wopi_headers.specs.declared.ask.Ask.{Ask}
use Rattle.wopi_headers.specs.Operations.{AsksFor}
use Rattle.wopi_headers.specs.Paths.{file_path, ending}
use Rattle.wopi_headers.specs.Containers.{front, container_path, AsksContainer, IsAtContainers, IsContainerRefusal}
use Rattle.wopi_headers.specs.Containers.IsContainerRefusal.{no_container, no_get}

two_paths : container_path Info ≡ container_path Children → ⊥
unfolding container_path
two_paths e = let long = ap length e in omega (arith, long)

one_op : (a b : ContainerOp) → container_path a ≡ container_path b → a ≡ b
one_op Info Info e = refl
one_op Children Children e = refl
one_op Info Children e = absurd (two_paths e)
one_op Children Info e = absurd (two_paths (sym e))

pub one_container : (q : Request) (a b : ContainerAsk) → AsksContainer q a → AsksContainer q b → a ≡ b
one_container q a b h k =
    let token = h.token_is ∙ sym k.token_is in
    let op = one_op a.op b.op (sym h.path ∙ k.path) in
    λ i. record { token = token i; op = op i }

pub nothing_of_container : (q : Request) (a : ContainerAsk) (s : ℕ) → AsksContainer q a → ¬ (IsContainerRefusal q s)
nothing_of_container q a s h (no_container e none) = none a.op h.path
nothing_of_container q a s h (no_get e op path other) = other h.get

pub one_refusal : (q : Request) (s t : ℕ) → IsContainerRefusal q s → IsContainerRefusal q t → s ≡ t
one_refusal q s t (no_container e none) (no_container f other) = e ∙ sym f
one_refusal q s t (no_container e none) (no_get f op path other) = absurd (none op path)
one_refusal q s t (no_get e op path other) (no_container f none) = absurd (none op path)
one_refusal q s t (no_get e op path other) (no_get f op' path' other') = e ∙ sym f

-- the seventh byte of a path tells files from containers
two_fronts : (name rest : List ℕ) (contents : Bool) → file_path name contents ≡ front ++ rest → ⊥
unfolding file_path
two_fronts name rest contents e = let seventh = ap (λ (path : List ℕ). get_or path 6 0) e in omega (arith, seventh)

pub no_file : (q : Request) (a : Ask) → AsksFor q a → ¬ (IsAtContainers q)
unfolding IsAtContainers
no_file q a asks (rest, at) = two_fronts a.file rest asks.contents (sym asks.path.path_is ∙ at)

-- What a request asks for of the container (MS-WOPI, CheckContainerInfo and EnumerateChildren; that there is one container, named root, is own), and of either a file or the container.
use Rattle.std.specs.Prelude.{ℕ, ◌≡◌, ◌≢◌, ◌⊎◌, List, ◌++◌, codes, Option, Some, None, Result, Ok, Err, ⊤}
use Rattle.wopi_http.specs.declared.message.Request.{Request}
use Rattle.wopi_http.specs.declared.message.Method.TheVariants.{Get}
use Rattle.wopi_headers.specs.declared.ask.Ask.{Ask}
use Rattle.wopi_headers.specs.declared.ask.AskFault.{AskFault}
use Rattle.wopi_headers.specs.declared.ask.AskFault.TheVariants.{Refused, Memory}
use Rattle.wopi_headers.specs.declared.container.ContainerAsk.{ContainerAsk}
use Rattle.wopi_headers.specs.declared.container.ContainerOp.{ContainerOp}
use Rattle.wopi_headers.specs.declared.container.ContainerOp.TheVariants.{Info, Children}
use Rattle.wopi_headers.specs.declared.container.Place.{Place}
use Rattle.wopi_headers.specs.declared.container.Place.TheVariants.{File, Container}
use Rattle.wopi_headers.specs.Targets.{path_of, token_of}
use Rattle.wopi_headers.specs.Operations.{AsksFor, IsRefusal}

-- what the paths of containers begin with
abbrev pub front : List ℕ
front = codes "/wopi/containers/"

abbrev pub behind_front : ContainerOp → List ℕ
behind_front Info = codes "root"
behind_front Children = codes "root/children"

-- the path of the container, or of its children
unfoldable pub container_path : ContainerOp → List ℕ
container_path op = front ++ behind_front op

-- the request is for a container, whether there is such a one or not
unfoldable pub IsAtContainers : Request → Type 0
IsAtContainers q = (rest : List ℕ) × (path_of q.target ≡ front ++ rest)

-- The request asks for this operation on the container, with this token.
pub record AsksContainer (q : Request) (a : ContainerAsk) : Type 0 where
  pub path : path_of q.target ≡ container_path a.op
  pub get : q.method ≡ Get
  pub token_is : a.token ≡ token_of q.target

-- A request for a container asks for nothing, and this status says why: it is not for the container, or it is no GET.
pub data IsContainerRefusal (q : Request) (s : ℕ) : Type 0 where
  no_container : s ≡ 404 → ((op : ContainerOp) → path_of q.target ≢ container_path op) → IsContainerRefusal q s
  no_get : s ≡ 501 → (op : ContainerOp) → path_of q.target ≡ container_path op → q.method ≢ Get → IsContainerRefusal q s

-- What is answered to the question what a request for a container asks for.
abbrev pub IsContainerAnswer : Request → Result ContainerAsk AskFault → Type 0
IsContainerAnswer q (Ok a) = AsksContainer q a
IsContainerAnswer q (Err (Refused s)) = IsContainerRefusal q s
IsContainerAnswer q (Err Memory) = ⊤

-- Why a request asks for nothing, by whether it is for a container or not.
abbrev pub IsPlaceRefusal : Request → ℕ → Type 0
IsPlaceRefusal q s = (IsAtContainers q × IsContainerRefusal q s) ⊎ (¬ (IsAtContainers q) × IsRefusal q s)

-- What is answered to the question what a request asks for, of a file or of the container.
abbrev pub IsPlaceOf : Request → Result Place AskFault → Type 0
IsPlaceOf q (Ok (File a)) = ¬ (IsAtContainers q) × AsksFor q a
IsPlaceOf q (Ok (Container a)) = IsAtContainers q × AsksContainer q a
IsPlaceOf q (Err (Refused s)) = IsPlaceRefusal q s
IsPlaceOf q (Err Memory) = ⊤

-- The same where an ask of a file is put into a place, and what stands there then.
abbrev pub IsPlaceIn : Request → Result (Option ContainerAsk) AskFault → Option Ask → Type 0
IsPlaceIn q (Ok None) (Some a) = IsPlaceOf q (Ok (File a))
IsPlaceIn q (Ok None) None = ⊥
IsPlaceIn q (Ok (Some a)) place = IsPlaceOf q (Ok (Container a))
IsPlaceIn q (Err fault) place = IsPlaceOf q (Err fault)

-- the place is left, where no file is asked for
abbrev pub IsLeft : Result (Option ContainerAsk) AskFault → Option Ask → Option Ask → Type 0
IsLeft (Ok None) old new = ⊤
IsLeft r old new = new ≡ old

use Rattle.std.proofs.Common.{◌≡◌, ◌≢◌, ◌++◌, ℕ, List, Option, Some, None, Result, Ok, Err, inl, inr, sym, ap, ◌∙◌}
use Rattle.wopi_http.specs.declared.message.Request.{Request}
use Rattle.wopi_headers.specs.declared.ask.Ask.{Ask}
use Rattle.wopi_headers.specs.declared.ask.AskFault.{AskFault}
use Rattle.wopi_headers.specs.declared.ask.AskFault.TheVariants.{Refused, Memory}
use Rattle.wopi_headers.specs.Targets.{path_of}
use Rattle.wopi_headers.specs.Operations.{IsAnswerIn}
use Rattle.wopi_headers.specs.Containers.{front, IsAtContainers, IsContainerAnswer, IsPlaceOf, IsPlaceIn}
use Rattle.wopi_headers.proofs.placing.place_into.Goals as goal

-- the path as it was cut off, and that of the request
module _ (q : Request) (target path : List ℕ) (target_is : target ≡ q.target) (path_is : path ≡ path_of target) where
  found : (rest : List ℕ) → path ≡ front ++ rest → IsAtContainers q
  unfolding IsAtContainers
  found rest is = (rest, ap path_of (sym target_is) ∙ sym path_is ∙ is)

  missed : ((rest : List ℕ) → path ≢ front ++ rest) → ¬ (IsAtContainers q)
  unfolding IsAtContainers
  missed none (rest, is) = none rest (path_is ∙ ap path_of target_is ∙ is)

refused : (q : Request) (fault : AskFault) → IsAtContainers q → IsContainerAnswer q (Err fault) → IsPlaceOf q (Err fault)
refused q (Refused s) at h = inl (at, h)
refused q Memory at h = tt

asked : (q : Request) (done : Unit {0}) (place : Option Ask) → ¬ (IsAtContainers q) → IsAnswerIn q (Ok done) place → IsPlaceIn q (Ok None) place
asked q done None away h = absurd h
asked q done (Some a) away h = (away, h)

unasked : (q : Request) (fault : AskFault) (place : Option Ask) → ¬ (IsAtContainers q) → IsAnswerIn q (Err fault) place → IsPlaceOf q (Err fault)
unasked q (Refused s) place away h = inr (away, h)
unasked q Memory place away h = tt

pub returns-in-Ok-clause-read : goal.returns-in-Ok-clause-read
returns-in-Ok-clause-read c =
    (found c.args.request.now _ _ c.as_slice.ensures c.split_of-split.ensures.path c.in-Some.rest.now c.in-Some.ensures, c.in-Ok.ensures)

pub returns-in-Err-clause-read : goal.returns-in-Err-clause-read
returns-in-Err-clause-read c =
    refused c.args.request.now c.in-Err.fault
    (found c.args.request.now _ _ c.as_slice.ensures c.split_of-split.ensures.path c.in-Some.rest.now c.in-Some.ensures) c.in-Err.ensures

pub returns-in-Ok-ask_at-clause-read : goal.returns-in-Ok-ask_at-clause-read
returns-in-Ok-ask_at-clause-read c =
    asked c.args.request.now c.in-Ok-ask_at.field-0 c.ask_at.new.place
    (missed c.args.request.now _ _ c.as_slice.ensures c.split_of-split.ensures.path c.in-None.ensures) c.in-Ok-ask_at.ensures.read

pub returns-in-Err-ask_at-clause-read : goal.returns-in-Err-ask_at-clause-read
returns-in-Err-ask_at-clause-read c =
    unasked c.args.request.now c.in-Err-ask_at.fault c.ask_at.new.place
    (missed c.args.request.now _ _ c.as_slice.ensures c.split_of-split.ensures.path c.in-None.ensures) c.in-Err-ask_at.ensures.read

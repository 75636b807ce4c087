-- How a ruling is told. (MS-WOPI, GetFile; what a body says of a fault is own.)
use Rattle.std.specs.Prelude.{ℕ, List, [], Option, None, Some, codes, unwrap_or, ◌==◌, if◌then◌else◌}
use Rattle.wopi_text.specs.declared.lock_field.LockField.TheVariants.{Absent}
use Rattle.wopi_model.specs.declared.calls.Ruling.{Ruling}
use Rattle.wopi_headers.specs.declared.answer.Answer.{Answer}
use Rattle.wopi_headers.specs.declared.answer.BodyKind.{BodyKind}
use Rattle.wopi_headers.specs.declared.answer.BodyKind.TheVariants.{None as NoBody, Octets, Plain}

-- an answer that tells nothing but its status
abbrev pub status_only : ℕ → Answer
status_only status = record { status = status; lock = Absent; reason = None; version = None; kind = NoBody; body = [] }

-- the body that tells a ruling: the contents of a file, or what failed
abbrev pub body_of : Ruling → List ℕ
body_of ruling = if ruling.status == 500 then codes "store fault" else unwrap_or ruling.contents []

abbrev pub kind_of_contents : Option (List ℕ) → BodyKind
kind_of_contents None = NoBody
kind_of_contents (Some contents) = Octets

abbrev pub kind_of : Ruling → BodyKind
kind_of ruling = if ruling.status == 500 then Plain else kind_of_contents ruling.contents

-- the answer that tells a ruling and the contents that it has
abbrev pub ruling_told : Ruling → Answer
ruling_told ruling = record {
  status = ruling.status;
  lock = ruling.lock;
  reason = ruling.reason;
  version = ruling.version;
  kind = kind_of ruling;
  body = body_of ruling;
}

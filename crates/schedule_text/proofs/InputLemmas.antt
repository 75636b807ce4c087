-- A schedule that is the whole of an input.
use Rattle.std.proofs.Common.{◌≡◌, ℕ, List, [], ◌++◌, Option, refl}
use Rattle.std.specs.Prelude.{Result, Ok, Err}
use Rattle.std.specs.Io.KnownBytes.{IsAtEnd}
use Rattle.line_text.specs.declared.input.InputFault.{InputFault}
use Rattle.line_text.specs.declared.input.InputFault.TheVariants.{Read, Text}
use Rattle.line_text.specs.Inputs.{HasRead}
use Rattle.line_text.proofs.WholeInputs.{at_its_end, whole_of}
use Rattle.schedule_text.specs.declared.reading.ScheduleFault.{ScheduleFault}
use Rattle.schedule_text.specs.declared.reading.ScheduleFault.TheVariants.{BadLine, Memory}
use Rattle.schedule_text.specs.declared.pieces.PieceReader.{PieceReader}
use Rattle.schedule_text.specs.Schedules.{Lines}
use Rattle.schedule_text.specs.Inputs.{IsInputRead}
use Rattle.schedule_text.specs.Pieces.{HasCome, IsFault, IsRead}

-- a bad line stays bad, whatever follows it
pub refused_input : (left left' : Option (List ℕ)) (fault : InputFault ScheduleFault)
    → ((f : ScheduleFault) → fault ≡ Text f → HasRead left left' (λ text. IsFault text f)) → IsInputRead left (Err fault)
refused_input left left' Read bad = tt
refused_input left left' (Text Memory) bad = tt
refused_input left left' (Text (BadLine number)) bad =
    let so = bad (BadLine number) refl in
    let whole = whole_of left left' so.bytes so.read in
    record { text = so.bytes ++ whole.0; text_is = whole.1; bad = so.says whole.0 }

pub whole_schedule : (left left' : Option (List ℕ)) (pieces : PieceReader) (lines : Lines) → HasRead left left' (λ text. HasCome text [] pieces)
    → IsAtEnd left' → ((text : List ℕ) → HasCome text [] pieces → IsRead text (Ok lines)) → IsInputRead left (Ok lines)
whole_schedule left left' pieces lines so end reads =
    record { text = so.bytes; text_is = at_its_end left left' so.bytes so.read end; read = reads so.bytes so.says }

pub whole_bad : (left left' : Option (List ℕ)) (pieces : PieceReader) (fault : ScheduleFault) → HasRead left left' (λ text. HasCome text [] pieces)
    → IsAtEnd left' → ((text : List ℕ) → HasCome text [] pieces → IsRead text (Err fault)) → IsInputRead left (Err (Text fault))
whole_bad left left' pieces Memory so end reads = tt
whole_bad left left' pieces (BadLine number) so end reads =
    record { text = so.bytes; text_is = at_its_end left left' so.bytes so.read end; bad = reads so.bytes so.says }

-- What commands that only write a text promise, and words that are no command. (Own.)
use Rattle.std.specs.Prelude.{◌≡◌, ◌⊎◌, ℕ, List, codes}
use Rattle.std.specs.Io.KnownBytes.{Appends}
use Rattle.outside.specs.Faults.{Rose}
use Rattle.outside.specs.Stream.{GrewByPrefix}
use Rattle.wopi_program.specs.declared.outside_world.Outside.{Outside}
use Rattle.wopi_program.specs.Meanings.{Meanings}
use Rattle.wopi_program.specs.Notes.{NotesFor}

unfoldable pub help_text : List ℕ
help_text = codes "mokdrai once FOLDER KEY BASE [--editor [--origin ORIGIN]]\n    answers the requests of the input on the output\nmokdrai serve FOLDER PORT KEY BASE WORKERS [--journal J] [--each C] [--first V]\n    answers the requests of many connections, and then writes the journal on the output\nmokdrai serve .. [--links N] [--listen ADDRESS] [--idle S] [--patience S] [--grace S] [--verbose] [--editor [--origin ORIGIN]]\n    serves N connections at a time, at that address, with these limits in seconds\nmokdrai serve .. --keep LOGS [--ids I] [--sync all]\n    appends each entry to a log of its shard in that folder, and writes no journal\nmokdrai edit AUTHORITY ID TOKEN NONCE\n    runs the script of the input over a sheet at a host\nmokdrai edit AUTHORITY --file NAME TOKEN [--nonce NONCE] [--idle S]\n    does the same, with the name of the file and a nonce of its own\nmokdrai replay\n    runs the schedule of the input, and writes its trace on the output\nmokdrai replay SEED COUNT\n    runs a schedule that is made from two numbers, and writes its summary on the output\nmokdrai token KEY USER NAME RIGHTS SERIAL ISSUED EXPIRES\n    writes the text of an access token\nmokdrai token KEY --file NAME --user USER --for TIME [--write]\n    writes one that is issued now, and lasts for a time such as 10h\nmokdrai ctoken KEY USER RIGHTS SERIAL ISSUED EXPIRES\n    writes the text of a token of the container\nmokdrai ctoken KEY --user USER --for TIME [--write]\n    writes one that is issued now, and lasts for that time\nmokdrai upgrade\n    reads a journal from the input, and writes it in the second form on the output\nmokdrai audit\n    reads a journal from the input, and says whether it is legal, or its first line that isn't\nmokdrai contents ID VERSION\n    reads a journal from the input, and writes what the file had at that version on the output\nmokdrai --help\n    writes these lines\nmokdrai --version\n    writes the version\nKEY, and TOKEN of edit, may be @PATH: a file that only its owner may read\n"

unfoldable pub version_text : List ℕ
version_text = codes "mokdrai 0.1.0\n"

module _ {S K F N D C G L : Type 0} (m : Meanings S K F N D C G L) where
  -- The output grew by the text, or, where its count rose, by a prefix of it; all else but the notes stays.
  pub record TextEnds (text : List ℕ) (status : ℕ) (old new : Outside S K F N D C G) : Type 0 where
    pub statuses : (status ≡ 0) ⊎ (status ≡ 4)
    pub done : status ≡ 0 → Appends (m.held old.output) (m.held new.output) text
    pub cut : status ≡ 4 → GrewByPrefix (m.held old.output) (m.held new.output) text
    pub write_cause : status ≡ 4 → Rose (m.write_faults old.output) (m.write_faults new.output)
    pub notes : NotesFor m.held m.write_faults status old.notes new.notes
    pub others : new ≡ record old { output = new.output; notes = new.notes }

  -- There was no memory to begin: all but the notes stays.
  pub record Wants (status : ℕ) (old new : Outside S K F N D C G) : Type 0 where
    pub status_is : status ≡ 6
    pub notes : NotesFor m.held m.write_faults 6 old.notes new.notes
    pub others : new ≡ record old { notes = new.notes }

  -- The words are none: all but the notes stays.
  pub record UsageEnds (status : ℕ) (old new : Outside S K F N D C G) : Type 0 where
    pub status_is : status ≡ 2
    pub notes : NotesFor m.held m.write_faults status old.notes new.notes
    pub others : new ≡ record old { notes = new.notes }

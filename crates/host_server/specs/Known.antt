-- What a request knows of its file's last save. (The fields are of Collabora Online's documentation, WOPI extensions; that a text which tells no moment, and fields that can't be read, are taken as a moment at which no file was saved, so that nothing is overwritten, is own.)
use Rattle.std.specs.Prelude.{ℕ, Bool, List, Option, None, Some, option_map, unwrap_or, if◌then◌else◌}
use Rattle.wopi_text.specs.Moments.{moments_end}
use Rattle.moment_text.specs.Reading.{moment_of}
use Rattle.wopi_http.specs.declared.message.Field.{Field}
use Rattle.wopi_headers.specs.declared.known.Suite.{Suite}
use Rattle.wopi_headers.specs.declared.known.Suite.TheVariants.{Cool}
use Rattle.wopi_headers.specs.Known.{known_in}
use Rattle.host_server.specs.declared.knowing.LastSave.{LastSave}

-- the moment that a text tells; where it tells none, one at which no file was saved
abbrev pub moment_told : List ℕ → ℕ
moment_told text = unwrap_or (moment_of text) moments_end

-- the last save that the fields tell of, if they tell of one
abbrev pub last_told : Option (Option (Suite × List ℕ)) → Option LastSave
last_told None = Some (record { suite = Cool; moment = moments_end })
last_told (Some None) = None
last_told (Some (Some told)) = Some (record { suite = told.0; moment = moment_told told.1 })

-- the last save that a request with these fields knows of, on a host that serves editors
abbrev pub last_known : Bool → List Field → Option LastSave
last_known editor fields = if editor then last_told (known_in fields) else None

abbrev pub moment_known : Option LastSave → Option ℕ
moment_known last = option_map (λ save. save.moment) last

-- by which name an editor goes that knows of it
abbrev pub suite_of : Option LastSave → Suite
suite_of None = Cool
suite_of (Some save) = save.suite

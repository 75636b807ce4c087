-- The options of the commands. (Own.)
use Rattle.std.specs.Prelude.{ℕ, Bool, false, ◌||◌, List, codes}
use Rattle.std.specs.Str.{bytes_eq}
use Rattle.command_words.specs.declared.options.Kind.{Kind}
use Rattle.command_words.specs.declared.options.Kind.TheVariants as kind

-- those of `serve` that the program reads itself
unfoldable pub is_run_option : List ℕ → Bool
is_run_option word = bytes_eq word (codes "--journal") || bytes_eq word (codes "--each") || bytes_eq word (codes "--first") || bytes_eq word (codes "--links") || bytes_eq word (codes "--ids") || bytes_eq word (codes "--sync")

-- those of `serve` that the adapters take
unfoldable pub is_around_option : List ℕ → Bool
is_around_option word = bytes_eq word (codes "--listen") || bytes_eq word (codes "--idle") || bytes_eq word (codes "--patience") || bytes_eq word (codes "--grace")

-- behind it a value stands
unfoldable pub takes : Kind → List ℕ → Bool
takes kind.Serve word = is_run_option word || is_around_option word || bytes_eq word (codes "--origin") || bytes_eq word (codes "--keep")
takes kind.Edit word = bytes_eq word (codes "--file") || bytes_eq word (codes "--nonce") || bytes_eq word (codes "--idle")
takes kind.Token word = bytes_eq word (codes "--file") || bytes_eq word (codes "--user") || bytes_eq word (codes "--for")
takes kind.Ctoken word = bytes_eq word (codes "--user") || bytes_eq word (codes "--for")

-- it stands alone
unfoldable pub is_flag : Kind → List ℕ → Bool
is_flag kind.Serve word = bytes_eq word (codes "--verbose") || bytes_eq word (codes "--editor")
is_flag kind.Edit word = false
is_flag kind.Token word = bytes_eq word (codes "--read") || bytes_eq word (codes "--write")
is_flag kind.Ctoken word = bytes_eq word (codes "--read") || bytes_eq word (codes "--write")

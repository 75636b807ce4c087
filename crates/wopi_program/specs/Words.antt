-- The words of the command line, and the commands whose rows they are. (Own.)
use Rattle.std.specs.Prelude.{◌≡◌, ◌<◌, ℕ, Bool, true, List, [], ◌∷◌, length, codes, decimal}
use Rattle.access_tokens.specs.Keys.{IsWordOf}
use Rattle.access_tokens.specs.TokenText.{IsWritable, rights_of}
use Rattle.access_tokens.specs.Addresses.{is_base}
use Rattle.wopi_model.specs.declared.token.Token.{Token}
use Rattle.wopi_program.specs.declared.command.Command.{Command}
use Rattle.wopi_program.specs.declared.command.Command.TheVariants as command
use Rattle.wopi_program.specs.ContentsWords.{IsContents}
use Rattle.wopi_program.specs.CtokenWords.{IsCtoken}
use Rattle.wopi_program.specs.EditWords.{IsEdit}
use Rattle.wopi_program.specs.EditorWords.{TellsOrigin, behind_editor, serves_editors}
use Rattle.wopi_program.specs.ReplayWords.{IsReplay}
use Rattle.wopi_program.specs.ServeWords.{IsServe}
use Rattle.access_tokens.specs.declared.keys.Keys.{Keys}

-- the words for editors alone, or none
abbrev pub AreOnceOptions : List (List ℕ) → Type 0
AreOnceOptions options = (behind_editor options ≡ []) × TellsOrigin options

-- once FOLDER KEY BASE, and the words for editors where the host serves them
pub record IsOnceRow (words : List (List ℕ)) (keys : Keys) (base : List ℕ) (editor : Bool) : Type 0 where
  pub folder : List ℕ
  pub key_word : List ℕ
  pub options : List (List ℕ)
  pub words_are : words ≡ codes "once" ∷ folder ∷ key_word ∷ base ∷ options
  pub options_are : AreOnceOptions options
  pub editor_is : editor ≡ serves_editors options
  pub folder_is : 0 < length folder
  pub keys_are : IsWordOf keys key_word
  pub base_is : is_base base ≡ true

-- USER NAME RIGHTS SERIAL ISSUED EXPIRES: a token in words, its numbers in decimal
abbrev pub words_of : Token → List (List ℕ)
words_of token =
    token.user ∷ token.file ∷ rights_of token.write ∷ decimal token.serial ∷ decimal token.issued ∷ decimal token.expires ∷ []

-- token KEY USER NAME RIGHTS SERIAL ISSUED EXPIRES
pub record IsTokenRow (words : List (List ℕ)) (keys : Keys) (token : Token) : Type 0 where
  pub key_word : List ℕ
  pub words_are : words ≡ codes "token" ∷ key_word ∷ words_of token
  pub keys_are : IsWordOf keys key_word
  pub token_is : IsWritable token

-- the words are a row of this command
abbrev pub IsRow : List (List ℕ) → Command → Type 0
IsRow words command.Help = words ≡ codes "--help" ∷ []
IsRow words command.Version = words ≡ codes "--version" ∷ []
IsRow words command.Once = (keys : Keys) × (base : List ℕ) × (editor : Bool) × IsOnceRow words keys base editor
IsRow words command.Serve = IsServe words
IsRow words command.Edit = IsEdit words
IsRow words command.Replay = IsReplay words
IsRow words command.Token = (keys : Keys) × (token : Token) × IsTokenRow words keys token
IsRow words command.Ctoken = IsCtoken words
IsRow words command.Upgrade = words ≡ codes "upgrade" ∷ []
IsRow words command.Audit = words ≡ codes "audit" ∷ []
IsRow words command.Contents = IsContents words

-- the words are a row of some command
abbrev pub IsCommand : List (List ℕ) → Type 0
IsCommand words = (command : Command) × IsRow words command

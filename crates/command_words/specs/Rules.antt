-- What the words of a command have to be. (Own: as the program reads them.)
use Rattle.std.specs.Prelude.{◌≡◌, ◌<◌, ◌==◌, ℕ, ◌+◌, ◌-◌, ◌^◌, Bool, false, nat_lt, nat_le, ◌&&◌, IsTrue, List, length, drop, slice_index, decimal, codes, Option, None, Some}
use Rattle.std.specs.List.{list_all}
use Rattle.std.specs.Char.{is_ascii_alphanumeric}
use Rattle.std.specs.Str.{bytes_eq}
use Rattle.wopi_text.specs.Decimals.{decimal_of}
use Rattle.wopi_text.specs.FileName.{IsFileName}
use Rattle.wopi_text.specs.Ids.{IsId}
use Rattle.wopi_model.specs.Moment.{IsMoment}
use Rattle.wopi_model.specs.User.{IsUser}
use Rattle.access_tokens.specs.Addresses.{is_base}
use Rattle.access_tokens.specs.Keys.{IsWordOf}
use Rattle.access_tokens.specs.Origins.{IsOrigin}
use Rattle.access_tokens.specs.TokenText.{rights_of}
use Rattle.access_tokens.specs.declared.keys.Keys.{Keys}
use Rattle.command_words.specs.Explaining.{is_visible}
use Rattle.command_words.specs.declared.rules.Rule.{Rule}
use Rattle.command_words.specs.declared.rules.Rule.TheVariants as rule

abbrev pub is_within : ℕ → ℕ → Option ℕ → Bool
is_within least most None = false
is_within least most (Some number) = nat_le least number && nat_le number most

-- a number from one to another, without leading zeros
abbrev pub is_number : ℕ → ℕ → List ℕ → Bool
is_number least most word = is_within least most (decimal_of word)

-- 1 to so many visible characters of ASCII
abbrev pub is_visible_word : ℕ → List ℕ → Bool
is_visible_word most word = nat_lt 0 (length word) && (nat_le (length word) most && list_all is_visible word)

-- a colon stands there, and behind it a port
abbrev pub splits_at : List ℕ → ℕ → Bool
splits_at word place = slice_index word place == 58 && is_number 1 65535 (drop (place + 1) word)

-- a name that isn't empty, a colon and a port
abbrev pub HasPort : List ℕ → Type 0
HasPort word = (place : ℕ) × (0 < place) × (place < length word) × IsTrue (splits_at word place)

-- 1 to 32 letters and digits
abbrev pub is_nonce : List ℕ → Bool
is_nonce word = nat_lt 0 (length word) && (nat_le (length word) 32 && list_all is_ascii_alphanumeric word)

abbrev pub IsMomentWord : List ℕ → Type 0
IsMomentWord word = (moment : ℕ) × IsMoment moment × (word ≡ decimal moment)

-- the word is what the rule wants
abbrev pub Keeps : Rule → List ℕ → Type 0
Keeps rule.Folder word = 0 < length word
Keeps rule.Port word = IsTrue (is_number 1 65535 word)
Keeps rule.Key word = (keys : Keys) × IsWordOf keys word
Keeps rule.Base word = IsTrue (is_base word)
Keeps rule.Workers word = IsTrue (is_number 1 16 word)
Keeps rule.Authority word = IsTrue (is_visible_word 200 word) × HasPort word
Keeps rule.Id word = IsId word
Keeps rule.Token word = IsTrue (is_visible_word 2000 word)
Keeps rule.Nonce word = IsTrue (is_nonce word)
Keeps rule.User word = IsUser word
Keeps rule.Name word = IsFileName word
Keeps rule.Rights word = (write : Bool) × (word ≡ rights_of write)
Keeps rule.Serial word = IsTrue (is_number 0 (2 ^ 64 - 1) word)
Keeps rule.Issued word = IsMomentWord word
Keeps rule.Expires word = IsMomentWord word
Keeps rule.Seed word = IsTrue (is_number 0 (2 ^ 64 - 1) word)
Keeps rule.Count word = IsTrue (is_number 0 10000 word)
Keeps rule.Version word = IsTrue (is_number 0 (2 ^ 64 - 1) word)
Keeps rule.Journal word = IsTrue (is_number 1 32768 word)
Keeps rule.Each word = IsTrue (is_number 1 1000000 word)
Keeps rule.First word = IsTrue (is_number 1 1000000000000000000 word)
Keeps rule.Links word = IsTrue (is_number 1 1024 word)
Keeps rule.Ids word = IsTrue (is_number 1 32768 word)
Keeps rule.Sync word = IsTrue (bytes_eq word (codes "all"))
Keeps rule.Logs word = 0 < length word
Keeps rule.Origin word = IsOrigin word

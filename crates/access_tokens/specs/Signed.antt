-- Texts that end with a period and a code of what stands before it. (Own.)
use Rattle.std.specs.Prelude.{ℕ, ◌≡◌, ◌≢◌, ◌-◌, List, length, take, Some, None, Result, Ok, Err}
use Rattle.access_tokens.specs.Keys.{key_of}
use Rattle.access_tokens.specs.TokenText.{mac_of}
use Rattle.access_tokens.specs.declared.checking.TokenFault.{TokenFault}
use Rattle.access_tokens.specs.declared.checking.TokenFault.TheVariants.{BadForm, NoKey, BadMac}
use Rattle.access_tokens.specs.declared.keys.Keys.{Keys}

-- what stands before the code and its period
abbrev pub front_of : List ℕ → List ℕ
front_of text = take (length text - 65) text

-- What is found of the code of a text: it is right under the key of that number; no such key is in force; or it is another one.
abbrev pub IsChecked : Keys → ℕ → List ℕ → List ℕ → Result (Unit {0}) TokenFault → Type 0
IsChecked keys number text mac (Ok done) = (key : List ℕ) × (key_of keys number ≡ Some key) × (mac ≡ mac_of key (front_of text))
IsChecked keys number text mac (Err NoKey) = key_of keys number ≡ None
IsChecked keys number text mac (Err BadMac) = (key : List ℕ) × (key_of keys number ≡ Some key) × (mac ≢ mac_of key (front_of text))
IsChecked keys number text mac (Err BadForm) = ⊥

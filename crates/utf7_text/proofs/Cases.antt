-- The definitions at worked cases.
use Rattle.std.proofs.Common.{◌≡◌, true, [], ◌∷◌, codes, refl, ap, arith, lit<, true≢false}
use Rattle.utf7_text.specs.Pieces.{AreUnits, Direct, Plus, Shift, base64_of}
use Rattle.utf7_text.specs.Readings.{CutsInto, IsBadAt, IsReading}
use Rattle.utf7_text.specs.Writing.{written}
use Rattle.base64.specs.Decode.{groups_error, scan_steps}
use Rattle.base64.specs.declared.decode.DecodeError.TheVariants.{InvalidLastSymbol}
use Rattle.utf7_text.proofs.Digits.{not_refused}
use Rattle.utf7_text.proofs.Pushing.{no_shift_begins, value}
use Rattle.std.specs.Str.{encode_utf8_all, chars}
use Rattle.std.specs.Char.Utf16.{utf16_chars}
use Rattle.base64.specs.Rfc4648.{encode_symbols}
use lib.Utf8.{encode}

-- a shift of one unit has three digits, of two units six, of three units eight
one_unit : base64_of (0xE9 ∷ []) ≡ codes "AOk"
unfolding base64_of encode_symbols
one_unit = refl

two_units : base64_of (0xD83D ∷ 0xDE00 ∷ []) ≡ codes "2D3eAA"
unfolding base64_of encode_symbols
two_units = refl

three_units : base64_of (0x65E5 ∷ 0x672C ∷ 0x8A9E ∷ []) ≡ codes "ZeVnLIqe"
unfolding base64_of encode_symbols
three_units = refl

-- `é.csv` is written so
written_accent : written (encode_utf8_all (0xE9 ∷ codes ".csv")) ≡ codes "+AOk-.csv"
unfolding base64_of encode_symbols chars encode
written_accent = refl

-- and `a+b` so
written_plus : written (codes "a+b") ≡ codes "a+ACs-b"
unfolding base64_of encode_symbols chars encode
written_plus = refl

-- and two characters in one shift, one of them a pair of surrogates
written_run : written (encode_utf8_all (0x1F600 ∷ 0xE9 ∷ codes " ")) ≡ codes "+2D3eAADp- "
unfolding base64_of encode_symbols chars encode
written_run = refl

-- `a+-b` reads as `a+b`
read_plus : IsReading (codes "a+-b") (codes "a+b")
unfolding encode
read_plus =
    (Direct 97 ∷ Plus ∷ Direct 98 ∷ [], (codes "+-b", (refl, refl), (codes "b", (refl, tt), ([], (refl, refl), refl))), refl)

-- `+AOk-.csv` reads as `é.csv`
read_accent : IsReading (codes "+AOk-.csv") (encode_utf8_all (0xE9 ∷ codes ".csv"))
unfolding base64_of encode_symbols utf16_chars encode
read_accent =
    let accent : AreUnits (0xE9 ∷ []) = record { some = lit< tt; small = (lit< tt, tt); paired = refl } in
    let tail : CutsInto (codes ".csv") (Direct 46 ∷ Direct 99 ∷ Direct 115 ∷ Direct 118 ∷ []) [] =
    (codes "csv", (refl, refl), (codes "sv", (refl, refl), (codes "v", (refl, refl), ([], (refl, refl), refl)))) in
    (Shift (0xE9 ∷ []) true ∷ Direct 46 ∷ Direct 99 ∷ Direct 115 ∷ Direct 118 ∷ [], (codes ".csv", (refl, (accent, λ h. absurd (true≢false h))), tail), refl)

-- `+AOl-` is bad at 0: bits are left that aren't zero
bad_accent : IsBadAt (codes "+AOl-") 0
unfolding groups_error scan_steps
bad_accent =
    record {
      rest = codes "+AOl-";
      text = [];
      before = ([], refl, refl);
      place = refl;
      some = lit< tt;
      bad = no_shift_begins (codes "+AOl-") (codes "AOl-") 3 refl refl refl (λ same. omega (arith, ap value same)) (λ units are same. not_refused (codes "AOl") units (InvalidLastSymbol 2 108 37) same refl);
    }

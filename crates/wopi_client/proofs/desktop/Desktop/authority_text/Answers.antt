use Rattle.std.proofs.Common.{Result, Ok, Err, refl, sym, subst}
use Rattle.std.specs.Prelude.{IsOk, MatchResult, IsUtf8}
use Rattle.std.proofs.lemmas.Str.{IsUtf8-from_is_utf8}
use Rattle.wopi_client.proofs.desktop.Desktop.authority_text.Goals as goal

-- what is a text is read as one
is_read : {A B : Type 0} (r : Result A B) (P : A → Type 0) (Q : Type 0) (R : B → Type 0) → MatchResult r P (λ e. (¬ Q) × R e) → Q → IsOk r
is_read (Ok x) P Q R m q = refl
is_read (Err e) P Q R m q = absurd (m.0 q)

pub unwrap-requires : goal.unwrap-requires
unwrap-requires c =
    is_read c.from_utf8.result _ _ _ c.from_utf8.ensures.cases
    (subst IsUtf8 (sym c.as_slice.ensures) (IsUtf8-from_is_utf8 c.args.self.now.authority c.args.self.now.text))

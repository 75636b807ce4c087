-- A copy that is asked for has one target.
use Rattle.std.proofs.Common.{◌≡◌, ℕ, Bool, true, false, cond, List, Option, Some, None, codes, refl, ap, ◌∙◌}
use Rattle.std.specs.Str.{bytes_eq}
use Rattle.wopi_http.specs.declared.message.Field.{Field}
use Rattle.wopi_http.specs.declared.message.Method.{Method}
use Rattle.wopi_http.specs.declared.message.Method.TheVariants.{Get, Post, Head, Options, Other}
use Rattle.wopi_headers.specs.declared.row.Row.{Row}
use Rattle.wopi_headers.specs.declared.row.Row.TheVariants.{PutFile, PutRelativeFile}
use Rattle.wopi_headers.specs.Readings.{override_name, value_named}
use Rattle.wopi_headers.specs.Rows.{by_override, row_of, has_two_targets, row_asked}

-- whichever row it is, it is no copy
miss : (c : Bool) (x y : Option Row) → (x ≡ Some PutRelativeFile → ⊥) → (y ≡ Some PutRelativeFile → ⊥) → cond c x y ≡ Some PutRelativeFile → ⊥
miss true x y p q e = p e
miss false x y p q e = q e

no_copy : (name : List ℕ) → by_override name true ≡ Some PutRelativeFile → ⊥
no_copy name =
    miss (bytes_eq name (codes "LOCK")) _ _ (λ e. cc e) (miss (bytes_eq name (codes "GET_LOCK")) _ _ (λ e. cc e)
    (miss (bytes_eq name (codes "REFRESH_LOCK")) _ _ (λ e. cc e) (miss (bytes_eq name (codes "UNLOCK")) _ _ (λ e. cc e)
    (miss (bytes_eq name (codes "PUT_RELATIVE")) _ _ (λ e. cc e) (miss (bytes_eq name (codes "DELETE")) _ _ (λ e. cc e) (λ e. cc e))))))

by_name : (name : List ℕ) (two : Bool) → by_override name two ≡ Some PutRelativeFile → two ≡ false
by_name name true e = absurd (no_copy name e)
by_name name false e = refl

put_or_none : (c : Bool) → cond c (Some PutFile) None ≡ Some PutRelativeFile → ⊥
put_or_none c = miss c (Some PutFile) None (λ e. cc e) (λ e. cc e)

in_row : (method : Method) (contents : Bool) (name : Option (List ℕ)) (two : Bool) → row_of method contents name two ≡ Some PutRelativeFile → two ≡ false
in_row Get true name two e = absurd (cc e)
in_row Get false name two e = absurd (cc e)
in_row Post contents None two e = absurd (cc e)
in_row Post true (Some name) two e = absurd (put_or_none (bytes_eq name (codes "PUT")) e)
in_row Post false (Some name) two e = by_name name two e
in_row Head contents name two e = absurd (cc e)
in_row Options contents name two e = absurd (cc e)
in_row Other contents name two e = absurd (cc e)

pub one_target : (method : Method) (contents : Bool) (fields : List Field) (row : Row) → row_asked method contents fields ≡ Some row → row ≡ PutRelativeFile → has_two_targets fields ≡ false
unfolding row_asked
one_target method contents fields row asked is = in_row method contents (value_named override_name fields) (has_two_targets fields) (asked ∙ ap Some is)

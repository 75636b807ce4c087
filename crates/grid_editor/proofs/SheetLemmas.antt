-- Steps back over the edits of a sheet.
use Rattle.std.proofs.Common.{◌≡◌, ℕ, zero, suc, true, false, List, [], ◌∷◌, Option, None, Some, Result, length, take, drop, refl, sym, ap, ◌∙◌, subst}
use Rattle.std.specs.Prelude.{slice_get}
use Rattle.circular_buffer.specs.Buffer.{Buffer, buffer}
use Rattle.grid_sheet.specs.declared.fault.GridFault.{GridFault}
use Rattle.grid_sheet.specs.declared.undoing.Undo.{Undo}
use Rattle.grid_sheet.specs.Rows.{Rows, IsGrid}
use Rattle.grid_sheet.specs.Undoing.{Fits, Undoes, undone}
use Rattle.grid_editor.specs.Sheets.{CanUndo, Edited, IsEdited, IsUndone, edited_of, most_undos, past_of}

past_take : (rows : Rows) (undos : List Undo) (n : ℕ) → past_of rows (take n undos) ≡ take n (past_of rows undos)
past_take rows [] zero = refl
past_take rows [] (suc n) = refl
past_take rows (undo ∷ undos) zero = refl
past_take rows (undo ∷ undos) (suc n) = ap (λ l. undone rows undo ∷ l) (past_take (undone rows undo) undos n)

can_take : (rows : Rows) (undos : List Undo) (n : ℕ) → CanUndo rows undos → CanUndo rows (take n undos)
can_take rows [] zero can = tt
can_take rows [] (suc n) can = tt
can_take rows (undo ∷ undos) zero can = tt
can_take rows (undo ∷ undos) (suc n) can = (can.0, can.1, can_take (undone rows undo) undos n can.2)

can_more : (edit : Result Rows GridFault) (old new : Rows) (undo : Undo) (undos : List Undo) → Undoes edit old new undo → IsGrid old → CanUndo old undos → CanUndo new (undo ∷ undos)
can_more edit old new undo undos is grid can = (is.fits, subst IsGrid (sym is.back) grid, subst (λ (r : Rows). CanUndo r undos) (sym is.back) can)

past_more : (edit : Result Rows GridFault) (old new : Rows) (undo : Undo) (undos : List Undo) → Undoes edit old new undo → past_of new (undo ∷ undos) ≡ old ∷ past_of old undos
past_more edit old new undo undos is = ap (λ r. r ∷ past_of r undos) is.back

pub pushed_can : (edit : Result Rows GridFault) (old new : Rows) (undo : Undo) (before after : Buffer Undo) → Undoes edit old new undo → IsGrid old → CanUndo old before.items
    → after ≡ buffer (take before.capacity (undo ∷ before.items)) before.capacity → CanUndo new after.items
pushed_can edit old new undo before after is grid can pushed =
    subst (λ (b : Buffer Undo). CanUndo new b.items) (sym pushed)
    (can_take new (undo ∷ before.items) before.capacity (can_more edit old new undo before.items is grid can))

pub pushed_edit : (edit : Result Rows GridFault) (old new : Rows) (undo : Undo) (before after : Buffer Undo) → Undoes edit old new undo → before.capacity ≡ most_undos
    → after ≡ buffer (take before.capacity (undo ∷ before.items)) before.capacity → IsEdited edit (edited_of old before) (edited_of new after)
pushed_edit edit old new undo before after is most pushed = record {
  edit_is = is.edited;
  past = ap (λ (b : Buffer Undo). past_of new b.items) pushed ∙ past_take new (undo ∷ before.items) before.capacity
      ∙ ap (λ n. take n (past_of new (undo ∷ before.items))) most ∙ ap (take most_undos) (past_more edit old new undo before.items is);
}

-- the first step back of those that there are
pub record Leads (rows : Rows) (undo : Undo) (undos later : List Undo) : Type 0 where
  pub fits : Fits rows undo
  pub grid : IsGrid (undone rows undo)
  pub can : CanUndo (undone rows undo) later
  pub past : past_of rows undos ≡ undone rows undo ∷ past_of (undone rows undo) later

pub popped : (rows : Rows) (undos : List Undo) (undo : Undo) → Some undo ≡ slice_get undos 0 → CanUndo rows undos → Leads rows undo undos (drop 1 undos)
popped rows [] undo is can = absurd (cc is)
popped rows (first ∷ undos) undo is can =
    let same : first ≡ undo = cc is in
    subst (λ (u : Undo). Leads rows u (first ∷ undos) undos) same (record { fits = can.0; grid = can.1; can = can.2; past = refl })

pub popped_undone : (rows new : Rows) (before after : Buffer Undo) (undo : Undo) → Leads rows undo before.items (drop 1 before.items) → after ≡ buffer (drop 1 before.items) before.capacity
    → new ≡ undone rows undo → IsUndone (edited_of rows before) (edited_of new after) true
popped_undone rows new before after undo leads is grid =
    leads.past ∙ (λ i. sym grid i ∷ past_of (sym grid i) (sym is i).items)

pub popped_can : (rows new : Rows) (before after : Buffer Undo) (undo : Undo) → Leads rows undo before.items (drop 1 before.items) → after ≡ buffer (drop 1 before.items) before.capacity
    → new ≡ undone rows undo → CanUndo new after.items
popped_can rows new before after undo leads is grid =
    subst (λ (b : Buffer Undo). CanUndo new b.items) (sym is) (subst (λ (r : Rows). CanUndo r (drop 1 before.items)) (sym grid) leads.can)

none_left : (undos : List Undo) → None ≡ slice_get undos 0 → undos ≡ []
none_left [] is = refl
none_left (undo ∷ undos) is = absurd (cc is)

pub nothing_popped : (rows : Rows) (before after : Buffer Undo) → None ≡ slice_get before.items 0 → after ≡ buffer (drop 1 before.items) before.capacity
    → IsUndone (edited_of rows before) (edited_of rows after) false
nothing_popped rows before after none is =
    let empty = none_left before.items none in
    let same : after.items ≡ before.items = ap (λ (b : Buffer Undo). b.items) is ∙ ap (drop 1) empty ∙ sym empty in
    (ap (past_of rows) empty, λ i. record { rows = rows; past = past_of rows (same i) })

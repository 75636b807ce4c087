-- Operands with operators between them: what is read is a chain, and a chain is read whatever stops it.
use Rattle.std.proofs.Common.{◌≡◌, ℕ, zero, suc, ◌+◌, ◌-◌, ◌≤◌, List, [], ◌∷◌, ◌++◌, Some, None, length, refl, sym, ◌∙◌, ap, subst, arith, append_assoc, length-append}
use Rattle.std.proofs.lemmas.List.{append-nil}
use Rattle.std.proofs.lemmas.Option.{option_and_then_some, some_pair_parts}
use Rattle.grid_formulas.specs.declared.formula.Step.{Step}
use Rattle.grid_formulas.specs.Grammar.{IsChain}
use Rattle.grid_formulas.specs.Grammar.IsChain.{one, longer}
use Rattle.grid_formulas.specs.Reading.{Found, Reader, chain_at, more, more_from}
use Rattle.grid_formulas.proofs.ReaderLemmas.{more_at, more_none}

-- what is read stands at the front and is of the kind
abbrev pub Sound : Reader → (List ℕ → List Step → Type 0) → Type 0
Sound read Is =
    (text : List ℕ) (steps : List Step) (rest : List ℕ) → read text ≡ Some (steps, rest) → (front : List ℕ) × (text ≡ front ++ rest) × Is front steps

-- what is of the kind is read, where what follows stops it
abbrev pub Full : (List ℕ → Type 0) → Reader → (List ℕ → List Step → Type 0) → Type 0
Full Stops read Is =
    (text : List ℕ) (steps : List Step) → Is text steps → (rest : List ℕ) → Stops rest → read (text ++ rest) ≡ Some (steps, rest)

-- an operator that is read is one byte
abbrev pub SoundOperator : (List ℕ → Found Step) → (ℕ → Step → Type 0) → Type 0
SoundOperator operator Is = (text : List ℕ) (s : Step) (rest : List ℕ) → operator text ≡ Some (s, rest) → (byte : ℕ) × (text ≡ byte ∷ rest) × Is byte s

-- an operator is read, and stops an operand
abbrev pub FullOperator : (List ℕ → Type 0) → (List ℕ → Found Step) → (ℕ → Step → Type 0) → Type 0
FullOperator Stops operator Is = (byte : ℕ) (s : Step) (rest : List ℕ) → Is byte s → (operator (byte ∷ rest) ≡ Some (s, rest)) × Stops (byte ∷ rest)

-- ---- what is read is a chain

module _ (operator : List ℕ → Found Step) (operand : Reader) (IsOperator : ℕ → Step → Type 0) (IsOperand : List ℕ → List Step → Type 0) (operators : SoundOperator operator IsOperator) (operands : Sound operand IsOperand) where
  -- reading on behind a chain
  abbrev GoesOn : ℕ → Type 0
  GoesOn n =
      (front : List ℕ) (left : List Step) (text : List ℕ) → IsChain IsOperator IsOperand front left → (steps : List Step) (rest : List ℕ)
      → more operator operand n left text ≡ Some (steps, rest) → (b : List ℕ) × (text ≡ b ++ rest) × IsChain IsOperator IsOperand (front ++ b) steps

  ended : (front : List ℕ) (left : List Step) (text : List ℕ) → IsChain IsOperator IsOperand front left → (steps : List Step) (rest : List ℕ) → ◌≡◌ {A = Found (List Step)} (Some (left, text)) (Some (steps, rest)) → (b : List ℕ) × (text ≡ b ++ rest) × IsChain IsOperator IsOperand (front ++ b) steps
  ended front left text chain steps rest e =
      let same = some_pair_parts left steps text rest e in
      ([], same.1, subst (λ (f : List ℕ). IsChain IsOperator IsOperand f steps) (sym (append-nil front)) (subst (λ (s : List Step). IsChain IsOperator IsOperand front s) same.0 chain))

  goes_on : (n : ℕ) → GoesOn n → (o : Found Step) (front : List ℕ) (left : List Step) (text : List ℕ) → operator text ≡ o → IsChain IsOperator IsOperand front left → (steps : List Step) (rest : List ℕ) → more_from o operand (more operator operand n) left text ≡ Some (steps, rest) → (b : List ℕ) × (text ≡ b ++ rest) × IsChain IsOperator IsOperand (front ++ b) steps
  goes_on n ih None front left text o_is chain steps rest e = ended front left text chain steps rest e
  goes_on n ih (Some o) front left text o_is chain steps rest e =
      option_and_then_some (λ right. more operator operand n ((left ++ right.0) ++ o.0 ∷ []) right.1) (operand o.1) (steps, rest) e (λ right right_is f.
      let op = operators text o.0 o.1 o_is in
      let b = operands o.1 right.0 right.1 right_is in
      let chained : IsChain IsOperator IsOperand (front ++ op.0 ∷ b.0) ((left ++ right.0) ++ o.0 ∷ []) = longer front b.0 left right.0 op.0 o.0 chain op.2 b.2 in
      let on = ih (front ++ op.0 ∷ b.0) ((left ++ right.0) ++ o.0 ∷ []) right.1 chained steps rest f in
      let whole : text ≡ (op.0 ∷ (b.0 ++ on.0)) ++ rest = op.1 ∙ ap (λ l. op.0 ∷ l) (b.1 ∙ ap (λ l. b.0 ++ l) on.1 ∙ sym (append_assoc b.0 on.0 rest)) in
      (op.0 ∷ (b.0 ++ on.0), whole, subst (λ (l : List ℕ). IsChain IsOperator IsOperand l steps) (append_assoc front (op.0 ∷ b.0) on.0) on.2))

  more_sound : (n : ℕ) → GoesOn n
  unfolding more
  more_sound zero front left text chain steps rest e = ended front left text chain steps rest e
  more_sound (suc n) front left text chain steps rest e =
      goes_on n (more_sound n) (operator text) front left text refl chain steps rest e

  pub chain_sound : Sound (chain_at operator operand) (IsChain IsOperator IsOperand)
  chain_sound text steps rest e =
      option_and_then_some (λ left. more operator operand (length left.1) left.0 left.1) (operand text) (steps, rest) e (λ left left_is f.
      let a = operands text left.0 left.1 left_is in
      let on = more_sound (length left.1) a.0 left.0 left.1 (one a.0 left.0 a.2) steps rest f in
      (a.0 ++ on.0, a.1 ∙ ap (λ l. a.0 ++ l) on.1 ∙ sym (append_assoc a.0 on.0 rest), on.2))

-- ---- a chain is read

-- a chain was read so far, and there is reading enough for all that follows
abbrev Follows : (List ℕ → Found Step) → Reader → List ℕ → List Step → List ℕ → Type 0
Follows operator operand whole steps rest = (n : ℕ) × (length rest ≤ n) × (chain_at operator operand whole ≡ more operator operand n steps rest)

module _ (operator : List ℕ → Found Step) (operand : Reader) (IsOperator : ℕ → Step → Type 0) (IsOperand : List ℕ → List Step → Type 0) (Stops : List ℕ → Type 0) (operators : FullOperator Stops operator IsOperator) (operands : Full Stops operand IsOperand) where
  begins : (text : List ℕ) (steps : List Step) → IsOperand text steps → (rest : List ℕ) → Stops rest → Follows operator operand (text ++ rest) steps rest
  begins text steps is rest stops =
      let read : operand (text ++ rest) ≡ Some (steps, rest) = operands text steps is rest stops in
      (length rest, omega arith, rw read refl)

  follows_more : (whole : List ℕ) (left right : List Step) (byte : ℕ) (s : Step) (b rest : List ℕ) → Follows operator operand whole left (byte ∷ (b ++ rest)) → operator (byte ∷ (b ++ rest)) ≡ Some (s, b ++ rest) → operand (b ++ rest) ≡ Some (right, rest) → Follows operator operand whole ((left ++ right) ++ s ∷ []) rest
  follows_more whole left right byte s b rest so operator_is operand_is =
      let enough : suc (length (b ++ rest)) ≤ so.0 = so.1 in
      let size : length (b ++ rest) ≡ length b + length rest = length-append b rest in
      let n_is : so.0 ≡ suc (so.0 - 1) = omega (arith, enough) in
      let less : length rest ≤ so.0 - 1 = omega (arith, enough, size) in
      let step : more operator operand so.0 left (byte ∷ (b ++ rest)) ≡ more_from (Some (s, b ++ rest)) operand (more operator operand (so.0 - 1)) left (byte ∷ (b ++ rest))
      = more_at operator operand so.0 (so.0 - 1) left (byte ∷ (b ++ rest)) (Some (s, b ++ rest)) n_is operator_is in
      (so.0 - 1, less, so.2 ∙ step ∙ rw operand_is refl)

  follows : (text : List ℕ) (steps : List Step) → IsChain IsOperator IsOperand text steps → (rest : List ℕ) → Stops rest → Follows operator operand (text ++ rest) steps rest
  follows text steps (one a s is) rest stops = begins a s is rest stops
  follows text steps (longer a b left right byte s chain op is) rest stops =
      let here = operators byte s (b ++ rest) op in
      let before = follows a left chain (byte ∷ (b ++ rest)) here.1 in
      let read : operand (b ++ rest) ≡ Some (right, rest) = operands b right is rest stops in
      let on = follows_more (a ++ byte ∷ (b ++ rest)) left right byte s b rest before here.0 read in
      subst (λ (l : List ℕ). Follows operator operand l ((left ++ right) ++ s ∷ []) rest) (sym (append_assoc a (byte ∷ b) rest)) on

  pub chain_full : (text : List ℕ) (steps : List Step) → IsChain IsOperator IsOperand text steps → (rest : List ℕ) → Stops rest → operator rest ≡ None → chain_at operator operand (text ++ rest) ≡ Some (steps, rest)
  chain_full text steps chain rest stops none =
      let so = follows text steps chain rest stops in
      so.2 ∙ more_none operator operand so.0 steps rest none

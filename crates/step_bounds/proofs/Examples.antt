-- Limits that are enough, and limits that aren't.
use Rattle.std.proofs.Common.{◌≡◌, ℕ, [], ◌∷◌, Some, None, refl}
use Rattle.polynomials.specs.Polynomials.{Term, term}
use Rattle.zero_sets.specs.Systems.{PolynomialSystem}
use Rattle.split_paths.specs.declared.event.Why.TheVariants as why
use Rattle.case_laws.specs.Laws.{answer_to}

-- c x^a y^b
abbrev xy : ℕ → ℕ → ℕ → Term
xy c a b = term (a ∷ b ∷ []) c

-- modulo 7, x + y + 1 and x + 6 y
abbrev lines : PolynomialSystem
lines = record {
  prime = 7;
  inputs = (xy 1 0 1 ∷ xy 1 1 0 ∷ xy 1 0 0 ∷ []) ∷ (xy 6 0 1 ∷ xy 1 1 0 ∷ []) ∷ [];
  nonzero = [];
}

-- three steps and the width 3 are enough
enough : (answer_to 2 3 3 lines).stop ≡ None
enough = refl

-- two steps aren't, nor is the width 2
few_steps : (answer_to 2 3 2 lines).stop ≡ Some ([], why.Steps)
few_steps = refl

narrow : (answer_to 2 2 3 lines).stop ≡ Some ([], why.Size)
narrow = refl

-- c x^a
abbrev x : ℕ → ℕ → Term
x c a = term (a ∷ []) c

-- modulo 7, x^2 + x + 1 and x + 3
abbrev powers : PolynomialSystem
powers = record {
  prime = 7;
  inputs = (x 1 2 ∷ x 1 1 ∷ x 1 0 ∷ []) ∷ (x 1 1 ∷ x 3 0 ∷ []) ∷ [];
  nonzero = [];
}

-- the same limits
enough_in_one : (answer_to 1 3 3 powers).stop ≡ None
enough_in_one = refl

few_steps_in_one : (answer_to 1 3 2 powers).stop ≡ Some ([], why.Steps)
few_steps_in_one = refl

narrow_in_one : (answer_to 1 2 3 powers).stop ≡ Some ([], why.Size)
narrow_in_one = refl

-- The words of the laws, tried on the system of x y modulo 5.
use Rattle.std.proofs.Common.{◌≡◌, ℕ, zero, suc, ◌≤◌, List, [], ◌∷◌, None, refl, lit≤, arith}
use Rattle.polynomials.specs.Primes.{IsPrime}
use Rattle.polynomials.specs.Polynomials.{Polynomial, term}
use Rattle.polynomials.specs.Views.{degree_in}
use Rattle.polynomials.proofs.ExponentsBelow.{degree_in-past}
use Rattle.zero_sets.specs.Tasks.{InTask}
use Rattle.zero_sets.specs.Systems.{PolynomialSystem}
use Rattle.finish_rules.specs.Leaves.{Leaf, InLeaf}
use Rattle.zero_sets.specs.Residues.{residues}
use Rattle.case_rules.specs.Cases.{root_task}
use Rattle.case_laws.specs.Lawful.{IsLawfulPolynomial, IsLawfulSystem, IsLawfulLeaf, IsLawfulTask}
use Rattle.case_laws.specs.Laws.{IsInZeroSet, answer_to}
use Rattle.case_laws.proofs.AnswersOfSystems.{answers_are_lawful, answers_are_sound}

abbrev x : Polynomial
x = term (1 ∷ 0 ∷ []) 1 ∷ []

abbrev y : Polynomial
y = term (0 ∷ 1 ∷ []) 1 ∷ []

abbrev x_y : Polynomial
x_y = term (1 ∷ 1 ∷ []) 1 ∷ []

-- a triangular set whose initials are constant
abbrev plain_leaf : List Polynomial → Leaf
plain_leaf chain = record { chain = chain; certificates = [] }

-- x to the power e, in one variable
abbrev power : ℕ → Polynomial
power e = term (e ∷ []) 1 ∷ []

-- x y is lawful in two variables
product_lawful : IsLawfulPolynomial 5 2 2 x_y
product_lawful = record {
  canonical = (refl, lit≤ tt, lit≤ tt, tt, tt);
  named = λ v past. degree_in-past 5 2 v x_y past (refl, lit≤ tt, lit≤ tt, tt, tt);
  small = small;
}
  where
    small : (v : ℕ) → degree_in v x_y ≤ 65535
    small zero = omega arith
    small (suc zero) = omega arith
    small (suc (suc v)) = omega arith

-- but not where x alone is named
without_y : IsLawfulPolynomial 5 2 1 x_y → ⊥
without_y lawful = let none = lawful.named 1 (lit≤ tt) in omega arith

-- the greatest power, and one that is past the limit
greatest_power : IsLawfulPolynomial 5 1 1 (power 65535)
greatest_power = record {
  canonical = (refl, lit≤ tt, lit≤ tt, tt, tt);
  named = λ v past. degree_in-past 5 1 v (power 65535) past (refl, lit≤ tt, lit≤ tt, tt, tt);
  small = small;
}
  where
    small : (v : ℕ) → degree_in v (power 65535) ≤ 65535
    small zero = omega arith
    small (suc v) = omega arith

power_past : IsLawfulPolynomial 5 1 1 (power 65536) → ⊥
power_past lawful = let high : 65536 ≤ 65535 = lawful.small 0 in omega arith

-- the system of x y, where y - 3 must not vanish
abbrev y_less_three : Polynomial
y_less_three = term (0 ∷ 1 ∷ []) 1 ∷ term (0 ∷ 0 ∷ []) 2 ∷ []

abbrev system : List Polynomial → PolynomialSystem
system nonzero = record { prime = 5; inputs = x_y ∷ []; nonzero = nonzero }

system_lawful : IsPrime 5 → IsLawfulSystem 2 2 (system [])
system_lawful prime = record { prime = prime; inputs = (product_lawful, tt); nonzero = tt }

-- the root is lawful
root_lawful : IsLawfulTask 5 2 2 (root_task 2 (system []))
root_lawful = record {
  chain = record { lawful = tt; triangular = tt };
  queue = (product_lawful, tt);
  nonzero = tt;
}

-- and has the point x = 0, y = 3
root_has : InTask (residues 5) (0 ∷ 3 ∷ []) (root_task 2 (system []))
root_has = ((tt, tt), (refl, tt), tt)

-- but not where y - 3 must not vanish
root_off : InTask (residues 5) (0 ∷ 3 ∷ []) (root_task 2 (system (y_less_three ∷ []))) → ⊥
root_off inside = inside.2.0 refl

-- which the second triangular set of the answer has, and the first hasn't
second_has : InLeaf (residues 5) (0 ∷ 3 ∷ []) (plain_leaf (x ∷ []))
second_has = ((refl, tt), ((λ none. cc), tt))

first_has_not : InLeaf (residues 5) (0 ∷ 3 ∷ []) (plain_leaf (y ∷ [])) → ⊥
first_has_not inside = let zero_y = inside.0.0 in cc

answer : answer_to 2 100000 10000 (system []) ≡ record { chains = ((1 ∷ []), plain_leaf (y ∷ [])) ∷ ((2 ∷ []), plain_leaf (x ∷ [])) ∷ []; stop = None }
answer = refl

-- the first is lawful, and its points are zeros of x y
first_lawful : IsPrime 5 → IsLawfulLeaf 5 2 2 (plain_leaf (y ∷ []))
first_lawful prime = answers_are_lawful 2 2 100000 10000 (system []) (system_lawful prime) ((1 ∷ []), plain_leaf (y ∷ [])) (0, omega arith, refl)

first_sound : IsPrime 5 → IsInZeroSet 5 (x_y ∷ []) (y ∷ [])
first_sound prime = answers_are_sound 2 2 100000 10000 (system []) (system_lawful prime) ((1 ∷ []), plain_leaf (y ∷ [])) (0, omega arith, refl)

-- The words of the laws, tried on the children of x y modulo 5.
use Rattle.std.proofs.Common.{◌≡◌, [], ◌∷◌, Some, inl, inr, refl, lit≤}
use Rattle.std.specs.List.{Any}
use Rattle.polynomials.specs.Polynomials.{Polynomial, term}
use Rattle.zero_sets.specs.Tasks.{Task, InTask}
use Rattle.zero_sets.specs.Residues.{residues}
use Rattle.impose_rules.specs.Impose.{impose_children}
use Rattle.tree_laws.proofs.Some.{some_first, some_right, some_nowhere, some_cases}
use Rattle.impose_laws.specs.TaskForms.{IsTaskOver, IsTaskFreeOf}

abbrev x : Polynomial
x = term (1 ∷ 0 ∷ []) 1 ∷ []

abbrev y : Polynomial
y = term (0 ∷ 1 ∷ []) 1 ∷ []

abbrev x_y : Polynomial
x_y = term (1 ∷ 1 ∷ []) 1 ∷ []

abbrev root : Task
root = record { chain = []; queue = x_y ∷ []; nonzero = [] }

abbrev first : Task
first = record { chain = y ∷ []; queue = []; nonzero = x ∷ [] }

abbrev second : Task
second = record { chain = []; queue = x ∷ [] ∷ []; nonzero = [] }

over_the_field : IsTaskOver 5 2 root
over_the_field = (tt, ((refl, lit≤ tt, lit≤ tt, tt, tt), tt), tt)

without_a_third_variable : IsTaskFreeOf 2 root
without_a_third_variable = (tt, (refl, tt), tt)

children : impose_children 5 2 100 [] [] [] x_y ≡ Some (first ∷ second ∷ [])
children = refl

-- at x = 0 and y = 3 the point is in the second child alone
in_the_root : InTask (residues 5) (0 ∷ 3 ∷ []) root
in_the_root = ((tt, tt), (refl, tt), tt)

in_a_child : Any (InTask (residues 5) (0 ∷ 3 ∷ [])) (first ∷ second ∷ [])
in_a_child = some_right (InTask (residues 5) (0 ∷ 3 ∷ [])) (first ∷ []) (second ∷ []) (some_first (InTask (residues 5) (0 ∷ 3 ∷ [])) second [] ((tt, tt), (refl, (refl, tt)), tt))

not_in_the_first : Any (InTask (residues 5) (0 ∷ 3 ∷ [])) (first ∷ []) → ⊥
not_in_the_first h = elim (some_cases (InTask (residues 5) (0 ∷ 3 ∷ [])) first [] h) [
  | inl here ↦ here.2.0 refl
  | inr later ↦ some_nowhere (InTask (residues 5) (0 ∷ 3 ∷ [])) later
]

-- Whole trees of small systems modulo 5, and steps of empty queues, with results that were found
-- independently.
use Rattle.std.proofs.Common.{◌≡◌, ℕ, List, [], ◌∷◌, Some, None, refl}
use Rattle.polynomials.specs.Polynomials.{Term, term, Polynomial}
use Rattle.split_paths.specs.declared.event.Event.{Event}
use Rattle.split_paths.specs.declared.event.Event.TheVariants.{Split}
use Rattle.split_paths.specs.declared.event.Event.TheVariants as event
use Rattle.split_paths.specs.declared.event.Outcome.TheVariants as outcome
use Rattle.split_paths.specs.declared.event.Why.TheVariants as why
use Rattle.split_paths.specs.declared.splitter.Step.{Step}
use Rattle.split_paths.specs.declared.splitter.Step.TheVariants.{Gone, Emit, TooWide, Kids}
use Rattle.split_paths.specs.Answer.{Answer, answer_of}
use Rattle.split_paths.specs.Tree.{events_of}
use Rattle.zero_sets.specs.Certificates.{Certificate}
use Rattle.zero_sets.specs.Systems.{PolynomialSystem}
use Rattle.zero_sets.specs.Tasks.{Task}
use Rattle.finish_rules.specs.Leaves.{Leaf}
use Rattle.case_rules.specs.Cases.{case_step, root_task, root_place}
use Rattle.case_rules.specs.Finish.{finish_step}

-- c x^a, c x^a y^b, and c x^a y^b z^d
abbrev x_term : ℕ → ℕ → Term
x_term c a = term (a ∷ []) c

abbrev xy : ℕ → ℕ → ℕ → Term
xy c a b = term (a ∷ b ∷ []) c

abbrev xyz : ℕ → ℕ → ℕ → ℕ → Term
xyz c a b d = term (a ∷ b ∷ d ∷ []) c

abbrev x : Polynomial
x = xy 1 1 0 ∷ []

abbrev y : Polynomial
y = xy 1 0 1 ∷ []

abbrev x_y : Polynomial
x_y = xy 1 1 1 ∷ []

-- x y^2 + y + 1
abbrev quadratic : Polynomial
quadratic = xy 1 1 2 ∷ xy 1 0 1 ∷ xy 1 0 0 ∷ []

-- y^2 + x^2
abbrev two_squares : Polynomial
two_squares = xy 1 0 2 ∷ xy 1 2 0 ∷ []

-- a system of inputs, and polynomials that must not vanish
abbrev system : List Polynomial → List Polynomial → PolynomialSystem
system inputs nonzero = record { prime = 5; inputs = inputs; nonzero = nonzero }

-- a leaf of the tree, and a certificate
abbrev leaf : List Polynomial → List Certificate → Leaf
leaf chain cs = record { chain = chain; certificates = cs }

abbrev certificate : ℕ → Polynomial → List Polynomial → Polynomial → Certificate
certificate v a bs r = record { of = v; cofactor = a; below = bs; value = r }

-- the tree in n variables, within a width, with so many steps for each branch
abbrev tree_off : List Polynomial → ℕ → ℕ → ℕ → List Polynomial → List (Event Leaf)
tree_off nonzero n w steps inputs = events_of (case_step n w (system inputs nonzero)) (root_place n steps (system inputs nonzero))

abbrev tree : ℕ → ℕ → ℕ → List Polynomial → List (Event Leaf)
tree n w steps inputs = tree_off [] n w steps inputs

abbrev answer : ℕ → ℕ → ℕ → List Polynomial → Answer Leaf
answer n w steps inputs = answer_of (tree n w steps inputs)

-- x y splits at its initial x
tree_of_a_product : tree 2 100000 10000 (x_y ∷ []) ≡ Split [] 2 ∷ event.Leaf (1 ∷ []) (outcome.Chain (leaf (y ∷ []) [])) ∷ event.Leaf (2 ∷ []) (outcome.Chain (leaf (x ∷ []) [])) ∷ []
tree_of_a_product = refl

answer_to_a_product : answer 2 100000 10000 (x_y ∷ []) ≡ record { chains = ((1 ∷ []), leaf (y ∷ []) []) ∷ ((2 ∷ []), leaf (x ∷ []) []) ∷ []; stop = None }
answer_to_a_product = refl

-- x^2 and x y: the first triangular set has no point that the second hasn't
answer_with_a_redundant_set : answer 2 100000 10000 ((xy 1 2 0 ∷ []) ∷ x_y ∷ []) ≡ record { chains = ((1 ∷ []), leaf ((xy 1 2 0 ∷ []) ∷ y ∷ []) []) ∷ ((2 ∷ []), leaf (x ∷ []) []) ∷ []; stop = None }
answer_with_a_redundant_set = refl

-- 3 has no zeros
tree_of_a_constant : tree 2 100000 10000 ((xy 3 0 0 ∷ []) ∷ []) ≡ event.Leaf [] outcome.Gone ∷ []
tree_of_a_constant = refl

answer_to_a_constant : answer 2 100000 10000 ((xy 3 0 0 ∷ []) ∷ []) ≡ record { chains = []; stop = None }
answer_to_a_constant = refl

-- x y^2 + y + 1, with one step for each branch and with enough
answer_stopped_by_steps : answer 2 100000 1 (quadratic ∷ []) ≡ record { chains = []; stop = Some ((1 ∷ []), why.Steps) }
answer_stopped_by_steps = refl

answer_with_steps_enough : answer 2 100000 10000 (quadratic ∷ []) ≡ record { chains = ((1 ∷ []), leaf (quadratic ∷ []) (certificate 1 (xy 1 0 0 ∷ []) [] x ∷ [])) ∷ ((2 ∷ []), leaf (x ∷ (xy 1 0 1 ∷ xy 1 0 0 ∷ []) ∷ []) []) ∷ []; stop = None }
answer_with_steps_enough = refl

-- x^2 - 1 and x^2 + x - 2 have the zero 1 in common, found in three steps
answer_in_three_steps : answer 1 100000 3 ((x_term 1 2 ∷ x_term 4 0 ∷ []) ∷ (x_term 1 2 ∷ x_term 1 1 ∷ x_term 3 0 ∷ []) ∷ []) ≡ record { chains = ([], leaf ((x_term 1 1 ∷ x_term 4 0 ∷ []) ∷ []) []) ∷ []; stop = None }
answer_in_three_steps = refl

answer_stopped_by_size : answer 1 1 10000 ((x_term 1 2 ∷ x_term 4 0 ∷ []) ∷ (x_term 1 2 ∷ x_term 1 1 ∷ x_term 3 0 ∷ []) ∷ []) ≡ record { chains = []; stop = Some ([], why.Size) }
answer_stopped_by_size = refl

-- x y - 1 and x^2 - x: where the initial x is zero nothing is left; elsewhere it divides zero, and its
-- cofactor is imposed
tree_with_a_branch_gone : tree 2 100000 10000 ((xy 1 1 1 ∷ xy 4 0 0 ∷ []) ∷ (xy 1 2 0 ∷ xy 4 1 0 ∷ []) ∷ []) ≡ Split [] 2 ∷ event.Leaf (1 ∷ []) (outcome.Chain (leaf ((xy 1 1 0 ∷ xy 4 0 0 ∷ []) ∷ (xy 1 1 1 ∷ xy 4 0 0 ∷ []) ∷ []) (certificate 1 (xy 1 0 0 ∷ []) ((xy 4 0 0 ∷ []) ∷ []) (xy 1 0 0 ∷ []) ∷ []))) ∷ event.Leaf (2 ∷ []) outcome.Gone ∷ []
tree_with_a_branch_gone = refl

-- x^2, y^3 - y^2 and (x y^2 + y - 1) z - 1: the cofactor of the initial reduces to 0, so one of two leads
-- vanishes; the branch of the second is gone, and so are three below the initial
tree_with_splits : tree 3 100000 10000 ((xyz 1 2 0 0 ∷ []) ∷ (xyz 1 0 3 0 ∷ xyz 4 0 2 0 ∷ []) ∷ (xyz 1 1 2 1 ∷ xyz 1 0 1 1 ∷ xyz 4 0 0 1 ∷ xyz 4 0 0 0 ∷ []) ∷ []) ≡ Split [] 2 ∷ Split (1 ∷ []) 2 ∷ event.Leaf (1 ∷ 1 ∷ []) (outcome.Chain (leaf ((xyz 1 1 0 0 ∷ []) ∷ (xyz 1 0 2 0 ∷ []) ∷ (xyz 1 1 2 1 ∷ xyz 1 0 1 1 ∷ xyz 4 0 0 1 ∷ xyz 4 0 0 0 ∷ []) ∷ []) (certificate 2 (xyz 4 0 1 0 ∷ xyz 4 0 0 0 ∷ []) ([] ∷ (xyz 1 1 1 0 ∷ xyz 1 1 0 0 ∷ xyz 1 0 0 0 ∷ []) ∷ []) (xyz 1 0 0 0 ∷ []) ∷ []))) ∷ event.Leaf (1 ∷ 2 ∷ []) outcome.Gone ∷ Split (2 ∷ []) 3 ∷ event.Leaf (2 ∷ 1 ∷ []) outcome.Gone ∷ event.Leaf (2 ∷ 2 ∷ []) outcome.Gone ∷ event.Leaf (2 ∷ 3 ∷ []) outcome.Gone ∷ []
tree_with_splits = refl

-- y^2 - x and y z - 1: the certificate of y has the value -x
answer_with_a_certificate : answer 3 100000 10000 ((xyz 1 0 2 0 ∷ xyz 4 1 0 0 ∷ []) ∷ (xyz 1 0 1 1 ∷ xyz 4 0 0 0 ∷ []) ∷ []) ≡ record { chains = ((1 ∷ []), leaf ((xyz 1 0 2 0 ∷ xyz 4 1 0 0 ∷ []) ∷ (xyz 1 0 1 1 ∷ xyz 4 0 0 0 ∷ []) ∷ []) (certificate 2 (xyz 4 0 1 0 ∷ []) ((xyz 1 0 0 0 ∷ []) ∷ []) (xyz 4 1 0 0 ∷ []) ∷ [])) ∷ []; stop = None }
answer_with_a_certificate = refl

-- x y where x must not vanish: one triangular set
abbrev constant : ℕ → Polynomial
constant c = xy c 0 0 ∷ []

tree_off_x : tree_off (x ∷ []) 2 100000 10000 (x_y ∷ []) ≡ event.Leaf [] (outcome.Chain (leaf (y ∷ []) [])) ∷ []
tree_off_x = refl

-- that constants must not vanish says nothing
tree_off_a_constant : tree_off (constant 3 ∷ []) 2 100000 10000 (x_y ∷ []) ≡ Split [] 2 ∷ event.Leaf (1 ∷ []) (outcome.Chain (leaf (y ∷ []) [])) ∷ event.Leaf (2 ∷ []) (outcome.Chain (leaf (x ∷ []) [])) ∷ []
tree_off_a_constant = refl

-- 2 x and x are one, and y is a second
root_off_several : root_task 2 (system (x_y ∷ []) ((xy 2 1 0 ∷ []) ∷ x ∷ constant 4 ∷ y ∷ [])) ≡ record { chain = []; queue = x_y ∷ []; nonzero = x ∷ y ∷ [] }
root_off_several = refl

-- a branch where y + 1 vanishes is gone
tree_off_a_branch : tree_off ((xy 1 0 1 ∷ xy 1 0 0 ∷ []) ∷ []) 2 100000 10000 (quadratic ∷ []) ≡ Split [] 2 ∷ event.Leaf (1 ∷ []) (outcome.Chain (leaf (quadratic ∷ []) (certificate 1 (xy 1 0 0 ∷ []) [] x ∷ []))) ∷ event.Leaf (2 ∷ []) outcome.Gone ∷ []
tree_off_a_branch = refl

-- that 0 must not vanish is the demand that 1 does
root_off_zero : root_task 2 (system (x_y ∷ []) (x ∷ [] ∷ [])) ≡ record { chain = []; queue = constant 1 ∷ x_y ∷ []; nonzero = [] }
root_off_zero = refl

tree_off_zero : tree_off (x ∷ [] ∷ []) 2 100000 10000 (x_y ∷ []) ≡ event.Leaf [] outcome.Gone ∷ []
tree_off_zero = refl

-- the step in n variables of a task without a queue
abbrev finish : ℕ → ℕ → List Polynomial → List Polynomial → List Polynomial → Step Task Leaf
finish n w chain inputs ns = finish_step n w (system inputs []) (record { chain = chain; queue = []; nonzero = ns })

-- the task that imposes one polynomial
abbrev task : List Polynomial → List Polynomial → List Polynomial → Task
task chain queue ns = record { chain = chain; queue = queue; nonzero = ns }

-- x y reduces to 0 by y, while x doesn't
emitted : finish 2 100 (y ∷ []) (x_y ∷ []) (x ∷ []) ≡ Emit (leaf (y ∷ []) [])
emitted = refl

-- x reduces to 0 by x; what comes after it isn't reduced, although that wouldn't fit
gone_at_the_first : finish 2 1 (x ∷ []) (x_y ∷ []) (x ∷ two_squares ∷ []) ≡ Gone
gone_at_the_first = refl

too_wide_before : finish 2 1 (x ∷ []) (x_y ∷ []) (two_squares ∷ x ∷ []) ≡ TooWide
too_wide_before = refl

-- 4 x reduces x to 0, which must not vanish: the task is gone, and isn't emitted
gone_at_nonzero : finish 2 20 ((xy 4 1 0 ∷ []) ∷ []) [] (x ∷ []) ≡ Gone
gone_at_nonzero = refl

-- the remainder y is imposed; what comes after it isn't reduced
first_remainder_imposed : finish 2 1 (x ∷ []) (y ∷ two_squares ∷ []) [] ≡ Kids (task (x ∷ []) (y ∷ []) [] ∷ [])
first_remainder_imposed = refl

later_input_too_wide : finish 2 1 (x ∷ []) (x ∷ two_squares ∷ []) [] ≡ TooWide
later_input_too_wide = refl

-- y^2 is left of y^2 + x^2, and what doesn't vanish stays with it
later_remainder_imposed : finish 2 2 (x ∷ []) (x ∷ two_squares ∷ y ∷ []) ((xy 1 0 1 ∷ xy 1 0 0 ∷ []) ∷ []) ≡ Kids (task (x ∷ []) ((xy 1 0 2 ∷ []) ∷ []) ((xy 1 0 1 ∷ xy 1 0 0 ∷ []) ∷ []) ∷ [])
later_remainder_imposed = refl

-- x^2 + x, y^3 + 1 and x y^2 z: the initial has no certificate, and what it gives way to is imposed,
-- before any input is reduced
abbrev coprime_first : List Polynomial
coprime_first = (xyz 1 2 0 0 ∷ xyz 1 1 0 0 ∷ []) ∷ (xyz 1 0 3 0 ∷ xyz 1 0 0 0 ∷ []) ∷ (xyz 1 1 2 1 ∷ []) ∷ []

initials_first : finish 3 100000 coprime_first ((xyz 1 0 1 0 ∷ []) ∷ []) ((xyz 1 0 1 0 ∷ []) ∷ []) ≡ Kids (task coprime_first ((xyz 1 1 0 0 ∷ xyz 1 0 0 0 ∷ []) ∷ []) ((xyz 1 0 1 0 ∷ []) ∷ []) ∷ task coprime_first ((xyz 4 1 0 0 ∷ []) ∷ []) ((xyz 1 0 1 0 ∷ []) ∷ []) ∷ [])
initials_first = refl

-- 4 x y^2 + 3 and 3 y z^2: two certificates, that of the least main variable first; and where an input
-- doesn't reduce to 0 it is imposed
abbrev two_initials : List Polynomial
two_initials = (xyz 4 1 2 0 ∷ xyz 3 0 0 0 ∷ []) ∷ (xyz 3 0 1 2 ∷ []) ∷ []

two_certified : finish 3 100000 two_initials [] [] ≡ Emit (leaf two_initials (certificate 1 (xyz 1 0 0 0 ∷ []) [] (xyz 4 1 0 0 ∷ []) ∷ certificate 2 (xyz 3 1 1 0 ∷ []) ((xyz 4 0 0 0 ∷ []) ∷ []) (xyz 2 0 0 0 ∷ []) ∷ []))
two_certified = refl

input_imposed : finish 3 100000 two_initials ((xyz 4 1 2 0 ∷ xyz 3 0 0 0 ∷ []) ∷ (xyz 1 2 0 0 ∷ []) ∷ (xyz 1 1 0 0 ∷ []) ∷ []) [] ≡ Kids (task two_initials ((xyz 1 2 0 0 ∷ []) ∷ []) [] ∷ [])
input_imposed = refl

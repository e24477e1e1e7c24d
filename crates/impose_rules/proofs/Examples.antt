-- Steps whose polynomial has a new main variable, or none, with results that were found independently.
use Rattle.std.proofs.Common.{◌≡◌, ℕ, List, [], ◌∷◌, refl}
use Rattle.polynomials.specs.Polynomials.{Term, term, Polynomial}
use Rattle.zero_sets.specs.Tasks.{Task}
use Rattle.split_paths.specs.declared.splitter.Step.TheVariants.{Gone, TooWide, Kids}
use Rattle.impose_rules.specs.Impose.{impose_step}

-- c x^a y^b, and c x^a y^b z^d
abbrev xy : ℕ → ℕ → ℕ → Term
xy c a b = term (a ∷ b ∷ []) c

abbrev xyz : ℕ → ℕ → ℕ → ℕ → Term
xyz c a b d = term (a ∷ b ∷ d ∷ []) c

abbrev task : List Polynomial → List Polynomial → List Polynomial → Task
task chain queue ns = record { chain = chain; queue = queue; nonzero = ns }

-- modulo 5, x y is imposed on nothing: its initial x isn't 0, or it is
root_splits : impose_step {L = ⊥} 5 2 100 [] (xy 1 1 1 ∷ []) [] [] ≡ Kids (task ((xy 1 0 1 ∷ []) ∷ []) [] ((xy 1 1 0 ∷ []) ∷ []) ∷ task [] ((xy 1 1 0 ∷ []) ∷ [] ∷ []) [] ∷ [])
root_splits = refl

-- a further polynomial of the queue stays in each child
second_input_stays : impose_step {L = ⊥} 5 2 100 [] (xy 1 1 1 ∷ []) ((xy 1 0 1 ∷ xy 1 0 0 ∷ []) ∷ []) [] ≡ Kids (task ((xy 1 0 1 ∷ []) ∷ []) ((xy 1 0 1 ∷ xy 1 0 0 ∷ []) ∷ []) ((xy 1 1 0 ∷ []) ∷ []) ∷ task [] ((xy 1 1 0 ∷ []) ∷ [] ∷ (xy 1 0 1 ∷ xy 1 0 0 ∷ []) ∷ []) [] ∷ [])
second_input_stays = refl

-- x y reduces to 0 by x
zero_imposes_nothing : impose_step {L = ⊥} 5 2 100 ((xy 1 1 0 ∷ []) ∷ []) (xy 1 1 1 ∷ []) ((xy 1 0 1 ∷ []) ∷ []) [] ≡ Kids (task ((xy 1 1 0 ∷ []) ∷ []) ((xy 1 0 1 ∷ []) ∷ []) [] ∷ [])
zero_imposes_nothing = refl

-- 3 has no zeros
constant_leaves_nothing : impose_step {L = ⊥} 5 2 100 [] (xy 3 0 0 ∷ []) ((xy 1 1 0 ∷ []) ∷ []) [] ≡ Gone
constant_leaves_nothing = refl

-- 2 x^2 is a constant without the factors x, which don't vanish
stripped_to_a_constant : impose_step {L = ⊥} 5 2 6 ((xy 1 0 1 ∷ []) ∷ []) (xy 2 2 0 ∷ []) [] ((xy 1 1 0 ∷ []) ∷ []) ≡ Gone
stripped_to_a_constant = refl

-- the head is stripped of x, and its initial x is known nonzero: there is one child
initial_is_known : impose_step {L = ⊥} 5 3 6 ((xyz 1 0 0 2 ∷ []) ∷ []) (xyz 3 0 1 2 ∷ xyz 4 2 1 0 ∷ xyz 4 1 0 0 ∷ []) [] ((xyz 1 1 0 0 ∷ []) ∷ []) ≡ Kids (task ((xyz 1 1 1 0 ∷ xyz 1 0 0 0 ∷ []) ∷ (xyz 1 0 0 2 ∷ []) ∷ []) [] ((xyz 1 1 0 0 ∷ []) ∷ []) ∷ [])
initial_is_known = refl

-- a head of two terms, stripped of x at the width 2
one_division : impose_step {L = ⊥} 5 2 2 [] (xy 1 2 0 ∷ xy 4 1 0 ∷ []) [] ((xy 1 1 0 ∷ []) ∷ []) ≡ Kids (task ((xy 1 1 0 ∷ xy 4 0 0 ∷ []) ∷ []) [] ((xy 1 1 0 ∷ []) ∷ []) ∷ [])
one_division = refl

-- and not at the width 1, where the quotient doesn't fit
no_division : impose_step {L = ⊥} 5 2 1 [] (xy 1 2 0 ∷ xy 4 1 0 ∷ []) [] ((xy 1 1 0 ∷ []) ∷ []) ≡ Kids (task ((xy 1 2 0 ∷ xy 4 1 0 ∷ []) ∷ []) [] ((xy 1 1 0 ∷ []) ∷ []) ∷ [])
no_division = refl

-- an elimination by y^2 + 4 x y has products of at most 2 terms
reduction_fits : impose_step {L = ⊥} 5 2 2 ((xy 1 0 2 ∷ xy 4 1 1 ∷ []) ∷ []) (xy 1 0 2 ∷ xy 1 2 0 ∷ []) [] [] ≡ Kids (task ((xy 1 0 2 ∷ xy 4 1 1 ∷ []) ∷ []) ((xy 1 4 0 ∷ []) ∷ (xy 1 1 1 ∷ xy 1 2 0 ∷ []) ∷ []) ((xy 1 1 0 ∷ []) ∷ []) ∷ task ((xy 1 0 2 ∷ xy 4 1 1 ∷ []) ∷ []) ((xy 1 1 0 ∷ []) ∷ (xy 1 2 0 ∷ []) ∷ []) [] ∷ [])
reduction_fits = refl

-- so it is too wide at the width 1
reduction_too_wide : impose_step {L = ⊥} 5 2 1 ((xy 1 0 2 ∷ xy 4 1 1 ∷ []) ∷ []) (xy 1 0 2 ∷ xy 1 2 0 ∷ []) [] [] ≡ TooWide
reduction_too_wide = refl

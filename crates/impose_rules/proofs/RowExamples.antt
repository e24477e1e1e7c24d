-- Steps by remainder rows, with results that were found independently.
use Rattle.std.proofs.Common.{◌≡◌, true, false, ℕ, List, [], ◌∷◌, refl}
use Rattle.polynomials.specs.Polynomials.{Term, term, Polynomial}
use Rattle.zero_sets.specs.Tasks.{Task}
use Rattle.split_paths.specs.declared.splitter.Step.TheVariants.{Gone, TooWide, Kids}
use Rattle.impose_rules.specs.Laws.{is_unknown}
use Rattle.impose_rules.specs.Impose.{impose_step}

-- c x^a y^b, and c x^a y^b z^d
abbrev xy : ℕ → ℕ → ℕ → Term
xy c a b = term (a ∷ b ∷ []) c

abbrev xyz : ℕ → ℕ → ℕ → ℕ → Term
xyz c a b d = term (a ∷ b ∷ d ∷ []) c

abbrev task : List Polynomial → List Polynomial → List Polynomial → Task
task chain queue ns = record { chain = chain; queue = queue; nonzero = ns }

-- the rows of y^2 and y end at y, which takes the place of y^2
last_row_first : impose_step {L = ⊥} 2 3 9 ((xyz 1 0 2 0 ∷ []) ∷ []) (xyz 1 2 1 0 ∷ []) [] ((xyz 1 2 0 0 ∷ []) ∷ []) ≡ Kids (task ((xyz 1 0 1 0 ∷ []) ∷ []) [] ((xyz 1 2 0 0 ∷ []) ∷ []) ∷ [])
last_row_first = refl

-- the last row, a case of its lead, and the case where the initial is 0
all_three_kinds : impose_step {L = ⊥} 3 3 20 ((xyz 1 2 4 0 ∷ xyz 1 0 1 0 ∷ []) ∷ (xyz 1 0 0 1 ∷ xyz 1 1 2 0 ∷ []) ∷ []) (xyz 1 1 1 2 ∷ []) [] ((xyz 1 2 0 0 ∷ []) ∷ []) ≡ Kids (task ((xyz 1 0 1 0 ∷ []) ∷ (xyz 1 0 0 1 ∷ xyz 1 1 2 0 ∷ []) ∷ []) [] ((xyz 1 2 0 0 ∷ []) ∷ (xyz 1 1 0 0 ∷ []) ∷ (xyz 1 3 0 0 ∷ []) ∷ []) ∷ task ((xyz 1 2 4 0 ∷ xyz 1 0 1 0 ∷ []) ∷ (xyz 1 0 0 1 ∷ xyz 1 1 2 0 ∷ []) ∷ []) ((xyz 1 3 0 0 ∷ []) ∷ (xyz 1 1 2 0 ∷ []) ∷ []) ((xyz 1 2 0 0 ∷ []) ∷ (xyz 1 1 0 0 ∷ []) ∷ []) ∷ task ((xyz 1 2 4 0 ∷ xyz 1 0 1 0 ∷ []) ∷ (xyz 1 0 0 1 ∷ xyz 1 1 2 0 ∷ []) ∷ []) ((xyz 1 1 0 0 ∷ []) ∷ [] ∷ []) ((xyz 1 2 0 0 ∷ []) ∷ []) ∷ [])
all_three_kinds = refl

-- the initial is constant, and the second lead isn't known nonzero
later_lead_alone : impose_step {L = ⊥} 5 3 6 ((xyz 1 1 4 0 ∷ xyz 2 0 3 0 ∷ xyz 4 3 1 0 ∷ []) ∷ (xyz 1 2 0 1 ∷ xyz 4 0 1 0 ∷ []) ∷ []) (xyz 4 2 1 1 ∷ []) [] ((xyz 1 2 0 0 ∷ []) ∷ (xyz 1 1 0 0 ∷ []) ∷ []) ≡ Kids (task ((xyz 1 0 1 0 ∷ []) ∷ (xyz 1 2 0 1 ∷ xyz 4 0 1 0 ∷ []) ∷ []) [] ((xyz 1 2 0 0 ∷ []) ∷ (xyz 1 1 0 0 ∷ []) ∷ (xyz 1 3 0 0 ∷ []) ∷ []) ∷ task ((xyz 1 1 4 0 ∷ xyz 2 0 3 0 ∷ xyz 4 3 1 0 ∷ []) ∷ (xyz 1 2 0 1 ∷ xyz 4 0 1 0 ∷ []) ∷ []) ((xyz 1 3 0 0 ∷ []) ∷ (xyz 1 0 2 0 ∷ []) ∷ []) ((xyz 1 2 0 0 ∷ []) ∷ (xyz 1 1 0 0 ∷ []) ∷ []) ∷ [])
later_lead_alone = refl

-- three rows, of which the third lead is new
known_initial_and_third_row : impose_step {L = ⊥} 2 3 9 ((xyz 1 3 4 0 ∷ xyz 1 2 1 0 ∷ []) ∷ (xyz 1 0 0 1 ∷ xyz 1 2 2 0 ∷ []) ∷ []) (xyz 1 0 2 2 ∷ xyz 1 0 2 0 ∷ []) [] ((xyz 1 3 0 0 ∷ []) ∷ []) ≡ Kids (task ((xyz 1 10 1 0 ∷ xyz 1 2 1 0 ∷ []) ∷ (xyz 1 0 0 1 ∷ xyz 1 2 2 0 ∷ []) ∷ []) [] ((xyz 1 3 0 0 ∷ []) ∷ (xyz 1 13 0 0 ∷ xyz 1 5 0 0 ∷ []) ∷ []) ∷ task ((xyz 1 3 4 0 ∷ xyz 1 2 1 0 ∷ []) ∷ (xyz 1 0 0 1 ∷ xyz 1 2 2 0 ∷ []) ∷ []) ((xyz 1 13 0 0 ∷ xyz 1 5 0 0 ∷ []) ∷ (xyz 1 3 3 0 ∷ xyz 1 0 2 0 ∷ []) ∷ []) ((xyz 1 3 0 0 ∷ []) ∷ []) ∷ [])
known_initial_and_third_row = refl

-- the rows end without v: the cases of leads alone are left
coprime : impose_step {L = ⊥} 5 2 9 ((xy 1 0 2 ∷ xy 2 1 0 ∷ []) ∷ []) (xy 4 0 2 ∷ xy 2 2 1 ∷ []) [] ((xy 1 1 0 ∷ []) ∷ []) ≡ Kids (task ((xy 1 0 2 ∷ xy 2 1 0 ∷ []) ∷ []) ((xy 1 3 0 ∷ xy 3 0 0 ∷ []) ∷ (xy 1 1 1 ∷ xy 1 0 0 ∷ []) ∷ []) ((xy 1 1 0 ∷ []) ∷ []) ∷ [])
coprime = refl

-- each case has the leads before it among those that don't vanish
coprime_with_two_cases : impose_step {L = ⊥} 2 3 100 ((xyz 1 0 4 0 ∷ xyz 1 0 2 0 ∷ xyz 1 0 0 0 ∷ []) ∷ (xyz 1 1 2 2 ∷ xyz 1 1 0 1 ∷ []) ∷ []) (xyz 1 1 2 0 ∷ xyz 1 2 1 0 ∷ []) [] ((xyz 1 1 2 0 ∷ []) ∷ (xyz 1 2 0 0 ∷ []) ∷ []) ≡ Kids (task ((xyz 1 0 4 0 ∷ xyz 1 0 2 0 ∷ xyz 1 0 0 0 ∷ []) ∷ (xyz 1 1 2 2 ∷ xyz 1 1 0 1 ∷ []) ∷ []) ((xyz 1 6 0 0 ∷ xyz 1 4 0 0 ∷ []) ∷ (xyz 1 1 2 0 ∷ xyz 1 2 1 0 ∷ []) ∷ []) ((xyz 1 1 2 0 ∷ []) ∷ (xyz 1 2 0 0 ∷ []) ∷ (xyz 1 1 0 0 ∷ []) ∷ []) ∷ task ((xyz 1 0 4 0 ∷ xyz 1 0 2 0 ∷ xyz 1 0 0 0 ∷ []) ∷ (xyz 1 1 2 2 ∷ xyz 1 1 0 1 ∷ []) ∷ []) ((xyz 1 8 0 0 ∷ xyz 1 6 0 0 ∷ xyz 1 4 0 0 ∷ []) ∷ (xyz 1 1 2 0 ∷ xyz 1 2 1 0 ∷ []) ∷ []) ((xyz 1 1 2 0 ∷ []) ∷ (xyz 1 2 0 0 ∷ []) ∷ (xyz 1 1 0 0 ∷ []) ∷ (xyz 1 6 0 0 ∷ xyz 1 4 0 0 ∷ []) ∷ []) ∷ task ((xyz 1 0 4 0 ∷ xyz 1 0 2 0 ∷ xyz 1 0 0 0 ∷ []) ∷ (xyz 1 1 2 2 ∷ xyz 1 1 0 1 ∷ []) ∷ []) ((xyz 1 1 0 0 ∷ []) ∷ (xyz 1 2 1 0 ∷ []) ∷ []) ((xyz 1 1 2 0 ∷ []) ∷ (xyz 1 2 0 0 ∷ []) ∷ []) ∷ [])
coprime_with_two_cases = refl

-- x^3 and x^2 + 1 have no common zeros, and their leads are constant
coprime_leaves_nothing : impose_step {L = ⊥} 2 3 3 ((xyz 1 3 0 0 ∷ []) ∷ (xyz 1 0 0 1 ∷ xyz 1 2 2 0 ∷ []) ∷ []) (xyz 1 2 0 0 ∷ xyz 1 0 0 0 ∷ []) [] [] ≡ Gone
coprime_leaves_nothing = refl

-- the rows of y^2 + 4 x y and 2 x^2 y^2 + y at the width 4
rows_fit : impose_step {L = ⊥} 5 2 4 ((xy 1 0 2 ∷ xy 4 1 1 ∷ []) ∷ []) (xy 2 2 2 ∷ xy 1 0 1 ∷ []) [] [] ≡ Kids (task ((xy 1 0 1 ∷ []) ∷ []) [] ((xy 1 3 0 ∷ xy 3 0 0 ∷ []) ∷ []) ∷ task ((xy 1 0 2 ∷ xy 4 1 1 ∷ []) ∷ []) ((xy 1 3 0 ∷ xy 3 0 0 ∷ []) ∷ [] ∷ []) [] ∷ [])
rows_fit = refl

-- and at the width 3, where the reduction still fits
rows_too_wide : impose_step {L = ⊥} 5 2 3 ((xy 1 0 2 ∷ xy 4 1 1 ∷ []) ∷ []) (xy 2 2 2 ∷ xy 1 0 1 ∷ []) [] [] ≡ TooWide
rows_too_wide = refl

-- a quotient of rows that doesn't fit makes nothing too wide
undivided_row : impose_step {L = ⊥} 3 3 6 ((xyz 1 0 0 3 ∷ xyz 1 2 0 1 ∷ []) ∷ []) (xyz 1 2 1 2 ∷ xyz 2 0 0 2 ∷ xyz 1 2 0 0 ∷ []) [] [] ≡ Kids (task ((xyz 1 0 0 3 ∷ xyz 1 2 0 1 ∷ []) ∷ []) ((xyz 1 6 2 0 ∷ xyz 2 2 0 0 ∷ []) ∷ (xyz 1 2 1 2 ∷ xyz 2 0 0 2 ∷ xyz 1 2 0 0 ∷ []) ∷ []) ((xyz 1 2 1 0 ∷ xyz 2 0 0 0 ∷ []) ∷ []) ∷ task ((xyz 1 0 0 3 ∷ xyz 1 2 0 1 ∷ []) ∷ []) ((xyz 1 14 4 0 ∷ xyz 1 10 2 0 ∷ xyz 1 6 0 0 ∷ []) ∷ (xyz 1 2 1 2 ∷ xyz 2 0 0 2 ∷ xyz 1 2 0 0 ∷ []) ∷ []) ((xyz 1 2 1 0 ∷ xyz 2 0 0 0 ∷ []) ∷ (xyz 1 6 2 0 ∷ xyz 2 2 0 0 ∷ []) ∷ []) ∷ task ((xyz 1 0 0 3 ∷ xyz 1 2 0 1 ∷ []) ∷ []) ((xyz 1 2 1 0 ∷ xyz 2 0 0 0 ∷ []) ∷ (xyz 1 2 0 0 ∷ []) ∷ []) [] ∷ [])
undivided_row = refl

-- of the leads x and y, the second is unknown, and isn't where it is known from the start
second_is_unknown : is_unknown 5 [] ((xy 1 1 0 ∷ []) ∷ (xy 1 0 1 ∷ []) ∷ []) 2 ≡ true
second_is_unknown = refl

second_is_known : is_unknown 5 ((xy 1 0 1 ∷ []) ∷ []) ((xy 1 1 0 ∷ []) ∷ (xy 1 0 1 ∷ []) ∷ []) 2 ≡ false
second_is_known = refl

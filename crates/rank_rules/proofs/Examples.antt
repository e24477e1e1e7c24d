-- Ranks of a few tasks, and one where a factor is too wide to be taken away.
use Rattle.std.proofs.Common.{◌≡◌, ℕ, List, [], ◌∷◌, refl}
use Rattle.polynomials.specs.Polynomials.{Term, term, Polynomial}
use Rattle.zero_sets.specs.Tasks.{Task}
use Rattle.rank_rules.specs.Ranks.{rank_of}

-- c x^a y^b
abbrev xy : ℕ → ℕ → ℕ → Term
xy c a b = term (a ∷ b ∷ []) c

abbrev task : List Polynomial → List Polynomial → List Polynomial → Task
task chain queue ns = record { chain = chain; queue = queue; nonzero = ns }

-- modulo 5, with x y to impose on nothing
root_rank : rank_of 5 2 2 100 (task [] ((xy 1 1 1 ∷ []) ∷ []) []) ≡ 65536 ∷ 65536 ∷ 0 ∷ 2 ∷ []
root_rank = refl

-- its children: y, where x isn't 0, and x and 0 to impose
extended_rank : rank_of 5 2 2 100 (task ((xy 1 0 1 ∷ []) ∷ []) [] ((xy 1 1 0 ∷ []) ∷ [])) ≡ 1 ∷ 65536 ∷ 1 ∷ 0 ∷ []
extended_rank = refl

initial_rank : rank_of 5 2 2 100 (task [] ((xy 1 1 0 ∷ []) ∷ [] ∷ []) []) ≡ 65536 ∷ 65536 ∷ 0 ∷ 1 ∷ []
initial_rank = refl

-- two that reduce to 0 by x, and one that doesn't
zeros_rank : rank_of 5 2 2 100 (task ((xy 1 1 0 ∷ []) ∷ []) ((xy 1 1 1 ∷ []) ∷ [] ∷ (xy 1 0 1 ∷ []) ∷ []) []) ≡ 65536 ∷ 1 ∷ 2 ∷ 2 ∷ []
zeros_rank = refl

-- 2 x^2 without the factor x is constant
constant_rank : rank_of 5 2 2 6 (task ((xy 1 0 1 ∷ []) ∷ []) ((xy 2 2 0 ∷ []) ∷ []) ((xy 1 1 0 ∷ []) ∷ [])) ≡ 1 ∷ 65536 ∷ 0 ∷ 0 ∷ []
constant_rank = refl

-- c x^a y^b z^d w^e
abbrev xyzw : ℕ → ℕ → ℕ → ℕ → ℕ → Term
xyzw c a b d e = term (a ∷ b ∷ d ∷ e ∷ []) c

-- (z + x) w + 1, and (z + x) (y + x + 1) to impose where z + x isn't 0
abbrev wide_task : Task
wide_task = task ((xyzw 1 0 0 1 1 ∷ xyzw 1 1 0 0 1 ∷ xyzw 1 0 0 0 0 ∷ []) ∷ []) ((xyzw 1 0 1 1 0 ∷ xyzw 1 1 0 1 0 ∷ xyzw 1 0 0 1 0 ∷ xyzw 1 1 1 0 0 ∷ xyzw 1 2 0 0 0 ∷ xyzw 1 1 0 0 0 ∷ []) ∷ []) ((xyzw 1 0 0 1 0 ∷ xyzw 1 1 0 0 0 ∷ []) ∷ [])

-- the factor z + x isn't taken away at the width 5, and it is at 6
narrow_rank : rank_of 5 4 4 5 wide_task ≡ 1 ∷ 65536 ∷ 65536 ∷ 65536 ∷ 0 ∷ 3 ∷ []
narrow_rank = refl

wide_rank : rank_of 5 4 4 6 wide_task ≡ 1 ∷ 65536 ∷ 65536 ∷ 65536 ∷ 0 ∷ 2 ∷ []
wide_rank = refl

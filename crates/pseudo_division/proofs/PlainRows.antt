-- Polynomials as rows without cofactors.
use Rattle.std.proofs.Common.{◌≡◌, ◌-◌, ℕ, zero, suc, true, false, List, [], ◌∷◌, length, Option, Some, None, IfSome, option_map, refl, sym, ap, ◌∙◌}
use Rattle.std.specs.List.{slice_get}
use Rattle.polynomials.specs.Primes.{IsPrime}
use Rattle.polynomials.specs.Polynomials.{Polynomial, IsPolynomial, ArePolynomials}
use Rattle.division_rules.specs.Operations.{Operations}
use Rattle.division_rules.specs.Rows.{Row, plain, plains, is_reduced_by}
use Rattle.division_rules.specs.Chains.{EachRow}
use Rattle.division_rules.specs.Lists.{list_operations}
use Rattle.division_rules.specs.Triangular.{AreTriangular, HasLessDegree}
use Rattle.division_rules.specs.Within.{and_then, elimination_within, sparse_remainder_by_within, sparse_remainder_within, reduction_within}
use Rattle.division_rules.proofs.Up.{plains_canonical}
use Rattle.pseudo_division.proofs.CombinationResults.{less_than_members}

-- the row at a place is that of the polynomial there
pub plains-at : (fs : List Polynomial) (i : ℕ) (f : Polynomial) → slice_get fs i ≡ Some f → slice_get (plains fs) i ≡ Some (plain f)
plains-at [] i f e = cc
plains-at (g ∷ fs) zero f e = let same : g ≡ f = cc in ap (λ x. Some (plain x)) same
plains-at (g ∷ fs) (suc i) f e = plains-at fs i f e

-- there are as many
pub length-plains : (fs : List Polynomial) → length (plains fs) ≡ length fs
length-plains [] = refl
length-plains (f ∷ fs) = ap suc (length-plains fs)

-- where no elimination is left, a row is its own sparse remainder
pub reduced_stays : {A : Type 0} (o : Operations A) (w v : ℕ) (f g : Row A) → is_reduced_by o v g f ≡ true → sparse_remainder_within o w v f g ≡ Some f
reduced_stays {A} o w v f g reduced = ap (λ b. elim b as (λ _. Option (Row A)) [ true ↦ Some f | false ↦ and_then (elimination_within o w v f g) (λ x. sparse_remainder_by_within o w v g (o.views.degree v f.first - o.views.degree v g.first) x) ]) reduced

-- where one is, the sparse remainder goes on from it
pub goes_on : {A : Type 0} (o : Operations A) (w v : ℕ) (f g : Row A) (t : Option (Row A)) → is_reduced_by o v g f ≡ false → t ≡ elimination_within o w v f g → and_then t (λ x. sparse_remainder_by_within o w v g (o.views.degree v f.first - o.views.degree v g.first) x) ≡ sparse_remainder_within o w v f g
goes_on {A} o w v f g t more is = ap (λ y. and_then y (λ x. sparse_remainder_by_within o w v g (o.views.degree v f.first - o.views.degree v g.first) x)) is ∙ sym (ap (λ b. elim b as (λ _. Option (Row A)) [ true ↦ Some f | false ↦ and_then (elimination_within o w v f g) (λ x. sparse_remainder_by_within o w v g (o.views.degree v f.first - o.views.degree v g.first) x) ]) more)

-- the reduction of a polynomial by others is reduced by each
pub plain_reduced : (p n w : ℕ) → IsPrime p → (fs : List Polynomial) (f : Polynomial) (r : Option Polynomial) → ArePolynomials p n fs → IsPolynomial p n f → AreTriangular (plains fs) → option_map plain r ≡ reduction_within (list_operations p n) w (plains fs) (plain f) → IfSome r (λ h. EachRow (HasLessDegree h) (plains fs))
plain_reduced p n w prime fs f None are i triangular e = tt
plain_reduced p n w prime fs f (Some h) are i triangular e = less_than_members p n prime w (plains fs) (plain f) (plain h) (plains_canonical p n fs are) (i, tt) triangular (sym e)

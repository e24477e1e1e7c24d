-- Tasks of canonical polynomials, and what a child keeps of a task.
use Rattle.std.specs.Prelude.{◌≡◌, ℕ, List}
use Rattle.std.specs.List.{AllByRecursion}
use Rattle.polynomials.specs.Polynomials.{Polynomial, ArePolynomials, monic}
use Rattle.polynomials.specs.Views.{AreFreeOf}
use Rattle.zero_sets.specs.ZeroSets.{IsTriangular}
use Rattle.zero_sets.specs.Tasks.{Task, AreMonicApart}

-- the polynomials of the task are canonical, in n variables modulo p
abbrev pub IsTaskOver : ℕ → ℕ → Task → Type 0
IsTaskOver p n t =
    ArePolynomials p n t.chain × ArePolynomials p n t.queue × ArePolynomials p n t.nonzero

-- v occurs in no polynomial of the task
abbrev pub IsTaskFreeOf : ℕ → Task → Type 0
IsTaskFreeOf v t = AreFreeOf v t.chain × AreFreeOf v t.queue × AreFreeOf v t.nonzero

-- each of fs is monic
abbrev pub AreMonic : ℕ → List Polynomial → Type 0
AreMonic p fs = AllByRecursion (λ f. monic p f ≡ f) fs

-- a child of a task keeps its form: canonical polynomials, a triangular set, that the polynomials
-- that don't vanish are different, monic and not constant, and that the triangular set is monic;
-- and no variable occurs in it that doesn't occur in the task
pub record KeepsForm (p n : ℕ) (task child : Task) : Type 0 where
  pub over : IsTaskOver p n child
  pub triangular : IsTriangular child.chain
  pub apart : AreMonicApart p task.nonzero → AreMonicApart p child.nonzero
  pub monic : AreMonic p task.chain → AreMonic p child.chain
  pub free : (v : ℕ) → IsTaskFreeOf v task → IsTaskFreeOf v child

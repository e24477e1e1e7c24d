-- Lawful tasks on a single polynomial, and off one more.
use Rattle.std.proofs.Common.{◌≡◌, ℕ, zero, suc, List, [], ◌∷◌, Option, Some, None, refl, sym, ap, ◌∙◌, subst, arith}
use Rattle.std.specs.Prelude.{slice_get}
use Rattle.std.specs.List.{AllByRecursion}
use Rattle.polynomials.specs.Primes.{IsPrime}
use Rattle.polynomials.specs.Polynomials.{Polynomial}
use Rattle.polynomials.specs.Views.{main_var}
use Rattle.zero_sets.specs.Tasks.{with_nonzero}
use Rattle.chains.specs.Members.{with_polynomial, with_member_at}
use Rattle.case_laws.specs.Lawful.{IsLawfulPolynomial, AreLawfulPolynomials, IsLawfulChain}
use Rattle.case_laws.proofs.LawfulNonzero.{with_nonzero_lawful}

-- what holds of each holds of the item at a place
pub each_at : {X : Type 0} (Q : X → Type 0) (xs : List X) (i : ℕ) (x : X) → AllByRecursion Q xs → slice_get xs i ≡ Some x → Q x
each_at Q [] i x each at = cc
each_at Q (y ∷ xs) zero x each at = let same : y ≡ x = cc in subst Q same each.0
each_at Q (y ∷ xs) (suc i) x each at = each_at Q xs i x each.1 at

module _ (p n k : ℕ) where
  -- so does a copy of an item of lawful polynomials
  pub taken_lawful : (fs gs : List Polynomial) (i : ℕ) (f g : Polynomial) → AreLawfulPolynomials p n k fs → gs ≡ fs → slice_get gs i ≡ Some f → g ≡ f → IsLawfulPolynomial p n k g
  taken_lawful fs gs i f g are same at copied = subst (IsLawfulPolynomial p n k) (sym copied) (each_at (IsLawfulPolynomial p n k) gs i f (subst (AreLawfulPolynomials p n k) (sym same) are) at)

  -- no polynomials are lawful
  pub none_lawful : (fs : List Polynomial) → fs ≡ [] → AreLawfulPolynomials p n k fs
  none_lawful fs none = subst (AreLawfulPolynomials p n k) (sym none) tt

  -- one lawful polynomial is a triangular set, and a constant leaves none
  one_member_at : (t : Polynomial) (v : Option ℕ) → main_var t ≡ v → IsLawfulPolynomial p n k t → IsLawfulChain p n k (with_member_at v t [])
  one_member_at t None e lawful = record { lawful = tt; triangular = tt }
  one_member_at t (Some v) e lawful = record { lawful = (lawful, tt); triangular = (v, e, omega arith, tt) }

  pub one_member : (t : Polynomial) (start chain : List Polynomial) → IsLawfulPolynomial p n k t → start ≡ [] → chain ≡ with_polynomial t start → IsLawfulChain p n k chain
  one_member t start chain lawful none is = subst (IsLawfulChain p n k) (sym (is ∙ ap (with_polynomial t) none)) (one_member_at t (main_var t) refl lawful)

  -- a copy of a lawful triangular set
  pub chain_copied : (chain inside copy : List Polynomial) → IsLawfulChain p n k chain → inside ≡ chain → copy ≡ inside → IsLawfulChain p n k copy
  chain_copied chain inside copy lawful same copied = subst (IsLawfulChain p n k) (sym (copied ∙ same)) lawful

  -- one more that doesn't vanish
  pub one_more : IsPrime p → (q : ℕ) (ns start : List Polynomial) (h : Polynomial) (more : List Polynomial) → AreLawfulPolynomials p n k ns → IsLawfulPolynomial p n k h → q ≡ p → start ≡ ns → more ≡ with_nonzero q start h → AreLawfulPolynomials p n k more
  one_more prime q ns start h more are lawful same_prime same is = subst (AreLawfulPolynomials p n k) (sym (is ∙ ap (λ x. with_nonzero x start h) same_prime ∙ ap (λ xs. with_nonzero p xs h) same)) (with_nonzero_lawful p n k prime ns h are lawful)

-- What lemmas on division ask of polynomials: the laws of views over a ring.
use Rattle.std.specs.Prelude.{◌≡◌, ◌≢◌, ℕ, suc, ◌+◌, ◌≤◌, true, false, Some}
use Rattle.polynomials.specs.Rings.{Ring, IsIntegral}
use Rattle.division_rules.specs.Operations.{Views}

-- Under v d f says that in each term of f the exponent of v is less than d
pub record Laws (A : Type 0) (r : Ring A) (s : Views A) : Type 1 where
  pub integral : IsIntegral r
  pub one_not_nil : r.one ≢ r.nil
  pub nil_by_test : (f : A) → s.is_nil f ≡ true → f ≡ r.nil
  pub nonzero_by_test : (f : A) → s.is_nil f ≡ false → f ≢ r.nil
  pub Under : ℕ → ℕ → A → Type 0
  pub under-nil : (v d : ℕ) → Under v d r.nil
  pub under-more : (v d e : ℕ) (f : A) → d ≤ e → Under v d f → Under v e f
  pub under-none : (v : ℕ) (f : A) → Under v 0 f → f ≡ r.nil
  pub under-add : (v d : ℕ) (f g : A) → Under v d f → Under v d g → Under v d (r.◌⊕◌ f g)
  pub under-neg : (v d : ℕ) (f : A) → Under v d f → Under v d (r.neg f)
  pub under-mul :
      (v d e : ℕ) (f g : A)
      → Under v (suc d) f
      → Under v (suc e) g
      → Under v (suc (d + e)) (r.◌⊗◌ f g)
  pub under-coefficient : (x d v k : ℕ) (f : A) → Under x d f → Under x d (s.coefficient v k f)
  pub coefficient-free : (v k : ℕ) (f : A) → Under v 1 (s.coefficient v k f)
  pub coefficient-add :
      (v k : ℕ) (f g : A)
      → s.coefficient v k (r.◌⊕◌ f g) ≡ r.◌⊕◌ (s.coefficient v k f) (s.coefficient v k g)
  pub coefficient-mul :
      (v d e : ℕ) (f g : A)
      → Under v (suc d) f
      → Under v (suc e) g
      → s.coefficient v (d + e) (r.◌⊗◌ f g) ≡ r.◌⊗◌ (s.coefficient v d f) (s.coefficient v e g)
  -- a factor without v goes out of a coefficient
  pub coefficient-scale :
      (v k : ℕ) (u f : A)
      → Under v 1 u
      → s.coefficient v k (r.◌⊗◌ u f) ≡ r.◌⊗◌ u (s.coefficient v k f)
  pub coefficient-top :
      (v d : ℕ) (f : A) → Under v (suc d) f → s.coefficient v d f ≡ r.nil → Under v d f
  pub coefficient-above : (v d e : ℕ) (f : A) → d ≤ e → Under v d f → s.coefficient v e f ≡ r.nil
  pub degree-nil : (v : ℕ) → s.degree v r.nil ≡ 0
  pub degree-under : (v : ℕ) (f : A) → Under v (suc (s.degree v f)) f
  pub degree-top : (v : ℕ) (f : A) → f ≢ r.nil → s.coefficient v (s.degree v f) f ≢ r.nil
  pub power-under : (v k : ℕ) → Under v (suc k) (s.variable_power v k)
  -- where v is a variable of the polynomials, or k is 0
  pub power-coefficient :
      (v k : ℕ) (f : A) → k ≤ s.degree v f → s.coefficient v k (s.variable_power v k) ≡ r.one
  pub power-zero : (v : ℕ) → s.variable_power v 0 ≡ r.one
  pub power-other : (x v k : ℕ) → x ≢ v → Under x 1 (s.variable_power v k)
  pub quotient-sound : (w : ℕ) (f b q : A) → s.quotient w f b ≡ Some q → r.◌⊗◌ q b ≡ f

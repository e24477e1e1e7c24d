-- Polynomials that don't vanish stay different, monic and not constant where one is added.
use Rattle.std.proofs.Common.{◌≡◌, ℕ, Bool, true, false, ◌||◌, List, [], ◌∷◌, ◌++◌, refl, sym, ap₂, ◌∙◌}
use Rattle.polynomials.specs.Primes.{IsPrime}
use Rattle.polynomials.specs.Polynomials.{Polynomial, IsPolynomial, monic, same_polynomial}
use Rattle.polynomials.specs.Views.{is_constant}
use Rattle.polynomials.specs.Equalities.{same_polynomial_decides}
use Rattle.polynomials.proofs.MainVariables.{is_constant_iff}
use Rattle.polynomials.proofs.MonicForms.{monic-monic}
use Rattle.zero_sets.specs.Tasks.{is_member, is_known_nonzero, with_nonzero, AreMonicApart}
use Rattle.division_rules.proofs.Steps.{choose}
use Rattle.impose_laws.proofs.MonicForms.{degree_in-monic}

-- neither of two tests holds where one or the other doesn't
neither : (a b : Bool) → (a || b) ≡ false → (a ≡ false) × (b ≡ false)
neither true b e = cc
neither false b e = (refl, e)

-- the test of equality goes both ways
differ_back : (f g : Polynomial) → same_polynomial f g ≡ false → same_polynomial g f ≡ false
differ_back f g e = go (same_polynomial g f) refl
  where
    go : (b : Bool) → same_polynomial g f ≡ b → b ≡ false
    go true d = let back = (same_polynomial_decides f g).1 (sym ((same_polynomial_decides g f).0 d)) in cc
    go false d = refl

module _ (p n : ℕ) (prime : IsPrime p) where
  -- the monic form of what isn't constant isn't constant
  pub is_constant-monic : (h : Polynomial) → IsPolynomial p n h → is_constant h ≡ false → is_constant (monic p h) ≡ false
  is_constant-monic h i varies = go (is_constant (monic p h)) refl
    where
      go : (b : Bool) → is_constant (monic p h) ≡ b → b ≡ false
      go true e = let constant = (is_constant_iff h).1 (λ x. sym (degree_in-monic p n prime x h i) ∙ (is_constant_iff (monic p h)).0 e x) in cc
      go false e = refl

  not_member_appended : (g m : Polynomial) (ns : List Polynomial) → is_member g ns ≡ false → same_polynomial g m ≡ false → is_member g (ns ++ m ∷ []) ≡ false
  not_member_appended g m [] e d = ap₂ ◌||◌ d refl
  not_member_appended g m (h ∷ ns) e d =
      let parts = neither (same_polynomial g h) (is_member g ns) e in
      ap₂ ◌||◌ parts.0 (not_member_appended g m ns parts.1 d)

  apart_appended : (ns : List Polynomial) (m : Polynomial) → monic p m ≡ m → is_constant m ≡ false → is_member m ns ≡ false → AreMonicApart p ns → AreMonicApart p (ns ++ m ∷ [])
  apart_appended [] m e varies new apart = (e, varies, refl, tt)
  apart_appended (g ∷ ns) m e varies new apart =
      let parts = neither (same_polynomial m g) (is_member m ns) new in
      (apart.0, apart.1, not_member_appended g m ns apart.2 (differ_back m g parts.0), apart_appended ns m e varies parts.1 apart.3)

  -- one more, unless it is known nonzero
  pub apart_with : (ns : List Polynomial) (h : Polynomial) → IsPolynomial p n h → AreMonicApart p ns → AreMonicApart p (with_nonzero p ns h)
  apart_with ns h i apart = choose (AreMonicApart p) (is_known_nonzero p ns h) ns (ns ++ monic p h ∷ []) (λ e. apart) (λ unknown.
      let parts = neither (is_constant h) (is_member (monic p h) ns) unknown in
      apart_appended ns (monic p h) (monic-monic p n prime h i) (is_constant-monic h i parts.0) parts.1 apart)

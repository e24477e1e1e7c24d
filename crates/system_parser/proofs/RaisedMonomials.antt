-- Powers of monomials, within exponents of 16 bits.
use Rattle.std.proofs.Common.{◌≡◌, ℕ, ◌+◌, ◌*◌, ◌≤◌, Bool, true, false, cond, leb, [], ◌∷◌, Some, None, refl, sym, ap, ap₂, ◌∙◌, subst, arith}
use Rattle.std.proofs.lemmas.Bool.{and_parts, and_from, leb-true, le-leb}
use Rattle.std.proofs.Math.Nat.{mul-le-mul_left}
use Rattle.polynomials.specs.Monomials.{Monomial, monomial_product, ExponentsFit}
use Rattle.polynomials.specs.Fits.{is_exponent_list}
use Rattle.polynomials.proofs.FitsLemmas.{is_exponent_list_iff}
use Rattle.polynomials.proofs.Exponents.{exponent_of-product}
use Rattle.system_parser.specs.Powers.{within_exponents, monomial_power}

-- the first power
pub monomial_power-one : (m : Monomial) → monomial_power m 1 ≡ m
monomial_power-one [] = refl
monomial_power-one (d ∷ m) = ap₂ ◌∷◌ (omega arith) (monomial_power-one m)

-- powers are multiplied by adding their exponents
pub monomial_power-add : (m : Monomial) (a b : ℕ) → monomial_product (monomial_power m a) (monomial_power m b) ≡ monomial_power m (a + b)
monomial_power-add [] a b = refl
monomial_power-add (d ∷ m) a b = ap₂ ◌∷◌ (omega arith) (monomial_power-add m a b)

-- a smaller power has smaller exponents
pub smaller_power : (m : Monomial) (a b : ℕ) → a ≤ b → is_exponent_list (monomial_power m b) ≡ true → is_exponent_list (monomial_power m a) ≡ true
smaller_power [] a b less e = refl
smaller_power (d ∷ m) a b less e =
    let parts = and_parts (leb (d * b) 65535) (is_exponent_list (monomial_power m b)) e in
    and_from (leb (d * a) 65535) (is_exponent_list (monomial_power m a))
    (le-leb (d * a) 65535 (bounded (d * a) (d * b) (mul-le-mul_left d less) (leb-true (d * b) 65535 parts.0)))
    (smaller_power m a b less parts.1)
  where
    bounded : (x y : ℕ) → x ≤ y → y ≤ 65535 → x ≤ 65535
    bounded x y h k = omega arith

-- where one is too great, each greater power is
pub greater_power : (m : Monomial) (a b : ℕ) → a ≤ b → is_exponent_list (monomial_power m a) ≡ false → is_exponent_list (monomial_power m b) ≡ false
greater_power m a b less e = by_test (is_exponent_list (monomial_power m b)) refl
  where
    by_test : (t : Bool) → is_exponent_list (monomial_power m b) ≡ t → is_exponent_list (monomial_power m b) ≡ false
    by_test true f = let g = smaller_power m a b less f in cc
    by_test false f = f

-- what is within is the monomial itself
pub within_some : (m k : Monomial) → Some k ≡ within_exponents m → (k ≡ m) × (is_exponent_list m ≡ true)
within_some m k e = by_test (is_exponent_list m) refl e
  where
    by_test : (t : Bool) → is_exponent_list m ≡ t → Some k ≡ cond t (Some m) None → (k ≡ m) × (is_exponent_list m ≡ true)
    by_test true f e = (cc, f)
    by_test false f e = cc

-- nothing is within where an exponent is too great
pub within_none : (m : Monomial) → None ≡ within_exponents m → is_exponent_list m ≡ false
within_none m e = by_test (is_exponent_list m) refl e
  where
    by_test : (t : Bool) → is_exponent_list m ≡ t → None ≡ cond t (Some m) None → is_exponent_list m ≡ false
    by_test true f e = cc
    by_test false f e = f

-- a monomial whose exponents are small is within
pub is_within : (m : Monomial) → is_exponent_list m ≡ true → Some m ≡ within_exponents m
is_within m e = ap (λ t. cond t (Some m) None) (sym e)

pub is_not_within : (m : Monomial) → is_exponent_list m ≡ false → None ≡ within_exponents m
is_not_within m e = ap (λ t. cond t (Some m) None) (sym e)

-- where a power isn't within, no greater one is
pub none_above : (m : Monomial) (a b : ℕ) → a ≤ b → None ≡ within_exponents (monomial_power m a) → None ≡ within_exponents (monomial_power m b)
none_above m a b less e = is_not_within (monomial_power m b) (greater_power m a b less (within_none (monomial_power m a) e))

-- the product of two powers, within exponents
pub within_product : (m k l : Monomial) (a b : ℕ) → Some k ≡ within_exponents (monomial_power m a) → Some l ≡ within_exponents (monomial_power m b) → within_exponents (monomial_product k l) ≡ within_exponents (monomial_power m (a + b))
within_product m k l a b e f =
    ap within_exponents (ap₂ monomial_product (within_some (monomial_power m a) k e).0 (within_some (monomial_power m b) l f).0 ∙ monomial_power-add m a b)

-- the monomial itself is its first power
pub first_power : (m : Monomial) → is_exponent_list m ≡ true → Some m ≡ within_exponents (monomial_power m 1)
first_power m e = is_within m e ∙ ap within_exponents (sym (monomial_power-one m))

-- exponents fit where those of the product are small
pub fits_iff : (l m : Monomial) → (is_exponent_list (monomial_product l m) ≡ true → ExponentsFit l m) × (ExponentsFit l m → is_exponent_list (monomial_product l m) ≡ true)
fits_iff l m = (
  (λ e v. subst (λ x. x ≤ 65535) (exponent_of-product v l m) ((is_exponent_list_iff (monomial_product l m)).0 e v)),
  (λ h. (is_exponent_list_iff (monomial_product l m)).1 (λ v. subst (λ x. x ≤ 65535) (sym (exponent_of-product v l m)) (h v))),
)

-- so the product of two monomials is within where they fit
pub fitting : (l m k : Monomial) → ExponentsFit l m → k ≡ monomial_product l m → Some k ≡ within_exponents (monomial_product l m)
fitting l m k h e = ap Some e ∙ is_within (monomial_product l m) ((fits_iff l m).1 h)

pub not_fitting : (l m : Monomial) → (ExponentsFit l m → ⊥) → None ≡ within_exponents (monomial_product l m)
not_fitting l m h = by_test (is_exponent_list (monomial_product l m)) refl
  where
    by_test : (t : Bool) → is_exponent_list (monomial_product l m) ≡ t → None ≡ within_exponents (monomial_product l m)
    by_test true e = absurd (h ((fits_iff l m).0 e))
    by_test false e = is_not_within (monomial_product l m) e

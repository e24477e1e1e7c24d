-- Powers of a single term, and of 0.
use Rattle.std.proofs.Common.{◌≡◌, ℕ, zero, suc, ◌*◌, ◌<◌, ◌^◌, ◌%◌, Bool, true, false, cond, [], ◌∷◌, Option, Some, None, refl, sym, ap, ap₂, ◌∙◌, arith, add-one}
use Rattle.std.proofs.Math.Nat.{mod-eq_of_lt, mod-lt, pow-suc, pow-zero, one-mul}
use Rattle.std.proofs.lemmas.Nat.{mul-mod_first}
use Rattle.polynomials.specs.Primes.{IsPrime}
use Rattle.polynomials.specs.Monomials.{Monomial, monomial_product}
use Rattle.polynomials.specs.Polynomials.{Polynomial, term, with_first, collected, product_of}
use Rattle.polynomials.specs.Fits.{is_exponent_list, fits, product_so_far, power_within}
use Rattle.polynomials.proofs.FirstTerms.{with_first_nonzero}
use Rattle.polynomials.proofs.MonicLemmas.{residue_product_positive}
use Rattle.polynomials.proofs.FitsLemmas.{greater_exponents-nil}
use Rattle.system_text.specs.Limits.{text_width}
use Rattle.system_parser.specs.Powers.{within_exponents, monomial_power}
use Rattle.system_parser.proofs.RaisedMonomials.{monomial_power-one, monomial_power-add, greater_power}

-- the polynomial of a monomial, where there is one, and a coefficient
abbrev pub single : ℕ → Option Monomial → Option Polynomial
single c None = None
single c (Some m) = Some (term m c ∷ [])

-- powers of 0
power_within-zero : (p n e : ℕ) → power_within p n text_width [] (suc e) ≡ Some []
power_within-zero p n zero = refl
power_within-zero p n (suc e) = ap (product_so_far p text_width []) (power_within-zero p n e)

-- a power of what is 0, with an exponent other than 0
pub zero_power : (p n e : ℕ) (f : Polynomial) → f ≡ [] → 0 < e → Some f ≡ power_within p n text_width f e
zero_power p n zero f empty some = absurd (omega arith)
zero_power p n (suc e) f empty some = ap Some empty ∙ (sym (power_within-zero p n e) ∙ ap (λ g. power_within p n text_width g (suc e)) (sym empty))

-- two terms fit where the exponents of their product are small
fits-single : (l m : Monomial) (c d : ℕ) → fits text_width (term l c ∷ []) (term m d ∷ []) ≡ is_exponent_list (monomial_product l m)
fits-single l m c d = ap₂ (λ x y. is_exponent_list (monomial_product x y)) (greater_exponents-nil l) (greater_exponents-nil m)

-- a term whose coefficient is a residue other than 0 is collected as it is
pub collected-single : (p c : ℕ) (m : Monomial) → 0 < c → c < p → collected p (term m c ∷ []) ≡ term m c ∷ []
collected-single p c m some small =
    ap (λ k. with_first (term m k) []) (mod-eq_of_lt small) ∙ with_first_nonzero m c [] (λ e. absurd (omega arith))

-- the product of two terms
product-single : (p : ℕ) (l m : Monomial) (c d : ℕ) → 0 < c * d % p → product_of p (term l c ∷ []) (term m d ∷ []) ≡ term (monomial_product l m) (c * d % p) ∷ []
product-single p l m c d some = with_first_nonzero (monomial_product l m) (c * d % p) [] (λ e. absurd (omega arith))

module _ (p : ℕ) (prime : IsPrime p) (c : ℕ) (some : 0 < c) (small : c < p) where
  -- the next power of a residue
  pub residue_power-next : (e : ℕ) → c ^ suc e % p * c % p ≡ c ^ suc (suc e) % p
  residue_power-next e = mul-mod_first (c ^ suc e) c p ∙ ap (λ x. x % p) (sym (pow-suc c (suc e)))

  residue_power-one : c ^ 1 % p ≡ c
  residue_power-one = ap (λ x. x % p) (pow-suc c 0 ∙ ap (λ x. x * c) (pow-zero c) ∙ one-mul c) ∙ mod-eq_of_lt small

  positive : 0 < p
  positive = omega arith

  -- powers of a residue other than 0 aren't 0
  pub residue_power_positive : (e : ℕ) → 0 < c ^ suc e % p
  residue_power_positive zero = rw residue_power-one some
  residue_power_positive (suc e) = rw (← residue_power-next e) (residue_product_positive p prime (c ^ suc e % p) c (residue_power_positive e) (mod-lt (c ^ suc e) positive) some small)

  module _ (m : Monomial) where
    -- one product more
    next_power : (e : ℕ) (t : Bool) → is_exponent_list (monomial_power m (suc e)) ≡ t → product_so_far p text_width (term m c ∷ []) (single (c ^ suc e % p) (cond t (Some (monomial_power m (suc e))) None)) ≡ single (c ^ suc (suc e) % p) (within_exponents (monomial_power m (suc (suc e))))
    next_power e false f = ap (λ t. single (c ^ suc (suc e) % p) (cond t (Some (monomial_power m (suc (suc e)))) None)) (sym (greater_power m (suc e) (suc (suc e)) (omega arith) f))
    next_power e true f =
        ap₂ (λ t g. elim t as (λ _. Option Polynomial) [ true ↦ Some g | false ↦ None ])
        (fits-single (monomial_power m (suc e)) m (c ^ suc e % p) c ∙ ap is_exponent_list (next_monomial e))
        (product-single p (monomial_power m (suc e)) m (c ^ suc e % p) c (residue_product_positive p prime (c ^ suc e % p) c (residue_power_positive e) (mod-lt (c ^ suc e) positive) some small)
        ∙ ap₂ (λ l d. term l d ∷ []) (next_monomial e) (residue_power-next e))
        ∙ by_test (is_exponent_list (monomial_power m (suc (suc e)))) (monomial_power m (suc (suc e))) (c ^ suc (suc e) % p)
      where
        next_monomial : (e : ℕ) → monomial_product (monomial_power m (suc e)) m ≡ monomial_power m (suc (suc e))
        next_monomial e = ap (monomial_product (monomial_power m (suc e))) (sym (monomial_power-one m)) ∙ (monomial_power-add m (suc e) 1 ∙ ap (monomial_power m) (add-one (suc e)))

        by_test : (t : Bool) (l : Monomial) (d : ℕ) → elim t as (λ _. Option Polynomial) [ true ↦ Some (term l d ∷ []) | false ↦ None ] ≡ single d (cond t (Some l) None)
        by_test true l d = refl
        by_test false l d = refl

    -- a power of a term is there where its exponents are small
    pub power_within-single : (n e : ℕ) → is_exponent_list m ≡ true → power_within p n text_width (term m c ∷ []) (suc e) ≡ single (c ^ suc e % p) (within_exponents (monomial_power m (suc e)))
    power_within-single n zero f =
        ap₂ (λ l d. Some (term l d ∷ [])) (sym (monomial_power-one m)) (sym residue_power-one)
        ∙ ap (λ t. single (c ^ 1 % p) (cond t (Some (monomial_power m 1)) None)) (sym (ap is_exponent_list (monomial_power-one m) ∙ f))
    power_within-single n (suc e) f =
        ap (product_so_far p text_width (term m c ∷ [])) (power_within-single n e f) ∙ next_power e (is_exponent_list (monomial_power m (suc e))) refl

-- so where the monomial's power is within, it is the power
pub term_power_some : (p n e c d : ℕ) (m k : Monomial) → IsPrime p → 0 < c → c < p → is_exponent_list m ≡ true → 0 < e → Some k ≡ within_exponents (monomial_power m e) → d ≡ c ^ e % p → Some (collected p (term k d ∷ [])) ≡ power_within p n text_width (term m c ∷ []) e
term_power_some p n zero c d m k prime some small list many is value = absurd (omega arith)
term_power_some p n (suc e) c d m k prime some small list many is value =
    ap Some (ap (λ x. collected p (term k x ∷ [])) value ∙ collected-single p (c ^ suc e % p) k (residue_power_positive p prime c some small e) (mod-lt (c ^ suc e) (positive p prime c some small)))
    ∙ (ap (single (c ^ suc e % p)) is ∙ sym (power_within-single p prime c some small m n e list))

-- and where it isn't, there is none
pub term_power_none : (p n e c : ℕ) (m : Monomial) → IsPrime p → 0 < c → c < p → is_exponent_list m ≡ true → 0 < e → None ≡ within_exponents (monomial_power m e) → None ≡ power_within p n text_width (term m c ∷ []) e
term_power_none p n zero c m prime some small list many is = absurd (omega arith)
term_power_none p n (suc e) c m prime some small list many is =
    ap (single (c ^ suc e % p)) is ∙ sym (power_within-single p prime c some small m n e list)

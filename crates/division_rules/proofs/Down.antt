-- Eliminations, remainders and reductions of canonical polynomials are those of the lists of terms.
use Rattle.std.proofs.Common.{◌≡◌, ℕ, zero, suc, ◌<◌, Bool, true, false, List, [], ◌∷◌, map, refl, ap, ◌∙◌}
use Rattle.polynomials.specs.Polynomials.{Polynomial, product_of, negative_of, sum_of}
use Rattle.polynomials.proofs.PolynomialRing.{CanonicalPolynomial}
use Rattle.division_rules.specs.Operations.{lead, shifted_lead, power, sign}
use Rattle.division_rules.specs.Rows.{Row, plain, plains, combined, cross, cross_all, cross_rows, elimination, is_reduced_by, sparse_remainder_by, sparse_remainder, turns, times_row, pseudo_remainder_by, pseudo_remainder, reduction}
use Rattle.division_rules.specs.Lists.{list_operations}
use Rattle.division_rules.proofs.CanonicalViews.{canonical_operations}

-- a function goes into a choice
pub choice-into : {A B : Type 0} (h : A → B) (b c : Bool) (x y : A) (first second : B) → b ≡ c → h x ≡ first → h y ≡ second → h (elim b as (λ _. A) [ true ↦ x | false ↦ y ]) ≡ elim c as (λ _. B) [ true ↦ first | false ↦ second ]
choice-into {A} {B} h b c x y first second same e d = go b e d ∙ ap (λ a. elim a as (λ _. B) [ true ↦ first | false ↦ second ]) same
  where
    go : (a : Bool) → h x ≡ first → h y ≡ second → h (elim a as (λ _. A) [ true ↦ x | false ↦ y ]) ≡ elim a as (λ _. B) [ true ↦ first | false ↦ second ]
    go true e d = e
    go false e d = d

module _ (p n : ℕ) (many : 1 < p) where
  -- the list of terms
  abbrev pub terms : CanonicalPolynomial p n → Polynomial
  terms f = f.0

  -- the lists of terms of several
  abbrev pub terms_all : List (CanonicalPolynomial p n) → List Polynomial
  terms_all fs = map terms fs

  -- a row of lists of terms
  abbrev pub down : Row (CanonicalPolynomial p n) → Row Polynomial
  down f = record { first = f.first.0; cofactors = terms_all f.cofactors }

  -- rows of lists of terms
  abbrev pub down_all : List (Row (CanonicalPolynomial p n)) → List (Row Polynomial)
  down_all fs = map down fs

  -- rows without cofactors
  pub down-plains : (fs : List (CanonicalPolynomial p n)) → down_all (plains fs) ≡ plains (terms_all fs)
  down-plains [] = refl
  down-plains (f ∷ fs) = ap (λ x. plain f.0 ∷ x) (down-plains fs)

  -- powers
  pub terms-power_of : (f : CanonicalPolynomial p n) (e : ℕ) → (power (canonical_operations p n many) f e).0 ≡ power (list_operations p n) f.0 e
  terms-power_of f zero = refl
  terms-power_of f (suc zero) = refl
  terms-power_of f (suc (suc e)) = ap (λ x. product_of p x f.0) (terms-power_of f (suc e))

  -- signs
  pub terms-sign : (k : ℕ) → (sign (canonical_operations p n many) k).0 ≡ sign (list_operations p n) k
  terms-sign zero = refl
  terms-sign (suc k) = ap (negative_of p) (terms-sign k)

  -- combinations
  pub terms-combined : (cs gs : List (CanonicalPolynomial p n)) → (combined (canonical_operations p n many) cs gs).0 ≡ combined (list_operations p n) (terms_all cs) (terms_all gs)
  terms-combined [] gs = refl
  terms-combined (c ∷ cs) [] = refl
  terms-combined (c ∷ cs) (g ∷ gs) = ap (sum_of p (product_of p c.0 g.0)) (terms-combined cs gs)

  terms-cross_all : (x y : CanonicalPolynomial p n) (cs ds : List (CanonicalPolynomial p n)) → terms_all (cross_all (canonical_operations p n many) x y cs ds) ≡ cross_all (list_operations p n) x.0 y.0 (terms_all cs) (terms_all ds)
  terms-cross_all x y [] ds = refl
  terms-cross_all x y (c ∷ cs) [] = refl
  terms-cross_all x y (c ∷ cs) (d ∷ ds) = ap (λ zs. cross (list_operations p n) x.0 y.0 c.0 d.0 ∷ zs) (terms-cross_all x y cs ds)

  -- the same of each pair of entries of two rows
  pub down-cross_rows : (x y : CanonicalPolynomial p n) (f g : Row (CanonicalPolynomial p n)) → down (cross_rows (canonical_operations p n many) x y f g) ≡ cross_rows (list_operations p n) x.0 y.0 (down f) (down g)
  down-cross_rows x y f g = ap (λ cs. record { first = cross (list_operations p n) x.0 y.0 f.first.0 g.first.0; cofactors = cs }) (terms-cross_all x y f.cofactors g.cofactors)

  -- an elimination
  pub down-elimination : (v : ℕ) (f g : Row (CanonicalPolynomial p n)) → down (elimination (canonical_operations p n many) v f g) ≡ elimination (list_operations p n) v (down f) (down g)
  down-elimination v f g = down-cross_rows (lead (canonical_operations p n many) v g.first) (shifted_lead (canonical_operations p n many) v f.first g.first) f g

  -- the sparse remainder
  pub down-sparse_remainder_by : (v : ℕ) (g : Row (CanonicalPolynomial p n)) (k : ℕ) (f : Row (CanonicalPolynomial p n)) → down (sparse_remainder_by (canonical_operations p n many) v g k f) ≡ sparse_remainder_by (list_operations p n) v (down g) k (down f)
  down-sparse_remainder_by v g zero f = refl
  down-sparse_remainder_by v g (suc k) f = choice-into down (is_reduced_by (canonical_operations p n many) v g f) (is_reduced_by (list_operations p n) v (down g) (down f)) f (sparse_remainder_by (canonical_operations p n many) v g k (elimination (canonical_operations p n many) v f g)) (down f) (sparse_remainder_by (list_operations p n) v (down g) k (elimination (list_operations p n) v (down f) (down g))) refl refl (down-sparse_remainder_by v g k (elimination (canonical_operations p n many) v f g) ∙ ap (sparse_remainder_by (list_operations p n) v (down g) k) (down-elimination v f g))

  -- with the turns of the definition
  pub down-sparse_remainder : (v : ℕ) (f g : Row (CanonicalPolynomial p n)) → down (sparse_remainder (canonical_operations p n many) v f g) ≡ sparse_remainder (list_operations p n) v (down f) (down g)
  down-sparse_remainder v f g = down-sparse_remainder_by v g (turns (canonical_operations p n many) v f.first g.first) f

  terms-times_all : (x : CanonicalPolynomial p n) (cs : List (CanonicalPolynomial p n)) → terms_all (map ((canonical_operations p n many).times x) cs) ≡ map (product_of p x.0) (terms_all cs)
  terms-times_all x [] = refl
  terms-times_all x (c ∷ cs) = ap (λ zs. product_of p x.0 c.0 ∷ zs) (terms-times_all x cs)

  -- a row times a polynomial
  pub down-times_row : (x : CanonicalPolynomial p n) (f : Row (CanonicalPolynomial p n)) → down (times_row (canonical_operations p n many) x f) ≡ times_row (list_operations p n) x.0 (down f)
  down-times_row x f = ap (λ cs. record { first = product_of p x.0 f.first.0; cofactors = cs }) (terms-times_all x f.cofactors)

  -- the pseudo-remainder
  pub down-pseudo_remainder_by : (v : ℕ) (g : Row (CanonicalPolynomial p n)) (k : ℕ) (f : Row (CanonicalPolynomial p n)) → down (pseudo_remainder_by (canonical_operations p n many) v g k f) ≡ pseudo_remainder_by (list_operations p n) v (down g) k (down f)
  down-pseudo_remainder_by v g zero f = refl
  down-pseudo_remainder_by v g (suc k) f = down-pseudo_remainder_by v g k (elim (is_reduced_by (canonical_operations p n many) v g f) as (λ _. Row (CanonicalPolynomial p n)) [ true ↦ times_row (canonical_operations p n many) (lead (canonical_operations p n many) v g.first) f | false ↦ elimination (canonical_operations p n many) v f g ]) ∙ ap (pseudo_remainder_by (list_operations p n) v (down g) k) (choice-into down (is_reduced_by (canonical_operations p n many) v g f) (is_reduced_by (list_operations p n) v (down g) (down f)) (times_row (canonical_operations p n many) (lead (canonical_operations p n many) v g.first) f) (elimination (canonical_operations p n many) v f g) (times_row (list_operations p n) (lead (list_operations p n) v g.first.0) (down f)) (elimination (list_operations p n) v (down f) (down g)) refl (down-times_row (lead (canonical_operations p n many) v g.first) f) (down-elimination v f g))

  -- with the turns of the definition
  pub down-pseudo_remainder : (v : ℕ) (f g : Row (CanonicalPolynomial p n)) → down (pseudo_remainder (canonical_operations p n many) v f g) ≡ pseudo_remainder (list_operations p n) v (down f) (down g)
  down-pseudo_remainder v f g = down-pseudo_remainder_by v g (turns (canonical_operations p n many) v f.first g.first) f

  -- the reduction by a chain
  pub down-reduction : (chain : List (Row (CanonicalPolynomial p n))) (f : Row (CanonicalPolynomial p n)) → down (reduction (canonical_operations p n many) chain f) ≡ reduction (list_operations p n) (down_all chain) (down f)
  down-reduction [] f = refl
  down-reduction (t ∷ chain) f = down-sparse_remainder ((canonical_operations p n many).views.main t.first) (reduction (canonical_operations p n many) chain f) t ∙ ap (λ x. sparse_remainder (list_operations p n) ((list_operations p n).views.main t.first.0) x (down t)) (down-reduction chain f)

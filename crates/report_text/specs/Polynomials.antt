-- The text of a polynomial: its terms, the greatest monomial first, joined by ` + `.
use Rattle.std.specs.Prelude.{ℕ, ◌≤◌, Bool, true, false, eqb, cond, List, [], ◌∷◌, ◌++◌, codes}
use Rattle.std.specs.Fmt.{decimal}
use Rattle.std.specs.List.{join_by, flat_map}
use Rattle.polynomials.specs.Monomials.{Monomial}
use Rattle.polynomials.specs.Polynomials.{Term, Polynomial}
use Rattle.polynomials.specs.Views.{IsFreeOf}

-- a power of a name; the exponent 1 isn't written
abbrev pub power_text : List ℕ → ℕ → List ℕ
power_text name e = cond (eqb e 1) name (name ++ (codes "^" ++ decimal e))

-- the powers of a monomial, the least variable first, but none with the exponent 0
abbrev pub power_texts : List (List ℕ) → Monomial → List (List ℕ)
power_texts [] m = []
power_texts (name ∷ names) [] = []
power_texts (name ∷ names) (e ∷ m) =
    cond (eqb e 0) (power_texts names m) (power_text name e ∷ power_texts names m)

-- the coefficient and the powers; the coefficient 1 is left out where a power follows
abbrev pub factor_texts : ℕ → List (List ℕ) → List (List ℕ)
factor_texts c [] = decimal c ∷ []
factor_texts c (power ∷ powers) = cond (eqb c 1) (power ∷ powers) (decimal c ∷ power ∷ powers)

-- texts, joined by `*`
abbrev pub product_text : List (List ℕ) → List ℕ
product_text factors = join_by (λ factor. factor) (codes "*") factors

-- powers that begin a term, or that stand behind its first factor
abbrev pub powers_text : Bool → List (List ℕ) → List ℕ
powers_text true powers = product_text powers
powers_text false powers = flat_map (λ power. codes "*" ++ power) powers

-- a term: its factors, joined by `*`
abbrev pub term_text : List (List ℕ) → Term → List ℕ
term_text names t = product_text (factor_texts t.1 (power_texts names t.0))

-- a polynomial in variables of these names, the least first; `0` where it has no term
abbrev pub poly_text : List (List ℕ) → Polynomial → List ℕ
poly_text names [] = codes "0"
poly_text names (t ∷ f) = join_by (term_text names) (codes " + ") (t ∷ f)

-- only the k least variables may occur
abbrev pub IsInLeast : ℕ → Polynomial → Type 0
IsInLeast k f = (v : ℕ) → k ≤ v → IsFreeOf v f

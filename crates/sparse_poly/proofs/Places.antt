-- Places of a list of terms: items, what is left from a place on, and their canonical form.
use Rattle.std.proofs.Common.{◌≡◌, ◌<◌, ◌+◌, ◌-◌, ℕ, zero, suc, List, [], ◌∷◌, length, get_or, drop, take, ap, sym, ◌∙◌, subst}
use Rattle.std.proofs.Math.Seq.{take-length}
use Rattle.std.proofs.lemmas.List.{length-drop, drop_more}
use Rattle.polynomials.specs.Polynomials.{Term, Polynomial, IsPolynomial}

-- from the place i on the item at i comes first
pub drop_item : (s : List Term) (i : ℕ) (x : Term) → i < length s → x ≡ get_or s i x → drop i s ≡ x ∷ drop (i + 1) s
drop_item s i x below is = drop_more s i x below ∙ ap (λ y. y ∷ drop (i + 1) s) (sym is)

-- what is left of a polynomial is one
pub IsPolynomial-drop : (p n i : ℕ) (f : Polynomial) → IsPolynomial p n f → IsPolynomial p n (drop i f)
IsPolynomial-drop p n zero f is = is
IsPolynomial-drop p n (suc i) [] is = is
IsPolynomial-drop p n (suc i) (t ∷ f) is = IsPolynomial-drop p n i f is.4

-- the item at a place starts a polynomial
pub IsPolynomial-item : (p n i : ℕ) (f : Polynomial) (x : Term) → IsPolynomial p n f → i < length f → x ≡ get_or f i x → IsPolynomial p n (x ∷ drop (i + 1) f)
IsPolynomial-item p n i f x is below at = subst (IsPolynomial p n) (drop_item f i x below at) (IsPolynomial-drop p n i f is)

-- a range up to the end is what is left
pub take_rest : (s : List Term) (i : ℕ) → take (length s - i) (drop i s) ≡ drop i s
take_rest s i = ap (λ k. take k (drop i s)) (sym (length-drop i s)) ∙ take-length (drop i s)

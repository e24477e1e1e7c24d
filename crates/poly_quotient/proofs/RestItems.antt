-- Items of a rest: those that are taken out, and the greatest.
use Rattle.std.proofs.Common.{◌≡◌, ℕ, ◌<◌, length, List, [], ◌∷◌, ◌++◌, All, IsPermutation, Result, Ok, Err, Option, Some, None, IfOk, IfSome, get_or, refl, sym, subst, arith}
use Rattle.std.proofs.lemmas.List.Elements.{All-tail}
use Rattle.std.proofs.lemmas.List.Sorted.{All-permutation, length_permutation}
use Rattle.polynomials.specs.Monomials.{Monomial}
use Rattle.polynomials.specs.Polynomials.{Term, Polynomial, StartsBelow, IsPolynomial}
use Rattle.polynomials.proofs.Monomialwise.{EachMonomial-append, HaveLength, HaveLength-from_IsPolynomial}
use Rattle.sparse_poly.specs.Falling.{IsAtMost}
use Rattle.poly_quotient.specs.Rests.{Entry, products_left, AreProducts, TakesGreatest}
use Rattle.poly_quotient.proofs.RestSums.{EachMonomial-from_All, taken_out}
use Rattle.poly_quotient.proofs.EntryOrders.{at_most_trans, greater_from_not}
use Rattle.poly_quotient.proofs.EntryProducts.{All-from_EachMonomial, products_long, products_small}

-- a canonical polynomial, and terms in n variables whose coefficients are residues
pub record IsRest (p n : ℕ) (terms : Polynomial) (products : List Term) : Type 0 where
  pub canonical : IsPolynomial p n terms
  pub variables : All (λ t. length t.0 ≡ n) products
  pub residues : All (λ t. t.1 < p) products

module _ (p n : ℕ) where
  -- terms and the products of entries
  pub rest_of : 0 < p → (terms q g : Polynomial) (es : List Entry) (w : List ℕ) → IsPolynomial p n terms → AreProducts p n q g es w → IsRest p n terms (products_left p q g es)
  rest_of positive terms q g es w i are = record {
    canonical = i;
    variables = All-from_EachMonomial (λ m. length m ≡ n) (products_left p q g es) (products_long p n q g are.quotient es are.divisor are.entries);
    residues = products_small p positive q g es;
  }

  -- a rest beside other terms
  pub rest_beside : (terms others : Polynomial) (products : List Term) → IsPolynomial p n others → IsRest p n terms products → IsRest p n others products
  rest_beside terms others products i r = record { canonical = i; variables = r.variables; residues = r.residues }

  -- the items of a rest have n exponents
  pub lengths_of : (terms : Polynomial) (products : List Term) → IsRest p n terms products → HaveLength n (terms ++ products)
  lengths_of terms products r = EachMonomial-append (λ m. length m ≡ n) terms products (HaveLength-from_IsPolynomial p n terms r.canonical) (EachMonomial-from_All (λ m. length m ≡ n) products r.variables)

  -- without an item it is one
  pub rest_without : (terms : Polynomial) (products others : List Term) (t : Term) → IsPermutation products (t ∷ others) → IsRest p n terms products → IsRest p n terms others
  rest_without terms products others t permuted r = record {
    canonical = r.canonical;
    variables = All-tail (λ (x : Term). length x.0 ≡ n) t others (All-permutation (λ (x : Term). length x.0 ≡ n) products (t ∷ others) permuted r.variables);
    residues = All-tail (λ (x : Term). x.1 < p) t others (All-permutation (λ (x : Term). x.1 < p) products (t ∷ others) permuted r.residues);
  }

  -- the item that was taken out
  pub item_long : (terms : Polynomial) (products others : List Term) (t : Term) → IsPermutation products (t ∷ others) → IsRest p n terms products → length t.0 ≡ n
  item_long terms products others t permuted r = All-permutation (λ (x : Term). length x.0 ≡ n) products (t ∷ others) permuted r.variables 0 t (omega arith)

  pub item_small : (terms : Polynomial) (products others : List Term) (t : Term) → IsPermutation products (t ∷ others) → IsRest p n terms products → t.1 < p
  item_small terms products others t permuted r = All-permutation (λ (x : Term). x.1 < p) products (t ∷ others) permuted r.residues 0 t (omega arith)

  -- the greatest product is taken out, where the terms are below it
  pub takes_product : (terms : Polynomial) (products others : List Term) (t : Term) → IsRest p n terms products → IsPermutation products (t ∷ others) → All (λ u. IsAtMost t.0 u.0) products → StartsBelow t.0 terms → TakesGreatest p n terms products t terms others
  takes_product terms products others t r permuted most below = record {
    sum = taken_out p n (let small = item_small terms products others t permuted r in omega arith) terms products others t (lengths_of terms products r) (item_long terms products others t permuted r, lengths_of terms others (rest_without terms products others t permuted r)) permuted;
    count = let same = length_permutation products (t ∷ others) permuted in omega arith;
    variables = item_long terms products others t permuted r;
    residue = item_small terms products others t permuted r;
    below = below;
    most = All-tail (λ (x : Term). IsAtMost t.0 x.0) t others (All-permutation (λ (x : Term). IsAtMost t.0 x.0) products (t ∷ others) permuted most);
  }

  -- the same of what may be taken
  pub takes_products : {E : Type 0} → (terms : Polynomial) (products others : List Term) (r : Result (Option Term) E) → IsRest p n terms products → ((t : Term) → All (λ u. IsAtMost t.0 u.0) products → StartsBelow t.0 terms) → IfOk r (λ o. IfSome o (λ t. IsPermutation products (t ∷ others))) → IfOk r (λ o. IfSome o (λ t. All (λ u. IsAtMost t.0 u.0) products)) → IfOk r (λ o. IfSome o (λ t. TakesGreatest p n terms products t terms others))
  takes_products terms products others (Err e) is below permuted most = tt
  takes_products terms products others (Ok None) is below permuted most = tt
  takes_products terms products others (Ok (Some t)) is below permuted most = takes_product terms products others t is permuted most (below t most)

  -- the first term is taken out, where no product is greater
  pub takes_term : (terms later : Polynomial) (products : List Term) (t : Term) → terms ≡ t ∷ later → IsPolynomial p n terms → All (λ u. IsAtMost t.0 u.0) products → TakesGreatest p n terms products t later products
  takes_term terms later products t begins canonical most = subst (λ l. TakesGreatest p n l products t later products) (sym begins) (record {
    sum = refl;
    count = omega arith;
    variables = i.0;
    residue = i.2;
    below = i.3;
    most = most;
  })
    where
      i : IsPolynomial p n (t ∷ later)
      i = subst (IsPolynomial p n) begins canonical

-- no term is above another one
pub starts_nothing : (m : Monomial) (terms : Polynomial) → length terms ≡ 0 → StartsBelow m terms
starts_nothing m [] none = tt
starts_nothing m (t ∷ terms) none = absurd (omega arith)

-- a first term is below the greatest product where it isn't above them all
pub starts_lower : (t u : Term) (terms later : Polynomial) (products : List Term) → terms ≡ u ∷ later → (All (λ x. IsAtMost u.0 x.0) products → ⊥) → All (λ x. IsAtMost t.0 x.0) products → StartsBelow t.0 terms
starts_lower t u terms later products begins above all = subst (StartsBelow t.0) (sym begins) (greater_from_not u.0 t.0 (λ most. above (λ k d below. at_most_trans u.0 t.0 (get_or products k d).0 most (all k d below))))

-- The reduced head of a queue, and where its remainder rows start.
use Rattle.std.proofs.Common.{◌≡◌, ℕ, suc, List, [], ◌∷◌, Some, IfSome, sym, ap, ◌∙◌, subst, lt_of_le_of_lt}
use Rattle.std.specs.List.{AllByRecursion}
use Rattle.polynomials.specs.Primes.{IsPrime}
use Rattle.polynomials.specs.Polynomials.{Polynomial, IsPolynomial, ArePolynomials}
use Rattle.polynomials.specs.Views.{main_var, IsFreeOf}
use Rattle.polynomials.proofs.MainVariables.{degree_in_main_var}
use Rattle.zero_sets.specs.ZeroSets.{IsTriangularFrom, IsTriangular, member_in, members_below}
use Rattle.zero_sets.proofs.TriangularSets.{below_triangular}
use Rattle.division_rules.specs.Rows.{Row, plain, plains, reduction}
use Rattle.division_rules.specs.Within.{reduction_within}
use Rattle.division_rules.specs.Lists.{list_operations}
use Rattle.division_rules.specs.Chains.{EachRow}
use Rattle.division_rules.specs.Triangular.{HasLessDegree}
use Rattle.division_rules.proofs.WithinLimits.{gives-reduction}
use Rattle.division_rules.proofs.CanonicalRows.{IsPolynomialRow-reduction}
use Rattle.division_rules.proofs.TriangularReductions.{reduction_is_reduced}
use Rattle.division_rules.proofs.Up.{plains_canonical}
use Rattle.impose_rules.specs.Factors.{stripped}
use Rattle.impose_rules.specs.Impose.{reduced_head}
use Rattle.impose_rules.proofs.Lists.{each_implied, each_both}
use Rattle.impose_laws.proofs.Options.{then_some}
use Rattle.impose_laws.proofs.RowStarts.{IsStart}
use Rattle.impose_laws.proofs.RowShapes.{reduction_without}
use Rattle.impose_laws.proofs.Stripped.{IsPolynomial-stripped, degree_in-stripped, stripped_free}
use Rattle.impose_rules.proofs.ChainParts.{each_canonical, canonical_each, member_of_chain, each_below, below_are_below, triangular_plains}

-- a canonical polynomial that is reduced by the chain
pub record IsHead (p n : ℕ) (chain : List Polynomial) (r : Polynomial) : Type 0 where
  pub canonical : IsPolynomial p n r
  pub reduced : AllByRecursion (λ u. HasLessDegree r (plain u)) chain

each_plain : (Q : Row Polynomial → Type 0) (chain : List Polynomial) → EachRow Q (plains chain) → AllByRecursion (λ u. Q (plain u)) chain
each_plain Q [] h = tt
each_plain Q (t ∷ chain) h = (h.0, each_plain Q chain h.1)

-- each member of a triangular set has a main variable
each_main : (v : ℕ) (chain : List Polynomial) → IsTriangularFrom v chain → AllByRecursion (λ t. (u : ℕ) × (main_var t ≡ Some u)) chain
each_main v [] h = tt
each_main v (t ∷ chain) h = ((h.0, h.1), each_main (suc h.0) chain h.3)

module _ (p n w : ℕ) (prime : IsPrime p) (chain ns : List Polynomial) (are : ArePolynomials p n chain) (are_ns : ArePolynomials p n ns) (triangular : IsTriangular chain) where
  -- the reduction of the first of the queue, without a limit
  abbrev pub reduced_by : Polynomial → Polynomial
  reduced_by f = (reduction (list_operations p n) (plains chain) (plain f)).first

  -- the head, where it is there, is that reduction without the factors ns
  pub head_is : (f r : Polynomial) (rest : List Polynomial) → reduced_head p n w chain rest ns f ≡ Some r → r ≡ stripped p w ns (reduced_by f)
  head_is f r rest e =
      let parts = then_some (reduction_within (list_operations p n) w (plains chain) (plain f)) (λ g. Some (stripped p w ns g.first)) r e in
      let same : stripped p w ns parts.0.first ≡ r = let d = parts.2 in cc in
      sym same ∙ ap (λ g. stripped p w ns g.first) (subst (λ o. IfSome o (λ h. h ≡ reduction (list_operations p n) (plains chain) (plain f))) parts.1 (gives-reduction (list_operations p n) w (plains chain) (plain f)))

  -- the reduction is canonical
  pub IsPolynomial-reduced_by : (f : Polynomial) → IsPolynomial p n f → IsPolynomial p n (reduced_by f)
  IsPolynomial-reduced_by f i = (IsPolynomialRow-reduction p n prime.many (plains chain) (plain f) (plains_canonical p n chain are) (i, tt)).0

  -- so the head is canonical and reduced
  pub head_is_head : (f r : Polynomial) (rest : List Polynomial) → IsPolynomial p n f → reduced_head p n w chain rest ns f ≡ Some r → IsHead p n chain r
  head_is_head f r rest i e = subst (IsHead p n chain) (sym (head_is f r rest e)) (record {
    canonical = IsPolynomial-stripped p n w prime ns are_ns (reduced_by f) (IsPolynomial-reduced_by f i);
    reduced = each_implied (λ u. HasLessDegree (reduced_by f) (plain u)) (λ u. HasLessDegree (stripped p w ns (reduced_by f)) (plain u)) (λ u h v main. lt_of_le_of_lt (degree_in-stripped p n w prime ns are_ns v (reduced_by f) (IsPolynomial-reduced_by f i)) (h v main)) chain (each_plain (HasLessDegree (reduced_by f)) chain (reduction_is_reduced p n (plains chain) (plain f) prime (plains_canonical p n chain are) (i, tt) (triangular_plains 0 chain triangular)));
  })

  -- a variable that occurs neither in the chain nor in f doesn't occur in the head
  pub head_without : (x : ℕ) (f r : Polynomial) (rest : List Polynomial) → IsPolynomial p n f → reduced_head p n w chain rest ns f ≡ Some r → AllByRecursion (IsFreeOf x) chain → IsFreeOf x f → IsFreeOf x r
  head_without x f r rest i e free_chain free_f = subst (IsFreeOf x) (sym (head_is f r rest e)) (stripped_free p n w prime ns are_ns x (reduced_by f) (IsPolynomial-reduced_by f i) (reduction_without p n prime x chain f are i (each_main 0 chain triangular) free_chain free_f))

  -- with the polynomial of the chain for its main variable it starts remainder rows
  pub start_of : (v : ℕ) (r t : Polynomial) → IsHead p n chain r → main_var r ≡ Some v → member_in v chain ≡ Some t → IsStart p n v (members_below v chain) t r
  start_of v r t head main found =
      let of_chain = member_of_chain (λ u. IsPolynomial p n u × HasLessDegree r (plain u)) v chain t found (each_both (IsPolynomial p n) (λ u. HasLessDegree r (plain u)) chain (each_canonical p n chain are) head.reduced) in
      record {
        canonical_chain = canonical_each p n (members_below v chain) (each_below (IsPolynomial p n) v chain (each_canonical p n chain are));
        canonical_t = of_chain.0.0;
        canonical_c = head.canonical;
        triangular = below_triangular 0 v chain triangular;
        below = below_are_below v chain;
        reduced = each_below (λ u. HasLessDegree r (plain u)) v chain head.reduced;
        occurs = degree_in_main_var v r main;
        falls = of_chain.0.1 v of_chain.1;
      }

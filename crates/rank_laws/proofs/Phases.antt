-- The phase of a task by the head of its queue.
use Rattle.std.proofs.Common.{◌≡◌, ◌≢◌, inl, inr, ℕ, suc, ◌≤◌, true, false, List, [], ◌∷◌, refl, sym, ap, subst, arith}
use Rattle.polynomials.specs.Primes.{IsPrime}
use Rattle.polynomials.specs.Polynomials.{Polynomial, IsPolynomial, ArePolynomials, monic, is_zero}
use Rattle.polynomials.specs.Views.{IsFreeOf}
use Rattle.polynomials.proofs.MonicLemmas.{IsPolynomial-monic}
use Rattle.zero_sets.specs.ZeroSets.{IsTriangular}
use Rattle.division_rules.specs.Rows.{plain, plains}
use Rattle.division_rules.specs.Quotients.{without_factors}
use Rattle.division_rules.proofs.Factors.{without_factors_nonzero}
use Rattle.division_rules.proofs.Steps.{choose}
use Rattle.division_rules.proofs.Up.{plains_canonical}
use Rattle.row_laws.specs.Words.{reduction_of, IsReducedBy}
use Rattle.row_laws.proofs.ReducedRows.{reduced_stays_same}
use Rattle.row_laws.proofs.ReductionValues.{first_entries-plains}
use Rattle.impose_rules.specs.Factors.{stripped}
use Rattle.impose_laws.proofs.MonicForms.{degree_in-monic}
use Rattle.impose_laws.proofs.Stripped.{stripped_free}
use Rattle.rank_rules.specs.Orders.{IsLessFromFirst}
use Rattle.rank_rules.specs.Ranks.{zeros_in_front, number_left, phase_of}
use Rattle.rank_laws.proofs.Orders.{number_low}

-- a polynomial other than 0 that the chain reduces: imposed, it is its own reduction
pub record IsNewHead (p n : ℕ) (chain : List Polynomial) (x : Polynomial) : Type 0 where
  pub canonical : IsPolynomial p n x
  pub nonzero : x ≢ []
  pub reduced : IsReducedBy x chain

-- only 0 has the monic form 0
pub monic_zero : (p : ℕ) (f : Polynomial) → monic p f ≡ [] → f ≡ []
monic_zero p [] null = refl
monic_zero p (t ∷ f) null = cc

-- what is left of it without factors is 0 only where it is
pub zero_left : (p n w : ℕ) → IsPrime p → (ns : List Polynomial) → ArePolynomials p n ns → (f : Polynomial) → IsPolynomial p n f → stripped p w ns f ≡ [] → f ≡ []
zero_left p n w prime ns are [] i null = refl
zero_left p n w prime ns are (t ∷ f) i null = absurd (without_factors_nonzero p n w prime ns (t ∷ f) are i (λ d. cc) (monic_zero p (without_factors p w ns (t ∷ f)) null))

-- the test of 0
zero_test : (f : Polynomial) → f ≡ [] → is_zero f ≡ true
zero_test f null = ap is_zero null

nonzero_test : (f : Polynomial) → f ≢ [] → is_zero f ≡ false
nonzero_test [] some = absurd (some refl)
nonzero_test (t ∷ f) some = refl

module _ (p n w : ℕ) (prime : IsPrime p) (chain : List Polynomial) (are : ArePolynomials p n chain) (triangular : IsTriangular chain) where
  -- what is reduced is its own reduction
  pub reduced_stays : (x : Polynomial) → IsNewHead p n chain x → reduction_of p n chain x ≡ x
  reduced_stays x new = ap (λ g. g.first) (reduced_stays_same p n (plains chain) (plain x) prime ((new.canonical, tt), plains_canonical p n chain are) (subst IsTriangular (sym (first_entries-plains chain)) triangular) (subst (IsReducedBy x) (sym (first_entries-plains chain)) new.reduced))

  -- the phase where the head doesn't reduce to 0
  pub head_phase : (ns : List Polynomial) (f : Polynomial) (rest : List Polynomial) → reduction_of p n chain f ≢ [] → phase_of p n w chain ns (f ∷ rest) ≡ 0 ∷ number_left p n w chain ns f ∷ []
  head_phase ns f rest some = ap (λ b. elim b as (λ _. List ℕ) [ true ↦ 2 ∷ zeros_in_front p n w chain ns (f ∷ rest) ∷ [] | false ↦ 0 ∷ number_left p n w chain ns f ∷ [] ]) (nonzero_test (reduction_of p n chain f) some)

  -- and where it does
  pub zero_phase : (ns : List Polynomial) (f : Polynomial) (rest : List Polynomial) → reduction_of p n chain f ≡ [] → phase_of p n w chain ns (f ∷ rest) ≡ 2 ∷ suc (zeros_in_front p n w chain ns rest) ∷ []
  zero_phase ns f rest null = ap (λ b. elim b as (λ _. List ℕ) [ true ↦ 2 ∷ elim b as (λ _. ℕ) [ true ↦ suc (zeros_in_front p n w chain ns rest) | false ↦ 0 ] ∷ [] | false ↦ 0 ∷ number_left p n w chain ns f ∷ [] ]) (zero_test (reduction_of p n chain f) null)

  -- without a head that reduces to 0 the phase is less
  pub rest_less : (ns : List Polynomial) (f : Polynomial) (rest : List Polynomial) → reduction_of p n chain f ≡ [] → IsLessFromFirst (phase_of p n w chain ns rest) (phase_of p n w chain ns (f ∷ rest))
  rest_less ns f rest null = subst (IsLessFromFirst (phase_of p n w chain ns rest)) (sym (zero_phase ns f rest null)) (go rest)
    where
      go : (rest : List Polynomial) → IsLessFromFirst (phase_of p n w chain ns rest) (2 ∷ suc (zeros_in_front p n w chain ns rest) ∷ [])
      go [] = inl (omega arith)
      go (g ∷ rest) = choose (λ l. IsLessFromFirst l (2 ∷ suc (zeros_in_front p n w chain ns (g ∷ rest)) ∷ [])) (is_zero (reduction_of p n chain g)) (2 ∷ zeros_in_front p n w chain ns (g ∷ rest) ∷ []) (0 ∷ number_left p n w chain ns g ∷ []) (λ e. inr (refl, inl (omega arith))) (λ e. inl (omega arith))

  -- with a new head it is less than without any
  pub new_less : (ns : List Polynomial) (x : Polynomial) (rest : List Polynomial) → IsNewHead p n chain x → IsLessFromFirst (phase_of p n w chain ns (x ∷ rest)) (1 ∷ 0 ∷ [])
  new_less ns x rest new = subst (λ l. IsLessFromFirst l (1 ∷ 0 ∷ [])) (sym (head_phase ns x rest (subst (λ y. y ≢ []) (sym (reduced_stays x new)) new.nonzero))) (inl (omega arith))

  -- and where no variable from b on occurs in it the number is at most b
  pub low_less : (ns : List Polynomial) → ArePolynomials p n ns → (b : ℕ) (x : Polynomial) (rest : List Polynomial) → IsNewHead p n chain x → ((y : ℕ) → b ≤ y → IsFreeOf y x) → IsLessFromFirst (phase_of p n w chain ns (x ∷ rest)) (0 ∷ suc b ∷ [])
  low_less ns are_ns b x rest new free = subst (λ l. IsLessFromFirst l (0 ∷ suc b ∷ [])) (sym (head_phase ns x rest (subst (λ y. y ≢ []) (sym stays) new.nonzero))) (inr (refl, inl (let low = number_low b (stripped p w ns (reduction_of p n chain x)) left_free in omega (arith, low))))
    where
      stays : reduction_of p n chain x ≡ x
      stays = reduced_stays x new

      left_free : (y : ℕ) → b ≤ y → IsFreeOf y (stripped p w ns (reduction_of p n chain x))
      left_free y from = stripped_free p n w prime ns are_ns y (reduction_of p n chain x) (subst (IsPolynomial p n) (sym stays) new.canonical) (subst (IsFreeOf y) (sym stays) (free y from))

  -- monic, it stays a new head
  pub monic_new : (x : Polynomial) → IsNewHead p n chain x → IsNewHead p n chain (monic p x)
  monic_new x new = record {
    canonical = IsPolynomial-monic p n x prime new.canonical;
    nonzero = λ null. new.nonzero (monic_zero p x null);
    reduced = each chain new.reduced;
  }
    where
      each : (us : List Polynomial) → IsReducedBy x us → IsReducedBy (monic p x) us
      each [] reduced = tt
      each (u ∷ us) reduced = ((λ v main. let same = degree_in-monic p n prime v x new.canonical in let less = reduced.0 v main in omega (arith, same, less)), each us reduced.1)

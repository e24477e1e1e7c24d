-- The one child that a linear polynomial gives.
use Rattle.std.proofs.Common.{◌≡◌, ◌≢◌, inl, inr, ℕ, ◌<◌, true, false, List, [], ◌∷◌, ◌++◌, append_assoc, Option, Some, None, refl, sym, ap, ◌∙◌, subst, arith}
use Rattle.std.specs.List.{AllByRecursion}
use Rattle.polynomials.specs.Primes.{IsPrime}
use Rattle.polynomials.specs.Polynomials.{Polynomial, IsPolynomial, ArePolynomials, sum_of, product_of, constant_of, monic, is_zero}
use Rattle.polynomials.specs.Views.{degree_in, lead_in, tail_in, main_var, is_constant, IsFreeOf}
use Rattle.polynomials.proofs.Coefficients.{IsPolynomial-coefficient_in}
use Rattle.polynomials.proofs.Degrees.{coefficient_in_free}
use Rattle.polynomials.proofs.MainVariables.{degree_in_main_var, main_var_none}
use Rattle.polynomials.proofs.MonicForms.{monic-monic}
use Rattle.polynomials.proofs.MonicLemmas.{IsPolynomial-monic}
use Rattle.polynomials.proofs.Monomialwise.{EachMonomial}
use Rattle.polynomials.proofs.PolynomialRing.{polynomials_make_a_ring}
use Rattle.polynomials.specs.Primes.{inverse_of}
use Rattle.zero_sets.specs.ZeroSets.{IsTriangular, member_in, members_below}
use Rattle.zero_sets.specs.Tasks.{Task, is_known_nonzero, with_nonzero}
use Rattle.division_rules.specs.Lists.{list_operations}
use Rattle.division_rules.specs.Quotients.{without_factors}
use Rattle.division_rules.specs.Rows.{plain, plains}
use Rattle.division_rules.specs.Within.{and_then, reduction_within}
use Rattle.division_rules.proofs.Factors.{IsPolynomial-without_factors}
use Rattle.division_rules.proofs.ListLaws.{zero_by_test}
use Rattle.division_rules.proofs.Steps.{choose}
use Rattle.impose_rules.specs.Chains.{members_above, with_member}
use Rattle.impose_rules.specs.Factors.{stripped}
use Rattle.impose_rules.specs.Impose.{child_without, child_extended, child_initial, children_at, children_by_head, impose_children, step_to_fitting}
use Rattle.impose_rules.proofs.ChainParts.{canonical_each, member_of_chain, with_member_triangular, each_with_member}
use Rattle.impose_rules.proofs.Lists.{each_appended, each_implied}
use Rattle.impose_laws.proofs.MonicForms.{constant_times_monic, degree_in-monic}
use Rattle.impose_laws.proofs.Stripped.{main_var-stripped, degree_in-stripped}
use Rattle.rank_laws.proofs.Phases.{zero_left}
use Rattle.step_bounds.proofs.StraightTrees.{IsStraight}
use Rattle.step_bounds.proofs.AbsentMembers.{absent_split}
use Rattle.step_bounds.proofs.ConstantLeads.{constant_known, with_constant, without_constants}
use Rattle.step_bounds.proofs.Linear.{IsLinearMonomial, IsLinear, scaled_monomials, linear_lead, constant_passes}
use Rattle.step_bounds.proofs.LinearFactors.{linear_left}
use Rattle.step_bounds.proofs.LinearReductions.{IsReached, IsDone, are_linear, reduction_reached, reached_lacks}
use Rattle.step_bounds.proofs.Spans.{IsSpanned, scalar_constant, spanned_canonical, scaled_spanned, sum_spanned, more_spanned, new_spanned}

-- several linear polynomials
abbrev pub AreLinear : ℕ → ℕ → ℕ → List Polynomial → Type 0
AreLinear p n k fs = AllByRecursion (IsLinear p n k) fs

module _ (p n k w : ℕ) (prime : IsPrime p) (wide : k < w) where
  pub linear_monic : (f : Polynomial) → IsLinear p n k f → IsLinear p n k (monic p f)
  linear_monic f is = record { canonical = IsPolynomial-monic p n f prime is.canonical; monomials = go f is }
    where
      go : (f : Polynomial) → IsLinear p n k f → EachMonomial (IsLinearMonomial k) (monic p f)
      go [] is = tt
      go (t ∷ f) is = scaled_monomials (IsLinearMonomial k) p (inverse_of p t.1) (t ∷ f) is.monomials

  pub canonical_linear : (fs : List Polynomial) → AreLinear p n k fs → ArePolynomials p n fs
  canonical_linear fs each = canonical_each p n fs (each_implied (IsLinear p n k) (IsPolynomial p n) (λ f is. is.canonical) fs each)

  -- a linear task: what was imposed reduces to 0
  pub record IsLinearTask (inputs : List Polynomial) (task : Task) : Type 0 where
    pub linear : AreLinear p n k task.chain
    pub triangular : IsTriangular task.chain
    pub queue : AreLinear p n k task.queue
    pub nonzero : AreLinear p n k task.nonzero
    pub done : List Polynomial
    pub parts : inputs ≡ done ++ task.queue
    pub each_done : AllByRecursion (λ f. IsLinear p n k f × IsDone p n k w prime wide task.chain linear triangular f) done

  module _ (inputs chain ns rest done : List Polynomial) (linear : AreLinear p n k chain) (triangular : IsTriangular chain) (of_ns : AreLinear p n k ns) (of_rest : AreLinear p n k rest) (f : Polynomial) (of_f : IsLinear p n k f) (parts : inputs ≡ done ++ f ∷ rest) (each_done : AllByRecursion (λ f. IsLinear p n k f × IsDone p n k w prime wide chain linear triangular f) done) where
    abbrev IsChild : Task → Type 0
    IsChild kid = IsLinearTask inputs kid × (kid.queue ≡ rest)

    module _ (g : Polynomial) (made : reduction_within (list_operations p n) w (plains chain) (plain f) ≡ Some (plain g)) (at : IsReached p n k w prime wide chain linear triangular f g) where
      abbrev r : Polynomial
      r = stripped p w ns g

      are : ArePolynomials p n chain
      are = are_linear p n k w prime wide chain linear triangular

      are_ns : ArePolynomials p n ns
      are_ns = canonical_linear ns of_ns

      -- nothing was left
      without_child : r ≡ [] → IsChild (child_without p n w chain rest ns)
      without_child null = (
        record {
          linear = linear;
          triangular = triangular;
          queue = of_rest;
          nonzero = of_ns;
          done = done ++ f ∷ [];
          parts = parts ∙ sym (append_assoc done (f ∷ []) rest);
          each_done = each_appended (λ x. IsLinear p n k x × IsDone p n k w prime wide chain linear triangular x) done (f ∷ []) each_done ((of_f, record { b = at.reaches.a; scalar = at.reaches.scalar; nonzero = at.reaches.nonzero; spanned = subst (IsSpanned p n chain) (sym (at.reaches.same ∙ ap (λ x. sum_of p x at.reaches.d) (zero_left p n w prime ns are_ns g at.linear_x.canonical null) ∙ (polynomials_make_a_ring p n prime.many).zero-add at.reaches.d (spanned_is at.reaches.d at.reaches.spanned))) at.reaches.spanned }), tt);
        },
        refl,
      )
        where
          spanned_is : (d : Polynomial) → IsSpanned p n chain d → IsPolynomial p n d
          spanned_is d is = spanned_canonical p n prime chain are d is

      module _ (v : ℕ) (main : main_var r ≡ Some v) where
        g_some : g ≢ []
        g_some null =
            let occurs = degree_in_main_var v r main in
            let left = degree_in-stripped p n w prime ns are_ns v g at.linear_x.canonical in
            let none = ap (degree_in v) null in
            omega (arith, occurs, left, none)

        -- nothing was stripped
        r_is : r ≡ monic p g
        r_is = elim ((linear_left p n k w prime ns are_ns g at.linear_x.canonical at.linear_x g_some).1) [
          | inl free ↦
              let y = without_factors p w ns g in
              let none = main_var_none r (λ x. degree_in-monic p n prime x y (IsPolynomial-without_factors p n w prime ns g are_ns at.linear_x.canonical) ∙ free x) in
              let clash = sym main ∙ none in
              cc
          | inr same ↦ ap (monic p) same
        ]

        r_linear : IsLinear p n k r
        r_linear = subst (IsLinear p n k) (sym r_is) (linear_monic g at.linear_x)

        lead_constant : is_constant (lead_in v r) ≡ true
        lead_constant = let l = linear_lead p n k w prime v r r_linear (degree_in_main_var v r main) in ap is_constant l.3 ∙ constant_passes n l.0

        known : is_known_nonzero p ns (lead_in v r) ≡ true
        known = constant_known p ns (lead_in v r) lead_constant

        none_initial : child_initial p n w chain rest ns v r ≡ []
        none_initial = ap (λ b. elim b as (λ _. List Task) [ true ↦ [] | false ↦ record { chain = chain; queue = lead_in v r ∷ tail_in v r ∷ rest; nonzero = ns } ∷ [] ]) known

        abbrev t : Polynomial
        t = stripped p w (lead_in v r ∷ []) r

        t_is : t ≡ monic p g
        t_is = ap (monic p) (without_constants p w (lead_in v r ∷ []) r (lead_constant, tt) ∙ r_is) ∙ monic-monic p n prime g at.linear_x.canonical

        main_t : main_var t ≡ Some v
        main_t = main_var-stripped p n w prime (lead_in v r ∷ []) (IsPolynomial-coefficient_in v (degree_in v r) p n r r_linear.canonical, tt) v (coefficient_in_free v (degree_in v r) r, tt) r r_linear.canonical main

        absent : (o : Option Polynomial) → member_in v chain ≡ o → o ≡ None
        absent None e = refl
        absent (Some s) e =
            let member = member_of_chain (λ x. (u : ℕ) → main_var x ≡ Some u → IsFreeOf u g) v chain s e (reached_lacks p n k w prime wide chain linear triangular f g of_f made) in
            let none = member.0 v member.1 in
            let some = degree_in_main_var v r main in
            let same = ap (degree_in v) r_is ∙ degree_in-monic p n prime v g at.linear_x.canonical in
            absurd (omega (arith, none, some, same))

        with_is : with_nonzero p ns (lead_in v r) ≡ ns
        with_is = with_constant p ns (lead_in v r) lead_constant

        linear_changed : AreLinear p n k (with_member v t chain)
        linear_changed = each_with_member (IsLinear p n k) v t chain (subst (IsLinear p n k) (sym t_is) (linear_monic g at.linear_x)) linear

        triangular_changed : IsTriangular (with_member v t chain)
        triangular_changed = with_member_triangular v t chain main_t triangular

        grown : member_in v chain ≡ None → (x : Polynomial) → IsSpanned p n chain x → IsSpanned p n (with_member v t chain) x
        grown none x is =
            let split = absent_split v 0 chain triangular none in
            more_spanned p n prime (members_below v chain) t (members_above v chain) (subst (ArePolynomials p n) split are) x (subst (λ ts. IsSpanned p n ts x) split is)

        -- g is a multiple of t
        g_spanned : IsSpanned p n (with_member v t chain) g
        g_spanned =
            let multiple = constant_times_monic p n prime g at.linear_x.canonical g_some in
            subst (IsSpanned p n (with_member v t chain)) multiple.3 (scaled_spanned p n prime (constant_of n multiple.0) (scalar_constant p n prime multiple.0 multiple.2) (with_member v t chain) (canonical_linear (with_member v t chain) linear_changed) (monic p g) (subst (IsSpanned p n (with_member v t chain)) t_is (new_spanned p n prime (members_below v chain) t (members_above v chain) (subst (IsPolynomial p n) (sym t_is) (linear_monic g at.linear_x).canonical))))

        abbrev IsDoneThen : Polynomial → Type 0
        IsDoneThen x = IsLinear p n k x × IsDone p n k w prime wide (with_member v t chain) linear_changed triangular_changed x

        f_done : member_in v chain ≡ None → IsDoneThen f
        f_done none = (of_f, record { b = at.reaches.a; scalar = at.reaches.scalar; nonzero = at.reaches.nonzero; spanned = subst (IsSpanned p n (with_member v t chain)) (sym at.reaches.same) (sum_spanned p n prime (with_member v t chain) (canonical_linear (with_member v t chain) linear_changed) g at.reaches.d g_spanned (grown none at.reaches.d at.reaches.spanned)) })

        extended_child : member_in v chain ≡ None → IsChild (child_extended p n w chain rest ns v r)
        extended_child none = (
          record {
            linear = linear_changed;
            triangular = triangular_changed;
            queue = of_rest;
            nonzero = subst (AreLinear p n k) (sym with_is) of_ns;
            done = done ++ f ∷ [];
            parts = parts ∙ sym (append_assoc done (f ∷ []) rest);
            each_done = each_appended IsDoneThen done (f ∷ []) (each_implied (λ x. IsLinear p n k x × IsDone p n k w prime wide chain linear triangular x) IsDoneThen (λ x h. (h.0, record { b = h.1.b; scalar = h.1.scalar; nonzero = h.1.nonzero; spanned = grown none (product_of p h.1.b x) h.1.spanned })) done each_done) (f_done none, tt);
          },
          refl,
        )

      -- the step has no second child, and fits
      straight_child : (L : Type 0) → IsStraight {L = L} IsChild (step_to_fitting (impose_children p n w chain rest ns f))
      straight_child L = subst (λ o. IsStraight IsChild (step_to_fitting {L = L} o)) (sym (ap (λ o. and_then (and_then o (λ h. Some (stripped p w ns h.first))) (λ x. children_by_head p n w chain rest ns x (main_var x))) made)) (go (main_var r) refl)
        where
          go : (o : Option ℕ) → main_var r ≡ o → IsStraight IsChild (step_to_fitting {L = L} (children_by_head p n w chain rest ns r o))
          go None e = choose (λ x. IsStraight IsChild (step_to_fitting {L = L} x)) (is_zero r) (Some (child_without p n w chain rest ns ∷ [])) (Some []) (λ null. without_child (zero_by_test r null)) (λ some. tt)
          go (Some v) main =
              let none = absent v main (member_in v chain) refl in
              subst (λ o. IsStraight IsChild (step_to_fitting {L = L} (children_at p n w chain rest ns v r o))) (sym none) (subst (λ kids. IsStraight IsChild (step_to_fitting {L = L} (Some (child_extended p n w chain rest ns v r ∷ kids)))) (sym (none_initial v main)) (extended_child v main none))

    pub imposed_straight : (L : Type 0) → IsStraight {L = L} IsChild (step_to_fitting (impose_children p n w chain rest ns f))
    imposed_straight L = let (g, made, at) = reduction_reached p n k w prime wide chain linear triangular f of_f in straight_child g made at L

-- At a point of a task either a lead case has it, or no lead is zero there.
use Rattle.std.proofs.Common.{◌≡◌, ◌≢◌, ◌⊎◌, inl, inr, ℕ, suc, Bool, true, false, List, [], ◌∷◌, ◌++◌, map, length, append_assoc, refl, sym, ap, ◌∙◌, subst}
use Rattle.std.specs.List.{AllByRecursion, Any}
use Rattle.polynomials.specs.Primes.{IsPrime}
use Rattle.polynomials.specs.Polynomials.{Polynomial, IsPolynomial, ArePolynomials, monic}
use Rattle.zero_sets.specs.Domains.{Tables, IsFiniteDomain, IsPoint, value_at}
use Rattle.zero_sets.specs.ZeroSets.{InZeroSet, AreNonZero, InQuasiComponent}
use Rattle.zero_sets.specs.Tasks.{InTask, is_known_nonzero, with_nonzero}
use Rattle.zero_sets.proofs.ValueLaws.{value_at-monic}
use Rattle.zero_sets.proofs.PointFacts.{zero_or_not}
use Rattle.impose_rules.specs.Leads.{with_all_nonzero, unknown_from}
use Rattle.impose_rules.specs.Impose.{child_lead}
use Rattle.impose_rules.proofs.LeadPlaces.{place_of, with_all-one_more, next_place}
use Rattle.tree_laws.proofs.Some.{some_first, some_right}
use Rattle.impose_laws.proofs.KnownNonzero.{known_nonzero, with_nonzero_points}

module _ (p n w : ℕ) (prime : IsPrime p) (r : Tables) (domain : IsFiniteDomain p r) (xs : List ℕ) (point : IsPoint r xs) (chain rest ns : List Polynomial) (in_chain : InQuasiComponent r xs chain) (in_rest : InZeroSet r xs rest) (f : Polynomial) (zero_f : value_at r xs f ≡ r.nil) (ls : List Polynomial) where
  -- the case of a lead that is zero, where none of those that don't vanish by then is
  case_has : (before : List Polynomial) (l : Polynomial) (later : List Polynomial) (j : ℕ) → ls ≡ before ++ l ∷ later → j ≡ suc (length before) → IsPolynomial p n l → value_at r xs l ≡ r.nil → AreNonZero r xs (with_all_nonzero p ns before) → InTask r xs (child_lead p n w chain rest ns f ls j)
  case_has before l later j e at i z nonzero =
      let found = place_of ls before l later j e at in
      (in_chain, (subst (λ x. value_at r xs (monic p x) ≡ r.nil) (sym found.0) ((value_at-monic p r domain.ring xs point n l prime i).1 z), (zero_f, in_rest)), subst (λ x. AreNonZero r xs (with_all_nonzero p ns x)) (sym found.1) nonzero)

  -- for the leads from a place on
  pub lead_case_or_none : (before later ms : List Polynomial) (j : ℕ) → ls ≡ before ++ later → j ≡ suc (length before) → ms ≡ with_all_nonzero p ns before → AreNonZero r xs ms → ArePolynomials p n later → AllByRecursion (λ l. l ≢ []) later → Any (InTask r xs) (map (child_lead p n w chain rest ns f ls) (unknown_from p ms j later)) ⊎ AreNonZero r xs later
  lead_case_or_none before [] ms j e at same nonzero are some = inr tt
  lead_case_or_none before (l ∷ later) ms j e at same nonzero are some = go (zero_or_not r xs l) (is_known_nonzero p ms l) refl (λ h. lead_case_or_none (before ++ l ∷ []) later (with_nonzero p ms l) (suc j) (e ∙ sym (append_assoc before (l ∷ []) later)) (next_place before l j at) (ap (λ x. with_nonzero p x l) same ∙ sym (with_all-one_more p ns before l)) (with_nonzero_points p n prime r domain xs point ms l are.0 nonzero h) are.1 some.1)
    where
      further : List ℕ
      further = unknown_from p (with_nonzero p ms l) (suc j) later

      go : (value_at r xs l ≡ r.nil) ⊎ (value_at r xs l ≢ r.nil) → (b : Bool) → is_known_nonzero p ms l ≡ b → (value_at r xs l ≢ r.nil → Any (InTask r xs) (map (child_lead p n w chain rest ns f ls) further) ⊎ AreNonZero r xs later) → Any (InTask r xs) (map (child_lead p n w chain rest ns f ls) (elim b as (λ _. List ℕ) [ true ↦ further | false ↦ j ∷ further ])) ⊎ AreNonZero r xs (l ∷ later)
      go (inl z) true known next = absurd (known_nonzero p n prime r domain xs point ms l are.0 some.0 known nonzero z)
      go (inl z) false known next = inl (some_first (InTask r xs) (child_lead p n w chain rest ns f ls j) (map (child_lead p n w chain rest ns f ls) further) (case_has before l later j e at are.0 z (subst (AreNonZero r xs) same nonzero)))
      go (inr h) true known next = elim (next h) [ inl found ↦ inl found | inr none ↦ inr (h, none) ]
      go (inr h) false known next = elim (next h) [ inl found ↦ inl (some_right (InTask r xs) (child_lead p n w chain rest ns f ls j ∷ []) (map (child_lead p n w chain rest ns f ls) further) found) | inr none ↦ inr (h, none) ]

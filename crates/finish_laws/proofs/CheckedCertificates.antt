-- The test of a certificate decides whether it is one.
use Rattle.std.proofs.Common.{◌≡◌, ◌≢◌, ◌↔◌, ℕ, Bool, true, false, ◌&&◌, not, eqb, List, [], ◌∷◌, length, Option, Some, None, IfSome, refl, sym, ap, ◌∙◌, subst}
use Rattle.std.proofs.lemmas.Bool.{eqb-true, eq-eqb, eqb-false, and_parts, and_from}
use Rattle.std.proofs.lemmas.Option.{same_Some}
use Rattle.polynomials.specs.Equalities.{same_polynomial_decides}
use Rattle.polynomials.specs.Polynomials.{Polynomial, sum_of, product_of, is_zero, same_polynomial}
use Rattle.polynomials.specs.Sums.{combination}
use Rattle.polynomials.specs.Views.{degree_in, main_var, initial_of, is_constant}
use Rattle.zero_sets.specs.ZeroSets.{member_in, members_below}
use Rattle.zero_sets.specs.Certificates.{Certificate, LacksVariable, IsFreeOfMain, IsCertificateOver, Certifies}
use Rattle.division_rules.specs.Lists.{list_operations}
use Rattle.division_rules.specs.Within.{and_then, times_within}
use Rattle.division_rules.proofs.Steps.{choose}
use Rattle.division_rules.proofs.WithinLimits.{Gives, gives-then, gives-times}
use Rattle.impose_laws.proofs.Options.{then_holds}
use Rattle.finish_rules.specs.Checks.{combination_within, lacks_variable, is_free_of_main, is_value, checked_identity, checked_at}
use Rattle.finish_laws.specs.Laws.{ChecksDecide}

-- variables that don't occur
lacks_true : (o : Option ℕ) (f : Polynomial) → lacks_variable o f ≡ true → LacksVariable o f
lacks_true None f e = tt
lacks_true (Some v) f e = eqb-true (degree_in v f) 0 e

lacks_test : (o : Option ℕ) (f : Polynomial) → LacksVariable o f → lacks_variable o f ≡ true
lacks_test None f h = refl
lacks_test (Some v) f h = eq-eqb (degree_in v f) 0 h

free_true : (f : Polynomial) (chain : List Polynomial) → is_free_of_main f chain ≡ true → IsFreeOfMain f chain
free_true f [] e = tt
free_true f (t ∷ chain) e =
    let both = and_parts (lacks_variable (main_var t) f) (is_free_of_main f chain) e in
    (lacks_true (main_var t) f both.0, free_true f chain both.1)

free_test : (f : Polynomial) (chain : List Polynomial) → IsFreeOfMain f chain → is_free_of_main f chain ≡ true
free_test f [] h = refl
free_test f (t ∷ chain) h = and_from (lacks_variable (main_var t) f) (is_free_of_main f chain) (lacks_test (main_var t) f h.0) (free_test f chain h.1)

-- what isn't 0
some_true : (f : Polynomial) → not (is_zero f) ≡ true → f ≢ []
some_true [] e null = cc
some_true (t ∷ f) e null = cc

some_test : (f : Polynomial) → f ≢ [] → not (is_zero f) ≡ true
some_test [] h = absurd (h refl)
some_test (t ∷ f) h = refl

module _ (p n w : ℕ) where
  -- within a width it is the combination
  gives-combination : (cs gs : List Polynomial) → Gives (combination_within p n w cs gs) (combination p cs gs)
  gives-combination [] gs = refl
  gives-combination (c ∷ cs) [] = refl
  gives-combination (c ∷ cs) (g ∷ gs) = gives-then (times_within (list_operations p n) w c g) (product_of p c g) (λ x. and_then (combination_within p n w cs gs) (λ y. Some (sum_of p x y))) (λ x. sum_of p x (combination p cs gs)) (gives-times (list_operations p n) w c g) (λ x. gives-then (combination_within p n w cs gs) (combination p cs gs) (λ y. Some (sum_of p x y)) (sum_of p x) (gives-combination cs gs) (λ y. refl))

  module _ (chain : List Polynomial) (c : Certificate) (over : IsCertificateOver p n c) where
    -- there is one polynomial with the main variable
    member_is : (t s : Polynomial) → member_in c.of chain ≡ Some t → member_in c.of chain ≡ Some s → t ≡ s
    member_is t s e d = same_Some t s (sym e ∙ d)

    abbrev Decided : Bool → Type 0
    Decided b = (b ≡ true) ↔ Certifies p n chain c

    not_certified : (Certifies p n chain c → ⊥) → Decided false
    not_certified never = (λ e. cc, λ certifies. absurd (never certifies))

    value_decides : (t : Polynomial) → member_in c.of chain ≡ Some t → is_constant (initial_of t) ≡ false → length c.below ≡ length (members_below c.of chain) → (f : Polynomial) → f ≡ combination p (c.cofactor ∷ c.below) (initial_of t ∷ members_below c.of chain) → Decided (is_value chain c f)
    value_decides t found initial count f is = (
      λ e.
          let both = and_parts (same_polynomial f c.value) (not (is_zero c.value) && is_free_of_main c.value chain) e in
          let rest = and_parts (not (is_zero c.value)) (is_free_of_main c.value chain) both.1 in
          (t, record { member = found; initial = initial; canonical = over; count = count; identity = sym is ∙ (same_polynomial_decides f c.value).0 both.0; nonzero = some_true c.value rest.0; free = free_true c.value chain rest.1 }),
      λ (s, certifies).
          let same = member_is t s found certifies.member in
          and_from (same_polynomial f c.value) (not (is_zero c.value) && is_free_of_main c.value chain) ((same_polynomial_decides f c.value).1 (is ∙ ap (λ x. combination p (c.cofactor ∷ c.below) (initial_of x ∷ members_below c.of chain)) same ∙ certifies.identity)) (and_from (not (is_zero c.value)) (is_free_of_main c.value chain) (some_test c.value certifies.nonzero) (free_test c.value chain certifies.free)),
    )

    identity_decides : (t : Polynomial) → member_in c.of chain ≡ Some t → is_constant (initial_of t) ≡ false → length c.below ≡ length (members_below c.of chain) → IfSome (checked_identity p n w chain c t) Decided
    identity_decides t found initial count = then_holds Decided (combination_within p n w (c.cofactor ∷ c.below) (initial_of t ∷ members_below c.of chain)) (λ f. Some (is_value chain c f)) (λ f fits. value_decides t found initial count f (subst (λ y. IfSome y (λ x. x ≡ combination p (c.cofactor ∷ c.below) (initial_of t ∷ members_below c.of chain))) fits (gives-combination (c.cofactor ∷ c.below) (initial_of t ∷ members_below c.of chain))))

    checked_decides : (o : Option Polynomial) → member_in c.of chain ≡ o → IfSome (checked_at p n w chain c o) Decided
    checked_decides None none = not_certified (λ (s, certifies). let d = sym none ∙ certifies.member in cc)
    checked_decides (Some t) found = choose (λ x. IfSome x Decided) (is_constant (initial_of t)) (Some false) counted (λ constant. not_certified (λ (s, certifies). let d = sym (ap (λ x. is_constant (initial_of x)) (member_is t s found certifies.member)) ∙ constant in let e = certifies.initial in cc)) (λ initial. choose (λ x. IfSome x Decided) (eqb (length c.below) (length (members_below c.of chain))) (checked_identity p n w chain c t) (Some false) (λ same. identity_decides t found initial (eqb-true (length c.below) (length (members_below c.of chain)) same)) (λ differ. not_certified (λ (s, certifies). eqb-false (length c.below) (length (members_below c.of chain)) differ certifies.count)))
      where
        counted : Option Bool
        counted = elim (eqb (length c.below) (length (members_below c.of chain))) [ true ↦ checked_identity p n w chain c t | false ↦ Some false ]

-- the law
pub checks_decide : ChecksDecide
checks_decide p n w chain c over = checked_decides p n w chain c over (member_in c.of chain) refl

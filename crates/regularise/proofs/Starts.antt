-- The reduced initial of a member starts the turns.
use Rattle.std.proofs.Common.{◌≡◌, ◌≢◌, ℕ, ◌+◌, ◌<◌, ◌^◌, true, false, List, [], ◌∷◌, length, Option, Some, None, IfSome, IsSome, refl, sym, ap, ap₂, ◌∙◌, subst, arith}
use Rattle.mono_words.specs.declared.mono.TheConstants.{VARS}
use Rattle.polynomials.specs.Primes.{IsPrime}
use Rattle.polynomials.specs.Polynomials.{Polynomial, IsPolynomial, ArePolynomials, is_zero}
use Rattle.polynomials.specs.Views.{initial_of, is_constant}
use Rattle.zero_sets.specs.Certificates.{Certificate, CertifiesInitial}
use Rattle.zero_sets.specs.Domains.{Tables}
use Rattle.zero_sets.specs.ZeroSets.{IsTriangular, member_in, members_below}
use Rattle.zero_sets.proofs.TriangularSets.{below_triangular}
use Rattle.division_rules.specs.Rows.{Row}
use Rattle.impose_rules.proofs.ChainParts.{each_canonical, member_of_chain}
use Rattle.row_laws.specs.Words.{AreBelow}
use Rattle.row_laws.proofs.Members.{members_are_below}
use Rattle.split_paths.specs.declared.splitter.Step.{Step}
use Rattle.split_paths.specs.declared.splitter.Step.TheVariants.{Gone, Emit}
use Rattle.tree_laws.specs.Points.{IfEmitted}
use Rattle.tree_laws.specs.Steps.{emitted_then, fitting_then}
use Rattle.chains.proofs.MemberSteps.{main_variable_small, member_main}
use Rattle.subresultants.proofs.PolynomialRemainders.{few_below}
use Rattle.finish_rules.specs.Identities.{initial_row, certificate_of}
use Rattle.finish_rules.specs.Initials.{turned_from, regularised}
use Rattle.finish_rules.specs.Turns.{turns_below}
use Rattle.finish_laws.specs.Identities.{IsMemberOver}
use Rattle.finish_laws.specs.Laws.{IsPointOff, KeepsZeros}
use Rattle.finish_laws.proofs.Regularising.{regularising_loses_no_zero, regularising_certifies}
use Rattle.finish_laws.proofs.Starts.{starts_identity}
use Rattle.regularise.specs.Identities.{HasIdentity}

-- the polynomials below are a triangular set
pub lower_triangular : (v : ℕ) (chain below : List Polynomial) → below ≡ members_below v chain → IsTriangular chain → IsTriangular below
lower_triangular v chain below those triangular = subst IsTriangular (sym those) (below_triangular 0 v chain triangular)

module _ (p w v : ℕ) (prime : IsPrime p) (chain ns : List Polynomial) (are : ArePolynomials p VARS chain) (triangular : IsTriangular chain) (some : IsSome (member_in v chain)) where
  the_member : (t : Polynomial) × (member_in v chain ≡ Some t)
  the_member = go (member_in v chain) refl some
    where
      go : (o : Option Polynomial) → member_in v chain ≡ o → IsSome o → (t : Polynomial) × (member_in v chain ≡ Some t)
      go None e s = cc
      go (Some t) e s = (t, e)

  abbrev t : Polynomial
  t = the_member.0

  over : IsMemberOver p VARS v chain t
  over = record { prime = prime; canonical = are; triangular = triangular; member = the_member.1 }

  abbrev Becomes : Step Polynomial Certificate → Type 0
  Becomes x = IfSome (member_in v chain) (λ q. x ≡ regularised p VARS w chain ns v (initial_of q))

  member_becomes : (x : Step Polynomial Certificate) → Becomes x → x ≡ regularised p VARS w chain ns v (initial_of t)
  member_becomes x e = subst (λ o. IfSome o (λ q. x ≡ regularised p VARS w chain ns v (initial_of q))) the_member.1 e

  -- no point is lost by it
  pub becomes_cover : (x : Step Polynomial Certificate) → Becomes x → (r : Tables) (xs : List ℕ) → IsPointOff p r xs chain ns → KeepsZeros r xs x
  becomes_cover x e r xs off = subst (KeepsZeros r xs) (sym (member_becomes x e)) (regularising_loses_no_zero p VARS w v r xs chain ns t over off)

  -- and what is certified is the initial
  pub becomes_certificate : (x : Step Polynomial Certificate) → Becomes x → IfSome (member_in v chain) (λ q. is_constant (initial_of q) ≡ false → IfEmitted (λ c. CertifiesInitial p VARS chain c q) x)
  becomes_certificate x e = subst (λ o. IfSome o (λ q. is_constant (initial_of q) ≡ false → IfEmitted (λ c. CertifiesInitial p VARS chain c q) x)) (sym the_member.1) (λ nonconstant. subst (IfEmitted (λ c. CertifiesInitial p VARS chain c t)) (sym (member_becomes x e)) (regularising_certifies p VARS w v chain ns t over nonconstant))

  module _ (h : Polynomial) (below : List Polynomial) (is : IfSome (member_in v chain) (λ q. h ≡ initial_of q)) (those : below ≡ members_below v chain) where
    h_is : h ≡ initial_of t
    h_is = subst (λ o. IfSome o (λ q. h ≡ initial_of q)) the_member.1 is

    -- they are fewer than there are variables
    pub few_lower : 1 + length below < 2 ^ 32
    few_lower =
        let less = main_variable_small p VARS v t (member_of_chain (IsPolynomial p VARS) v chain t the_member.1 (each_canonical p VARS chain are)).0 (member_main v chain t the_member.1) in
        let few = few_below v 0 below (omega arith) (lower_triangular v chain below those triangular) (subst (AreBelow v) (sym those) (members_are_below v chain)) in
        omega arith

    -- the row that is made is an identity
    pub starts : (row : Row Polynomial) → initial_row p VARS w h below ≡ Some row → row.first ≢ [] → HasIdentity p v chain row
    starts row made nonzero = record {
      v = v;
      t = t;
      up = omega arith;
      member = over;
      identity = starts_identity p VARS w v chain t over row (sym (ap₂ (initial_row p VARS w) h_is those) ∙ made) nonzero;
    }

    abbrev whole : Step Polynomial Certificate
    whole = emitted_then (fitting_then (initial_row p VARS w h below) (λ f. turned_from p VARS w chain ns v f)) (λ f. Emit (certificate_of v f))

    -- what becomes of the initial is by that row
    by_row : (x : Step Polynomial Certificate) → x ≡ whole → IfSome (member_in v chain) (λ q. x ≡ regularised p VARS w chain ns v (initial_of q))
    by_row x e = subst (λ o. IfSome o (λ q. x ≡ regularised p VARS w chain ns v (initial_of q))) (sym the_member.1) (e ∙ ap (λ o. emitted_then (fitting_then o (λ f. turned_from p VARS w chain ns v f)) (λ f. Emit (certificate_of v f))) (ap₂ (initial_row p VARS w) h_is those))

    -- the turns of one that isn't 0
    pub by_turns : (row : Row Polynomial) (x : Step Polynomial Certificate) → initial_row p VARS w h below ≡ Some row → row.first ≢ [] → x ≡ emitted_then (turns_below p VARS w chain ns v (record { row = row; composed = false })) (λ f. Emit (certificate_of v f)) → IfSome (member_in v chain) (λ q. x ≡ regularised p VARS w chain ns v (initial_of q))
    by_turns row x made nonzero e = by_row x (e ∙ ap (λ y. emitted_then y (λ f. Emit (certificate_of v f))) (sym (go row.first nonzero)) ∙ sym (ap (λ o. emitted_then (fitting_then o (λ f. turned_from p VARS w chain ns v f)) (λ f. Emit (certificate_of v f))) made))
      where
        go : (g : Polynomial) → g ≢ [] → elim (is_zero g) [ true ↦ Gone | false ↦ turns_below p VARS w chain ns v (record { row = row; composed = false }) ] ≡ turns_below p VARS w chain ns v (record { row = row; composed = false })
        go [] n = absurd (n refl)
        go (m ∷ g) n = refl

-- The initials of a whole chain: no zero is lost, and each has its certificate.
use Rattle.std.proofs.Common.{◌≡◌, ℕ, suc, ◌≤◌, Bool, true, false, List, [], ◌∷◌, map, Option, Some, None, refl, sym, ap, ap₂, ◌∙◌, subst, arith}
use Rattle.std.specs.List.{AllByRecursion, cons_option}
use Rattle.std.proofs.lemmas.Bool.{eq-eqb, ne_eqb}
use Rattle.std.proofs.lemmas.Option.{same_Some}
use Rattle.polynomials.specs.Primes.{IsPrime}
use Rattle.polynomials.specs.Polynomials.{Polynomial, ArePolynomials}
use Rattle.polynomials.specs.Views.{main_var, initial_of, is_constant}
use Rattle.zero_sets.specs.Certificates.{Certificate, CertifiesInitial, Certifies, AreCertificates, variable_to_certify, variables_to_certify}
use Rattle.zero_sets.specs.Domains.{Tables, value_at}
use Rattle.zero_sets.specs.ZeroSets.{IsTriangular, IsTriangularFrom, is_variable, member_in}
use Rattle.impose_rules.proofs.Lists.{each_implied}
use Rattle.row_laws.proofs.Members.{members_are_placed}
use Rattle.split_paths.specs.declared.splitter.Step.{Step}
use Rattle.split_paths.specs.declared.splitter.Step.TheVariants.{Gone, Emit, TooWide, Kids}
use Rattle.tree_laws.specs.Points.{IfEmitted}
use Rattle.tree_laws.specs.Steps.{emitted_then}
use Rattle.tree_laws.proofs.Steps.{emitted_kept, emitted_emits}
use Rattle.finish_rules.specs.Initials.{regularised, certified_then, certified}
use Rattle.finish_laws.specs.Identities.{IsMemberOver}
use Rattle.finish_laws.specs.Laws.{IsPointOff, KeepsZeros, CertifiedLosesNoZero, CertifiedCertifies}
use Rattle.finish_laws.proofs.Regularising.{regularising_loses_no_zero, regularising_certifies}

-- the chain has f for its main variable
abbrev pub IsFoundIn : List Polynomial → Polynomial → Type 0
IsFoundIn chain f = (x : ℕ) → main_var f ≡ Some x → member_in x chain ≡ Some f

-- main variables from m on, each with its polynomial
members_found : (m : ℕ) (chain : List Polynomial) → IsTriangularFrom m chain → AllByRecursion (λ f. (x : ℕ) → main_var f ≡ Some x → (m ≤ x) × (member_in x chain ≡ Some f)) chain
members_found m [] triangular = tt
members_found m (s ∷ rest) (u, main, up, later) = (
  λ x is.
      let same : u ≡ x = let d = sym main ∙ is in cc in
      (subst (λ y. m ≤ y) same up, ap (λ b. elim b as (λ _. Option Polynomial) [ true ↦ Some s | false ↦ member_in x rest ]) (ap (is_variable x) main ∙ eq-eqb u x same)),
  each_implied (λ f. (x : ℕ) → main_var f ≡ Some x → (suc u ≤ x) × (member_in x rest ≡ Some f)) (λ f. (x : ℕ) → main_var f ≡ Some x → (m ≤ x) × (member_in x (s ∷ rest) ≡ Some f)) (λ f each x is.
      let found = each x is in
      let from = found.0 in
      (omega (arith, from, up), ap (λ b. elim b as (λ _. Option Polynomial) [ true ↦ Some s | false ↦ member_in x rest ]) (ap (is_variable x) main ∙ ne_eqb u x (λ same. omega (arith, from, same))) ∙ found.1)) rest (members_found (suc u) rest later),
)

pub each_found : (chain : List Polynomial) → IsTriangular chain → AllByRecursion (IsFoundIn chain) chain
each_found chain triangular = each_implied (λ f. (x : ℕ) → main_var f ≡ Some x → (0 ≤ x) × (member_in x chain ≡ Some f)) (IsFoundIn chain) (λ f each x is. (each x is).1) chain (members_found 0 chain triangular)

-- a variable whose initial needs a certificate
to_certify : (t : Polynomial) (v : ℕ) → variable_to_certify t ≡ Some v → (is_constant (initial_of t) ≡ false) × (main_var t ≡ Some v)
to_certify t v e = go (is_constant (initial_of t)) refl e
  where
    go : (b : Bool) → is_constant (initial_of t) ≡ b → elim b as (λ _. Option ℕ) [ true ↦ None | false ↦ main_var t ] ≡ Some v → (is_constant (initial_of t) ≡ false) × (main_var t ≡ Some v)
    go true constant is = cc
    go false not is = (not, is)

module _ (p n w : ℕ) (prime : IsPrime p) (chain ns : List Polynomial) (are : ArePolynomials p n chain) (triangular : IsTriangular chain) where
  -- Q holds of the certificates of the first of some polynomials and those behind it, where it holds of
  -- those behind it
  pub record EachHolds (Q : List Polynomial → Step Polynomial (List Certificate) → Type 0) : Type 0 where
    pub nothing : Q [] (Emit [])
    pub passed : (t : Polynomial) (rest : List Polynomial) → variable_to_certify t ≡ None → Q rest (certified p n w chain ns rest) → Q (t ∷ rest) (certified p n w chain ns rest)
    pub needed : (t : Polynomial) (rest : List Polynomial) (v : ℕ) → variable_to_certify t ≡ Some v → IsMemberOver p n v chain t → is_constant (initial_of t) ≡ false → Q rest (certified p n w chain ns rest) → Q (t ∷ rest) (emitted_then (regularised p n w chain ns v (initial_of t)) (λ c. emitted_then (certified p n w chain ns rest) (λ cs. Emit (c ∷ cs))))

  -- so it holds of those of the whole chain
  pub each_holds : (Q : List Polynomial → Step Polynomial (List Certificate) → Type 0) → EachHolds Q → Q chain (certified p n w chain ns chain)
  each_holds Q holds = go chain (each_found chain triangular)
    where
      at_first : (t : Polynomial) (rest : List Polynomial) → IsFoundIn chain t → (o : Option ℕ) → variable_to_certify t ≡ o → Q rest (certified p n w chain ns rest) → Q (t ∷ rest) (certified_then p n w chain ns t o (certified p n w chain ns rest))
      at_first t rest found None e later = holds.passed t rest e later
      at_first t rest found (Some v) e later =
          let needs = to_certify t v e in
          holds.needed t rest v e (record { prime = prime; canonical = are; triangular = triangular; member = found v needs.1 }) needs.0 later

      go : (rest : List Polynomial) → AllByRecursion (IsFoundIn chain) rest → Q rest (certified p n w chain ns rest)
      go [] found = holds.nothing
      go (t ∷ rest) found = at_first t rest found.0 (variable_to_certify t) refl (go rest found.1)

  -- no zero is lost
  certified_keeps : (r : Tables) (xs : List ℕ) → IsPointOff p r xs chain ns → KeepsZeros r xs (certified p n w chain ns chain)
  certified_keeps r xs off = each_holds (λ rest made. KeepsZeros r xs made) (record {
    nothing = tt;
    passed = λ t rest e later. later;
    needed = λ t rest v e member initial later. emitted_kept Vanishes (λ (c : Certificate). Unit {0}) (λ (cs : List Certificate). Unit {0}) (regularised p n w chain ns v (initial_of t)) (λ c. emitted_then (certified p n w chain ns rest) (λ cs. Emit (c ∷ cs))) (regularising_loses_no_zero p n w v r xs chain ns t member off) (λ c kept. emitted_kept Vanishes (λ (cs : List Certificate). Unit {0}) (λ (cs : List Certificate). Unit {0}) (certified p n w chain ns rest) (λ cs. Emit (c ∷ cs)) later (λ cs more. tt));
  })
    where
      Vanishes : Polynomial → Type 0
      Vanishes f = value_at r xs f ≡ r.nil

  -- certificates of the initials of some of the chain
  record CertifySome (rest : List Polynomial) (cs : List Certificate) : Type 0 where
    pub variables : map (λ c. c.of) cs ≡ variables_to_certify rest
    pub certify : AllByRecursion (Certifies p n chain) cs

  emits_same : (t : Polynomial) (rest : List Polynomial) (made : Step Polynomial (List Certificate)) → variables_to_certify rest ≡ variables_to_certify (t ∷ rest) → IfEmitted (CertifySome rest) made → IfEmitted (CertifySome (t ∷ rest)) made
  emits_same t rest Gone same emits = tt
  emits_same t rest (Emit cs) same emits = record { variables = emits.variables ∙ same; certify = emits.certify }
  emits_same t rest TooWide same emits = tt
  emits_same t rest (Kids kids) same emits = tt

  -- one more in front
  one_more : (t : Polynomial) (rest : List Polynomial) (v : ℕ) → variable_to_certify t ≡ Some v → (c : Certificate) → CertifiesInitial p n chain c t → (cs : List Certificate) → CertifySome rest cs → CertifySome (t ∷ rest) (c ∷ cs)
  one_more t rest v e c certifies cs some = record {
    variables = ap₂ ◌∷◌ of_is some.variables ∙ sym (ap (λ o. cons_option o (variables_to_certify rest)) e);
    certify = ((t, certifies), some.certify);
  }
    where
      of_is : c.of ≡ v
      of_is = same_Some c.of v (sym (members_are_placed c.of chain t triangular certifies.member).main ∙ (to_certify t v e).1)

  -- they are those of the whole chain
  certified_all : IfEmitted (AreCertificates p n chain) (certified p n w chain ns chain)
  certified_all = emits_all (certified p n w chain ns chain) (each_holds (λ rest made. IfEmitted (CertifySome rest) made) (record {
    nothing = record { variables = refl; certify = tt };
    passed = λ t rest e later. emits_same t rest (certified p n w chain ns rest) (sym (ap (λ o. cons_option o (variables_to_certify rest)) e)) later;
    needed = λ t rest v e member initial later. emitted_emits (λ c. CertifiesInitial p n chain c t) (CertifySome (t ∷ rest)) (regularised p n w chain ns v (initial_of t)) (λ c. emitted_then (certified p n w chain ns rest) (λ cs. Emit (c ∷ cs))) (regularising_certifies p n w v chain ns t member initial) (λ c certifies. emitted_emits (CertifySome rest) (CertifySome (t ∷ rest)) (certified p n w chain ns rest) (λ cs. Emit (c ∷ cs)) later (λ cs some. one_more t rest v e c certifies cs some));
  }))
    where
      emits_all : (made : Step Polynomial (List Certificate)) → IfEmitted (CertifySome chain) made → IfEmitted (AreCertificates p n chain) made
      emits_all Gone emits = tt
      emits_all (Emit cs) emits = record { variables = emits.variables; certify = emits.certify }
      emits_all TooWide emits = tt
      emits_all (Kids kids) emits = tt

-- the laws
pub certified_loses_no_zero : CertifiedLosesNoZero
certified_loses_no_zero p n w r xs chain ns prime are triangular off = certified_keeps p n w prime chain ns are triangular r xs off

pub certified_certifies : CertifiedCertifies
certified_certifies p n w chain ns prime are triangular = certified_all p n w prime chain ns are triangular

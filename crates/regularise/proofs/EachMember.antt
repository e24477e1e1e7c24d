-- The initials of a chain, one after the other.
use Rattle.std.proofs.Common.{◌≡◌, ℕ, zero, suc, ◌+◌, Bool, true, false, List, [], ◌∷◌, ◌++◌, drop, Option, Some, None, refl, sym, ap, ◌∙◌, append_assoc, subst}
use Rattle.std.specs.List.{slice_get, AllByRecursion}
use Rattle.item_lists.proofs.Places.{drop_at}
use Rattle.mono_words.specs.declared.mono.TheConstants.{VARS}
use Rattle.polynomials.specs.Polynomials.{Polynomial}
use Rattle.polynomials.specs.Views.{main_var, initial_of, is_constant}
use Rattle.zero_sets.specs.Certificates.{Certificate, variable_to_certify}
use Rattle.split_paths.specs.declared.splitter.Step.{Step}
use Rattle.split_paths.specs.declared.splitter.Step.TheVariants.{Gone, Emit, TooWide, Kids}
use Rattle.tree_laws.specs.Steps.{emitted_then}
use Rattle.finish_rules.specs.Initials.{regularised, certified_then, certified}

-- what holds of each holds of the one at a place
pub each_at : {X : Type 0} (P : X → Type 0) (xs : List X) (i : ℕ) (x : X) → AllByRecursion P xs → slice_get xs i ≡ Some x → P x
each_at P [] i x each at = cc
each_at P (y ∷ xs) zero x each at = let same : y ≡ x = cc in subst P same each.0
each_at P (y ∷ xs) (suc i) x each at = each_at P xs i x each.1 at

-- a variable whose initial needs a certificate is a main variable
pub certified_main : (t : Polynomial) (v : ℕ) → variable_to_certify t ≡ Some v → main_var t ≡ Some v
certified_main t v = go (is_constant (initial_of t))
  where
    go : (b : Bool) → elim b as (λ _. Option ℕ) [ true ↦ None | false ↦ main_var t ] ≡ Some v → main_var t ≡ Some v
    go true e = cc
    go false e = e

-- a step with certificates in front of those that it emits
abbrev pub behind : List Certificate → Step Polynomial (List Certificate) → Step Polynomial (List Certificate)
behind cs x = emitted_then x (λ ds. Emit (cs ++ ds))

-- one more certificate
behind_more : (cs : List Certificate) (c : Certificate) (x : Step Polynomial (List Certificate)) → behind (cs ++ c ∷ []) x ≡ behind cs (emitted_then x (λ ds. Emit (c ∷ ds)))
behind_more cs c Gone = refl
behind_more cs c (Emit ds) = ap Emit (append_assoc cs (c ∷ []) ds)
behind_more cs c TooWide = refl
behind_more cs c (Kids kids) = refl

module _ (p w : ℕ) (chain ns list : List Polynomial) where
  abbrev rest : ℕ → Step Polynomial (List Certificate)
  rest i = certified p VARS w chain ns (drop i list)

  module _ (cs : List Certificate) (i : ℕ) (t : Polynomial) (at : slice_get list i ≡ Some t) (whole : Step Polynomial (List Certificate)) (all : behind cs (certified p VARS w chain ns (drop i list)) ≡ whole) where
    -- from the member on
    here : certified_then p VARS w chain ns t (variable_to_certify t) (rest (i + 1)) ≡ rest i
    here = sym (ap (certified p VARS w chain ns) (drop_at list i t at))

    -- it needs no certificate
    pub passed : variable_to_certify t ≡ None → behind cs (certified p VARS w chain ns (drop (i + 1) list)) ≡ whole
    passed none = ap (behind cs) (sym (ap (λ v. certified_then p VARS w chain ns t v (rest (i + 1))) none) ∙ here) ∙ all

    -- or it becomes x
    becomes : (v : ℕ) (x : Step Polynomial Certificate) → variable_to_certify t ≡ Some v → x ≡ regularised p VARS w chain ns v (initial_of t) → behind cs (emitted_then x (λ c. emitted_then (rest (i + 1)) (λ ds. Emit (c ∷ ds)))) ≡ whole
    becomes v x some is = ap (behind cs) (ap (λ y. emitted_then y (λ c. emitted_then (rest (i + 1)) (λ ds. Emit (c ∷ ds)))) is ∙ sym (ap (λ o. certified_then p VARS w chain ns t o (rest (i + 1))) some) ∙ here) ∙ all

    -- it has one
    pub taken : (v : ℕ) (c : Certificate) (longer : List Certificate) → variable_to_certify t ≡ Some v → Emit c ≡ regularised p VARS w chain ns v (initial_of t) → longer ≡ cs ++ c ∷ [] → behind longer (certified p VARS w chain ns (drop (i + 1) list)) ≡ whole
    taken v c longer some is more = ap (λ ds. behind ds (rest (i + 1))) more ∙ behind_more cs c (rest (i + 1)) ∙ becomes v (Emit c) some is

    -- or it has none
    pub gone : (v : ℕ) → variable_to_certify t ≡ Some v → Gone ≡ regularised p VARS w chain ns v (initial_of t) → Gone ≡ whole
    gone v some is = becomes v Gone some is

    pub wide : (v : ℕ) → variable_to_certify t ≡ Some v → TooWide ≡ regularised p VARS w chain ns v (initial_of t) → TooWide ≡ whole
    wide v some is = becomes v TooWide some is

    pub gives_way : (v : ℕ) (kids : List Polynomial) → variable_to_certify t ≡ Some v → Kids kids ≡ regularised p VARS w chain ns v (initial_of t) → Kids kids ≡ whole
    gives_way v kids some is = becomes v (Kids kids) some is

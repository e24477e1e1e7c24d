-- What vanishes: leads that aren't known not to, one by one, and the remainder of a cofactor.
use Rattle.std.proofs.Common.{◌≡◌, ◌≢◌, ℕ, ◌+◌, true, false, not, cond, List, [], ◌∷◌, ◌++◌, map, filter, drop, Option, Some, None, refl, sym, ap, ◌∙◌, append_assoc}
use Rattle.std.specs.List.{slice_get}
use Rattle.std.proofs.lemmas.Option.{get_or_from_slice_get}
use Rattle.item_lists.proofs.Places.{drop_at}
use Rattle.mono_words.specs.declared.mono.TheConstants.{VARS}
use Rattle.polynomials.specs.Polynomials.{Polynomial, monic}
use Rattle.zero_sets.specs.Tasks.{is_known_nonzero}
use Rattle.division_rules.specs.Cofactors.{first_cofactor}
use Rattle.division_rules.specs.Rows.{Row, plain, plains}
use Rattle.division_rules.specs.Within.{and_then, reduction_within}
use Rattle.pseudo_division.specs.FieldOperations.{operations, first_of}
use Rattle.finish_rules.specs.Remainders.{remainder_of}
use Rattle.finish_rules.specs.Turns.{IdentitySoFar, unknown_monic, composed_first, vanishing}

module _ (p : ℕ) (ns : List Polynomial) (l : Polynomial) (ls : List Polynomial) where
  -- one that isn't known is taken
  pub unknown_taken : is_known_nonzero p ns l ≡ false → unknown_monic p ns (l ∷ ls) ≡ monic p l ∷ unknown_monic p ns ls
  unknown_taken e = ap (λ b. map (monic p) (cond (not b) (l ∷ filter (λ f. not (is_known_nonzero p ns f)) ls) (filter (λ f. not (is_known_nonzero p ns f)) ls))) e

  -- and else it is passed over
  pub known_passed : is_known_nonzero p ns l ≡ true → unknown_monic p ns (l ∷ ls) ≡ unknown_monic p ns ls
  known_passed e = ap (λ b. map (monic p) (cond (not b) (l ∷ filter (λ f. not (is_known_nonzero p ns f)) ls) (filter (λ f. not (is_known_nonzero p ns f)) ls))) e

-- one more is taken, made monic
pub taken_more : (p : ℕ) (ns all leads out longer : List Polynomial) (i : ℕ) (l m : Polynomial) → slice_get leads i ≡ Some l → is_known_nonzero p ns l ≡ false → m ≡ monic p l → longer ≡ out ++ m ∷ [] → out ++ unknown_monic p ns (drop i leads) ≡ all → longer ++ unknown_monic p ns (drop (i + 1) leads) ≡ all
taken_more p ns all leads out longer i l m at unknown same is whole =
    ap (λ zs. zs ++ unknown_monic p ns rest) is
    ∙ append_assoc out (m ∷ []) (unknown_monic p ns rest)
    ∙ ap (λ z. out ++ z ∷ unknown_monic p ns rest) same
    ∙ ap (λ zs. out ++ zs) (sym (ap (unknown_monic p ns) (drop_at leads i l at) ∙ unknown_taken p ns l rest unknown))
    ∙ whole
  where
    rest : List Polynomial
    rest = drop (i + 1) leads

-- the first entry, where there is one
pub first_is : (o : Option (Row Polynomial)) → first_of o ≡ and_then o (λ g. Some g.first)
first_is None = refl
first_is (Some g) = refl

-- the remainder that was made of the zero row's cofactor
pub remainder_made : (p w : ℕ) (chain list cs : List Polynomial) (z : Row Polynomial) (a : Polynomial) (o : Option Polynomial) → list ≡ chain → slice_get cs 0 ≡ Some a → cs ≡ z.cofactors → o ≡ first_of (reduction_within (operations p) w (plains list) (plain a)) → remainder_of p VARS w chain (first_cofactor (operations p) z) ≡ o
remainder_made p w chain list cs z a o same at parts is =
    ap (remainder_of p VARS w chain) (get_or_from_slice_get z.cofactors 0 a [] (ap (λ xs. slice_get xs 0) (sym parts) ∙ at))
    ∙ sym (first_is (reduction_within (operations p) w (plains chain) (plain a)))
    ∙ ap (λ xs. first_of (reduction_within (operations p) w (plains xs) (plain a))) (sym same)
    ∙ sym is

-- where it isn't 0 it vanishes, or what was composed does
pub vanishing_some : (p n w : ℕ) (chain ns : List Polynomial) (s : IdentitySoFar) (ls : List Polynomial) (b : Polynomial) → b ≢ [] → vanishing p n w chain ns s ls b ≡ b ∷ composed_first p n w chain ns s
vanishing_some p n w chain ns s ls [] some = absurd (some refl)
vanishing_some p n w chain ns s ls (t ∷ b) some = refl

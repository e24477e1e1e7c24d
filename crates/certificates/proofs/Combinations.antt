-- Sums of products within a width, one product after the other, and compositions.
use Rattle.std.proofs.Common.{◌≡◌, ◌<◌, ◌+◌, ◌-◌, ℕ, zero, suc, List, [], ◌∷◌, length, drop, Option, Some, None, refl, sym, ap, ap₂, ◌∙◌, arith}
use Rattle.std.specs.List.{slice_get}
use Rattle.std.proofs.Math.Seq.{drop-length}
use Rattle.std.proofs.lemmas.Option.{get_or_from_slice_get}
use Rattle.item_lists.proofs.Places.{drop_at}
use Rattle.polynomials.specs.Polynomials.{Polynomial, sum_of}
use Rattle.division_rules.specs.Lists.{list_operations}
use Rattle.division_rules.specs.Rows.{Row}
use Rattle.division_rules.specs.Units.{entrywise_sum}
use Rattle.division_rules.specs.Within.{and_then, times_within, times_all_within}
use Rattle.row_laws.specs.Compositions.{spread}
use Rattle.finish_rules.specs.Identities.{composed_within}
use Rattle.finish_rules.specs.Checks.{combination_within}

module _ (p n w : ℕ) where
  abbrev sum_with : List Polynomial → List Polynomial → Polynomial → Option Polynomial
  sum_with cs gs x = and_then (combination_within p n w cs gs) (λ y. Some (sum_of p x y))

  -- there is none where a product of later entries doesn't fit
  pub combination_none : (cs gs : List Polynomial) (i : ℕ) → combination_within p n w (drop i cs) (drop i gs) ≡ None → combination_within p n w cs gs ≡ None
  combination_none cs gs zero e = e
  combination_none [] gs (suc i) e = e
  combination_none (c ∷ cs) [] (suc i) e = go (drop i cs) e
    where
      go : (ds : List Polynomial) → combination_within p n w ds [] ≡ None → combination_within p n w (c ∷ cs) [] ≡ None
      go [] d = cc
      go (x ∷ ds) d = cc
  combination_none (c ∷ cs) (g ∷ gs) (suc i) e = go (times_within (list_operations p n) w c g) (combination_none cs gs i e)
    where
      go : (o : Option Polynomial) → combination_within p n w cs gs ≡ None → and_then o (sum_with cs gs) ≡ None
      go None d = refl
      go (Some x) d = ap (λ y. and_then y (λ z. Some (sum_of p x z))) d

  -- from the place on there is none where the product at it doesn't fit
  pub combination_wide : (cs gs : List Polynomial) (i : ℕ) (c g : Polynomial) → slice_get cs i ≡ Some c → slice_get gs i ≡ Some g → times_within (list_operations p n) w c g ≡ None → combination_within p n w cs gs ≡ None
  combination_wide cs gs i c g at_c at_g none = combination_none cs gs i (ap₂ (combination_within p n w) (drop_at cs i c at_c) (drop_at gs i g at_g) ∙ ap (λ o. and_then o (sum_with (drop (i + 1) cs) (drop (i + 1) gs))) none)

  -- one more product
  pub combination_more : (cs gs : List Polynomial) (i : ℕ) (c g x y : Polynomial) → 0 < i → slice_get cs (i - 1) ≡ Some c → slice_get gs (i - 1) ≡ Some g → times_within (list_operations p n) w c g ≡ Some x → combination_within p n w (drop i cs) (drop i gs) ≡ Some y → combination_within p n w (drop (i - 1) cs) (drop (i - 1) gs) ≡ Some (sum_of p x y)
  combination_more cs gs i c g x y some at_c at_g fits later =
      ap₂ (combination_within p n w) (drop_at cs (i - 1) c at_c) (drop_at gs (i - 1) g at_g)
      ∙ ap (λ o. and_then o (sum_with (drop (i - 1 + 1) cs) (drop (i - 1 + 1) gs))) fits
      ∙ ap (λ j. sum_with (drop j cs) (drop j gs) x) back
      ∙ ap (λ o. and_then o (λ z. Some (sum_of p x z))) later
    where
      back : i - 1 + 1 ≡ i
      back = omega arith

  -- none was made behind the last
  pub combination_end : (cs gs : List Polynomial) (k : ℕ) → k ≡ length cs → length cs ≡ length gs → combination_within p n w (drop k cs) (drop k gs) ≡ Some []
  combination_end cs gs k all same = ap₂ (combination_within p n w) (ap (λ j. drop j cs) all ∙ drop-length cs) (ap (λ j. drop j gs) (all ∙ same) ∙ drop-length gs)

  -- the composition of what was made
  pub composed_of : (f next : Row Polynomial) (a first : Polynomial) (multiplied cofactors : List Polynomial) → slice_get next.cofactors 0 ≡ Some a → times_all_within (list_operations p n) w a f.cofactors ≡ Some multiplied → cofactors ≡ entrywise_sum (list_operations p n) multiplied (spread (length f.cofactors) next.cofactors) → first ≡ next.first → Some (record { first = first; cofactors = cofactors }) ≡ composed_within p n w f next
  composed_of f next a first multiplied cofactors at fits sums same =
      ap₂ (λ x xs. Some (record { first = x; cofactors = xs })) same sums
      ∙ sym (ap (λ o. and_then o (λ cs. Some (record { first = next.first; cofactors = entrywise_sum (list_operations p n) cs (spread (length f.cofactors) next.cofactors) }))) (ap (λ b. times_all_within (list_operations p n) w b f.cofactors) (get_or_from_slice_get next.cofactors 0 a [] at) ∙ fits))

-- The powers that are to come, from one variable to the next.
use Rattle.std.proofs.Common.{◌≡◌, ◌∙◌, ℕ, zero, suc, ◌+◌, ◌<◌, ◌≤◌, Bool, true, false, List, [], ◌∷◌, ◌++◌, Some, length, drop, slice_get, refl, sym, ap, append_assoc, append-nil, add-one, arith}
use Rattle.std.proofs.lemmas.Bool.{eq-eqb, ne_eqb}
use Rattle.std.proofs.lemmas.List.{drop_all}
use Rattle.std.proofs.lemmas.Option.{slice_get_past, same_Some}
use Rattle.std.specs.Prelude.{codes}
use Rattle.polynomials.specs.Monomials.{Monomial, exponent_of}
use Rattle.report_text.specs.Polynomials.{power_text, power_texts, powers_text}

-- no exponent, no power
pub power_texts-nil : (names : List (List ℕ)) → power_texts names [] ≡ []
power_texts-nil [] = refl
power_texts-nil (name ∷ names) = refl

-- a variable with the exponent 0 has no power
pub power_texts-skip : (v : ℕ) (names : List (List ℕ)) (m : Monomial) → exponent_of v m ≡ 0
    → power_texts (drop v names) (drop v m) ≡ power_texts (drop (suc v) names) (drop (suc v) m)
power_texts-skip zero [] m e = refl
power_texts-skip zero (name ∷ names) [] e = sym (power_texts-nil names)
power_texts-skip zero (name ∷ names) (d ∷ m) e = rw (eq-eqb d 0 e) refl
power_texts-skip (suc v) [] m e = refl
power_texts-skip (suc v) (name ∷ names) [] e = power_texts-nil (drop v names) ∙ sym (power_texts-nil (drop (suc v) names))
power_texts-skip (suc v) (name ∷ names) (d ∷ m) e = power_texts-skip v names m e

-- and any other has one
pub power_texts-take : (v : ℕ) (names : List (List ℕ)) (m : Monomial) (name : List ℕ)
    → slice_get names v ≡ Some name → 0 < exponent_of v m
    → power_texts (drop v names) (drop v m) ≡ power_text name (exponent_of v m) ∷ power_texts (drop (suc v) names) (drop (suc v) m)
power_texts-take v [] m name h positive = cc (slice_get_past {X = List ℕ} [] v (omega arith))
power_texts-take v (first ∷ names) [] name h positive = absurd (omega arith)
power_texts-take zero (first ∷ names) (d ∷ m) name h positive =
    rw (ne_eqb d 0 (λ e. omega arith)) (ap (λ x. power_text x d ∷ power_texts names m) (same_Some first name h))
power_texts-take (suc v) (first ∷ names) (d ∷ m) name h positive = power_texts-take v names m name h positive

-- the first of some powers is written, and then the others
powers_text-cons : (b : Bool) (power : List ℕ) (powers : List (List ℕ)) → powers_text b (power ∷ powers) ≡ powers_text b (power ∷ []) ++ powers_text false powers
powers_text-cons true power powers = ap (λ x. x ++ powers_text false powers) (sym (append-nil power))
powers_text-cons false power powers = ap (λ x. x ++ powers_text false powers) (sym (append-nil (codes "*" ++ power)))

powers_text-nil : (b : Bool) → powers_text b [] ≡ []
powers_text-nil true = refl
powers_text-nil false = refl

module _ (names : List (List ℕ)) (m : Monomial) (v : ℕ) (b : Bool) (text all : List ℕ)
    (so_far : text ++ powers_text b (power_texts (drop v names) (drop v m)) ≡ all) where
  -- nothing is written of a variable that doesn't occur
  pub skip_turn : exponent_of v m ≡ 0 → text ++ powers_text b (power_texts (drop (v + 1) names) (drop (v + 1) m)) ≡ all
  skip_turn e = rw (add-one v, ← power_texts-skip v names m e) so_far

  -- the power of one that occurs is written
  pub take_turn : (name new : List ℕ) → slice_get names v ≡ Some name → 0 < exponent_of v m → new ≡ text ++ powers_text b (power_text name (exponent_of v m) ∷ [])
      → new ++ powers_text false (power_texts (drop (v + 1) names) (drop (v + 1) m)) ≡ all
  take_turn name new h positive e =
      rw (add-one v, e, append_assoc, ← powers_text-cons b (power_text name (exponent_of v m)) (power_texts (drop (suc v) names) (drop (suc v) m)), ← power_texts-take v names m name h positive) so_far

  -- all variables were passed
  pub last_turn : length m ≤ v → text ≡ all
  last_turn past = sym (append-nil text) ∙ (ap (λ x. text ++ x) (sym none) ∙ so_far)
    where
      none : powers_text b (power_texts (drop v names) (drop v m)) ≡ []
      none = rw (drop_all v m past, power_texts-nil (drop v names)) (powers_text-nil b)

-- Where no variable above v occurs, the terms with the greatest power of v come first.
use Rattle.std.proofs.Common.{◌≡◌, ◌≢◌, ◌<◌, ◌≤◌, ◌+◌, ◌-◌, ℕ, zero, suc, Bool, true, false, cond, eqb, Option, Some, None, List, [], ◌∷◌, ◌++◌, take, drop, length, get_or, set, refl, ap, sym, ◌∙◌, append-nil, inl, inr, arith}
use Rattle.std.proofs.lemmas.Bool.{cases_order}
use Rattle.std.proofs.lemmas.List.{take-append-drop}
use Rattle.polynomials.specs.Monomials.{exponent_of}
use Rattle.polynomials.specs.Polynomials.{Term, term, Polynomial, IsPolynomial}
use Rattle.polynomials.specs.Views.{degree_in, coefficient_in, without_power, lead_in, tail_in, main_var, IsFreeOf}
use Rattle.polynomials.proofs.CoefficientsOfOperations.{coefficient_in-append}
use Rattle.polynomials.proofs.Degrees.{coefficient_in_above}
use Rattle.polynomials.proofs.InitialLemmas.{first_exponent}
use Rattle.polynomials.proofs.MainVariables.{degree_in_main_var, free_above_main_var, free_without_main_var}
use Rattle.sparse_poly.proofs.Passes.{pass_end}
use Rattle.sparse_poly.proofs.Places.{drop_item, take_rest, IsPolynomial-item}

-- no variable above v occurs
abbrev pub IsFreeAbove : ℕ → Polynomial → Type 0
IsFreeAbove v f = (w : ℕ) → v < w → IsFreeOf w f

-- what is left has no greater degree
degree_in-drop : (v k : ℕ) (f : List Term) → degree_in v (drop k f) ≤ degree_in v f
degree_in-drop v zero f = omega arith
degree_in-drop v (suc k) [] = omega arith
degree_in-drop v (suc k) (t ∷ f) = let rest = degree_in-drop v k f in omega arith

-- the first term has the greatest power
pub first_power : (p n v : ℕ) (t : Term) (f : Polynomial) → IsPolynomial p n (t ∷ f) → IsFreeAbove v (t ∷ f) → exponent_of v t.0 ≡ degree_in v (t ∷ f)
first_power p n v t f i free = go (main_var (t ∷ f)) refl
  where
    go : (o : Option ℕ) → main_var (t ∷ f) ≡ o → exponent_of v t.0 ≡ degree_in v (t ∷ f)
    go None e = let none = free_without_main_var (t ∷ f) e v in omega arith
    go (Some w) e = elim (cases_order v w) [
      | inl same ↦ first_exponent p n v t f i (e ∙ ap Some (sym same))
      | inr (inl above) ↦ let none = free w above in let some = degree_in_main_var w (t ∷ f) e in absurd (omega arith)
      | inr (inr below) ↦ let none = free_above_main_var w v (t ∷ f) e below in omega arith
    ]

-- from a term with another power on, none has it
pub lead_ends : (p n v d k : ℕ) (f : Polynomial) (t : Term) → IsPolynomial p n f → IsFreeAbove v f → d ≡ degree_in v f → k < length f → t ≡ get_or f k t → exponent_of v t.0 ≢ d → coefficient_in v d (drop k f) ≡ []
lead_ends p n v d k f t i free top below at other =
    let first = first_power p n v t (drop (k + 1) f) (IsPolynomial-item p n k f t i below at) (λ w up. let none = free w up in let least = degree_in-drop w k f in let same = ap (degree_in w) (drop_item f k t below at) in omega arith) in
    let least = degree_in-drop v k f in
    let same = ap (degree_in v) (drop_item f k t below at) in
    coefficient_in_above v d (drop k f) (omega arith)

-- a part after which the power doesn't occur has the whole coefficient
coefficient_in-part : (v d k : ℕ) (f : List Term) → coefficient_in v d (drop k f) ≡ [] → coefficient_in v d (take k f) ≡ coefficient_in v d f
coefficient_in-part v d k f none =
    sym (append-nil (coefficient_in v d (take k f)))
    ∙ (ap (λ l. coefficient_in v d (take k f) ++ l) (sym none)
    ∙ (sym (coefficient_in-append v d (take k f) (drop k f)) ∙ ap (coefficient_in v d) (take-append-drop k f)))

-- where no term has the power, each stays
without_power-itself : (v d : ℕ) (f : List Term) → coefficient_in v d f ≡ [] → without_power v d f ≡ f
without_power-itself v d [] none = refl
without_power-itself v d (t ∷ f) none = go (eqb (exponent_of v t.0) d) none (without_power-itself v d f)
  where
    go : (b : Bool) → cond b (term (set t.0 v 0) t.1 ∷ coefficient_in v d f) (coefficient_in v d f) ≡ [] → (coefficient_in v d f ≡ [] → without_power v d f ≡ f) → cond b (without_power v d f) (t ∷ without_power v d f) ≡ t ∷ f
    go true h later = cc
    go false h later = ap (λ l. t ∷ l) (later h)

-- the other powers of two lists one after the other
without_power-append : (v d : ℕ) (f g : List Term) → without_power v d (f ++ g) ≡ without_power v d f ++ without_power v d g
without_power-append v d [] g = refl
without_power-append v d (t ∷ f) g = go (eqb (exponent_of v t.0) d) (without_power-append v d f g)
  where
    go : (b : Bool) → without_power v d (f ++ g) ≡ without_power v d f ++ without_power v d g → cond b (without_power v d (f ++ g)) (t ∷ without_power v d (f ++ g)) ≡ cond b (without_power v d f) (t ∷ without_power v d f) ++ without_power v d g
    go true later = later
    go false later = ap (λ l. t ∷ l) later

-- and the other powers are those of the part, and the rest
without_power-part : (v d k : ℕ) (f : List Term) → coefficient_in v d (drop k f) ≡ [] → without_power v d (take k f) ++ drop k f ≡ without_power v d f
without_power-part v d k f none =
    ap (λ l. without_power v d (take k f) ++ l) (sym (without_power-itself v d (drop k f) none))
    ∙ (sym (without_power-append v d (take k f) (drop k f)) ∙ ap (without_power v d) (take-append-drop k f))

module _ (v d k i : ℕ) (f g out : List Term) (same : g ≡ f) (top : d ≡ degree_in v f) (none : coefficient_in v d (drop k f) ≡ []) (end : length (take k g) ≤ i) where
  -- a pass over the part finds the lead
  pub lead_found : out ++ coefficient_in v d (drop i (take k g)) ≡ coefficient_in v d (take k g) → out ≡ lead_in v f
  lead_found h =
      pass_end (coefficient_in v d) refl out (take k g) _ i end h
      ∙ (ap (λ l. coefficient_in v d (take k l)) same ∙ (coefficient_in-part v d k f none ∙ ap (λ e. coefficient_in v e f) top))

  -- and the part of the tail before the rest
  pub tail_found : out ++ without_power v d (drop i (take k g)) ≡ without_power v d (take k g) → out ++ drop k g ≡ tail_in v f
  tail_found h =
      ap (λ l. l ++ drop k g) (pass_end (without_power v d) refl out (take k g) _ i end h)
      ∙ (ap (λ l. without_power v d (take k l) ++ drop k l) same ∙ (without_power-part v d k f none ∙ ap (λ e. without_power v e f) top))

  -- and with the rest it is the tail
  pub tail_made : (h made : List Term) → h ≡ f → out ++ without_power v d (drop i (take k g)) ≡ without_power v d (take k g) → made ≡ out ++ take (length h - k) (drop k h) → made ≡ tail_in v f
  tail_made h made again turns is =
      is ∙ (ap (λ l. out ++ l) (take_rest h k ∙ ap (drop k) (again ∙ sym same)) ∙ tail_found turns)

-- The rows after one turn, and the outcome of a sequence by its next turn.
use Rattle.std.proofs.Common.{◌≡◌, ◌≢◌, ℕ, suc, true, false, Bool, eqb, List, [], ◌∷◌, ◌++◌, drop, Option, Some, None, refl, sym, ap, ◌∙◌, append_assoc, append-nil, unwrap_or}
use Rattle.std.proofs.lemmas.Bool.{eqb-true}
use Rattle.polynomials.specs.Polynomials.{Polynomial, is_zero}
use Rattle.polynomials.specs.Views.{degree_in}
use Rattle.division_rules.specs.Operations.{lead}
use Rattle.division_rules.specs.Rows.{Row}
use Rattle.division_rules.specs.Within.{and_then}
use Rattle.division_rules.specs.RemainderRows.{LaterRows, TurnBefore, with_row, divided, fall, leads}
use Rattle.division_rules.specs.RemainderRowsWithin.{psi_within, beta_within, undivided_within, rows_onward, rows_from_within}
use Rattle.pseudo_division.specs.FieldOperations.{operations}
use Rattle.subresultants.specs.Outcomes.{with_leads, outcome_after}
use Rattle.subresultants.specs.Turns.{divisors_within, divided_turn, turn_within}
use Rattle.subresultants.specs.AllRows.{AllRemainders, Coprime, Common, TooWide}
use Rattle.subresultants.specs.declared.turn.NextRow.{NextRow}
use Rattle.subresultants.specs.declared.turn.NextRow.TheVariants.{Zero, Later}

-- steps one after the other
and_then-and_then : {X Y Z : Type 0} (x : Option X) (f : X → Option Y) (g : Y → Option Z) → and_then (and_then x f) g ≡ and_then x (λ z. and_then (f z) g)
and_then-and_then None f g = refl
and_then-and_then (Some x) f g = refl

-- the same second step
and_then-same : {X Y : Type 0} (x : Option X) (f g : X → Option Y) → ((z : X) → f z ≡ g z) → and_then x f ≡ and_then x g
and_then-same None f g same = refl
and_then-same (Some x) f g same = same x

-- psi and beta, each by a step of its own or both by one
two_steps : {Q B T R : Type 0} (x : Option Q) (f : Q → Option B) (on : Q → B → Option R) (made : (Q × B) → T) (after : T → Option R) → ((q : Q) (b : B) → on q b ≡ after (made (q, b))) → and_then x (λ q. and_then (f q) (λ b. on q b)) ≡ and_then (and_then (and_then x (λ q. and_then (f q) (λ b. Some (q, b)))) (λ z. Some (made z))) after
two_steps None f on made after same = refl
two_steps (Some q) f on made after same = go (f q)
  where
    go : (y : Option _) → and_then y (λ b. on q b) ≡ and_then (and_then (and_then y (λ b. Some (q, b))) (λ z. Some (made z))) after
    go None = refl
    go (Some b) = same q b

module _ (p w v : ℕ) (chain : List (Row Polynomial)) where
  -- the rows after g, from the turn on that follows it
  abbrev rows_after : ℕ → Row Polynomial → NextRow → Option (LaterRows Polynomial)
  rows_after k g (Zero s) = Some (record { later = []; last = Some s })
  rows_after k g (Later h m) = elim (eqb (degree_in v h.first) 0) [
    | true ↦ Some (record { later = h ∷ []; last = None })
    | false ↦ and_then (rows_from_within (operations p) w v chain k (Some m) g h) (λ rows. Some (with_row h rows))
  ]

  module _ (k : ℕ) (m : TurnBefore (operations p)) (f g : Row Polynomial) where
    abbrev d : ℕ
    d = fall (operations p) v f g

    abbrev psi : Option Polynomial
    psi = psi_within (operations p) w m (lead (operations p) v f.first)

    abbrev beta : Polynomial → Option Polynomial
    beta q = beta_within (operations p) w m (lead (operations p) v f.first) q d

    abbrev divisors : Option (Polynomial × Polynomial)
    divisors = divisors_within p w v m f d

    abbrev further : TurnBefore (operations p) → Row Polynomial → Row Polynomial → Option (LaterRows Polynomial)
    further n x y = rows_from_within (operations p) w v chain k n x y

    abbrev later : Row Polynomial → Polynomial × Polynomial → NextRow
    later s qb = Later (unwrap_or (divided (operations p) w qb.1 s) s) (qb.0, d)

    -- from the row before its division
    from_undivided : (s : Row Polynomial) (b : Bool) → elim b as (λ _. Option (LaterRows Polynomial)) [ true ↦ Some (record { later = []; last = Some s }) | false ↦ and_then psi (λ q. and_then (beta q) (λ b. rows_onward (operations p) w v further f g s q b)) ] ≡ and_then (elim b as (λ _. Option NextRow) [ true ↦ Some (Zero s) | false ↦ and_then divisors (λ qb. Some (later s qb)) ]) (rows_after k g)
    from_undivided s true = refl
    from_undivided s false = two_steps psi beta (λ q b. rows_onward (operations p) w v further f g s q b) (later s) (rows_after k g) (λ q b. refl)

    -- the rows after f and g, by the next turn
    rows_from_within-turn : rows_from_within (operations p) w v chain (suc k) m f g ≡ and_then (turn_within p w v chain m f g) (rows_after k g)
    rows_from_within-turn =
        and_then-same (undivided_within (operations p) w v chain f g) _ (λ s. and_then (divided_turn p w v m f g s) (rows_after k g)) (λ s. from_undivided s (is_zero s.first))
        ∙ sym (and_then-and_then (undivided_within (operations p) w v chain f g) (λ s. divided_turn p w v m f g s) (rows_after k g))

    module _ (rows : List (Row Polynomial)) where
      -- the outcome of the sequence so far
      abbrev Outcome : AllRemainders
      Outcome = outcome_after p v rows (rows_from_within (operations p) w v chain (suc k) m f g)

      by_turn : (t : Option NextRow) → turn_within p w v chain m f g ≡ t → Outcome ≡ outcome_after p v rows (and_then t (rows_after k g))
      by_turn t e = ap (outcome_after p v rows) (rows_from_within-turn ∙ ap (λ x. and_then x (rows_after k g)) e)

      -- where a product doesn't fit
      pub outcome-too_wide : turn_within p w v chain m f g ≡ None → Outcome ≡ TooWide
      outcome-too_wide e = by_turn None e

      -- where a zero row follows
      pub outcome-zero : (s : Row Polynomial) → turn_within p w v chain m f g ≡ Some (Zero s) → Outcome ≡ Common (with_leads p v rows) s
      outcome-zero s e = by_turn (Some (Zero s)) e ∙ ap (λ rs. Common (with_leads p v rs) s) (append-nil rows)

      module _ (h : Row Polynomial) (next : Polynomial × ℕ) (e : turn_within p w v chain m f g ≡ Some (Later h next)) where
        -- where a row of degree 0 follows
        pub outcome-last : degree_in v h.first ≡ 0 → Outcome ≡ Coprime (with_leads p v (rows ++ h ∷ []))
        outcome-last low = by_turn (Some (Later h next)) e ∙ ap (λ d. outcome_after p v rows (elim (eqb d 0) as (λ _. Option (LaterRows Polynomial)) [ true ↦ Some (record { later = h ∷ []; last = None }) | false ↦ and_then (rows_from_within (operations p) w v chain k (Some next) g h) (λ rs. Some (with_row h rs)) ])) low

        -- where another row follows, which is one of the rows so far then
        pub outcome-later : degree_in v h.first ≢ 0 → Outcome ≡ outcome_after p v (rows ++ h ∷ []) (rows_from_within (operations p) w v chain k (Some next) g h)
        outcome-later high = by_turn (Some (Later h next)) e ∙ go (eqb (degree_in v h.first) 0) refl
          where
            one_more : (x : Option (LaterRows Polynomial)) → outcome_after p v rows (and_then x (λ rs. Some (with_row h rs))) ≡ outcome_after p v (rows ++ h ∷ []) x
            one_more None = refl
            one_more (Some rs) = ap (λ zs. outcome_after p v [] (Some (record { later = zs; last = rs.last }))) (sym (append_assoc rows (h ∷ []) rs.later))

            go : (b : Bool) → eqb (degree_in v h.first) 0 ≡ b → outcome_after p v rows (elim b as (λ _. Option (LaterRows Polynomial)) [ true ↦ Some (record { later = h ∷ []; last = None }) | false ↦ and_then (rows_from_within (operations p) w v chain k (Some next) g h) (λ rs. Some (with_row h rs)) ]) ≡ outcome_after p v (rows ++ h ∷ []) (rows_from_within (operations p) w v chain k (Some next) g h)
            go true d = absurd (high (eqb-true (degree_in v h.first) 0 d))
            go false d = one_more (rows_from_within (operations p) w v chain k (Some next) g h)

  -- where no turn is left
  pub outcome-end : (m : TurnBefore (operations p)) (f g : Row Polynomial) (rows : List (Row Polynomial)) → outcome_after p v rows (rows_from_within (operations p) w v chain 0 m f g) ≡ Coprime (with_leads p v rows)
  outcome-end m f g rows = ap (λ rs. Coprime (with_leads p v rs)) (append-nil rows)

-- the leads with one row more
pub leads-more : (p v : ℕ) (rows : List (Row Polynomial)) (h : Row Polynomial) → rows ≢ [] → leads (operations p) v (drop 1 (rows ++ h ∷ [])) ≡ leads (operations p) v (drop 1 rows) ++ lead (operations p) v h.first ∷ []
leads-more p v [] h some = absurd (some refl)
leads-more p v (f ∷ rows) h some = go rows
  where
    go : (fs : List (Row Polynomial)) → leads (operations p) v (fs ++ h ∷ []) ≡ leads (operations p) v fs ++ lead (operations p) v h.first ∷ []
    go [] = refl
    go (g ∷ fs) = ap (λ zs. lead (operations p) v g.first ∷ zs) (go fs)

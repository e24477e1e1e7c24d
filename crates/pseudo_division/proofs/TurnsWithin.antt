-- Turns of remainders, by one more turn at a time.
use Rattle.std.proofs.Common.{◌≡◌, ◌<◌, ◌+◌, ◌-◌, ℕ, suc, true, false, Option, Some, sym, ap, ◌∙◌, arith}
use Rattle.division_rules.specs.Operations.{Operations}
use Rattle.division_rules.specs.Rows.{Row, is_reduced_by}
use Rattle.division_rules.specs.Within.{and_then, elimination_within, pseudo_turn_within, pseudo_remainder_by_within, sparse_remainder_by_within}

-- one turn less is left
turn_less : (n k : ℕ) → k < n → n - k ≡ suc (n - (k + 1))
turn_less n k h = omega arith

module _ {A : Type 0} (o : Operations A) (w v : ℕ) (g f : Row A) (n k : ℕ) (left : k < n) where
  -- a turn of the pseudo-remainder that gives h
  pub pseudo_remainder_by_within-turn : (t : Option (Row A)) → t ≡ pseudo_turn_within o w v g f → pseudo_remainder_by_within o w v g (n - k) f ≡ and_then t (λ x. pseudo_remainder_by_within o w v g (n - (k + 1)) x)
  pseudo_remainder_by_within-turn t is = ap (λ j. pseudo_remainder_by_within o w v g j f) (turn_less n k left) ∙ ap (λ y. and_then y (λ x. pseudo_remainder_by_within o w v g (n - (k + 1)) x)) (sym is)

  -- where no elimination is left, f stays
  pub sparse_remainder_by_within-stop : is_reduced_by o v g f ≡ true → sparse_remainder_by_within o w v g (n - k) f ≡ Some f
  sparse_remainder_by_within-stop reduced = ap (λ j. sparse_remainder_by_within o w v g j f) (turn_less n k left) ∙ ap (λ b. elim b as (λ _. Option (Row A)) [ true ↦ Some f | false ↦ and_then (elimination_within o w v f g) (λ x. sparse_remainder_by_within o w v g (n - (k + 1)) x) ]) reduced

  -- an elimination
  pub sparse_remainder_by_within-turn : (t : Option (Row A)) → is_reduced_by o v g f ≡ false → t ≡ elimination_within o w v f g → sparse_remainder_by_within o w v g (n - k) f ≡ and_then t (λ x. sparse_remainder_by_within o w v g (n - (k + 1)) x)
  sparse_remainder_by_within-turn t more is =
      ap (λ j. sparse_remainder_by_within o w v g j f) (turn_less n k left)
      ∙ ap (λ b. elim b as (λ _. Option (Row A)) [ true ↦ Some f | false ↦ and_then (elimination_within o w v f g) (λ x. sparse_remainder_by_within o w v g (n - (k + 1)) x) ]) more
      ∙ ap (λ y. and_then y (λ x. sparse_remainder_by_within o w v g (n - (k + 1)) x)) (sym is)

-- What the laws of division stand over: polynomials with their views, and values of them in a ring.
use Rattle.std.specs.Prelude.{◌≡◌, ◌≢◌, List}
use Rattle.polynomials.specs.Rings.{Ring, IsIntegral}
use Rattle.division_rules.specs.Operations.{Views, Operations, operations_of, initial}
use Rattle.division_rules.specs.Rows.{Row}
use Rattle.division_rules.specs.Laws.{Laws}
use Rattle.division_rules.specs.Chains.{EachRow}
use Rattle.division_rules.specs.Points.{IsValue}

-- a ring with views that meet the laws of division
pub record ViewedRing (A : Type 0) : Type 1 where
  pub ring : Ring A
  pub views : Views A
  pub laws : Laws A ring views

-- its operations, without the laws
abbrev pub operations : {A : Type 0} → ViewedRing A → Operations A
operations P = operations_of P.ring P.views

-- values of polynomials in a ring where products are 0 only by a factor
pub record Evaluation {A : Type 0} (P : ViewedRing A) (B : Type 0) : Type 0 where
  pub values : Ring B
  pub val : A → B
  pub is_value : IsValue P.ring values val
  pub integral : IsIntegral values
  pub one_not_nil : values.one ≢ values.nil

module _ {A B : Type 0} (P : ViewedRing A) (E : Evaluation P B) where
  -- f is zero at the point, or it isn't
  abbrev pub IsZero : A → Type 0
  IsZero f = E.val f ≡ E.values.nil

  -- f is not zero at the point
  abbrev pub NotZero : A → Type 0
  NotZero f = E.val f ≢ E.values.nil

  -- the members of a chain are zero
  abbrev pub AllZero : List (Row A) → Type 0
  AllZero chain = EachRow (λ t. IsZero t.first) chain

  -- their initials are not
  abbrev pub InitialsNotZero : List (Row A) → Type 0
  InitialsNotZero chain = EachRow (λ t. NotZero (initial (operations P) t.first)) chain

-- Chains of rows, and what is reduced by one, in terms of the laws of views.
use Rattle.std.specs.Prelude.{◌⊎◌, ℕ, ◌<◌, ◌≤◌, List, [], ◌∷◌, Option, IfSome}
use Rattle.std.specs.List.{AllByRecursion}
use Rattle.polynomials.specs.Rings.{Ring}
use Rattle.division_rules.specs.Operations.{Views}
use Rattle.division_rules.specs.Rows.{Row}
use Rattle.division_rules.specs.Laws.{Laws}

-- P holds of each row
abbrev pub EachRow : {A : Type 0} → (Row A → Type 0) → List (Row A) → Type 0
EachRow P rows = AllByRecursion P rows

-- P holds of a row
abbrev pub AnyRow : {A : Type 0} → (Row A → Type 0) → List (Row A) → Type 0
AnyRow P [] = ⊥
AnyRow P (t ∷ chain) = P t ⊎ AnyRow P chain

-- P holds of the row, where there is one
abbrev pub IfRow : {A : Type 0} → (Row A → Type 0) → Option (Row A) → Type 0
IfRow P o = IfSome o P

module _ {A : Type 0} (r : Ring A) (s : Views A) (laws : Laws A r s) where
  -- t lies below u: its main variable is less, and it has none of u's
  abbrev pub IsBelow : Row A → Row A → Type 0
  IsBelow t u = (s.main t.first < s.main u.first) × laws.Under (s.main u.first) 1 t.first

  -- main variables increase, and each occurs in its member
  abbrev pub IsChain : List (Row A) → Type 0
  IsChain [] = Unit {0}
  IsChain (t ∷ chain) =
      (1 ≤ s.degree (s.main t.first) t.first) × EachRow (IsBelow t) chain × IsChain chain

  -- the degree of f in the main variable of t is less than that of t
  abbrev pub IsLessInMain : A → Row A → Type 0
  IsLessInMain f t = laws.Under (s.main t.first) (s.degree (s.main t.first) t.first) f

  -- f is reduced by each member of the chain
  abbrev pub IsReduced : List (Row A) → A → Type 0
  IsReduced chain f = EachRow (IsLessInMain f) chain

  -- no member has x
  abbrev pub IsFree : ℕ → List (Row A) → Type 0
  IsFree x chain = EachRow (λ t. laws.Under x 1 t.first) chain

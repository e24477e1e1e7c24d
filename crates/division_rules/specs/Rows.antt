-- Rows, elimination, sparse and full pseudo-remainders, and reduction by a chain.
use Rattle.std.specs.Prelude.{ℕ, zero, suc, ◌-◌, Bool, true, false, ◌||◌, ltb, List, [], ◌∷◌, map}
use Rattle.polynomials.specs.Sums.{sum_of_products}
use Rattle.division_rules.specs.Operations.{Operations, lead, shifted_lead}

-- a first entry, and its cofactors over named generators
pub record Row (A : Type 0) : Type 0 where
  pub first : A
  pub cofactors : List A

-- a polynomial as a row without cofactors
abbrev pub plain : {A : Type 0} → A → Row A
plain f = record { first = f; cofactors = [] }

-- polynomials as rows without cofactors
abbrev pub plains : {A : Type 0} → List A → List (Row A)
plains fs = map plain fs

-- the first entries of rows
abbrev pub first_entries : {A : Type 0} → List (Row A) → List A
first_entries rows = map (λ f. f.first) rows

module _ {A : Type 0} (o : Operations A) where
  -- the sum of the cofactors times the generators
  abbrev pub combined : List A → List A → A
  combined cs gs = sum_of_products o.nil o.plus o.times cs gs

  -- l f - m g
  abbrev pub cross : A → A → A → A → A
  cross l m f g = o.plus (o.times l f) (o.minus (o.times m g))

  -- the same of each pair of entries
  abbrev pub cross_all : A → A → List A → List A → List A
  cross_all l m [] ds = []
  cross_all l m (c ∷ cs) [] = []
  cross_all l m (c ∷ cs) (d ∷ ds) = cross l m c d ∷ cross_all l m cs ds

  -- the same of each pair of entries of two rows
  abbrev pub cross_rows : A → A → Row A → Row A → Row A
  cross_rows l m f g =
      record {
        first = cross l m f.first g.first;
        cofactors = cross_all l m f.cofactors g.cofactors;
      }

  -- one elimination: the lead of g times f, less the multiple of g with the same lead
  abbrev pub elimination : ℕ → Row A → Row A → Row A
  elimination v f g = cross_rows (lead o v g.first) (shifted_lead o v f.first g.first) f g

  -- no elimination by g is left: f is 0, or its degree in v is less than that of g
  abbrev pub is_reduced_by : ℕ → Row A → Row A → Bool
  is_reduced_by v g f =
      o.views.is_nil f.first || ltb (o.views.degree v f.first) (o.views.degree v g.first)

  -- at most k eliminations by g, until none is left
  abbrev pub sparse_remainder_by : ℕ → Row A → ℕ → Row A → Row A
  sparse_remainder_by v g zero f = f
  sparse_remainder_by v g (suc k) f =
      elim (is_reduced_by v g f) [
        | true ↦ f
        | false ↦ sparse_remainder_by v g k (elimination v f g)
      ]

  -- one more than the degrees in v differ, which bounds the eliminations
  abbrev pub turns : ℕ → A → A → ℕ
  turns v f g = suc (o.views.degree v f - o.views.degree v g)

  -- the sparse pseudo-remainder: eliminations until none is left
  abbrev pub sparse_remainder : ℕ → Row A → Row A → Row A
  sparse_remainder v f g = sparse_remainder_by v g (turns v f.first g.first) f

  -- each entry times l
  abbrev pub times_row : A → Row A → Row A
  times_row l f = record { first = o.times l f.first; cofactors = map (o.times l) f.cofactors }

  -- a turn: an elimination by g or, where none is left, a multiplication by its lead
  abbrev pub pseudo_turn : ℕ → Row A → Row A → Row A
  pseudo_turn v g f = elim (is_reduced_by v g f) [
    | true ↦ times_row (lead o v g.first) f
    | false ↦ elimination v f g
  ]

  -- k turns
  abbrev pub pseudo_remainder_by : ℕ → Row A → ℕ → Row A → Row A
  pseudo_remainder_by v g zero f = f
  pseudo_remainder_by v g (suc k) f = pseudo_remainder_by v g k (pseudo_turn v g f)

  -- the pseudo-remainder, with the power d - e + 1 for the degrees d and e
  abbrev pub pseudo_remainder : ℕ → Row A → Row A → Row A
  pseudo_remainder v f g = pseudo_remainder_by v g (turns v f.first g.first) f

  -- the reduction by a chain: sparse remainders by its rows in their main variables, the last row
  -- first
  abbrev pub reduction : List (Row A) → Row A → Row A
  reduction [] f = f
  reduction (t ∷ chain) f = sparse_remainder (o.views.main t.first) (reduction chain f) t

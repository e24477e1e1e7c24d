-- Sums of cofactors times generators: their laws.
use Rattle.std.proofs.Common.{◌≡◌, ℕ, zero, suc, List, [], ◌∷◌, ◌++◌, length, map, replicate, refl, sym, ap, ap₂, ◌∙◌, arith}
use Rattle.polynomials.specs.Rings.{Ring}
use Rattle.polynomials.proofs.RingLaws.{plus-times, plus_four, nil-plus, times-nil, nil-times, times-plus, times_assoc, plus_assoc, neg-nil}
use Rattle.polynomials.proofs.Solver.{var, ◌:+◌, ◌:-◌, ◌:*◌, solve}
use Rattle.division_rules.specs.Operations.{Operations, Views, operations_of}
use Rattle.division_rules.specs.Rows.{combined, cross_all}
use Rattle.division_rules.specs.Units.{entrywise_sum}

module _ {A : Type 0} (r : Ring A) (s : Views A) where
  open r use {◌⊕◌, ◌⊗◌, nil, one, neg}

  abbrev o : Operations A
  o = operations_of r s

  -- a factor of each cofactor is one of the sum
  pub combined-times : (l : A) (cs gs : List A) → combined o (map (◌⊗◌ l) cs) gs ≡ l ⊗ combined o cs gs
  combined-times l [] gs = sym (times-nil r l)
  combined-times l (c ∷ cs) [] = sym (times-nil r l)
  combined-times l (c ∷ cs) (g ∷ gs) = ap₂ ◌⊕◌ (times_assoc r l c g) (combined-times l cs gs) ∙ sym (times-plus r l (c ⊗ g) (combined o cs gs))

  nothing_crossed : (l m : A) → nil ≡ l ⊗ nil ⊕ neg (m ⊗ nil)
  nothing_crossed l m = sym (ap₂ (λ x y. x ⊕ neg y) (times-nil r l) (times-nil r m) ∙ nil-plus r (neg nil) ∙ neg-nil r)

  crossed : (l m c d g x y : A) → (l ⊗ c ⊕ neg (m ⊗ d)) ⊗ g ⊕ (l ⊗ x ⊕ neg (m ⊗ y)) ≡ l ⊗ (c ⊗ g ⊕ x) ⊕ neg (m ⊗ (d ⊗ g ⊕ y))
  crossed l m c d g x y = solve r (l ∷ m ∷ c ∷ d ∷ g ∷ x ∷ y ∷ []) ((var 0 :* var 2 :- var 1 :* var 3) :* var 4 :+ (var 0 :* var 5 :- var 1 :* var 6)) (var 0 :* (var 2 :* var 4 :+ var 5) :- var 1 :* (var 3 :* var 4 :+ var 6)) refl

  -- and l f - m g of cofactors is that of the sums
  pub combined-cross_all : (l m : A) (cs ds gs : List A) → length cs ≡ length ds → combined o (cross_all o l m cs ds) gs ≡ l ⊗ combined o cs gs ⊕ neg (m ⊗ combined o ds gs)
  combined-cross_all l m [] [] gs same = nothing_crossed l m
  combined-cross_all l m [] (d ∷ ds) gs same = cc
  combined-cross_all l m (c ∷ cs) [] gs same = cc
  combined-cross_all l m (c ∷ cs) (d ∷ ds) [] same = nothing_crossed l m
  combined-cross_all l m (c ∷ cs) (d ∷ ds) (g ∷ gs) same = ap (λ x. (l ⊗ c ⊕ neg (m ⊗ d)) ⊗ g ⊕ x) (combined-cross_all l m cs ds gs (omega (arith, same))) ∙ crossed l m c d g (combined o cs gs) (combined o ds gs)

  -- there are as many of them
  pub length-cross_all : (l m : A) (cs ds : List A) → length cs ≡ length ds → length (cross_all o l m cs ds) ≡ length cs
  length-cross_all l m [] ds same = refl
  length-cross_all l m (c ∷ cs) [] same = cc
  length-cross_all l m (c ∷ cs) (d ∷ ds) same = ap suc (length-cross_all l m cs ds (omega (arith, same)))

  -- cofactors 0 give 0
  pub combined-zeros : (n : ℕ) (gs : List A) → combined o (replicate n nil) gs ≡ nil
  combined-zeros zero gs = refl
  combined-zeros (suc n) [] = refl
  combined-zeros (suc n) (g ∷ gs) = ap₂ ◌⊕◌ (nil-times r g) (combined-zeros n gs) ∙ nil-plus r nil

  -- sums over two lists of generators, one after the other
  pub combined-append : (cs ds gs hs : List A) → length cs ≡ length gs → combined o (cs ++ ds) (gs ++ hs) ≡ combined o cs gs ⊕ combined o ds hs
  combined-append [] ds [] hs same = sym (nil-plus r (combined o ds hs))
  combined-append [] ds (g ∷ gs) hs same = cc
  combined-append (c ∷ cs) ds [] hs same = cc
  combined-append (c ∷ cs) ds (g ∷ gs) hs same = ap (λ x. c ⊗ g ⊕ x) (combined-append cs ds gs hs (omega (arith, same))) ∙ sym (plus_assoc r (c ⊗ g) (combined o cs gs) (combined o ds hs))

  -- the combination of a sum is the sum of the combinations
  pub combined-entrywise_sum : (cs ds gs : List A) → length cs ≡ length ds → combined o (entrywise_sum o cs ds) gs ≡ combined o cs gs ⊕ combined o ds gs
  combined-entrywise_sum [] [] gs same = sym (nil-plus r nil)
  combined-entrywise_sum [] (d ∷ ds) gs same = cc
  combined-entrywise_sum (c ∷ cs) [] gs same = cc
  combined-entrywise_sum (c ∷ cs) (d ∷ ds) [] same = sym (nil-plus r nil)
  combined-entrywise_sum (c ∷ cs) (d ∷ ds) (g ∷ gs) same = ap₂ ◌⊕◌ (plus-times r c d g) (combined-entrywise_sum cs ds gs (omega (arith, same))) ∙ plus_four r (c ⊗ g) (d ⊗ g) (combined o cs gs) (combined o ds gs)

  -- there are as many sums
  pub length-entrywise_sum : (cs ds : List A) → length cs ≡ length ds → length (entrywise_sum o cs ds) ≡ length cs
  length-entrywise_sum [] ds same = refl
  length-entrywise_sum (c ∷ cs) [] same = cc
  length-entrywise_sum (c ∷ cs) (d ∷ ds) same = ap suc (length-entrywise_sum cs ds (omega (arith, same)))

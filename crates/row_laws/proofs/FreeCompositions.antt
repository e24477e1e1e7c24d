-- Variables that no entry of a composition has.
use Rattle.std.proofs.Common.{ℕ, zero, suc, ◌-◌, List, [], ◌∷◌, ◌++◌, length, map, replicate, refl, arith}
use Rattle.polynomials.specs.Polynomials.{Polynomial, sum_of, product_of}
use Rattle.polynomials.specs.Views.{IsFreeOf, AreFreeOf}
use Rattle.polynomials.proofs.Degrees.{degree_in-sum_of, degree_in-product_of}
use Rattle.division_rules.specs.Cofactors.{first_cofactor}
use Rattle.division_rules.specs.Lists.{list_operations}
use Rattle.division_rules.specs.Rows.{Row}
use Rattle.division_rules.specs.Units.{entrywise_sum}
use Rattle.row_laws.specs.Degrees.{IsRowFreeOf}
use Rattle.row_laws.specs.Compositions.{spread, composition, CompositionsAreFree}

module _ (p n : ℕ) where
  -- sums and products
  sum_free : (x : ℕ) (f g : Polynomial) → IsFreeOf x f → IsFreeOf x g → IsFreeOf x (sum_of p f g)
  sum_free x f g free_f free_g = let bound = degree_in-sum_of x p 0 f g (omega (arith, free_f)) (omega (arith, free_g)) in omega (arith, bound)

  product_free : (x : ℕ) (f g : Polynomial) → IsFreeOf x f → IsFreeOf x g → IsFreeOf x (product_of p f g)
  product_free x f g free_f free_g = let bound = degree_in-product_of x p 0 0 f g (omega (arith, free_f)) (omega (arith, free_g)) in omega (arith, bound)

  products_free : (x : ℕ) (a : Polynomial) (cs : List Polynomial) → IsFreeOf x a → AreFreeOf x cs → AreFreeOf x (map (product_of p a) cs)
  products_free x a [] free_a free = tt
  products_free x a (c ∷ cs) free_a free = (product_free x a c free_a free.0, products_free x a cs free_a free.1)

  sums_free : (x : ℕ) (cs ds : List Polynomial) → AreFreeOf x cs → AreFreeOf x ds → AreFreeOf x (entrywise_sum (list_operations p n) cs ds)
  sums_free x [] ds free_cs free_ds = tt
  sums_free x (c ∷ cs) [] free_cs free_ds = tt
  sums_free x (c ∷ cs) (d ∷ ds) free_cs free_ds = (sum_free x c d free_cs.0 free_ds.0, sums_free x cs ds free_cs.1 free_ds.1)

  zeros_free : (x k : ℕ) → AreFreeOf x (replicate k [])
  zeros_free x zero = tt
  zeros_free x (suc k) = (refl, zeros_free x k)

  appended_free : (x : ℕ) (fs gs : List Polynomial) → AreFreeOf x fs → AreFreeOf x gs → AreFreeOf x (fs ++ gs)
  appended_free x [] gs free_fs free_gs = free_gs
  appended_free x (f ∷ fs) gs free_fs free_gs = (free_fs.0, appended_free x fs gs free_fs.1 free_gs)

  spread_free : (x count : ℕ) (cs : List Polynomial) → AreFreeOf x cs → AreFreeOf x (spread count cs)
  spread_free x count [] free = zeros_free x count
  spread_free x count (a ∷ []) free = zeros_free x count
  spread_free x count (a ∷ b ∷ bs) free = (refl, appended_free x bs (b ∷ replicate (count - length (a ∷ b ∷ bs)) []) free.1.1 (free.1.0, zeros_free x (count - length (a ∷ b ∷ bs))))

  first_free : (x : ℕ) (next : Row Polynomial) → AreFreeOf x next.cofactors → IsFreeOf x (first_cofactor (list_operations p n) next)
  first_free x next free = go next.cofactors free
    where
      go : (cs : List Polynomial) → AreFreeOf x cs → IsFreeOf x (first_cofactor (list_operations p n) (record { first = []; cofactors = cs }))
      go [] h = refl
      go (c ∷ cs) h = h.0

  -- no entry of a composition has a variable that no entry of both rows has
  pub composition_free : (x : ℕ) (f next : Row Polynomial) → IsRowFreeOf x f → IsRowFreeOf x next → IsRowFreeOf x (composition p n f next)
  composition_free x f next free free_next = (free_next.0, sums_free x (map (product_of p (first_cofactor (list_operations p n) next)) f.cofactors) (spread (length f.cofactors) next.cofactors) (products_free x (first_cofactor (list_operations p n) next) f.cofactors (first_free x next free_next.1) free.1) (spread_free x (length f.cofactors) next.cofactors free_next.1))

-- the law
pub compositions_are_free : CompositionsAreFree
compositions_are_free p n x f next free free_next = composition_free p n x f next free free_next

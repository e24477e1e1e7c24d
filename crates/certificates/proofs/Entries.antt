-- Lists of entries that are made one by one.
use Rattle.std.proofs.Common.{◌≡◌, ◌+◌, ◌-◌, ◌<◌, ℕ, zero, suc, List, [], ◌∷◌, ◌++◌, length, drop, replicate, Some, sym, ap, ap₂, ◌∙◌, append_assoc, arith}
use Rattle.std.specs.List.{slice_get}
use Rattle.item_lists.proofs.Places.{drop_at}
use Rattle.polynomials.specs.Polynomials.{Polynomial, ArePolynomials, sum_of}
use Rattle.polynomials.proofs.PolynomialLists.{ArePolynomials-append}
use Rattle.division_rules.specs.Lists.{list_operations}
use Rattle.division_rules.specs.Units.{entrywise_sum}
use Rattle.row_laws.specs.Compositions.{spread}

-- one more sum
pub sums_more : (p n : ℕ) (left right made longer whole : List Polynomial) (i : ℕ) (x y : Polynomial) → slice_get left i ≡ Some x → slice_get right i ≡ Some y → longer ≡ made ++ sum_of p x y ∷ [] → made ++ entrywise_sum (list_operations p n) (drop i left) (drop i right) ≡ whole → longer ++ entrywise_sum (list_operations p n) (drop (i + 1) left) (drop (i + 1) right) ≡ whole
sums_more p n left right made longer whole i x y at_x at_y is before =
    ap (λ zs. zs ++ rest) is
    ∙ append_assoc made (sum_of p x y ∷ []) rest
    ∙ ap (λ zs. made ++ zs) (sym (ap₂ (entrywise_sum (list_operations p n)) (drop_at left i x at_x) (drop_at right i y at_y)))
    ∙ before
  where
    rest : List Polynomial
    rest = entrywise_sum (list_operations p n) (drop (i + 1) left) (drop (i + 1) right)

-- one more copy behind others
pub copies_more : (xs out longer whole : List Polynomial) (i : ℕ) (x y : Polynomial) → slice_get xs i ≡ Some x → y ≡ x → longer ≡ out ++ y ∷ [] → out ++ drop i xs ≡ whole → longer ++ drop (i + 1) xs ≡ whole
copies_more xs out longer whole i x y at same is before =
    ap (λ zs. zs ++ drop (i + 1) xs) is
    ∙ append_assoc out (y ∷ []) (drop (i + 1) xs)
    ∙ ap (λ z. out ++ z ∷ drop (i + 1) xs) same
    ∙ ap (λ zs. out ++ zs) (sym (drop_at xs i x at))
    ∙ before

-- one more 0
pub zeros_more : (out longer whole : List Polynomial) (count j : ℕ) → j < count → longer ≡ out ++ [] ∷ [] → out ++ replicate (count - j) [] ≡ whole → longer ++ replicate (count - (j + 1)) [] ≡ whole
zeros_more out longer whole count j less is before =
    ap (λ zs. zs ++ replicate (count - (j + 1)) []) is
    ∙ append_assoc out ([] ∷ []) (replicate (count - (j + 1)) [])
    ∙ ap (λ k. out ++ replicate k []) one_more
    ∙ before
  where
    one_more : suc (count - (j + 1)) ≡ count - j
    one_more = omega arith

-- what is spread, where the second cofactor is b
pub spread_is : (count : ℕ) (cs : List Polynomial) (b : Polynomial) → slice_get cs 1 ≡ Some b → spread count cs ≡ [] ∷ drop 2 cs ++ b ∷ replicate (count - length cs) []
spread_is count [] b at = cc
spread_is count (a ∷ []) b at = cc
spread_is count (a ∷ c ∷ cs) b at = ap (λ x. [] ∷ cs ++ x ∷ replicate (count - length (a ∷ c ∷ cs)) []) (let same : c ≡ b = cc in same)

zeros_are : (p n k : ℕ) → ArePolynomials p n (replicate k [])
zeros_are p n zero = tt
zeros_are p n (suc k) = (tt, zeros_are p n k)

-- is canonical
pub spread_are : (p n count : ℕ) (cs : List Polynomial) → ArePolynomials p n cs → ArePolynomials p n (spread count cs)
spread_are p n count [] are = zeros_are p n count
spread_are p n count (a ∷ []) are = zeros_are p n count
spread_are p n count (a ∷ b ∷ bs) are = (tt, ArePolynomials-append p n bs (b ∷ replicate (count - length (a ∷ b ∷ bs)) []) are.1.1 (are.1.0, zeros_are p n (count - length (a ∷ b ∷ bs))))

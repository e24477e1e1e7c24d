-- The composition of two rows is a row.
use Rattle.std.proofs.Common.{◌≡◌, ℕ, zero, suc, ◌+◌, ◌-◌, List, [], ◌∷◌, ◌++◌, length, map, replicate, length-append, sym, ap, ap₂, ◌∙◌, subst, arith}
use Rattle.std.proofs.lemmas.List.{map-append, length-replicate}
use Rattle.polynomials.specs.Primes.{IsPrime}
use Rattle.polynomials.specs.Polynomials.{Polynomial, IsPolynomial, ArePolynomials, sum_of, product_of}
use Rattle.polynomials.proofs.PolynomialLists.{ArePolynomials-append}
use Rattle.polynomials.proofs.PolynomialRing.{CanonicalPolynomial}
use Rattle.polynomials.proofs.RingLaws.{plus_comm, nil-plus, plus-nil, nil-times}
use Rattle.division_rules.specs.Lists.{list_operations}
use Rattle.division_rules.specs.Rows.{Row, combined}
use Rattle.division_rules.specs.Units.{entrywise_sum}
use Rattle.division_rules.proofs.CanonicalViews.{canonical_operations}
use Rattle.division_rules.proofs.Combinations.{combined-append, combined-zeros}
use Rattle.division_rules.proofs.Down.{terms, terms_all, terms-combined}
use Rattle.division_rules.proofs.PolynomialSetting.{polynomial_setting}
use Rattle.division_rules.proofs.Settings.{ViewedRing, operations}
use Rattle.division_rules.proofs.Up.{up_all, terms-up_all, length-up_all}
use Rattle.row_laws.specs.Combinations.{IsRowOver}
use Rattle.row_laws.specs.Compositions.{composition, CompositionsAreRows}
use Rattle.row_laws.proofs.CombinationRows.{terms-zeros}
use Rattle.row_laws.proofs.ComposedRows.{composed_rows_are_combinations}

-- in a ring: cofactors of t and of the generators before it, among more generators
spread_combined : {A : Type 0} (P : ViewedRing A) (h t b : A) (below more bs : List A) (k : ℕ) → length bs ≡ length below → combined (operations P) (P.ring.nil ∷ bs ++ b ∷ replicate k P.ring.nil) (h ∷ below ++ t ∷ more) ≡ P.ring.◌⊕◌ (P.ring.◌⊗◌ b t) (combined (operations P) bs below)
spread_combined P h t b below more bs k same = ap₂ P.ring.◌⊕◌ (nil-times P.ring h) (combined-append P.ring P.views bs (b ∷ replicate k P.ring.nil) below (t ∷ more) same ∙ ap (λ x. P.ring.◌⊕◌ (combined (operations P) bs below) (P.ring.◌⊕◌ (P.ring.◌⊗◌ b t) x)) (combined-zeros P.ring P.views k more) ∙ ap (P.ring.◌⊕◌ (combined (operations P) bs below)) (plus-nil P.ring (P.ring.◌⊗◌ b t))) ∙ nil-plus P.ring (P.ring.◌⊕◌ (combined (operations P) bs below) (P.ring.◌⊗◌ b t)) ∙ plus_comm P.ring (combined (operations P) bs below) (P.ring.◌⊗◌ b t)

-- zeros are canonical
zeros_canonical : (p n k : ℕ) → ArePolynomials p n (replicate k [])
zeros_canonical p n zero = tt
zeros_canonical p n (suc k) = (tt, zeros_canonical p n k)

module _ (p n : ℕ) (prime : IsPrime p) where
  abbrev P : ViewedRing (CanonicalPolynomial p n)
  P = polynomial_setting p n prime

  -- the same of lists of terms
  spread_lists : (h t b : Polynomial) (below more bs : List Polynomial) (k : ℕ) → IsPolynomial p n h → IsPolynomial p n t → IsPolynomial p n b → ArePolynomials p n below → ArePolynomials p n more → ArePolynomials p n bs → length bs ≡ length below → combined (list_operations p n) ([] ∷ bs ++ b ∷ replicate k []) (h ∷ below ++ t ∷ more) ≡ sum_of p (product_of p b t) (combined (list_operations p n) bs below)
  spread_lists h t b below more bs k ih it ib are_below are_more are_bs same = sym (terms-combined p n prime.many ((canonical_operations p n prime.many).nil ∷ up_bs ++ (b, ib) ∷ replicate k (canonical_operations p n prime.many).nil) ((h, ih) ∷ up_below ++ (t, it) ∷ up_more) ∙ ap₂ (combined (list_operations p n)) cofactors_down generators_down) ∙ ap (λ x. x.0) (spread_combined P (h, ih) (t, it) (b, ib) up_below up_more up_bs k (length-up_all p n prime.many bs are_bs ∙ same ∙ sym (length-up_all p n prime.many below are_below))) ∙ ap (sum_of p (product_of p b t)) (terms-combined p n prime.many up_bs up_below ∙ ap₂ (combined (list_operations p n)) (terms-up_all p n prime.many bs are_bs) (terms-up_all p n prime.many below are_below))
    where
      up_bs : List (CanonicalPolynomial p n)
      up_bs = up_all p n prime.many bs are_bs

      up_below : List (CanonicalPolynomial p n)
      up_below = up_all p n prime.many below are_below

      up_more : List (CanonicalPolynomial p n)
      up_more = up_all p n prime.many more are_more

      cofactors_down : terms_all p n prime.many ((canonical_operations p n prime.many).nil ∷ up_bs ++ (b, ib) ∷ replicate k (canonical_operations p n prime.many).nil) ≡ [] ∷ bs ++ b ∷ replicate k []
      cofactors_down = ap (λ fs. [] ∷ fs) (map-append (terms p n prime.many) up_bs ((b, ib) ∷ replicate k (canonical_operations p n prime.many).nil) ∙ ap₂ (λ fs gs. fs ++ b ∷ gs) (terms-up_all p n prime.many bs are_bs) (terms-zeros p n prime k))

      generators_down : terms_all p n prime.many ((h, ih) ∷ up_below ++ (t, it) ∷ up_more) ≡ h ∷ below ++ t ∷ more
      generators_down = ap (λ fs. h ∷ fs) (map-append (terms p n prime.many) up_below ((t, it) ∷ up_more) ∙ ap₂ (λ fs gs. fs ++ t ∷ gs) (terms-up_all p n prime.many below are_below) (terms-up_all p n prime.many more are_more))

  module _ (h t : Polynomial) (below more : List Polynomial) (ih : IsPolynomial p n h) (it : IsPolynomial p n t) (are_below : ArePolynomials p n below) (are_more : ArePolynomials p n more) (f : Row Polynomial) (over : IsRowOver p n (h ∷ below ++ t ∷ more) f) where
    composed_over : (first : Polynomial) (cs : List Polynomial) → IsRowOver p n (f.first ∷ t ∷ below) (record { first = first; cofactors = cs }) → IsRowOver p n (h ∷ below ++ t ∷ more) (composition p n f (record { first = first; cofactors = cs }))
    composed_over first [] next = let none = next.combination.one_each in absurd (omega (arith, none))
    composed_over first (a ∷ []) next = let none = next.combination.one_each in absurd (omega (arith, none))
    composed_over first (a ∷ b ∷ bs) next = subst (λ x. IsRowOver p n (h ∷ below ++ t ∷ more) (record { first = x; cofactors = entrywise_sum (list_operations p n) (map (product_of p a) f.cofactors) es })) first_is (composed_rows_are_combinations p n (h ∷ below ++ t ∷ more) a f es prime are next.canonical.1.0 over are_es count)
      where
        k : ℕ
        k = length f.cofactors - length (a ∷ b ∷ bs)

        es : List Polynomial
        es = [] ∷ bs ++ b ∷ replicate k []

        same : length bs ≡ length below
        same = let each = next.combination.one_each in omega (arith, each)

        are : ArePolynomials p n (h ∷ below ++ t ∷ more)
        are = (ih, ArePolynomials-append p n below (t ∷ more) are_below (it, are_more))

        are_es : ArePolynomials p n es
        are_es = (tt, ArePolynomials-append p n bs (b ∷ replicate k []) next.canonical.1.1.1 (next.canonical.1.1.0, zeros_canonical p n k))

        total : length (h ∷ below ++ t ∷ more) ≡ suc (length below + suc (length more))
        total = ap suc (length-append below (t ∷ more))

        behind : k ≡ length more
        behind = let each = over.combination.one_each ∙ total in omega (arith, each, same)

        count : length es ≡ length (h ∷ below ++ t ∷ more)
        count = ap suc (length-append bs (b ∷ replicate k []) ∙ ap₂ (λ x y. x + suc y) same (length-replicate k [] ∙ behind)) ∙ sym total

        first_is : sum_of p (product_of p a f.first) (combined (list_operations p n) es (h ∷ below ++ t ∷ more)) ≡ first
        first_is = ap (sum_of p (product_of p a f.first)) (spread_lists h t b below more bs k ih it next.canonical.1.1.0 are_below are_more next.canonical.1.1.1 same) ∙ sym next.combination.identity

-- the parts of the generators
behind_canonical : (p n : ℕ) (fs : List Polynomial) (t : Polynomial) (more : List Polynomial) → ArePolynomials p n (fs ++ t ∷ more) → ArePolynomials p n fs × (IsPolynomial p n t × ArePolynomials p n more)
behind_canonical p n [] t more are = (tt, are)
behind_canonical p n (f ∷ fs) t more are =
    let rest = behind_canonical p n fs t more are.1 in
    ((are.0, rest.0), rest.1)

-- the law
pub compositions_are_rows : CompositionsAreRows
compositions_are_rows p n h t before more f next prime are over over_next =
    let parts = behind_canonical p n before t more are.1 in
    composed_over p n prime h t before more are.0 parts.1.0 parts.0 parts.1.1 f over next.first next.cofactors over_next

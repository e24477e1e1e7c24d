-- Steps of first cofactors of canonical polynomials are those of their lists of terms.
use Rattle.std.proofs.Common.{◌≡◌, inl, inr, ℕ, ◌+◌, ◌<◌, List, [], ◌∷◌, get_or, Option, Some, None, option_map, refl, sym, ap, ap₂, ◌∙◌, subst}
use Rattle.polynomials.specs.Polynomials.{product_of, negative_of}
use Rattle.polynomials.specs.Views.{degree_in}
use Rattle.polynomials.proofs.PolynomialRing.{CanonicalPolynomial}
use Rattle.division_rules.specs.Lists.{list_operations}
use Rattle.division_rules.specs.Operations.{lead}
use Rattle.division_rules.specs.Points.{IsInitial, AreInitials}
use Rattle.division_rules.specs.Rows.{Row}
use Rattle.division_rules.specs.RemainderRows.{divided, TurnBefore, fall, next_psi, next_beta, undivided}
use Rattle.division_rules.specs.Cofactors.{first_cofactor, divisor_used, next_divisor, IsCofactorStep, AreCofactorSteps}
use Rattle.division_rules.proofs.CanonicalViews.{canonical_operations}
use Rattle.division_rules.proofs.Down.{terms_all, down, down_all, terms-power_of}
use Rattle.division_rules.proofs.DownRows.{down_memory, down-divided, down-undivided, terms-next_psi, terms-next_beta}
use Rattle.row_laws.proofs.Initials.{terms-product_of_all}

module _ (p n : ℕ) (many : 1 < p) where
  -- the first cofactor
  pub terms-first_cofactor : (f : Row (CanonicalPolynomial p n)) → (first_cofactor (canonical_operations p n many) f).0 ≡ first_cofactor (list_operations p n) (down p n many f)
  terms-first_cofactor f = go f.cofactors
    where
      go : (cs : List (CanonicalPolynomial p n)) → (get_or cs 0 (canonical_operations p n many).nil).0 ≡ get_or (terms_all p n many cs) 0 []
      go [] = refl
      go (c ∷ cs) = refl

  -- initials
  down_initial : (chain : List (Row (CanonicalPolynomial p n))) (a : CanonicalPolynomial p n) → IsInitial (canonical_operations p n many) chain a → IsInitial (list_operations p n) (down_all p n many chain) a.0
  down_initial [] a h = h
  down_initial (t ∷ chain) a (inl e) = inl (ap (λ x. x.0) e)
  down_initial (t ∷ chain) a (inr h) = inr (down_initial chain a h)

  down_initials : (chain : List (Row (CanonicalPolynomial p n))) (js : List (CanonicalPolynomial p n)) → AreInitials (canonical_operations p n many) chain js → AreInitials (list_operations p n) (down_all p n many chain) (terms_all p n many js)
  down_initials chain [] h = tt
  down_initials chain (a ∷ js) h = (down_initial chain a h.0, down_initials chain js h.1)

  -- one step
  down_step : (v : ℕ) (chain : List (Row (CanonicalPolynomial p n))) (u : CanonicalPolynomial p n) (f g h : Row (CanonicalPolynomial p n)) → IsCofactorStep (canonical_operations p n many) v chain u f g h → IsCofactorStep (list_operations p n) v (down_all p n many chain) u.0 (down p n many f) (down p n many g) (down p n many h)
  down_step v chain u f g h step = record {
    degrees = ap (degree_in v) (sym (terms-first_cofactor h)) ∙ step.degrees ∙ ap (λ a. degree_in v a + fall (canonical_operations p n many) v f g) (terms-first_cofactor g);
    factors = terms_all p n many step.factors;
    initials = down_initials chain step.factors step.initials;
    cofactor_lead = ap (λ a. product_of p u.0 (lead (list_operations p n) v a)) (sym (terms-first_cofactor h)) ∙ ap (λ x. x.0) step.cofactor_lead ∙ ap (negative_of p) (ap₂ (product_of p) (terms-product_of_all p n many step.factors) (ap (product_of p (lead (list_operations p n) v f.first.0)) (ap₂ (product_of p) (terms-power_of p n many (lead (canonical_operations p n many) v g.first) (fall (canonical_operations p n many) v f g)) (ap (lead (list_operations p n) v) (terms-first_cofactor g)))));
  }

  -- the divisor that was used
  terms-divisor_used : (x : Option (Row (CanonicalPolynomial p n))) (b : CanonicalPolynomial p n) → (divisor_used (canonical_operations p n many) x b).0 ≡ divisor_used (list_operations p n) (option_map (down p n many) x) b.0
  terms-divisor_used None b = refl
  terms-divisor_used (Some h) b = refl

  terms-next_divisor : (w v : ℕ) (chain : List (Row (CanonicalPolynomial p n))) (m : TurnBefore (canonical_operations p n many)) (f g : Row (CanonicalPolynomial p n)) → (next_divisor (canonical_operations p n many) w v chain m f g).0 ≡ next_divisor (list_operations p n) w v (down_all p n many chain) (down_memory p n many m) (down p n many f) (down p n many g)
  terms-next_divisor w v chain m f g = terms-divisor_used (divided (canonical_operations p n many) w b s) b ∙ ap₂ (divisor_used (list_operations p n)) (down-divided p n many w b s ∙ ap₂ (divided (list_operations p n) w) (terms-next_beta p n many w v m f g) (down-undivided p n many v chain f g)) (terms-next_beta p n many w v m f g)
    where
      b : CanonicalPolynomial p n
      b = next_beta (canonical_operations p n many) w v m f g

      s : Row (CanonicalPolynomial p n)
      s = undivided (canonical_operations p n many) v chain f g

  -- all steps
  pub down_steps : (w v : ℕ) (chain : List (Row (CanonicalPolynomial p n))) (total : ℕ) (m : TurnBefore (canonical_operations p n many)) (f g : Row (CanonicalPolynomial p n)) (later : List (Row (CanonicalPolynomial p n))) (last : Option (Row (CanonicalPolynomial p n))) → AreCofactorSteps (canonical_operations p n many) w v chain total m f g later last → AreCofactorSteps (list_operations p n) w v (down_all p n many chain) total (down_memory p n many m) (down p n many f) (down p n many g) (down_all p n many later) (option_map (down p n many) last)
  down_steps w v chain total m f g [] None steps = tt
  down_steps w v chain total m f g [] (Some z) steps = (down_step v chain (canonical_operations p n many).one f g z steps.0, ap (λ a. degree_in v a + degree_in v g.first.0) (sym (terms-first_cofactor z)) ∙ steps.1)
  down_steps w v chain total m f g (h ∷ later) last steps = (subst (λ u. IsCofactorStep (list_operations p n) v (down_all p n many chain) u (down p n many f) (down p n many g) (down p n many h)) (terms-next_divisor w v chain m f g) (down_step v chain (next_divisor (canonical_operations p n many) w v chain m f g) f g h steps.0), subst (λ q. AreCofactorSteps (list_operations p n) w v (down_all p n many chain) total (Some (q, fall (canonical_operations p n many) v f g)) (down p n many g) (down p n many h) (down_all p n many later) (option_map (down p n many) last)) (terms-next_psi p n many w v m f) (down_steps w v chain total (Some (next_psi (canonical_operations p n many) w v m f, fall (canonical_operations p n many) v f g)) g h later last steps.1))

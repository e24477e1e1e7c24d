-- Remainder rows in one variable fit, and where they end with a zero row the last divides both polynomials.
use Rattle.std.proofs.Common.{◌≡◌, ◌≢◌, ℕ, zero, suc, ◌-◌, ◌<◌, ◌≤◌, true, false, eqb, [], ◌∷◌, Option, Some, None, unwrap_or, refl, sym, ap, ap₂, ◌∙◌, subst, arith}
use Rattle.std.proofs.lemmas.Bool.{eqb-false}
use Rattle.polynomials.specs.Primes.{IsPrime}
use Rattle.polynomials.specs.Polynomials.{Polynomial, IsPolynomial, sum_of, product_of, variable_power, one_of, is_zero}
use Rattle.polynomials.specs.Fits.{fits}
use Rattle.polynomials.specs.Views.{degree_in, lead_in}
use Rattle.polynomials.proofs.Coefficients.{IsPolynomial-coefficient_in}
use Rattle.polynomials.proofs.ConstantLemmas.{constant_of_free}
use Rattle.polynomials.proofs.Degrees.{lead_in_nonzero}
use Rattle.polynomials.proofs.LeadAndTail.{IsPolynomial-variable_power}
use Rattle.polynomials.proofs.PolynomialRing.{polynomial_ring, polynomials_make_a_ring}
use Rattle.polynomials.proofs.Solver.{var, number, ◌:+◌, ◌:-◌, ◌:*◌, solve}
use Rattle.division_rules.specs.Lists.{list_operations}
use Rattle.division_rules.specs.Operations.{shifted_lead}
use Rattle.division_rules.specs.Quotients.{quotient_within}
use Rattle.division_rules.specs.RemainderRows.{LaterRows, with_row, divided, row_of, fall}
use Rattle.division_rules.specs.RemainderRowsWithin.{psi_within, beta_within, undivided_within, rows_onward, rows_from_within}
use Rattle.division_rules.specs.Rows.{Row, plain, turns}
use Rattle.division_rules.specs.Turns.{last_row}
use Rattle.division_rules.specs.Within.{and_then}
use Rattle.division_rules.proofs.ListLaws.{zero_by_test, not_zero_by_test}
use Rattle.division_rules.proofs.Quotients.{IsPolynomial-quotient_within, quotient_within_exact}
use Rattle.division_rules.proofs.QuotientFacts.{quotient_within_degree}
use Rattle.division_rules.proofs.Steps.{choose}
use Rattle.step_bounds.proofs.Fitting.{IsPlainOf, EliminationsFit, pseudo_by_fits}
use Rattle.step_bounds.proofs.Units.{IsUnit, IsUnitMemory, unit_one, unit_product, unit_psi, unit_beta}
use Rattle.step_bounds.proofs.Univariate.{IsLow, low_lead, low_multiple, low_fits}

-- h divides a multiple of f by a constant other than 0
pub record DividesMultiple (p n : ℕ) (h f : Polynomial) : Type 0 where
  pub a : Polynomial
  pub unit : IsUnit p n a
  pub q : Polynomial
  pub canonical : IsPolynomial p n q
  pub same : product_of p a f ≡ product_of p q h

module _ (p n d w : ℕ) (prime : IsPrime p) (wide : d < w) (small : d ≤ 65535) where
  -- a multiple of f by a constant is x and a multiple of g
  pub record Leaves (f g x : Polynomial) : Type 0 where
    pub low : IsLow p n d x
    pub a : Polynomial
    pub unit : IsUnit p n a
    pub s : Polynomial
    pub canonical : IsPolynomial p n s
    pub same : product_of p a f ≡ sum_of p x (product_of p s g)

  lead_unit : (g : Polynomial) → IsLow p n d g → g ≢ [] → IsUnit p n (lead_in 0 g)
  lead_unit g of_g some =
      let l = low_lead p n d w prime wide small g of_g some in
      record { canonical = IsPolynomial-coefficient_in 0 (degree_in 0 g) p n g of_g.canonical; free = λ v. ap (degree_in v) l.3 ∙ constant_of_free v n l.0; nonzero = lead_in_nonzero 0 g some }

  shifted_canonical : (y g : Polynomial) → IsLow p n d y → IsPolynomial p n (shifted_lead (list_operations p n) 0 y g)
  shifted_canonical y g of_y = (polynomials_make_a_ring p n prime.many).product_of_them (variable_power n 0 (degree_in 0 y - degree_in 0 g)) (lead_in 0 y) (IsPolynomial-variable_power p n 0 (degree_in 0 y - degree_in 0 g) prime.many) (IsPolynomial-coefficient_in 0 (degree_in 0 y) p n y of_y.canonical)

  -- so it is with f itself
  pub leaves_itself : (f g : Polynomial) → IsLow p n d f → Leaves f g f
  leaves_itself f g of_f = record {
    low = of_f;
    a = one_of n;
    unit = unit_one p n d w prime wide small;
    s = [];
    canonical = tt;
    same = (polynomials_make_a_ring p n prime.many).one-mul f of_f.canonical ∙ ap (λ u. u.0) (solve (polynomial_ring p n prime.many) ((f, of_f.canonical) ∷ []) (var 0) (var 0 :+ number 0) refl);
  }

  -- eliminations keep it
  pub leaves_eliminated : (f g : Polynomial) → IsLow p n d f → IsLow p n d g → g ≢ [] → EliminationsFit p n w (Leaves f g) 0 g
  leaves_eliminated f g of_f of_g some y at e =
      let fit = low_fits p n d w prime wide small g of_g some y at.low e in
      let l = lead_in 0 g in
      let m = shifted_lead (list_operations p n) 0 y g in
      let im = shifted_canonical y g at.low in
      let unit_l = lead_unit g of_g some in (
        fit.0,
        fit.1,
        record {
          low = fit.2;
          a = product_of p l at.a;
          unit = unit_product p n d w prime wide small l at.a unit_l at.unit;
          s = sum_of p m (product_of p l at.s);
          canonical = (polynomials_make_a_ring p n prime.many).sum_of_them m (product_of p l at.s) im ((polynomials_make_a_ring p n prime.many).product_of_them l at.s unit_l.canonical at.canonical);
          same = (polynomials_make_a_ring p n prime.many).mul_assoc l at.a f unit_l.canonical at.unit.canonical of_f.canonical ∙ ap (product_of p l) at.same ∙ ap (λ u. u.0) (solve (polynomial_ring p n prime.many) ((l, unit_l.canonical) ∷ (y, at.low.canonical) ∷ (at.s, at.canonical) ∷ (g, of_g.canonical) ∷ (m, im) ∷ []) (var 0 :* (var 1 :+ var 2 :* var 3)) ((var 0 :* var 1 :- var 4 :* var 3) :+ (var 4 :+ var 0 :* var 2) :* var 3) refl);
        },
      )

  -- and so do multiplications by the lead
  leaves_multiplied : (f g : Polynomial) → IsLow p n d f → IsLow p n d g → g ≢ [] → (y : Polynomial) → Leaves f g y → (fits w (lead_in 0 g) y ≡ true) × Leaves f g (product_of p (lead_in 0 g) y)
  leaves_multiplied f g of_f of_g some y at =
      let fit = low_multiple p n d w prime wide small g of_g some y at.low in
      let l = lead_in 0 g in
      let unit_l = lead_unit g of_g some in (
        fit.0,
        record {
          low = fit.1;
          a = product_of p l at.a;
          unit = unit_product p n d w prime wide small l at.a unit_l at.unit;
          s = product_of p l at.s;
          canonical = (polynomials_make_a_ring p n prime.many).product_of_them l at.s unit_l.canonical at.canonical;
          same = (polynomials_make_a_ring p n prime.many).mul_assoc l at.a f unit_l.canonical at.unit.canonical of_f.canonical ∙ ap (product_of p l) at.same ∙ ap (λ u. u.0) (solve (polynomial_ring p n prime.many) ((l, unit_l.canonical) ∷ (y, at.low.canonical) ∷ (at.s, at.canonical) ∷ (g, of_g.canonical) ∷ []) (var 0 :* (var 1 :+ var 2 :* var 3)) (var 0 :* var 1 :+ var 0 :* var 2 :* var 3) refl);
        },
      )

  pub pseudo_leaves : (f g : Polynomial) → IsLow p n d f → IsLow p n d g → g ≢ [] → IsPlainOf (Leaves f g) (undivided_within (list_operations p n) w 0 [] (plain f) (plain g))
  pseudo_leaves f g of_f of_g some =
      let (x, made, q) = pseudo_by_fits p n w (Leaves f g) 0 g (leaves_eliminated f g of_f of_g some) (leaves_multiplied f g of_f of_g some) (turns (list_operations p n) 0 f g) f (leaves_itself f g of_f) in
      (x, ap (λ o. and_then o (λ h. Some h)) made, q)

  -- divided by a constant
  pub record IsDivided (x : Polynomial) (h : Row Polynomial) : Type 0 where
    pub y : Polynomial
    pub row : h ≡ plain y
    pub low : IsLow p n d y
    pub c : Polynomial
    pub unit : IsUnit p n c
    pub same : x ≡ product_of p c y

  divided_low : (x b : Polynomial) → IsLow p n d x → x ≢ [] → IsUnit p n b → IsDivided x (unwrap_or (divided (list_operations p n) w b (plain x)) (plain x))
  divided_low x b of_x some of_b = go (quotient_within p w x b) refl
    where
      go : (o : Option Polynomial) → quotient_within p w x b ≡ o → IsDivided x (unwrap_or (row_of o (Some [])) (plain x))
      go None e = record { y = x; row = refl; low = of_x; c = one_of n; unit = unit_one p n d w prime wide small; same = sym ((polynomials_make_a_ring p n prime.many).one-mul x of_x.canonical) }
      go (Some y) e =
          let iy = IsPolynomial-quotient_within p n w x b y (let many = prime.many in omega (arith, many)) of_x.canonical of_b.canonical e in
          record {
            y = y;
            row = refl;
            c = b;
            unit = of_b;
            low = record {
              canonical = iy;
              below = λ v past. let adds = quotient_within_degree p n w x b y prime of_x.canonical of_b.canonical e some v in let none = of_x.below v past in omega (arith, adds, none);
              low = let adds = quotient_within_degree p n w x b y prime of_x.canonical of_b.canonical e some 0 in let low = of_x.low in omega (arith, adds, low);
            };
            same = sym (quotient_within_exact p w x b y e) ∙ (polynomials_make_a_ring p n prime.many).mul_comm y b iy of_b.canonical;
          }

  -- the last row, where a zero row follows
  abbrev pub EndsWell : Polynomial → Polynomial → Option (LaterRows Polynomial) → Type 0
  EndsWell f g o = (rows : LaterRows Polynomial) × (o ≡ Some rows) × ((z : Row Polynomial) → rows.last ≡ Some z → IsLow p n d (last_row (plain g) rows.later).first × DividesMultiple p n (last_row (plain g) rows.later).first f × DividesMultiple p n (last_row (plain g) rows.later).first g)

  -- what divides g and a divisor of what f leaves divides f
  pub divides_before : (D f g x y c : Polynomial) → IsPolynomial p n D → IsLow p n d f → IsLow p n d g → Leaves f g x → IsLow p n d y → IsUnit p n c → x ≡ product_of p c y → DividesMultiple p n D g → DividesMultiple p n D y → DividesMultiple p n D f
  divides_before D f g x y c iD of_f of_g at of_y of_c x_is by_g by_y = record {
    a = product_of p (product_of p a1 a2) at.a;
    unit = unit_product p n d w prime wide small (product_of p a1 a2) at.a (unit_product p n d w prime wide small a1 a2 by_g.unit by_y.unit) at.unit;
    q = sum_of p (product_of p (product_of p a1 c) by_y.q) (product_of p (product_of p a2 at.s) by_g.q);
    canonical = (polynomials_make_a_ring p n prime.many).sum_of_them (product_of p (product_of p a1 c) by_y.q) (product_of p (product_of p a2 at.s) by_g.q) (both (product_of p a1 c) by_y.q (both a1 c by_g.unit.canonical of_c.canonical) by_y.canonical) (both (product_of p a2 at.s) by_g.q (both a2 at.s by_y.unit.canonical at.canonical) by_g.canonical);
    same = (polynomials_make_a_ring p n prime.many).mul_assoc (product_of p a1 a2) at.a f (both a1 a2 by_g.unit.canonical by_y.unit.canonical) at.unit.canonical of_f.canonical ∙ ap (product_of p (product_of p a1 a2)) (at.same ∙ ap (λ z. sum_of p z (product_of p at.s g)) x_is) ∙ ap (λ u. u.0) (solve (polynomial_ring p n prime.many) ((a1, by_g.unit.canonical) ∷ (a2, by_y.unit.canonical) ∷ (c, of_c.canonical) ∷ (y, of_y.canonical) ∷ (at.s, at.canonical) ∷ (g, of_g.canonical) ∷ []) (var 0 :* var 1 :* (var 2 :* var 3 :+ var 4 :* var 5)) (var 0 :* var 2 :* (var 1 :* var 3) :+ var 1 :* var 4 :* (var 0 :* var 5)) refl) ∙ ap₂ (λ u v. sum_of p (product_of p (product_of p a1 c) u) (product_of p (product_of p a2 at.s) v)) by_y.same by_g.same ∙ ap (λ u. u.0) (solve (polynomial_ring p n prime.many) ((a1, by_g.unit.canonical) ∷ (c, of_c.canonical) ∷ (by_y.q, by_y.canonical) ∷ (D, iD) ∷ (a2, by_y.unit.canonical) ∷ (at.s, at.canonical) ∷ (by_g.q, by_g.canonical) ∷ []) (var 0 :* var 1 :* (var 2 :* var 3) :+ var 4 :* var 5 :* (var 6 :* var 3)) ((var 0 :* var 1 :* var 2 :+ var 4 :* var 5 :* var 6) :* var 3) refl);
  }
    where
      a1 : Polynomial
      a1 = by_g.a

      a2 : Polynomial
      a2 = by_y.a

      both : (u v : Polynomial) → IsPolynomial p n u → IsPolynomial p n v → IsPolynomial p n (product_of p u v)
      both u v i j = (polynomials_make_a_ring p n prime.many).product_of_them u v i j

  -- a polynomial divides itself, and what it leaves nothing of
  divides_itself : (g : Polynomial) → IsLow p n d g → DividesMultiple p n g g
  divides_itself g of_g = record { a = one_of n; unit = unit_one p n d w prime wide small; q = one_of n; canonical = (unit_one p n d w prime wide small).canonical; same = refl }

  pub divides_last : (f g x : Polynomial) → IsLow p n d g → Leaves f g x → x ≡ [] → DividesMultiple p n g f
  divides_last f g x of_g at null = record { a = at.a; unit = at.unit; q = at.s; canonical = at.canonical; same = at.same ∙ ap (λ z. sum_of p z (product_of p at.s g)) null ∙ (polynomials_make_a_ring p n prime.many).zero-add (product_of p at.s g) ((polynomials_make_a_ring p n prime.many).product_of_them at.s g at.canonical of_g.canonical) }

  pub rows_end_well : (k : ℕ) (m : Option (Polynomial × ℕ)) → IsUnitMemory p n d w prime wide small m → (f g : Polynomial) → IsLow p n d f → IsLow p n d g → f ≢ [] → g ≢ [] → EndsWell f g (rows_from_within (list_operations p n) w 0 [] k m (plain f) (plain g))
  rows_end_well zero m of_m f g of_f of_g some_f some_g = (record { later = []; last = None }, refl, λ z e. cc)
  rows_end_well (suc k) m of_m f g of_f of_g some_f some_g = go (λ q e of_q y of_y some_y. rows_end_well k (Some (q, e)) of_q g y of_g of_y some_g some_y) (pseudo_leaves f g of_f of_g some_g)
    where
      after : Row Polynomial → Polynomial → Polynomial → Option (LaterRows Polynomial)
      after s q b = rows_onward (list_operations p n) w 0 (λ memory x y. rows_from_within (list_operations p n) w 0 [] k memory x y) (plain f) (plain g) s q b

      by_psi : Row Polynomial → Option (LaterRows Polynomial)
      by_psi s = and_then (psi_within (list_operations p n) w m (lead_in 0 f)) (λ q. and_then (beta_within (list_operations p n) w m (lead_in 0 f) q (fall (list_operations p n) 0 (plain f) (plain g))) (λ b. after s q b))

      whole : Row Polynomial → Option (LaterRows Polynomial)
      whole s = elim (is_zero s.first) [ true ↦ Some (record { later = []; last = Some s }) | false ↦ by_psi s ]

      by_row : (x : Polynomial) → Leaves f g x → (q b : Polynomial) → IsUnit p n q → (h : Row Polynomial) → IsDivided x h → ((y : Polynomial) → IsLow p n d y → y ≢ [] → EndsWell g y (rows_from_within (list_operations p n) w 0 [] k (Some (q, fall (list_operations p n) 0 (plain f) (plain g))) (plain g) (plain y))) → EndsWell f g (elim (eqb (degree_in 0 h.first) 0) [ true ↦ Some (record { later = h ∷ []; last = None }) | false ↦ and_then (rows_from_within (list_operations p n) w 0 [] k (Some (q, fall (list_operations p n) 0 (plain f) (plain g))) (plain g) h) (λ rows. Some (with_row h rows)) ])
      by_row x at q b of_q h parts further = subst (λ r. EndsWell f g (elim (eqb (degree_in 0 r.first) 0) [ true ↦ Some (record { later = r ∷ []; last = None }) | false ↦ and_then (rows_from_within (list_operations p n) w 0 [] k (Some (q, fall (list_operations p n) 0 (plain f) (plain g))) (plain g) r) (λ rows. Some (with_row r rows)) ])) (sym parts.row) (choose (EndsWell f g) (eqb (degree_in 0 parts.y) 0) (Some (record { later = plain parts.y ∷ []; last = None })) (and_then (rows_from_within (list_operations p n) w 0 [] k (Some (q, fall (list_operations p n) 0 (plain f) (plain g))) (plain g) (plain parts.y)) (λ rows. Some (with_row (plain parts.y) rows))) (λ none. (record { later = plain parts.y ∷ []; last = None }, refl, λ z e. cc)) (λ some.
          let (rows, found, ends) = further parts.y parts.low (λ null. let zero_y = ap (degree_in 0) null in let high = eqb-false (degree_in 0 parts.y) 0 some in high zero_y) in (
            with_row (plain parts.y) rows,
            ap (λ o. and_then o (λ r. Some (with_row (plain parts.y) r))) found,
            λ z e.
                let by = ends z e in
                (by.0, divides_before (last_row (plain parts.y) rows.later).first f g x parts.y parts.c by.0.canonical of_f of_g at parts.low parts.unit parts.same by.1 by.2, by.1),
          )))

      go : ((q : Polynomial) (e : ℕ) → IsUnit p n q → (y : Polynomial) → IsLow p n d y → y ≢ [] → EndsWell g y (rows_from_within (list_operations p n) w 0 [] k (Some (q, e)) (plain g) (plain y))) → IsPlainOf (Leaves f g) (undivided_within (list_operations p n) w 0 [] (plain f) (plain g)) → EndsWell f g (rows_from_within (list_operations p n) w 0 [] (suc k) m (plain f) (plain g))
      go further (x, made, at) = subst (λ o. EndsWell f g (and_then o whole)) (sym made) (choose (EndsWell f g) (is_zero x) (Some (record { later = []; last = Some (plain x) })) (by_psi (plain x)) (λ null. (record { later = []; last = Some (plain x) }, refl, λ z e. (of_g, divides_last f g x of_g at (zero_by_test x null), divides_itself g of_g))) (λ some.
          let (q, made_q, of_q) = unit_psi p n d w prime wide small m of_m (lead_in 0 f) (lead_unit f of_f some_f) in
          let (b, made_b, of_b) = unit_beta p n d w prime wide small m (lead_in 0 f) q (lead_unit f of_f some_f) of_q (fall (list_operations p n) 0 (plain f) (plain g)) in
          subst (λ o. EndsWell f g (and_then o (λ y. and_then (beta_within (list_operations p n) w m (lead_in 0 f) y (fall (list_operations p n) 0 (plain f) (plain g))) (λ c. after (plain x) y c)))) (sym made_q) (subst (λ o. EndsWell f g (and_then o (λ c. after (plain x) q c))) (sym made_b) (by_row x at q b of_q (unwrap_or (divided (list_operations p n) w b (plain x)) (plain x)) (divided_low x b at.low (not_zero_by_test x some) of_b) (λ y of_y some_y. further q (fall (list_operations p n) 0 (plain f) (plain g)) of_q y of_y some_y)))))

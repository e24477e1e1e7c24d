-- Each turn is one of the division.
use Rattle.std.proofs.Common.{◌<◌, ◌≤◌, ◌+◌, ◌-◌, ◌*◌, ◌%◌, ◌∙◌, [], ◌∷◌, ◌++◌, length, take, drop, refl, sym, ap, ap₂, subst, arith, length-append}
use Rattle.std.specs.BinaryHeap.{heap_items}
use Rattle.mono_words.specs.declared.mono.TheConstants.{VARS}
use Rattle.polynomials.specs.Polynomials.{term, IsPolynomial}
use Rattle.sparse_poly.specs.Pairs.{PairsFit}
use Rattle.division_rules.proofs.Divisions.{IsDivision}
use Rattle.poly_quotient.specs.Rests.{AreProducts, products_left, sum_of_rest}
use Rattle.poly_quotient.proofs.Turns.{first_and_later, less_room, fit_later, term_is, stops_undivided, stops_long, stops_high, turn, next_canonical, later_fits, done}
use Rattle.poly_quotient.proofs.RestTurns.{begun, first_taken, nothing_left, went_on}
use Rattle.poly_quotient.proofs.division.divided_by_terms.Goals as goal
use Rattle.poly_quotient.proofs.division.divided_by_terms.Goals.{then-terms-w-via-then-terms-w, then-terms-w-via-else-terms-w+then-not-divides}

pub of-requires-clause-quotient : goal.of-requires-clause-quotient
of-requires-clause-quotient c = subst (IsPolynomial c.args.w.field VARS) (sym c.deref.ensures.value) (c.requires.begun c.index-terms-0.result (take (length c.terms-2.result.now - 1) (drop 1 c.terms-2.result.now)) (first_and_later c.terms.result.now c.terms-2.result.now c.args.b.now c.index-terms-0.result c.terms.ensures.terms c.terms-2.ensures.terms c.requires.nonzero c.index-terms-0.is)).terms_canonical

pub of-requires-clause-fit : goal.of-requires-clause-fit
of-requires-clause-fit c = subst (λ l. PairsFit l (take (length c.terms-2.result.now - 1) (drop 1 c.terms-2.result.now))) (sym c.deref.ensures.value) (fit_later c.args.found.items c.args.b.now c.index-terms-0.result (take (length c.terms-2.result.now - 1) (drop 1 c.terms-2.result.now)) (first_and_later c.terms.result.now c.terms-2.result.now c.args.b.now c.index-terms-0.result c.terms.ensures.terms c.terms-2.ensures.terms c.requires.nonzero c.index-terms-0.is) c.requires.fit)

pub loop-rest-init : goal.loop-rest-init
loop-rest-init c =
    let whole = first_and_later c.terms.result.now c.terms-2.result.now c.args.b.now c.index-terms-0.result c.terms.ensures.terms c.terms-2.ensures.terms c.requires.nonzero c.index-terms-0.is in
    let d = c.requires.begun c.index-terms-0.result (take (length c.terms-2.result.now - 1) (drop 1 c.terms-2.result.now)) whole in (
      whole,
      subst (IsPolynomial c.args.w.field VARS) (sym c.in_ok-rest.ensures.terms) d.rest_canonical,
      c.in_ok-rest.ensures.order,
      subst (λ l. AreProducts c.args.w.field VARS l (take (length c.terms-2.result.now - 1) (drop 1 c.terms-2.result.now)) (heap_items c.in_ok-rest.rest.products.heap) c.in_ok-rest.rest.products.waiting.items) c.deref.ensures.value c.in_ok-rest.ensures.products,
      subst (IsDivision c.args.w.field VARS c.index-terms-0.result (take (length c.terms-2.result.now - 1) (drop 1 c.terms-2.result.now)) c.args.a.now c.args.found.items)
          (sym (begun c.args.w.field VARS c.args.left.now c.in_ok-rest.rest.terms.now c.args.found.items (take (length c.terms-2.result.now - 1) (drop 1 c.terms-2.result.now)) (heap_items c.in_ok-rest.rest.products.heap) c.in_ok-rest.ensures.terms c.in_ok-rest.ensures.none d.rest_canonical)) d,
      c.requires.few,
    )

pub returns-then-terms-w-clause-none : goal.returns-then-terms-w-clause-none
returns-then-terms-w-clause-none c = elim c.then-terms-w.branch [
  | then-terms-w-via-then-terms-w w ↦
      stops_long c.args.w.field VARS c.args.w.width c.facts.ensures.prime c.args.a.now c.args.b.now c.index-terms-0.result c.requires.left c.requires.right c.requires.some (take (length c.terms-2.result.now - 1) (drop 1 c.terms-2.result.now)) c.loop-rest.invariant.0 c.loop-rest.quotient.items (sum_of_rest c.args.w.field c.loop-rest.rest.terms.now (products_left c.args.w.field c.loop-rest.quotient.items (take (length c.terms-2.result.now - 1) (drop 1 c.terms-2.result.now)) (heap_items c.loop-rest.rest.products.heap))) (sum_of_rest c.args.w.field c.take_first.new.self.terms.now (products_left c.args.w.field c.loop-rest.quotient.items (take (length c.terms-2.result.now - 1) (drop 1 c.terms-2.result.now)) (heap_items c.take_first.new.self.products.heap))) c.in-Some.first (first_taken c.args.w.field c.loop-rest.quotient.items c.deref-in-loop-rest.result.now (take (length c.terms-2.result.now - 1) (drop 1 c.terms-2.result.now)) c.deref-in-loop-rest.ensures.value c.loop-rest.rest.terms.now c.take_first.new.self.terms.now (heap_items c.loop-rest.rest.products.heap) (heap_items c.take_first.new.self.products.heap) c.in_ok-first.field-0 c.in-Some.first c.in-Some.is c.in_ok-first.ensures.some) c.loop-rest.invariant.4
      (subst (λ k. c.args.w.width < k) (ap₂ (λ x y. (x + 1) * y) (c.len.ensures ∙ c.loop-rest.quotient.ok.0) c.term_count.ensures) w.if-terms-w.true)
  | then-terms-w-via-else-terms-w+then-not-divides w ↦
      stops_undivided c.args.w.field VARS c.args.w.width c.facts.ensures.prime c.args.a.now c.args.b.now c.index-terms-0.result c.requires.left c.requires.right c.requires.some (take (length c.terms-2.result.now - 1) (drop 1 c.terms-2.result.now)) c.loop-rest.invariant.0 c.loop-rest.quotient.items (sum_of_rest c.args.w.field c.loop-rest.rest.terms.now (products_left c.args.w.field c.loop-rest.quotient.items (take (length c.terms-2.result.now - 1) (drop 1 c.terms-2.result.now)) (heap_items c.loop-rest.rest.products.heap))) (sum_of_rest c.args.w.field c.take_first.new.self.terms.now (products_left c.args.w.field c.loop-rest.quotient.items (take (length c.terms-2.result.now - 1) (drop 1 c.terms-2.result.now)) (heap_items c.take_first.new.self.products.heap))) c.in-Some.first (first_taken c.args.w.field c.loop-rest.quotient.items c.deref-in-loop-rest.result.now (take (length c.terms-2.result.now - 1) (drop 1 c.terms-2.result.now)) c.deref-in-loop-rest.ensures.value c.loop-rest.rest.terms.now c.take_first.new.self.terms.now (heap_items c.loop-rest.rest.products.heap) (heap_items c.take_first.new.self.products.heap) c.in_ok-first.field-0 c.in-Some.first c.in-Some.is c.in_ok-first.ensures.some) c.loop-rest.invariant.4
      (λ h. let f = w.if-not-divides.ensures.1 h in cc)
]

pub returns-then-not-divides-2-clause-none : goal.returns-then-not-divides-2-clause-none
returns-then-not-divides-2-clause-none c =
    stops_high c.args.w.field VARS c.args.w.width c.facts.ensures.prime c.args.a.now c.args.b.now c.index-terms-0.result c.requires.left c.requires.right c.requires.some (take (length c.terms-2.result.now - 1) (drop 1 c.terms-2.result.now)) c.loop-rest.invariant.0 c.loop-rest.quotient.items (sum_of_rest c.args.w.field c.loop-rest.rest.terms.now (products_left c.args.w.field c.loop-rest.quotient.items (take (length c.terms-2.result.now - 1) (drop 1 c.terms-2.result.now)) (heap_items c.loop-rest.rest.products.heap))) (sum_of_rest c.args.w.field c.take_first.new.self.terms.now (products_left c.args.w.field c.loop-rest.quotient.items (take (length c.terms-2.result.now - 1) (drop 1 c.terms-2.result.now)) (heap_items c.take_first.new.self.products.heap))) c.in-Some.first (first_taken c.args.w.field c.loop-rest.quotient.items c.deref-in-loop-rest.result.now (take (length c.terms-2.result.now - 1) (drop 1 c.terms-2.result.now)) c.deref-in-loop-rest.ensures.value c.loop-rest.rest.terms.now c.take_first.new.self.terms.now (heap_items c.loop-rest.rest.products.heap) (heap_items c.take_first.new.self.products.heap) c.in_ok-first.field-0 c.in-Some.first c.in-Some.is c.in_ok-first.ensures.some) c.loop-rest.invariant.4
    (term c.quotient.result c.mul.result) (term_is c.args.w.field VARS c.args.w.width c.facts.ensures.prime c.args.a.now c.args.b.now c.index-terms-0.result c.requires.left c.requires.right c.requires.some (take (length c.terms-2.result.now - 1) (drop 1 c.terms-2.result.now)) c.loop-rest.invariant.0 c.in-Some.first (term c.quotient.result c.mul.result) c.shape.ensures.variables c.quotient.ensures (c.mul.ensures.product ∙ ap (λ x. c.in-Some.first.1 * x % c.args.w.field) c.inv-inverse.ensures.inverse))
    c.args.room c.requires.room (λ h. let f = c.if-not-divides-2.ensures.1 h in cc)

pub go_on-requires-clause-next : goal.go_on-requires-clause-next
go_on-requires-clause-next c =
    subst (λ l. IsPolynomial c.args.w.field VARS (l ++ term c.quotient.result c.mul.result ∷ [])) (sym c.deref-in-Some.ensures.value)
    (next_canonical c.args.w.field VARS c.args.w.width c.facts.ensures.prime c.args.a.now c.args.b.now c.index-terms-0.result c.requires.left c.requires.right c.requires.some (take (length c.terms-2.result.now - 1) (drop 1 c.terms-2.result.now)) c.loop-rest.invariant.0 c.loop-rest.quotient.items (sum_of_rest c.args.w.field c.loop-rest.rest.terms.now (products_left c.args.w.field c.loop-rest.quotient.items (take (length c.terms-2.result.now - 1) (drop 1 c.terms-2.result.now)) (heap_items c.loop-rest.rest.products.heap))) (sum_of_rest c.args.w.field c.take_first.new.self.terms.now (products_left c.args.w.field c.loop-rest.quotient.items (take (length c.terms-2.result.now - 1) (drop 1 c.terms-2.result.now)) (heap_items c.take_first.new.self.products.heap))) c.in-Some.first (first_taken c.args.w.field c.loop-rest.quotient.items c.deref-in-loop-rest.result.now (take (length c.terms-2.result.now - 1) (drop 1 c.terms-2.result.now)) c.deref-in-loop-rest.ensures.value c.loop-rest.rest.terms.now c.take_first.new.self.terms.now (heap_items c.loop-rest.rest.products.heap) (heap_items c.take_first.new.self.products.heap) c.in_ok-first.field-0 c.in-Some.first c.in-Some.is c.in_ok-first.ensures.some) c.loop-rest.invariant.4
    (term c.quotient.result c.mul.result) (term_is c.args.w.field VARS c.args.w.width c.facts.ensures.prime c.args.a.now c.args.b.now c.index-terms-0.result c.requires.left c.requires.right c.requires.some (take (length c.terms-2.result.now - 1) (drop 1 c.terms-2.result.now)) c.loop-rest.invariant.0 c.in-Some.first (term c.quotient.result c.mul.result) c.shape.ensures.variables c.quotient.ensures (c.mul.ensures.product ∙ ap (λ x. c.in-Some.first.1 * x % c.args.w.field) c.inv-inverse.ensures.inverse)) (c.if-not-divides.ensures.0 refl))

pub go_on-requires-clause-fit : goal.go_on-requires-clause-fit
go_on-requires-clause-fit c = later_fits c.args.w.field VARS c.args.w.width c.facts.ensures.prime c.args.a.now c.args.b.now c.index-terms-0.result c.requires.left c.requires.right c.requires.some (take (length c.terms-2.result.now - 1) (drop 1 c.terms-2.result.now)) c.loop-rest.invariant.0 c.facts-2.ensures.exponents c.quotient.result c.args.room c.requires.room (c.if-not-divides-2.ensures.0 refl)

pub loop-rest-smaller : goal.loop-rest-smaller
loop-rest-smaller c =
    less_room (length c.loop-rest.quotient.items) (length c.args.b.now) c.args.w.width (length c.push.new.self.items) (let e = ap length c.loop-rest.invariant.0 in omega arith)
    (subst (λ k. k ≤ c.args.w.width) (ap₂ (λ x y. (x + 1) * y) (c.len.ensures ∙ c.loop-rest.quotient.ok.0) c.term_count.ensures) c.if-terms-w.false)
    (ap length c.in_ok-push.ensures.items ∙ length-append c.loop-rest.quotient.items (term c.quotient.result c.mul.result ∷ []))

pub loop-rest-preserved : goal.loop-rest-preserved
loop-rest-preserved c =
    let few = subst (λ k. k ≤ c.args.w.width) (ap₂ (λ x y. (x + 1) * y) (c.len.ensures ∙ c.loop-rest.quotient.ok.0) c.term_count.ensures) c.if-terms-w.false in
    let grown = ap (λ l. l ++ term c.quotient.result c.mul.result ∷ []) c.deref-in-Some.ensures.value ∙ sym c.in_ok-push.ensures.items in
    let next = turn c.args.w.field VARS c.args.w.width c.facts.ensures.prime c.args.a.now c.args.b.now c.index-terms-0.result c.requires.left c.requires.right c.requires.some (take (length c.terms-2.result.now - 1) (drop 1 c.terms-2.result.now)) c.loop-rest.invariant.0 c.loop-rest.quotient.items (sum_of_rest c.args.w.field c.loop-rest.rest.terms.now (products_left c.args.w.field c.loop-rest.quotient.items (take (length c.terms-2.result.now - 1) (drop 1 c.terms-2.result.now)) (heap_items c.loop-rest.rest.products.heap))) (sum_of_rest c.args.w.field c.take_first.new.self.terms.now (products_left c.args.w.field c.loop-rest.quotient.items (take (length c.terms-2.result.now - 1) (drop 1 c.terms-2.result.now)) (heap_items c.take_first.new.self.products.heap))) c.in-Some.first (first_taken c.args.w.field c.loop-rest.quotient.items c.deref-in-loop-rest.result.now (take (length c.terms-2.result.now - 1) (drop 1 c.terms-2.result.now)) c.deref-in-loop-rest.ensures.value c.loop-rest.rest.terms.now c.take_first.new.self.terms.now (heap_items c.loop-rest.rest.products.heap) (heap_items c.take_first.new.self.products.heap) c.in_ok-first.field-0 c.in-Some.first c.in-Some.is c.in_ok-first.ensures.some) c.loop-rest.invariant.4 (term c.quotient.result c.mul.result) (sum_of_rest c.args.w.field c.go_on.new.self.terms.now (products_left c.args.w.field (c.loop-rest.quotient.items ++ term c.quotient.result c.mul.result ∷ []) (take (length c.terms-2.result.now - 1) (drop 1 c.terms-2.result.now)) (heap_items c.go_on.new.self.products.heap))) (term_is c.args.w.field VARS c.args.w.width c.facts.ensures.prime c.args.a.now c.args.b.now c.index-terms-0.result c.requires.left c.requires.right c.requires.some (take (length c.terms-2.result.now - 1) (drop 1 c.terms-2.result.now)) c.loop-rest.invariant.0 c.in-Some.first (term c.quotient.result c.mul.result) c.shape.ensures.variables c.quotient.ensures (c.mul.ensures.product ∙ ap (λ x. c.in-Some.first.1 * x % c.args.w.field) c.inv-inverse.ensures.inverse)) (c.if-not-divides.ensures.0 refl) (went_on c.args.w.field c.loop-rest.quotient.items c.deref-in-Some.result.now (take (length c.terms-2.result.now - 1) (drop 1 c.terms-2.result.now)) c.deref-in-Some.ensures.value c.take_first.new.self.terms.now c.go_on.new.self.terms.now (heap_items c.take_first.new.self.products.heap) (heap_items c.go_on.new.self.products.heap) (term c.quotient.result c.mul.result) c.in_ok-go_on.ensures.sum) in (
      c.loop-rest.invariant.0,
      c.in_ok-go_on.ensures.canonical,
      c.in_ok-go_on.ensures.order,
      subst (λ l. AreProducts c.args.w.field VARS l (take (length c.terms-2.result.now - 1) (drop 1 c.terms-2.result.now)) (heap_items c.go_on.new.self.products.heap) c.go_on.new.self.products.waiting.items) grown c.in_ok-go_on.ensures.products,
      rw c.in_ok-push.ensures.items next,
      subst (λ k. k * length c.args.b.now ≤ c.args.w.width) (sym (ap length c.in_ok-push.ensures.items ∙ length-append c.loop-rest.quotient.items (term c.quotient.result c.mul.result ∷ []))) few,
    )

pub returns-clause-quotient : goal.returns-clause-quotient
returns-clause-quotient c =
    done c.args.w.field VARS c.args.w.width c.facts.ensures.prime c.args.a.now c.args.b.now c.index-terms-0.result c.requires.left c.requires.right c.requires.some (take (length c.terms-2.result.now - 1) (drop 1 c.terms-2.result.now)) c.loop-rest.invariant.0 c.facts-2.ensures.exponents c.loop-rest.quotient.items (sum_of_rest c.args.w.field c.loop-rest.rest.terms.now (products_left c.args.w.field c.loop-rest.quotient.items (take (length c.terms-2.result.now - 1) (drop 1 c.terms-2.result.now)) (heap_items c.loop-rest.rest.products.heap))) (nothing_left c.args.w.field c.loop-rest.quotient.items c.deref-in-loop-rest.result.now (take (length c.terms-2.result.now - 1) (drop 1 c.terms-2.result.now)) c.deref-in-loop-rest.ensures.value c.loop-rest.rest.terms.now c.take_first.new.self.terms.now (heap_items c.loop-rest.rest.products.heap) (heap_items c.take_first.new.self.products.heap) c.in_ok-first.field-0 c.in_default.is c.in_ok-first.ensures.none) c.loop-rest.invariant.4 c.loop-rest.invariant.5

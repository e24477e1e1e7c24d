-- Sorting changes the order alone.
use Rattle.std.proofs.Common.{rules, ◌≡◌, ◌+◌, ◌++◌, [], ◌∷◌, length, drop, ap, ◌∙◌, sym, refl, subst, append_assoc}
use Rattle.std.proofs.lemmas.List.Sorted.{answers_always}
use Rattle.mono_words.specs.declared.mono.TheConstants.{VARS}
use Rattle.polynomials.specs.Polynomials.{IsPolynomial, collected}
use Rattle.polynomials.proofs.Canonical.{IsPolynomial-collected}
use Rattle.polynomials.proofs.Monomialwise.{EachMonomial-append}
use Rattle.sparse_poly.specs.Falling.{AreResidues, HaveVariables, IsFalling}
use Rattle.sparse_poly.proofs.Moduli.{positive_modulus}
use Rattle.sparse_poly.proofs.Passes.{pass_end}
use Rattle.sparse_poly.proofs.Places.{drop_item}
use Rattle.sparse_poly.proofs.SortedTerms.{comes_before, comes_before_order, falling_from_sorted, collected-permutation, AreResidues-permutation, EachMonomial-permutation, IfOk-implied}
use Rattle.sparse_poly.proofs.collect.collected.Goals as goal
use Rattle.sparse_poly.proofs.collect.collected.Goals.{After-deref}

pub loop-t-preserved : goal.loop-t-preserved
loop-t-preserved c = rw c.in_ok-push.ensures.items (record {
  items =
      append_assoc c.loop-t.sorted.items (c.t-item.result ∷ []) (drop (c.loop-t.t-index + 1) c.args.terms.now)
      ∙ (ap (λ l. c.loop-t.sorted.items ++ l) (sym (drop_item c.args.terms.now c.loop-t.t-index c.t-item.result c.loop-t-test.true c.t-item.is))
      ∙ c.loop-t.invariant.items);
  variables = EachMonomial-append (λ m. length m ≡ VARS) c.loop-t.sorted.items (c.t-item.result ∷ []) c.loop-t.invariant.variables (c.shape.ensures.variables, tt);
})

-- all terms were taken
taken : (c : After-deref) → c.loop-t.sorted.items ≡ c.args.terms.now
taken c = pass_end (λ l. l) refl c.loop-t.sorted.items c.args.terms.now c.args.terms.now c.loop-t.t-index c.loop-t-test.false c.loop-t.invariant.items

-- the sorted ones have as many exponents
variables : (c : After-deref) → HaveVariables VARS c.deref.result.now
variables c =
    subst (HaveVariables VARS) (sym c.deref.ensures.value)
    (EachMonomial-permutation (λ m. length m ≡ VARS) c.loop-t.sorted.items c.sort_unstable_by.new.self.items c.sort_unstable_by.ensures.permutation c.loop-t.invariant.variables)

pub joined-requires-clause-small : goal.joined-requires-clause-small
joined-requires-clause-small c =
    subst (AreResidues c.args.f) (sym c.deref.ensures.value)
    (AreResidues-permutation c.args.f c.loop-t.sorted.items c.sort_unstable_by.new.self.items c.sort_unstable_by.ensures.permutation
    (rw (taken c) c.requires))

pub joined-requires-clause-variables : goal.joined-requires-clause-variables
joined-requires-clause-variables c = variables c

pub joined-requires-clause-falling : goal.joined-requires-clause-falling
joined-requires-clause-falling c =
    subst IsFalling (sym c.deref.ensures.value)
    (falling_from_sorted c.sort_unstable_by.new.self.items
    (c.sort_unstable_by.ensures.sorted comes_before comes_before_order (answers_always _ _ _ (λ f a r g h. search rules))))

pub returns-clause-value : goal.returns-clause-value
returns-clause-value c =
    IfOk-implied _ _ c.joined.result
    (λ r e. e
    ∙ (ap (collected c.args.f) c.deref.ensures.value
    ∙ (collected-permutation c.args.f VARS (positive_modulus c.facts.ensures.least) c.loop-t.sorted.items c.sort_unstable_by.new.self.items c.loop-t.invariant.variables (subst (HaveVariables VARS) c.deref.ensures.value (variables c.before.before)) c.sort_unstable_by.ensures.permutation
    ∙ ap (collected c.args.f) (taken c.before.before))))
    c.joined.ensures

pub returns-clause-over : goal.returns-clause-over
returns-clause-over c =
    IfOk-implied _ _ c.joined.result
    (λ r e. subst (IsPolynomial c.args.f VARS) (sym e) (IsPolynomial-collected c.args.f VARS (positive_modulus c.facts.ensures.least) c.deref.result.now (variables c.before.before)))
    c.joined.ensures

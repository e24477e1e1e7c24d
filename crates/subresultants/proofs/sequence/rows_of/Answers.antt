-- Each turn is one of the definition.
use Rattle.std.proofs.Common.{◌≡◌, ◌+◌, ◌-◌, [], ◌∷◌, ◌++◌, length, Some, None, sym, ap, ap₂, subst, ◌∙◌, arith}
use Rattle.polynomials.specs.Polynomials.{Polynomial}
use Rattle.polynomials.specs.Views.{degree_in}
use Rattle.division_rules.specs.Operations.{lead}
use Rattle.division_rules.specs.Rows.{Row}
use Rattle.division_rules.specs.Chains.{EachRow}
use Rattle.pseudo_division.specs.FieldOperations.{operations}
use Rattle.subresultants.specs.Turns.{turn_within}
use Rattle.subresultants.specs.declared.turn.NextRow.TheVariants.{Zero, Later}
use Rattle.subresultants.proofs.RowTurns.{first_canonical, second_canonical, first_some, second_high, second_less, first_count, second_count, memory_over}
use Rattle.subresultants.proofs.Sequences.{turn_left, sequence_starts, sequence-end, sequence-too_wide, sequence-zero, sequence-last, sequence-later}
use Rattle.subresultants.proofs.Starts.{start_row_turn}
use Rattle.subresultants.proofs.sequence.rows_of.Goals as goal

pub loop-init : goal.loop-init
loop-init c =
    let turns : c.degree_in.result + 1 ≡ degree_in c.args.v c.args.second.first + 1 = ap (λ d. d + 1) (c.degree_in.ensures ∙ ap (λ (r : Row Polynomial). degree_in c.args.v r.first) c.second.view_is) in
    let leads : c.push.new.self ≡ lead (operations c.args.w.now.field) c.args.v c.args.second.first ∷ [] = c.in_ok-push.ensures.ok ∙ ap₂ (λ xs x. xs ++ x ∷ []) c.new-leads.ensures (c.in_ok-lead_in.ensures.lead ∙ ap (λ (r : Row Polynomial). lead (operations c.args.w.now.field) c.args.v r.first) c.second.view_is) in
    sequence_starts c.args.w.now.field c.args.w.now.width c.args.v c.args.chain.now c.args.first c.args.second (c.degree_in.result + 1) c.push.new.self turns leads
    (start_row_turn c.args.w.now.field c.args.v c.facts.ensures.prime (length c.args.first.cofactors) c.args.chain.now c.requires.chain c.args.first c.args.second c.requires.first c.requires.second c.requires.start c.requires.cofactors)

pub turn_after-requires-clause-triangular : goal.turn_after-requires-clause-triangular
turn_after-requires-clause-triangular c = c.requires.start.triangular

pub turn_after-requires-clause-left : goal.turn_after-requires-clause-left
turn_after-requires-clause-left c = first_canonical c.args.w.now.field c.args.v (length c.args.first.cofactors) c.args.chain.now c.loop.memory c.loop.before c.loop.last c.loop.invariant.turn

pub turn_after-requires-clause-right : goal.turn_after-requires-clause-right
turn_after-requires-clause-right c = second_canonical c.args.w.now.field c.args.v (length c.args.first.cofactors) c.args.chain.now c.loop.memory c.loop.before c.loop.last c.loop.invariant.turn

pub turn_after-requires-clause-some : goal.turn_after-requires-clause-some
turn_after-requires-clause-some c = first_some c.args.w.now.field c.args.v (length c.args.first.cofactors) c.args.chain.now c.loop.memory c.loop.before c.loop.last c.loop.invariant.turn

pub turn_after-requires-clause-degrees : goal.turn_after-requires-clause-degrees
turn_after-requires-clause-degrees c =
    let less = second_less c.args.w.now.field c.args.v (length c.args.first.cofactors) c.args.chain.now c.loop.memory c.loop.before c.loop.last c.loop.invariant.turn in
    omega arith

pub turn_after-requires-clause-occurs : goal.turn_after-requires-clause-occurs
turn_after-requires-clause-occurs c = second_high c.args.w.now.field c.args.v (length c.args.first.cofactors) c.args.chain.now c.loop.memory c.loop.before c.loop.last c.loop.invariant.turn

pub turn_after-requires-clause-cofactors : goal.turn_after-requires-clause-cofactors
turn_after-requires-clause-cofactors c = first_count c.args.w.now.field c.args.v (length c.args.first.cofactors) c.args.chain.now c.loop.memory c.loop.before c.loop.last c.loop.invariant.turn ∙ sym (second_count c.args.w.now.field c.args.v (length c.args.first.cofactors) c.args.chain.now c.loop.memory c.loop.before c.loop.last c.loop.invariant.turn)

pub turn_after-requires-clause-chain_cofactors : goal.turn_after-requires-clause-chain_cofactors
turn_after-requires-clause-chain_cofactors c = subst (λ n. EachRow (λ (f : Row Polynomial). length f.cofactors ≡ n) c.args.chain.now) (sym (first_count c.args.w.now.field c.args.v (length c.args.first.cofactors) c.args.chain.now c.loop.memory c.loop.before c.loop.last c.loop.invariant.turn)) c.requires.cofactors.1.1

pub turn_after-requires-clause-memory : goal.turn_after-requires-clause-memory
turn_after-requires-clause-memory c = memory_over c.args.w.now.field c.args.v (length c.args.first.cofactors) c.args.chain.now c.loop.memory c.loop.before c.loop.last c.loop.invariant.turn

pub returns-in-None : goal.returns-in-None
returns-in-None c =
    let turn : turn_within c.args.w.now.field c.args.w.now.width c.args.v c.args.chain.now c.loop.memory c.loop.before c.loop.last ≡ None = let e = c.in_ok-turn_after.ensures in let i = c.in-None.is in cc in
    sequence-too_wide c.args.w.now.field c.args.w.now.width c.args.v c.args.chain.now c.args.first c.args.second (c.degree_in.result + 1 - c.loop.counter) c.loop.memory c.loop.before c.loop.last c.loop.leads c.loop.invariant (c.degree_in.result + 1 - (c.loop.counter + 1)) (turn_left (c.degree_in.result + 1) c.loop.counter c.loop-test.true) turn

pub returns-in-Some-Zero : goal.returns-in-Some-Zero
returns-in-Some-Zero c =
    let turn : turn_within c.args.w.now.field c.args.w.now.width c.args.v c.args.chain.now c.loop.memory c.loop.before c.loop.last ≡ Some (Zero c.in-Some-Zero.row) = let e = c.in_ok-turn_after.ensures in let i = c.in-Some-Zero.is in let j = c.in-Some-Zero.field-0-is in cc in
    sequence-zero c.args.w.now.field c.args.w.now.width c.args.v c.args.chain.now c.args.first c.args.second (c.degree_in.result + 1 - c.loop.counter) c.loop.memory c.loop.before c.loop.last c.loop.leads c.loop.invariant (c.degree_in.result + 1 - (c.loop.counter + 1)) (turn_left (c.degree_in.result + 1) c.loop.counter c.loop-test.true) c.in-Some-Zero.row turn

pub returns-then-degree-eq0 : goal.returns-then-degree-eq0
returns-then-degree-eq0 c =
    let turn : turn_within c.args.w.now.field c.args.w.now.width c.args.v c.args.chain.now c.loop.memory c.loop.before c.loop.last ≡ Some (Later c.in-Some-Later.row c.in-Some-Later.next) = let e = c.in_ok-turn_after.ensures in let i = c.in-Some-Later.is in let j = c.in-Some-Later.field-0-is in cc in
    let more : c.push-in-Some-Later.new.self ≡ c.loop.leads ++ lead (operations c.args.w.now.field) c.args.v c.in-Some-Later.row.first ∷ [] = c.in_ok-push-in-Some-Later.ensures.ok ∙ ap (λ x. c.loop.leads ++ x ∷ []) (c.in_ok-lead_in-in-Some-Later.ensures.lead ∙ ap (λ (r : Row Polynomial). lead (operations c.args.w.now.field) c.args.v r.first) c.row.view_is) in
    let degree : c.degree_in-degree.result ≡ degree_in c.args.v c.in-Some-Later.row.first = c.degree_in-degree.ensures ∙ ap (λ (r : Row Polynomial). degree_in c.args.v r.first) c.row.view_is in
    sequence-last c.args.w.now.field c.args.w.now.width c.args.v c.args.chain.now c.args.first c.args.second (c.degree_in.result + 1 - c.loop.counter) c.loop.memory c.loop.before c.loop.last c.loop.leads c.loop.invariant (c.degree_in.result + 1 - (c.loop.counter + 1)) (turn_left (c.degree_in.result + 1) c.loop.counter c.loop-test.true) c.in-Some-Later.row c.in-Some-Later.next turn c.push-in-Some-Later.new.self more (sym degree ∙ c.if-degree-eq0.true)

pub loop-preserved : goal.loop-preserved
loop-preserved c =
    let turn : turn_within c.args.w.now.field c.args.w.now.width c.args.v c.args.chain.now c.loop.memory c.loop.before c.loop.last ≡ Some (Later c.in-Some-Later.row c.in-Some-Later.next) = let e = c.in_ok-turn_after.ensures in let i = c.in-Some-Later.is in let j = c.in-Some-Later.field-0-is in cc in
    let more : c.push-in-Some-Later.new.self ≡ c.loop.leads ++ lead (operations c.args.w.now.field) c.args.v c.in-Some-Later.row.first ∷ [] = c.in_ok-push-in-Some-Later.ensures.ok ∙ ap (λ x. c.loop.leads ++ x ∷ []) (c.in_ok-lead_in-in-Some-Later.ensures.lead ∙ ap (λ (r : Row Polynomial). lead (operations c.args.w.now.field) c.args.v r.first) c.row.view_is) in
    let degree : c.degree_in-degree.result ≡ degree_in c.args.v c.in-Some-Later.row.first = c.degree_in-degree.ensures ∙ ap (λ (r : Row Polynomial). degree_in c.args.v r.first) c.row.view_is in
    sequence-later c.args.w.now.field c.args.w.now.width c.args.v c.args.chain.now c.args.first c.args.second (c.degree_in.result + 1 - c.loop.counter) c.loop.memory c.loop.before c.loop.last c.loop.leads c.loop.invariant (c.degree_in.result + 1 - (c.loop.counter + 1)) (turn_left (c.degree_in.result + 1) c.loop.counter c.loop-test.true) c.in-Some-Later.row c.in-Some-Later.next turn c.push-in-Some-Later.new.self more (λ low. c.if-degree-eq0.false (degree ∙ low))

pub returns : goal.returns
returns c =
    let none : c.degree_in.result + 1 - c.loop.counter ≡ 0 = let done = c.loop-test.false in omega arith in
    sequence-end c.args.w.now.field c.args.w.now.width c.args.v c.args.chain.now c.args.first c.args.second (c.degree_in.result + 1 - c.loop.counter) c.loop.memory c.loop.before c.loop.last c.loop.leads c.loop.invariant none

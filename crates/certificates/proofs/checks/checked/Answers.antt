-- The test is that of the identity of the member that the certificate names.
use Rattle.std.proofs.Common.{◌≡◌, ◌∷◌, length, false, Some, None, IsSome, rules, sym, ap, ◌∙◌, arith}
use Rattle.std.proofs.lemmas.Bool.{false_from_ne_true}
use Rattle.mono_words.specs.declared.mono.TheConstants.{VARS}
use Rattle.polynomials.specs.Views.{is_constant}
use Rattle.zero_sets.specs.ZeroSets.{member_in}
use Rattle.division_rules.specs.Within.{and_then}
use Rattle.finish_rules.specs.Checks.{combination_within, is_value}
use Rattle.certificates.proofs.Members.{member_initial, lower_canonical, checked_member}
use Rattle.certificates.proofs.checks.checked.Goals as goal

pub combination-requires-clause-initial : goal.combination-requires-clause-initial
combination-requires-clause-initial c =
    let some : IsSome (member_in c.of-of.result c.args.chain.now) = first_of (search rules, grind arith) in
    member_initial c.args.w.now.field VARS c.of-of.result c.args.chain.now c.in_ok-initial.initial c.requires.chain some c.in_ok-initial.ensures

pub combination-requires-clause-below : goal.combination-requires-clause-below
combination-requires-clause-below c = lower_canonical c.args.w.now.field VARS c.of-of.result c.args.chain.now c.in_ok-below.below c.requires.chain c.in_ok-below.ensures

pub returns-in-None : goal.returns-in-None
returns-in-None c =
    let some : IsSome (member_in c.of-of.result c.args.chain.now) = first_of (search rules, grind arith) in
    let nonconstant : is_constant c.in_ok-initial.initial ≡ false = false_from_ne_true (is_constant c.in_ok-initial.initial) (λ e. let t = c.is_constant.ensures.1 e in let f = c.if-is_constant.false in cc) in
    let count : length c.args.certificate.now.below ≡ length c.in_ok-below.below = let l = c.below-else-is_constant.ensures in let m = c.count.ensures in let n = c.count-else-is_constant.ensures in let e = c.if-count.false in cc in
    let none : combination_within c.args.w.now.field VARS c.args.w.now.width (c.args.certificate.now.cofactor ∷ c.args.certificate.now.below) (c.in_ok-initial.initial ∷ c.in_ok-below.below) ≡ None = let e = c.in_ok-combination.ensures in let i = c.in-None.is in cc in
    sym (checked_member c.args.w.now.field VARS c.args.w.now.width c.of-of.result c.args.chain.now c.in_ok-below.below c.args.certificate.now c.in_ok-initial.initial c.of-of.ensures some c.in_ok-initial.ensures c.in_ok-below.ensures nonconstant count ∙ ap (λ o. and_then o (λ f. Some (is_value c.args.chain.now c.args.certificate.now f))) none)

pub returns : goal.returns
returns c =
    let some : IsSome (member_in c.of-of.result c.args.chain.now) = first_of (search rules, grind arith) in
    let nonconstant : is_constant c.in_ok-initial.initial ≡ false = false_from_ne_true (is_constant c.in_ok-initial.initial) (λ e. let t = c.is_constant.ensures.1 e in let f = c.if-is_constant.false in cc) in
    let count : length c.args.certificate.now.below ≡ length c.in_ok-below.below = let l = c.below-else-is_constant.ensures in let m = c.count.ensures in let n = c.count-else-is_constant.ensures in let e = c.if-count.false in cc in
    let sum : combination_within c.args.w.now.field VARS c.args.w.now.width (c.args.certificate.now.cofactor ∷ c.args.certificate.now.below) (c.in_ok-initial.initial ∷ c.in_ok-below.below) ≡ Some c.in-Some.sum = let e = c.in_ok-combination.ensures in let i = c.in-Some.is in cc in
    ap Some c.is_value.ensures ∙ sym (checked_member c.args.w.now.field VARS c.args.w.now.width c.of-of.result c.args.chain.now c.in_ok-below.below c.args.certificate.now c.in_ok-initial.initial c.of-of.ensures some c.in_ok-initial.ensures c.in_ok-below.ensures nonconstant count ∙ ap (λ o. and_then o (λ f. Some (is_value c.args.chain.now c.args.certificate.now f))) sum)

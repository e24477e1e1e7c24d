-- The lead has no power of the variable.
use Rattle.std.proofs.Common.{◌≡◌, ap, ◌∙◌, arith}
use Rattle.polynomials.specs.Views.{degree_in}
use Rattle.polynomials.proofs.Degrees.{coefficient_in_free}
use Rattle.recursive_poly.specs.Recursive.{whole}
use Rattle.recursive_poly.proofs.elimination.shifted_lead.Goals as goal

pub times_power-requires-clause-room : goal.times_power-requires-clause-room
times_power-requires-clause-room c =
    let free : degree_in c.variable.result c.in_ok-lead.field-0 ≡ 0 = ap (λ v. degree_in v c.in_ok-lead.field-0) c.variable.ensures.variable ∙ (ap (degree_in c.args.f.now.variable) c.in_ok-lead.ensures.lead ∙ coefficient_in_free c.args.f.now.variable (degree_in c.args.f.now.variable (whole c.args.f.now)) (whole c.args.f.now)) in
    omega arith

pub times_power-requires-clause-over : goal.times_power-requires-clause-over
times_power-requires-clause-over c = c.in_ok-lead.ensures.over c.args.w.now.field c.requires.over

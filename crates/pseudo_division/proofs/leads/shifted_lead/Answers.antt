-- The lead has no power of the variable.
use Rattle.std.proofs.Common.{◌≡◌, ap, ◌∙◌, arith}
use Rattle.polynomials.specs.Views.{degree_in}
use Rattle.polynomials.proofs.Degrees.{coefficient_in_free}
use Rattle.pseudo_division.proofs.leads.shifted_lead.Goals as goal

pub times_power-requires-clause-room : goal.times_power-requires-clause-room
times_power-requires-clause-room c =
    let free : degree_in c.args.v c.in_ok-lead.field-0 ≡ 0 = ap (degree_in c.args.v) c.in_ok-lead.ensures.value ∙ coefficient_in_free c.args.v (degree_in c.args.v c.args.a.now) c.args.a.now in
    omega arith

-- The next variable doesn't occur in the shifted one.
use Rattle.std.proofs.Common.{◌≡◌, ◌+◌, ◌%◌, ◌/◌, arith}
use Rattle.mono_words.specs.declared.mono.TheConstants.{VARS}
use Rattle.polynomials.specs.Views.{degree_in}
use Rattle.system_parser.proofs.MadeSystems.{shifted_room}
use Rattle.system_parser.proofs.made_systems.made_polynomial.Goals as goal

pub times_power-requires-clause-room : goal.times_power-requires-clause-room
times_power-requires-clause-room c =
    let none : degree_in (c.args.i % 7 + 1) c.in_ok-shifted.shifted ≡ 0 =
    shifted_room c.args.field VARS (c.args.i % 7) (c.args.i / 7) c.in_ok-first.first c.in_ok-shift.shift c.in_ok-shifted.shifted c.requires.prime c.in_ok-first.ensures.value c.in_ok-shift.ensures.value c.in_ok-shifted.ensures.sum in
    omega arith

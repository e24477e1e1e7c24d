-- The main variables before the place don't occur.
use Rattle.std.proofs.Common.{◌≡◌, drop}
use Rattle.finish_rules.specs.Checks.{is_free_of_main}
use Rattle.certificates.proofs.checks.is_free_of_main.Given as goal

abbrev pub invariant-loop-i : goal.invariant-loop-i
invariant-loop-i l = is_free_of_main l.f (drop l.i l.list) ≡ is_free_of_main l.f l.list

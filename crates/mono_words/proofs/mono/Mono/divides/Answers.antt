-- The exponents are no greater exactly where those of each word do.
use Rattle.std.proofs.Common.{◌≤◌, arith}
use Rattle.mono_words.proofs.Parts.{test_of_each}
use Rattle.mono_words.proofs.mono.Mono.divides.Goals as goal

pub returns : goal.returns
returns c =
    rw (← c.self.view_is, ← c.other.view_is)
    (test_of_each (λ d e. d ≤ e) c.self.inside.first.bits c.self.inside.second.bits c.self.inside.third.bits c.self.inside.fourth.bits c.other.inside.first.bits c.other.inside.second.bits c.other.inside.third.bits c.other.inside.fourth.bits
    c.divides.result c.divides-2.result c.divides-3.result c.divides-4.result (omega arith)
    c.divides.ensures c.divides-2.ensures c.divides-3.ensures c.divides-4.ensures)

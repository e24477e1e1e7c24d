-- The exponents fit exactly where those of each word do.
use Rattle.std.proofs.Common.{◌+◌, ◌≤◌, arith}
use Rattle.mono_words.proofs.Parts.{test_of_each}
use Rattle.mono_words.proofs.mono.Mono.fits.Goals as goal

pub returns : goal.returns
returns c =
    rw (← c.self.view_is, ← c.other.view_is)
    (test_of_each (λ d e. d + e ≤ 65535) c.self.inside.first.bits c.self.inside.second.bits c.self.inside.third.bits c.self.inside.fourth.bits c.other.inside.first.bits c.other.inside.second.bits c.other.inside.third.bits c.other.inside.fourth.bits
    c.fits.result c.fits-2.result c.fits-3.result c.fits-4.result (omega arith)
    c.fits.ensures c.fits-2.ensures c.fits-3.ensures c.fits-4.ensures)

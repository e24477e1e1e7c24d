-- The turns to come make what all turns make, and the identity is one.
use Rattle.std.proofs.Common.{◌≡◌, false}
use Rattle.mono_words.specs.declared.mono.TheConstants.{VARS}
use Rattle.finish_rules.specs.Turns.{turns_below}
use Rattle.regularise.specs.Identities.{HasIdentity}
use Rattle.regularise.proofs.turns.turns.Given as goal

abbrev pub invariant-loop-u : goal.invariant-loop-u
invariant-loop-u l =
    (turns_below l.w.field VARS l.w.width l.chain l.nonzero l.u l.sofar ≡ turns_below l.w.field VARS l.w.width l.chain l.nonzero l.v (record { row = l.fn.row; composed = false }))
    × HasIdentity l.w.field l.u l.chain l.sofar.row

abbrev pub decreases-loop-u : goal.decreases-loop-u
decreases-loop-u l = l.u

use Rattle.std.proofs.Common.{◌∙◌, sym}
use Rattle.collector_bench.proofs.Keys.{halves_key, all_are_true}
use Rattle.collector_bench.proofs.walk.run.Goals as goal

pub note_all-requires-clause-key : goal.note_all-requires-clause-key
note_all-requires-clause-key g c = halves_key _ _ _ c.requires.events c.requires.offers

pub note_all-requires-clause-events : goal.note_all-requires-clause-events
note_all-requires-clause-events g c = all_are_true _ _ (c.in_ok-events.ensures ∙ sym c.requires.events)

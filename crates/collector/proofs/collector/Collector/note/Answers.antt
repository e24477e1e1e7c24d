-- What is ahead and doesn't wait is put; of anything else nothing changes.
use Rattle.std.proofs.Common.{◌≡◌, ◌||◌, ℕ, List, not, true, false, is_some, sym, ◌∙◌, subst}
use Rattle.collector.specs.Notes.{is_ahead, waits_at}
use Rattle.collector.proofs.Noting.{keeps_itself, keeps_same, known, unknown}
use Rattle.collector.proofs.collector.Collector.note.Goals as goal

pub returns-then-has_noted-clause-noted : goal.returns-then-has_noted-clause-noted
returns-then-has_noted-clause-noted g c =
    known g.N.Named.events _ c.args.e c.requires.event
    (subst
    (λ (path : List ℕ).
    (not (is_ahead c.args.self.now.position c.args.self.now.cursor path) || is_some (waits_at c.args.self.now.waiting path)) ≡ true)
    c.path_at.ensures
    (sym c.has_noted.ensures ∙ c.if-has_noted.true))

pub returns-then-has_noted-clause-keeps : goal.returns-then-has_noted-clause-keeps
returns-then-has_noted-clause-keeps g c = keeps_itself g.N.Named.events _

pub returns-in_err-put-clause-keeps : goal.returns-in_err-put-clause-keeps
returns-in_err-put-clause-keeps g c = keeps_same g.N.Named.events _ _ c.in_err-put.ensures.err

pub returns-clause-again : goal.returns-clause-again
returns-clause-again g c noted =
    let test : (not (is_ahead c.args.self.now.position c.args.self.now.cursor c.path_at.result.now)
    || is_some (waits_at c.args.self.now.waiting c.path_at.result.now)) ≡ false =
    sym c.has_noted.ensures ∙ c.if-has_noted.false in
    absurd
    ((unknown g.N.Named.events _ _
    (subst
    (λ (path : List ℕ).
    (not (is_ahead c.args.self.now.position c.args.self.now.cursor path) || is_some (waits_at c.args.self.now.waiting path)) ≡ false)
    c.path_at.ensures test)).1 noted)

use Rattle.std.proofs.lemmas.Result.{IfOk-weaker}
use Rattle.generators.proofs.Turns.{meets, fewer_turns, fewer_steps, lawful_after, lawful_met}
use Rattle.generators.proofs.generator.Generator.turn.Goals as goal

pub returns-clause-lawful : goal.returns-clause-lawful
returns-clause-lawful g c =
    lawful_after _ _ _ (g.met.X.Splitter.keeps_lawful c.args.splitter.now) _ _ _ c.make_turn.ensures.waits c.make_turn.ensures.starved c.requires

pub returns-clause-leaf : goal.returns-clause-leaf
returns-clause-leaf g c =
    IfOk-weaker c.make_turn.result _ _ (lawful_met _ _ _ (g.met.X.Splitter.keeps_lawful c.args.splitter.now) _ _ c.requires) c.make_turn.ensures.waits

pub returns-clause-events : goal.returns-clause-events
returns-clause-events g c = IfOk-weaker c.make_turn.result _ _ (meets (g.X.Splitter.step c.args.splitter.now) _ _) c.make_turn.ensures.waits

pub returns-clause-turns : goal.returns-clause-turns
returns-clause-turns g c = IfOk-weaker c.make_turn.result _ _ (fewer_turns (g.X.Splitter.step c.args.splitter.now) _ _) c.make_turn.ensures.waits

pub returns-clause-steps : goal.returns-clause-steps
returns-clause-steps g c = IfOk-weaker c.make_turn.result _ _ (fewer_steps (g.X.Splitter.step c.args.splitter.now) _ _) c.make_turn.ensures.waits

-- Accounts of what workers did, as events.
use Rattle.std.specs.Prelude.{List, [], ◌++◌}
use Rattle.split_paths.specs.declared.event.Event.{Event}
use Rattle.split_paths.specs.declared.splitter.Step.{Step}
use Rattle.split_paths.specs.Places.{Place}
use Rattle.split_paths.specs.Tree.{events_to_come}
use Rattle.tally_laws.specs.Weights.{WeighTheSame}

-- the offers taken of any deck, the events put into lanes, the offers made on any deck, and the
-- events that are still at home
pub record Account (T L : Type 0) : Type 0 where
  pub taken : List (Place T)
  pub put : List (Event L)
  pub made : List (Place T)
  pub home : List (Event L)

module _ {T L : Type 0} where
  -- what two did
  abbrev pub added : Account T L → Account T L → Account T L
  added a b =
      record {
        taken = a.taken ++ b.taken;
        put = a.put ++ b.put;
        made = a.made ++ b.made;
        home = a.home ++ b.home;
      }

  -- the events of the start, and those below what was taken, are the events put, those below what
  -- was made and those at home
  abbrev pub IsBalanced : (T → Step T L) → List (Event L) → Account T L → Type 0
  IsBalanced step starts account =
      WeighTheSame
      (starts ++ events_to_come step account.taken)
      (account.put ++ (events_to_come step account.made ++ account.home))

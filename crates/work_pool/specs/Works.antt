-- What a worker may do to what it holds.
use Rattle.std.specs.Prelude.{◌≡◌, List}
use Rattle.account_laws.specs.Accounts.{IsBalanced}
use Rattle.split_paths.specs.declared.event.Event.{Event}
use Rattle.split_paths.specs.declared.splitter.Step.{Step}
use Rattle.split_paths.specs.Places.{Place}
use Rattle.work_pool.specs.Homes.{HomeView, IsDesk, account_at, decks_of}

module _ {T L : Type 0} (events : List (Event L)) (offers : List (Place T)) where
  -- an account that was balanced still is, whatever it began with; lane, deck and thieves are the
  -- same
  pub record HasWorked (step : T → Step T L) (old new : HomeView T L) : Type 0 where
    pub desk : IsDesk events offers new
    pub balances : (starts : List (Event L)) → IsBalanced step starts (account_at step old)
        → IsBalanced step starts (account_at step new)
    pub hub : new.lane.hub ≡ old.lane.hub
    pub number : new.lane.number ≡ old.lane.number
    pub deck : new.owner.deck ≡ old.owner.deck
    pub hands : new.owner.thieves ≡ old.owner.thieves
    pub decks : decks_of new.thieves ≡ decks_of old.thieves

  -- a worker may go on with what it holds
  unfoldable pub IsAtWork : HomeView T L → Type 0
  IsAtWork home = IsDesk events offers home

  -- a worker went on from the one to the other
  unfoldable pub Works : (T → Step T L) → HomeView T L → HomeView T L → Type 0
  Works step old new = HasWorked step old new

  -- and so whatever the steps are
  unfoldable pub Moves : HomeView T L → HomeView T L → Type 0
  Moves old new = (step : T → Step T L) → HasWorked step old new

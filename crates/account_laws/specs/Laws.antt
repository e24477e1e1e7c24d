-- The laws of accounts.
use Rattle.std.specs.Prelude.{ℕ, List, ◌++◌, map, length}
use Rattle.std.specs.List.{flat_map}
use Rattle.split_paths.specs.declared.event.Event.{Event}
use Rattle.split_paths.specs.declared.splitter.Step.{Step}
use Rattle.split_paths.specs.Places.{Place}
use Rattle.split_paths.specs.Tree.{events_to_come}
use Rattle.split_paths.specs.Walk.{HasEventAt}
use Rattle.tally_laws.specs.Weights.{WeighTheSame}
use Rattle.event_lanes.specs.declared.rule.Post.{Post}
use Rattle.event_lanes.specs.declared.rule.Back.{Back}
use Rattle.event_lanes.specs.Posts.{AreNumbered, AllTaken}
use Rattle.account_laws.specs.Accounts.{Account, added, IsBalanced}

-- where all lanes that were made came back, and all was taken, what was taken is what was put
abbrev pub TakenIsPut : Type 0 → Type 0
TakenIsPut A =
    (taken : List (Post A)) (backs : List (Back A))
    → AreNumbered 0 backs → AllTaken (length backs) taken backs
    → WeighTheSame
    (map (λ (post : Post A). post.item) taken)
    (flat_map (λ (back : Back A). back.put) backs)

-- what two did is balanced where what each did is
abbrev pub BalancesAdd : Type 0 → Type 0 → Type 0
BalancesAdd T L =
    (step : T → Step T L) (starts more : List (Event L)) (a b : Account T L)
    → IsBalanced step starts a → IsBalanced step more b
    → IsBalanced step (starts ++ more) (added a b)

-- where the offers made are those that were taken and those that were left, the events of the start
-- are those put, those at home and those below what was left
abbrev pub DecksClose : Type 0 → Type 0 → Type 0
DecksClose T L =
    (step : T → Step T L) (starts : List (Event L)) (account : Account T L) (left : List (Place T))
    → WeighTheSame (account.taken ++ left) account.made
    → IsBalanced step starts account
    → WeighTheSame starts (account.put ++ (account.home ++ events_to_come step left))

-- events that weigh the same are at the same paths
abbrev pub PathsAreNoted : Type 0 → Type 0
PathsAreNoted L =
    (events noted : List (Event L)) → WeighTheSame events noted
    → (path : List ℕ) → HasEventAt events path → HasEventAt noted path

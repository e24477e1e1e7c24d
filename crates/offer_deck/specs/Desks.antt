-- The end of a deck at which offers are made, before and after it is closed.
use Rattle.std.specs.Prelude.{◌≡◌, ℕ, ◌+◌, List, [], ◌++◌}
use Rattle.split_paths.specs.Places.{Place}
use Rattle.offer_deck.specs.Passes.{owner_pass}
use Rattle.offer_deck.specs.Views.{DeckId, ThiefView}
use Rattle.offer_deck.specs.declared.rule.View.{View}

-- the deck, for how many offers it has room, the offers made, how many thieves were made and how
-- many given back, and what was taken here or by those
pub record DeskView (T : Type 0) : Type 0 where
  pub deck : DeckId
  pub room : ℕ
  pub made : List (Place T)
  pub thieves : ℕ
  pub hands : ℕ
  pub taken : List (Place T)

module _ {T : Type 0} where
  -- no offer was made or taken, and there are no thieves
  abbrev pub IsUnused : DeskView T → Type 0
  IsUnused desk =
      (desk.made ≡ []) × (desk.taken ≡ []) × (desk.thieves ≡ 0) × (desk.hands ≡ 0)

  -- what the pass of a desk knows
  abbrev pub pass_of_desk : DeskView T → View (Place T)
  pass_of_desk desk = owner_pass desk.made desk.thieves desk.hands desk.taken

  -- a thief was given back
  abbrev pub with_thief_home : DeskView T → ThiefView T → DeskView T
  with_thief_home desk thief =
      record desk { hands = desk.hands + 1; taken = desk.taken ++ thief.taken }

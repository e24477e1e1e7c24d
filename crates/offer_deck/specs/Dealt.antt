-- The thieves of a deck that is made.
use Rattle.std.specs.Prelude.{◌≡◌, ℕ, List, [], length}
use Rattle.std.specs.List.{AllByRecursion}
use Rattle.offer_deck.specs.Desks.{DeskView}
use Rattle.offer_deck.specs.Views.{ThiefView}

module _ {T : Type 0} where
  -- so many thieves of a deck that was not used yet
  pub record AreNewThieves (desk : DeskView T) (thieves : List (ThiefView T)) (room count : ℕ)
      : Type 0 where
    pub room_is : desk.room ≡ room
    pub none_made : desk.made ≡ []
    pub none_taken : desk.taken ≡ []
    pub none_back : desk.hands ≡ 0
    pub how_many : desk.thieves ≡ count
    pub all : length thieves ≡ count
    pub of_deck : AllByRecursion (λ (thief : ThiefView T). thief.deck ≡ desk.deck) thieves
    pub empty : AllByRecursion (λ (thief : ThiefView T). thief.taken ≡ []) thieves

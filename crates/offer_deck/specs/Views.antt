-- What contracts see of a deck's owner, of a thief, and of a deck that is closed.
use Rattle.std.specs.Prelude.{◌≡◌, ℕ, List, [], ◌++◌, length}
use Rattle.std.specs.List.{AllByRecursion, flat_map}
use Rattle.atomic_blocks.specs.Lent.{RowsId}
use Rattle.std.specs.Global.{Global}
use Rattle.split_paths.specs.Key.{IsTrueOffer}
use Rattle.split_paths.specs.Places.{Place}
use Rattle.offer_deck.specs.declared.rule.View.{View}
use Rattle.offer_deck.specs.Passes.{owner_pass, thief_pass}
use Rattle.offer_deck.specs.Rule.{BesideNone}
use Rattle.offer_deck.specs.declared.thief.Steal.{Steal}
use Rattle.offer_deck.specs.declared.thief.Steal.TheVariants.{Got, Empty}

-- which deck it is
abbrev pub DeckId : Type 0
DeckId = RowsId × Global

-- an owner: its deck, for how many offers it has room, the offers made, those that it took, how
-- many thieves were made
pub record OwnerView (T : Type 0) : Type 0 where
  pub deck : DeckId
  pub room : ℕ
  pub made : List (Place T)
  pub taken : List (Place T)
  pub thieves : ℕ

-- a thief: its deck, and what it took
pub record ThiefView (T : Type 0) : Type 0 where
  pub deck : DeckId
  pub taken : List (Place T)

-- a deck that is closed: the offers made, and those taken by anyone
pub record SoleView (T : Type 0) : Type 0 where
  pub made : List (Place T)
  pub taken : List (Place T)

module _ {T : Type 0} where
  -- what an owner's pass knows, and what a thief's does
  abbrev pub pass_of_owner : OwnerView T → View (Place T)
  pass_of_owner owner = owner_pass owner.made owner.thieves 0 owner.taken

  abbrev pub pass_of_thief : ThiefView T → View (Place T)
  pass_of_thief thief = thief_pass thief.taken

  -- the deck was empty at one moment, and views of the others meet the rule beside this one
  unfoldable pub EmptyBeside : List (Place T) → View (Place T) → Type 0
  EmptyBeside offers view = BesideNone (IsTrueOffer offers) view

  -- the closed deck of an owner that was given back these thieves, with what they took
  abbrev pub sole_of : OwnerView T → List (ThiefView T) → SoleView T
  sole_of owner thieves =
      record {
        made = owner.made;
        taken = owner.taken ++ flat_map (λ (thief : ThiefView T). thief.taken) thieves;
      }

  -- where a thief got an offer
  abbrev pub IfGot : {X L : Type 0} → Steal X T L → (Place T → Type 0) → Type 0
  IfGot (Got offer) P = P offer
  IfGot Empty P = Unit {0}

  -- where it got none
  abbrev pub IfEmpty : {X L : Type 0} → Steal X T L → Type 0 → Type 0
  IfEmpty (Got offer) P = Unit {0}
  IfEmpty Empty P = P

-- a new deck's owner, and its thieves
pub record IsNewDeck {T : Type 0} (owner : OwnerView T) (thieves : List (ThiefView T))
    (room count : ℕ) : Type 0 where
  pub room_is : owner.room ≡ room
  pub none_made : owner.made ≡ []
  pub none_taken : owner.taken ≡ []
  pub how_many : owner.thieves ≡ count
  pub all : length thieves ≡ count
  pub of_deck : AllByRecursion (λ (thief : ThiefView T). thief.deck ≡ owner.deck) thieves
  pub empty : AllByRecursion (λ (thief : ThiefView T). thief.taken ≡ []) thieves

-- What is left while decks are closed.
use Rattle.std.specs.Prelude.{◌≡◌, ℕ, ◌+◌, List}
use Rattle.std.specs.List.{sum_by, flat_map}
use Rattle.split_paths.specs.Places.{Place}
use Rattle.offer_deck.specs.Views.{OwnerView, ThiefView}

module _ {T : Type 0} where
  -- the offers that owners took of their decks, those that thieves took, and those made
  abbrev pub recalled : List (OwnerView T) → List (Place T)
  recalled owners = flat_map (λ (owner : OwnerView T). owner.taken) owners

  abbrev pub stolen : List (List (ThiefView T)) → List (Place T)
  stolen rows = flat_map (flat_map (λ (thief : ThiefView T). thief.taken)) rows

  abbrev pub made_of : List (OwnerView T) → List (Place T)
  made_of owners = flat_map (λ (owner : OwnerView T). owner.made) owners

  -- of the decks that are closed, what was made is what was taken and what was left
  unfoldable pub Closing : List (OwnerView T) → List (List (ThiefView T)) → List (OwnerView T)
      → List (List (ThiefView T))
      → List (Place T) → Type 0
  Closing owners rows others rests left =
      (h : Place T → ℕ)
      → sum_by h (made_of owners) + (sum_by h (recalled others) + sum_by h (stolen rests))
      ≡ sum_by h (made_of others)
      + (sum_by h (recalled owners) + sum_by h (stolen rows))
      + sum_by h left

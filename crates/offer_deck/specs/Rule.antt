-- The rule of a deck: how what it holds and what its passes know go together.
use Rattle.std.specs.Prelude.{◌≡◌, ◌≤◌, true, false, ℕ, List, [], ◌++◌, length}
use Rattle.std.specs.List.{AllByRecursion, sum_by}
use Rattle.tally_laws.specs.Places.{HasAt, EachAt}
use Rattle.offer_deck.specs.declared.rule.View.{View}
use Rattle.offer_deck.specs.Passes.{with_stolen}

-- what the passes of a deck have in common: the pass of the owner, the offers that were taken, in
-- the order in which they were made, and how many thieves were made
pub record Trade (A : Type 0) : Type 0 where
  pub owner : ℕ
  pub gone : List A
  pub thieves : ℕ

module _ {A : Type 0} where
  -- what a pass took, weighed
  abbrev pub taken_weight : (A → ℕ) → View A → ℕ
  taken_weight weight view = sum_by weight view.taken

  -- how many thieves a pass stands for
  abbrev pub hands_of : View A → ℕ
  hands_of view = view.hands

  -- the owner's pass is the only one of its kind, and knows the offers made and the thieves
  pub record FitsOwner (trade : Trade A) (items : List A) (pass : ℕ) (view : View A) : Type 0 where
    pub only : pass ≡ trade.owner
    pub made : view.made ≡ trade.gone ++ items
    pub thieves : view.thieves ≡ trade.thieves

  -- another pass that stands for no thief took nothing
  abbrev pub FitsDeck : Trade A → List A → ℕ → View A → Type 0
  FitsDeck trade items pass view =
      (view.owns ≡ true → FitsOwner trade items pass view)
      × (view.owns ≡ false → view.hands ≡ 0 → view.taken ≡ [])

  -- the deck holds the offers made but those that are gone, which the passes took, each once
  pub record AgreesOn (trade : Trade A) (IsTrue : A → Type 0) (items : List A)
      (views : List (View A)) : Type 0 where
    pub known : AllByRecursion IsTrue (trade.gone ++ items)
    pub once : (weight : A → ℕ) → sum_by (taken_weight weight) views ≡ sum_by weight trade.gone
    pub counted : sum_by hands_of views ≡ trade.thieves
    pub fits : EachAt (FitsDeck trade items) views

  -- the rule: some trade agrees with what the deck holds and with what each pass knows
  abbrev pub KeepsDeck : (A → Type 0) → List A → List (View A) → Type 0
  KeepsDeck IsTrue items views = (trade : Trade A) × AgreesOn trade IsTrue items views

  -- there are views of others that meet the rule beside this one, where the deck holds these
  abbrev pub BesideHeld : (A → Type 0) → List A → View A → Type 0
  BesideHeld IsTrue items view =
      (views : List (View A)) × (pass : ℕ) × KeepsDeck IsTrue items views × HasAt views pass view

  -- the same where it is empty
  abbrev pub BesideNone : (A → Type 0) → View A → Type 0
  BesideNone IsTrue view = BesideHeld IsTrue [] view

  -- the offers that a pass takes are true, and an owner takes no more than were made
  pub record AreFirst (IsTrue : A → Type 0) (view : View A) (offers : List A) (after : View A)
      : Type 0 where
    pub taken : after ≡ with_stolen view offers
    pub known : AllByRecursion IsTrue offers
    pub within : view.owns ≡ true → length after.taken ≤ length after.made

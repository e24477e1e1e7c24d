-- What the passes of a deck know, and how a step changes it.
use Rattle.std.specs.Prelude.{true, false, ℕ, ◌+◌, List, [], ◌++◌}
use Rattle.offer_deck.specs.declared.rule.View.{View}

module _ {A : Type 0} where
  -- the owner, with the offers made, how many thieves were made and how many were given back, and
  -- what it took or was given back with them
  abbrev pub owner_pass : List A → ℕ → ℕ → List A → View A
  owner_pass made thieves hands taken =
      record { owns = true; made = made; thieves = thieves; hands = hands; taken = taken }

  -- a thief, with what it took: it stands for one
  abbrev pub thief_pass : List A → View A
  thief_pass taken = record { owns = false; made = []; thieves = 0; hands = 1; taken = taken }

  -- a pass that is no one's
  abbrev pub idle_pass : View A
  idle_pass = record { owns = false; made = []; thieves = 0; hands = 0; taken = [] }

  -- one thief more was made
  abbrev pub with_thief : View A → View A
  with_thief owner = record owner { thieves = owner.thieves + 1 }

  -- a thief was given back, with what it took
  abbrev pub with_thief_back : View A → View A → View A
  with_thief_back owner thief =
      record owner { hands = owner.hands + thief.hands; taken = owner.taken ++ thief.taken }

  -- these offers were made
  abbrev pub with_offers : View A → List A → View A
  with_offers owner offers = record owner { made = owner.made ++ offers }

  -- these offers were taken
  abbrev pub with_stolen : View A → List A → View A
  with_stolen pass offers = record pass { taken = pass.taken ++ offers }

-- Thieves that are given back one after the other.
use Rattle.std.proofs.Common.{◌≡◌, ℕ, suc, ◌+◌, List, ◌∷◌, ◌++◌, length, sym, ap, ◌∙◌, subst, arith, append_assoc}
use Rattle.std.specs.List.{AllByRecursion, flat_map}
use Rattle.std.proofs.lemmas.List.Concat.{flat_map-cons}
use Rattle.offer_deck.specs.Desks.{DeskView, with_thief_home}
use Rattle.offer_deck.specs.Views.{OwnerView, ThiefView}

module _ {T : Type 0} where
  -- with those to come, the thieves so far are all that are given back
  abbrev pub ComesHome : DeskView T → List (ThiefView T) → ℕ → OwnerView T → List (ThiefView T) → Type 0
  ComesHome desk rest count owner thieves =
      AllByRecursion (λ (thief : ThiefView T). thief.deck ≡ desk.deck) rest
      × (count ≡ length rest)
      × (desk.hands + length rest ≡ desk.thieves)
      × (desk.made ≡ owner.made)
      × (desk.taken ++ flat_map (λ (thief : ThiefView T). thief.taken) rest
      ≡ owner.taken ++ flat_map (λ (thief : ThiefView T). thief.taken) thieves)

  pub one_home : (old new : DeskView T) (thief : ThiefView T) (before after : List (ThiefView T)) (n m : ℕ)
      (owner : OwnerView T) (thieves : List (ThiefView T))
      → ComesHome old before n owner thieves
      → before ≡ thief ∷ after
      → m + 1 ≡ n
      → new ≡ with_thief_home old thief
      → ComesHome new after m owner thieves
  one_home old new thief before after n m owner thieves fits first one is =
      let home : ComesHome old (thief ∷ after) n owner thieves =
      subst (λ rest. ComesHome old rest n owner thieves) first fits in
      subst (λ desk. ComesHome desk after m owner thieves) (sym is) (
        home.0.1,
        (let count : n ≡ suc (length after) = home.1 in omega arith),
        (let all : old.hands + suc (length after) ≡ old.thieves = home.2 in omega arith),
        home.3,
        append_assoc old.taken thief.taken (flat_map (λ (t : ThiefView T). t.taken) after)
            ∙ ap (λ taken. old.taken ++ taken) (sym (flat_map-cons (λ (t : ThiefView T). t.taken) thief after))
            ∙ home.4,
      )

-- The thieves of a new deck, made one after the other.
use Rattle.std.proofs.Common.{◌≡◌, ℕ, ◌+◌, List, [], ◌∷◌, ◌++◌, length, sym, refl, ap, subst, arith, length-append}
use Rattle.split_paths.proofs.Lists.{all_append}
use Rattle.offer_deck.specs.Desks.{DeskView}
use Rattle.offer_deck.specs.Dealt.{AreNewThieves}
use Rattle.offer_deck.specs.Views.{ThiefView}

module _ {T : Type 0} where
  pub one_more : (old new : DeskView T) (thieves more : List (ThiefView T)) (room count : ℕ)
      → AreNewThieves old thieves room count
      → new ≡ record old { thieves = old.thieves + 1 }
      → more ≡ thieves ++ record { deck = old.deck; taken = [] } ∷ []
      → AreNewThieves new more room (count + 1)
  one_more old new thieves more room count fits is joined =
      subst (λ (desk : DeskView T). AreNewThieves desk more room (count + 1)) (sym is)
      (subst (λ all. AreNewThieves (record old { thieves = old.thieves + 1 }) all room (count + 1)) (sym joined)
      (record {
        room_is = fits.room_is;
        none_made = fits.none_made;
        none_taken = fits.none_taken;
        none_back = fits.none_back;
        how_many = ap (λ n. n + 1) fits.how_many;
        all =
            (let all : length thieves ≡ count = fits.all in
            let last : ThiefView T = record { deck = old.deck; taken = [] } in
            let one : length (last ∷ []) ≡ 1 = refl in
            omega (arith, length-append thieves (last ∷ [])));
        of_deck = all_append _ thieves _ fits.of_deck (refl, tt);
        empty = all_append _ thieves _ fits.empty (refl, tt);
      }))

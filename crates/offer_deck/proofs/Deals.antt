-- Each step of a deck keeps its rule.
use Rattle.std.proofs.Common.{◌≡◌, ◌≢◌, ℕ, zero, suc, ◌+◌, ◌≤◌, ◌<◌, Bool, true, false, true≢false, List, [], ◌∷◌, ◌++◌, length, set, sym, refl, ap, ◌∙◌, subst, arith, ⊎_elim, ◌⊎◌, append_assoc, append-nil, length-append}
use Rattle.std.specs.List.{AllByRecursion, sum_by}
use Rattle.std.proofs.lemmas.List.Sums.{sum_by-append, sum_by_push}
use mathlib.Core.Option.{some-ne-none}
use Rattle.crossbeam_deque.specs.Tasks.{Pushes, Takes, Forks, Merges}
use Rattle.split_paths.proofs.Lists.{all_append}
use Rattle.tally_laws.proofs.Places.{each_set, each_end, each_one, sum_moves}
use Rattle.tally_laws.proofs.Weights.{sum_by-one}
use Rattle.tally_laws.specs.Places.{HasAt, EachAt}
use Rattle.tally_laws.specs.Weights.{WeighTheSame}
use Rattle.split_paths.specs.Key.{IsTrueOffer}
use Rattle.split_paths.specs.Places.{Place}
use Rattle.offer_deck.specs.Views.{EmptyBeside}
use Rattle.offer_deck.proofs.Counts.{all_front, all_back, weighs_within, all_at_one}
use Rattle.offer_deck.specs.declared.rule.View.{View}
use Rattle.offer_deck.specs.Passes.{owner_pass, thief_pass, idle_pass, with_thief, with_thief_back, with_offers, with_stolen}
use Rattle.offer_deck.specs.Rule.{Trade, taken_weight, hands_of, FitsOwner, FitsDeck, KeepsDeck, BesideHeld, BesideNone, AreFirst}

module _ {A : Type 0} where
  -- a pass that took nothing and isn't the owner's fits any deck
  idle_fits : (trade : Trade A) (items : List A) (pass : ℕ) (view : View A) → view.owns ≡ false → view.taken ≡ []
      → FitsDeck trade items pass view
  idle_fits trade items pass view other none = ((λ owns. absurd (true≢false (sym owns ∙ other))), λ _ _. none)

  one_owner : (trade : Trade A) (items : List A) (pass other : ℕ) (view found : View A)
      → FitsOwner trade items pass view → other ≢ pass → FitsOwner trade items other found → ⊥
  one_owner trade items pass other view found mine apart theirs = apart (theirs.only ∙ sym mine.only)

  -- what the owner's pass knows
  pub owner_is : (v : View A) → v.owns ≡ true → v ≡ owner_pass v.made v.thieves v.hands v.taken
  owner_is v owns =
      ap (λ b. record { owns = b; made = v.made; thieves = v.thieves; hands = v.hands; taken = v.taken }) owns

  -- the pass that was set stands there
  set_at : (views : List (View A)) (pass : ℕ) (old new : View A) → HasAt views pass old → HasAt (set views pass new) pass new
  set_at [] pass old new at = absurd (some-ne-none old (sym at))
  set_at (view ∷ views) zero old new at = refl
  set_at (view ∷ views) (suc pass) old new at = set_at views pass old new at

  -- a pass that stands for no thief and isn't the owner's took nothing
  took_nothing : (trade : Trade A) (pass : ℕ) (view : View A) (other : ℕ) (found : View A)
      → FitsOwner trade [] pass view → other ≢ pass → FitsDeck trade [] other found → found.hands ≡ 0
      → (owns : Bool) → found.owns ≡ owns → found.taken ≡ []
  took_nothing trade pass view other found mine apart fits none true is =
      absurd (one_owner trade [] pass other view found mine apart (fits.0 is))
  took_nothing trade pass view other found mine apart fits none false is = fits.1 is none

  module _ (IsTrue : A → Type 0) where
    pub begins : KeepsDeck IsTrue [] (owner_pass [] 0 0 [] ∷ [])
    begins = (
      record { owner = 0; gone = []; thieves = 0 },
      record {
        known = tt;
        once = λ weight. refl;
        counted = refl;
        fits =
            each_one _ _ (
              (λ _. record { only = refl; made = refl; thieves = refl }),
              λ other. absurd (true≢false other),
            );
      },
    )

    pub makes : (pass : ℕ) (v : View A) → v.owns ≡ true
        → Forks (KeepsDeck IsTrue) pass v (with_thief v) (thief_pass [])
    makes pass v owns items views (trade, agrees) at_pass =
        let mine = (agrees.fits pass v at_pass).0 owns in
        let new : Trade A = record trade { thieves = trade.thieves + 1 } in
        let now : List (View A) = set views pass (with_thief v) in
        let thief : View A = thief_pass [] in (
          new,
          record {
            known = agrees.known;
            once =
                λ weight.
                (let moved : sum_by (taken_weight weight) now + sum_by weight v.taken
                ≡ sum_by (taken_weight weight) views + sum_by weight v.taken =
                sum_moves (taken_weight weight) views pass v (with_thief v) at_pass in
                let was : sum_by (taken_weight weight) views ≡ sum_by weight trade.gone = agrees.once weight in
                let none : taken_weight weight thief ≡ 0 = refl in
                omega (arith, sum_by_push (taken_weight weight) now thief));
            counted =
                (let moved : sum_by hands_of now + v.hands ≡ sum_by hands_of views + v.hands =
                sum_moves hands_of views pass v (with_thief v) at_pass in
                let was : sum_by hands_of views ≡ trade.thieves = agrees.counted in
                let one : hands_of thief ≡ 1 = refl in
                omega (arith, sum_by_push hands_of now thief));
            fits =
                each_end (FitsDeck new items) now thief
                (each_set (FitsDeck new items) views pass (with_thief v) (
                  (λ _. record {
                    only = mine.only;
                    made = mine.made;
                    thieves = ap (λ n. n + 1) mine.thieves;
                  }),
                  (agrees.fits pass v at_pass).1,
                )
                (λ other found apart at_other. (
                  (λ theirs. absurd (one_owner trade items pass other v found mine apart ((agrees.fits other found at_other).0 theirs))),
                  (agrees.fits other found at_other).1,
                )))
                (idle_fits new items (length now) thief refl refl);
          },
        )

    pub offers : (pass : ℕ) (v : View A) (x : A) → v.owns ≡ true → IsTrue x
        → Pushes (KeepsDeck IsTrue) pass v (x ∷ []) (λ w. w ≡ with_offers v (x ∷ []))
    offers pass v x owns true_offer items views (trade, agrees) at_pass =
        let mine = (agrees.fits pass v at_pass).0 owns in
        let now : List (View A) = set views pass (with_offers v (x ∷ [])) in (
          with_offers v (x ∷ []),
          (
            trade,
            record {
              known =
                  subst (AllByRecursion IsTrue) (append_assoc trade.gone items (x ∷ []))
                  (all_append IsTrue (trade.gone ++ items) (x ∷ []) agrees.known (true_offer, tt));
              once =
                  λ weight.
                  (let moved : sum_by (taken_weight weight) now + sum_by weight v.taken
                  ≡ sum_by (taken_weight weight) views + sum_by weight v.taken =
                  sum_moves (taken_weight weight) views pass v (with_offers v (x ∷ [])) at_pass in
                  let was : sum_by (taken_weight weight) views ≡ sum_by weight trade.gone = agrees.once weight in
                  omega arith);
              counted =
                  (let moved : sum_by hands_of now + v.hands ≡ sum_by hands_of views + v.hands =
                  sum_moves hands_of views pass v (with_offers v (x ∷ [])) at_pass in
                  let was : sum_by hands_of views ≡ trade.thieves = agrees.counted in omega arith);
              fits =
                  each_set (FitsDeck trade (items ++ x ∷ [])) views pass (with_offers v (x ∷ [])) (
                    (λ _. record {
                      only = mine.only;
                      made = ap (λ made. made ++ x ∷ []) mine.made ∙ append_assoc trade.gone items (x ∷ []);
                      thieves = mine.thieves;
                    }),
                    (agrees.fits pass v at_pass).1,
                  )
                  (λ other found apart at_other. (
                    (λ theirs. absurd (one_owner trade items pass other v found mine apart ((agrees.fits other found at_other).0 theirs))),
                    (agrees.fits other found at_other).1,
                  ));
            },
          ),
          refl,
        )

    -- the owner takes, or a thief
    pub takes : (pass : ℕ) (v : View A) (most : ℕ) → (v.owns ≡ true) ⊎ (v.hands ≡ 1)
        → Takes (KeepsDeck IsTrue) pass v most (AreFirst IsTrue v)
    takes pass v most who xs items views _ _ (trade, agrees) at_pass =
        let new : Trade A = record trade { gone = trade.gone ++ xs } in
        let now : List (View A) = set views pass (with_stolen v xs) in
        let same : (trade.gone ++ xs) ++ items ≡ trade.gone ++ (xs ++ items) = append_assoc trade.gone xs items in
        let once : (weight : A → ℕ) → sum_by (taken_weight weight) now ≡ sum_by weight new.gone =
        (λ weight.
        let moved : sum_by (taken_weight weight) now + sum_by weight v.taken
        ≡ sum_by (taken_weight weight) views + sum_by weight (v.taken ++ xs) =
        sum_moves (taken_weight weight) views pass v (with_stolen v xs) at_pass in
        let was : sum_by (taken_weight weight) views ≡ sum_by weight trade.gone = agrees.once weight in
        omega (arith, sum_by-append weight v.taken xs, sum_by-append weight trade.gone xs)) in
        let fits : EachAt (FitsDeck new items) now =
        each_set (FitsDeck new items) views pass (with_stolen v xs) (
          (λ owns.
              let mine = (agrees.fits pass v at_pass).0 owns in
              record { only = mine.only; made = mine.made ∙ sym same; thieves = mine.thieves }),
          λ not_owner none. absurd
              (⊎_elim (λ (owns : v.owns ≡ true). true≢false (sym owns ∙ not_owner))
              (λ (one : v.hands ≡ 1). let zero_hands : v.hands ≡ 0 = none in omega arith) who),
        )
        (λ other found apart at_other. (
          (λ owns.
              let theirs = (agrees.fits other found at_other).0 owns in
              record { only = theirs.only; made = theirs.made ∙ sym same; thieves = theirs.thieves }),
          (agrees.fits other found at_other).1,
        )) in (
          with_stolen v xs,
          (
            new,
            record {
              known = subst (AllByRecursion IsTrue) (sym same) agrees.known;
              once = once;
              counted =
                  (let moved : sum_by hands_of now + v.hands ≡ sum_by hands_of views + v.hands =
                  sum_moves hands_of views pass v (with_stolen v xs) at_pass in
                  let was : sum_by hands_of views ≡ trade.thieves = agrees.counted in omega arith);
              fits = fits;
            },
          ),
          record {
            taken = refl;
            known = all_front IsTrue xs items (all_back IsTrue trade.gone (xs ++ items) agrees.known);
            within =
                λ owns.
                (let mine = (agrees.fits pass v at_pass).0 owns in
                let part : sum_by (λ x. 1) (v.taken ++ xs) ≤ sum_by (taken_weight (λ x. 1)) now =
                weighs_within (taken_weight (λ x. 1)) now pass (with_stolen v xs) (set_at views pass v (with_stolen v xs) at_pass) in
                let all : sum_by (taken_weight (λ x. 1)) now ≡ sum_by (λ x. 1) (trade.gone ++ xs) = once (λ x. 1) in
                let made : length v.made ≡ length (trade.gone ++ (xs ++ items)) = ap length mine.made in
                let mine_one : sum_by (λ x. 1) (v.taken ++ xs) ≡ length (v.taken ++ xs) = sum_by-one (v.taken ++ xs) in
                let gone_one : sum_by (λ x. 1) (trade.gone ++ xs) ≡ length (trade.gone ++ xs) = sum_by-one (trade.gone ++ xs) in
                omega (arith, length-append trade.gone xs, length-append trade.gone (xs ++ items), length-append xs items));
          },
        )

    -- a thief is given back
    pub returns : (pass : ℕ) (v : View A) (other : ℕ) (w : View A) → v.owns ≡ true → w.owns ≡ false
        → Merges (KeepsDeck IsTrue) pass v other w (with_thief_back v w) idle_pass
    returns pass v other w owns thief items views (trade, agrees) at_pass apart at_other =
        let mine = (agrees.fits pass v at_pass).0 owns in
        let both : View A = with_thief_back v w in
        let half : List (View A) = set views pass both in
        let now : List (View A) = set half other idle_pass in (
          trade,
          record {
            known = agrees.known;
            once =
                λ weight.
                (let first : sum_by (taken_weight weight) half + sum_by weight v.taken
                ≡ sum_by (taken_weight weight) views + sum_by weight (v.taken ++ w.taken) =
                sum_moves (taken_weight weight) views pass v both at_pass in
                let second : sum_by (taken_weight weight) now + sum_by weight w.taken
                ≡ sum_by (taken_weight weight) half + 0 =
                sum_moves (taken_weight weight) half other w idle_pass at_other in
                let was : sum_by (taken_weight weight) views ≡ sum_by weight trade.gone = agrees.once weight in
                omega (arith, sum_by-append weight v.taken w.taken));
            counted =
                (let first : sum_by hands_of half + v.hands ≡ sum_by hands_of views + (v.hands + w.hands) =
                sum_moves hands_of views pass v both at_pass in
                let second : sum_by hands_of now + w.hands ≡ sum_by hands_of half + 0 =
                sum_moves hands_of half other w idle_pass at_other in
                let was : sum_by hands_of views ≡ trade.thieves = agrees.counted in omega arith);
            fits =
                each_set (FitsDeck trade items) half other idle_pass (idle_fits trade items other idle_pass refl refl)
                (λ place found off at_place.
                each_set (FitsDeck trade items) views pass both (
                  (λ _. record { only = mine.only; made = mine.made; thieves = mine.thieves }),
                  λ not_owner. absurd (true≢false (sym owns ∙ not_owner)),
                )
                (λ third view elsewhere at_third. (
                  (λ theirs. absurd (one_owner trade items pass third v view mine elsewhere ((agrees.fits third view at_third).0 theirs))),
                  (agrees.fits third view at_third).1,
                ))
                place found at_place);
          },
        )

    -- beside an empty deck whose thieves were all given back, what the owner has are the offers made
    pub all_taken : (v : View A) → v.owns ≡ true → v.hands ≡ v.thieves → BesideNone IsTrue v
        → WeighTheSame v.taken v.made
    all_taken v owns home (views, pass, (trade, agrees), at_pass) weight =
        let mine = (agrees.fits pass v at_pass).0 owns in
        let whole : sum_by hands_of views ≤ hands_of v =
        (let counted : sum_by hands_of views ≡ trade.thieves = agrees.counted in
        let thieves : v.thieves ≡ trade.thieves = mine.thieves in omega arith) in
        let alone : sum_by (taken_weight weight) views ≡ taken_weight weight v =
        all_at_one hands_of (taken_weight weight) views pass v at_pass whole
        (λ other found apart at_other none.
        ap (sum_by weight)
        (took_nothing trade pass v other found mine apart (agrees.fits other found at_other) none found.owns refl)) in
        sym alone ∙ agrees.once weight ∙ ap (sum_by weight) (sym (mine.made ∙ append-nil trade.gone))

    -- the same on a deck without thieves
    pub all_taken_alone : (v : View A) → v.owns ≡ true → v.thieves ≡ 0 → BesideNone IsTrue v
        → WeighTheSame v.taken v.made
    all_taken_alone v owns none (views, pass, (trade, agrees), at_pass) =
        let mine = (agrees.fits pass v at_pass).0 owns in
        let part : v.hands ≤ sum_by hands_of views = weighs_within hands_of views pass v at_pass in
        let counted : sum_by hands_of views ≡ trade.thieves = agrees.counted in
        let thieves : v.thieves ≡ trade.thieves = mine.thieves in
        all_taken v owns (omega arith) (views, pass, (trade, agrees), at_pass)

    -- where no offer was counted the deck was empty
    pub none_counted : (v : View A) (n : ℕ) → (items : List A) × (length items ≡ n) × BesideHeld IsTrue items v
        → n ≡ 0 → BesideNone IsTrue v
    none_counted v n ([], count, beside) none = beside
    none_counted v n (x ∷ items, count, beside) none = absurd (omega arith)

    -- where one was, the owner took less than was made
    pub some_counted : (v : View A) (n : ℕ) → v.owns ≡ true
        → (items : List A) × (length items ≡ n) × BesideHeld IsTrue items v
        → n ≢ 0 → length v.taken < length v.made
    some_counted v n owns (items, count, (views, pass, (trade, agrees), at_pass)) more =
        let mine = (agrees.fits pass v at_pass).0 owns in
        let part : sum_by (λ x. 1) v.taken ≤ sum_by (taken_weight (λ x. 1)) views =
        weighs_within (taken_weight (λ x. 1)) views pass v at_pass in
        let all : sum_by (taken_weight (λ x. 1)) views ≡ sum_by (λ x. 1) trade.gone = agrees.once (λ x. 1) in
        let made : length v.made ≡ length (trade.gone ++ items) = ap length mine.made in
        let mine_one : sum_by (λ x. 1) v.taken ≡ length v.taken = sum_by-one v.taken in
        let gone_one : sum_by (λ x. 1) trade.gone ≡ length trade.gone = sum_by-one trade.gone in
        omega (arith, length-append trade.gone items)

module _ {T : Type 0} (offers : List (Place T)) where
  pub empty_beside : (v : View (Place T)) → BesideNone (IsTrueOffer offers) v → EmptyBeside offers v
  unfolding EmptyBeside
  empty_beside v beside = beside

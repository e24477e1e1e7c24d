-- Decks that are closed one after the other.
use Rattle.std.proofs.Common.{◌≡◌, ◌≤◌, ◌<◌, ℕ, zero, suc, ◌+◌, List, [], ◌∷◌, ◌++◌, map, length, refl, sym, ap, ◌∙◌, subst, arith, append-nil}
use Rattle.std.proofs.lemmas.List.Sums.{sum_by-append}
use Rattle.std.proofs.lemmas.List.{map-append, length-map}
use Rattle.std.specs.List.{sum_by, flat_map, AllByRecursion}
use Rattle.split_paths.specs.Places.{Place}
use Rattle.tally_laws.specs.Weights.{WeighTheSame}
use Rattle.offer_deck.specs.Views.{DeckId, OwnerView, ThiefView}
use Rattle.work_pool.specs.Rows.{others, AreRows, Columns}
use Rattle.work_pool.specs.Closing.{recalled, stolen, made_of, Closing}
use Rattle.work_pool.proofs.Covered.{flat_last}
use Rattle.work_pool.proofs.Rows.{weigh_column, rows_of_last, long_column, same_count}

module _ {T : Type 0} where
  pub closing_begins : (owners : List (OwnerView T)) (rows : List (List (ThiefView T))) → Closing owners rows owners rows []
  unfolding Closing
  closing_begins owners rows h = omega arith

  pub closing_next : (owners : List (OwnerView T)) (rows : List (List (ThiefView T))) (now less : List (OwnerView T)) (own : ℕ)
      (rests new : List (List (ThiefView T))) (column : List (ThiefView T)) (owner : OwnerView T) (left more grown : List (Place T))
      → Closing owners rows now rests left → now ≡ less ++ owner ∷ [] → Columns own 0 rests new column
      → WeighTheSame ((owner.taken ++ flat_map (λ (t : ThiefView T). t.taken) column) ++ more) owner.made
      → grown ≡ left ++ more
      → Closing owners rows less new grown
  unfolding Closing
  closing_next owners rows now less own rests new column owner left more grown before cut columns closed grows h =
      let all = before h in
      let taken = (ap (sum_by h) (flat_last (λ (o : OwnerView T). o.taken) now less owner cut)) ∙ sum_by-append h (recalled less) owner.taken in
      let made = (ap (sum_by h) (flat_last (λ (o : OwnerView T). o.made) now less owner cut)) ∙ sum_by-append h (made_of less) owner.made in
      let thieves = weigh_column h (λ (t : ThiefView T). t.taken) own 0 rests new column columns in
      let here = closed h in
      let here_cut = sum_by-append h (owner.taken ++ flat_map (λ (t : ThiefView T). t.taken) column) more in
      let here_first = sum_by-append h owner.taken (flat_map (λ (t : ThiefView T). t.taken) column) in
      let end = ap (sum_by h) grows ∙ sum_by-append h left more in omega arith

  nothing_stolen : (i : ℕ) (rows : List (List (ThiefView T))) → AreRows (λ (t : ThiefView T). t.deck) i rows [] → stolen rows ≡ []
  nothing_stolen i [] fits = refl
  nothing_stolen i ([] ∷ rows) fits = nothing_stolen (i + 1) rows fits.1
  nothing_stolen i ((thief ∷ row) ∷ rows) fits = absurd (no_decks thief.deck (map (λ (t : ThiefView T). t.deck) row) fits.0)
    where
      no_decks : (d : DeckId) (ds : List DeckId) → d ∷ ds ≡ [] → ⊥
      no_decks d ds e = cc

  pub closing_ends : (owners : List (OwnerView T)) (rows : List (List (ThiefView T))) (now : List (OwnerView T)) (rests : List (List (ThiefView T))) (left : List (Place T))
      → Closing owners rows now rests left → now ≡ []
      → AreRows (λ (t : ThiefView T). t.deck) 0 rests (map (λ (o : OwnerView T). o.deck) now)
      → WeighTheSame ((recalled owners ++ stolen rows) ++ left) (made_of owners)
  unfolding Closing
  closing_ends owners rows now rests left closing none fits h =
      let all = closing h in
      let r = ap (λ (os : List (OwnerView T)). sum_by h (recalled os)) none in
      let m = ap (λ (os : List (OwnerView T)). sum_by h (made_of os)) none in
      let s = ap (sum_by h) (nothing_stolen 0 rests (subst (λ (os : List (OwnerView T)). AreRows (λ (t : ThiefView T). t.deck) 0 rests (map (λ (o : OwnerView T). o.deck) os)) none fits)) in
      let one = sum_by-append h (recalled owners ++ stolen rows) left in
      let two = sum_by-append h (recalled owners) (stolen rows) in omega arith

  -- the rows of the decks that are still open, and the thieves of the last
  decks_cut : (now less : List (OwnerView T)) (owner : OwnerView T) → now ≡ less ++ owner ∷ []
      → map (λ (o : OwnerView T). o.deck) now ≡ map (λ (o : OwnerView T). o.deck) less ++ owner.deck ∷ []
  decks_cut now less owner cut = ap (map (λ (o : OwnerView T). o.deck)) cut ∙ map-append (λ (o : OwnerView T). o.deck) less (owner ∷ [])

  pub rows_next : (now less : List (OwnerView T)) (owner : OwnerView T) (own : ℕ) (rests new : List (List (ThiefView T))) (column : List (ThiefView T))
      → now ≡ less ++ owner ∷ [] → own ≡ length less
      → AreRows (λ (t : ThiefView T). t.deck) 0 rests (map (λ (o : OwnerView T). o.deck) now)
      → Columns own 0 rests new column
      → AreRows (λ (t : ThiefView T). t.deck) 0 new (map (λ (o : OwnerView T). o.deck) less)
      × AllByRecursion (λ (t : ThiefView T). t.deck ≡ owner.deck) column
  rows_next now less owner own rests new column cut is fits columns =
      rows_of_last (λ (t : ThiefView T). t.deck) own 0 rests new column (map (λ (o : OwnerView T). o.deck) less) owner.deck
      (is ∙ sym (length-map less (λ (o : OwnerView T). o.deck))) columns
      (subst (λ (ds : List DeckId). AreRows (λ (t : ThiefView T). t.deck) 0 rests ds) (decks_cut now less owner cut) fits)

  pub column_count : (now less : List (OwnerView T)) (owner : OwnerView T) (own : ℕ) (rests new : List (List (ThiefView T))) (column : List (ThiefView T))
      → now ≡ less ++ owner ∷ [] → own ≡ length less → own < length rests
      → AreRows (λ (t : ThiefView T). t.deck) 0 rests (map (λ (o : OwnerView T). o.deck) now)
      → Columns own 0 rests new column → length column + 1 ≡ length rests
  column_count now less owner own rests new column cut is within fits columns =
      long_column (λ (t : ThiefView T). t.deck) own 0 rests new column (map (λ (o : OwnerView T). o.deck) less) owner.deck
      (is ∙ sym (length-map less (λ (o : OwnerView T). o.deck))) (omega arith) (omega arith) columns
      (subst (λ (ds : List DeckId). AreRows (λ (t : ThiefView T). t.deck) 0 rests ds) (decks_cut now less owner cut) fits)

pub ruleset closing_rules = (closing_begins, closing_ends)

-- Sums of accounts, and decks that leave them.
use Rattle.std.proofs.Common.{◌≡◌, ℕ, ◌+◌, List, [], ◌∷◌, ◌++◌, refl, sym, ap, ◌∙◌, arith}
use Rattle.std.proofs.lemmas.List.Sums.{sum_by-append}
use Rattle.std.proofs.lemmas.List.Concat.{flat_map-append}
use Rattle.std.specs.List.{sum_by}
use Rattle.split_paths.specs.declared.event.Event.{Event}
use Rattle.split_paths.specs.declared.splitter.Step.{Step}
use Rattle.split_paths.specs.Places.{Place}
use Rattle.split_paths.specs.Tree.{events_of, events_to_come}
use Rattle.tally_laws.specs.Weights.{WeighTheSame}
use Rattle.account_laws.specs.Accounts.{Account, added, IsBalanced}
use Rattle.account_laws.proofs.Weights.{parts_weigh_the_same}

module _ {T L : Type 0} (step : T → Step T L) (h : Event L → ℕ) where
  -- what the events below offers weigh
  abbrev pub weigh : List (Place T) → ℕ
  weigh offers = sum_by h (events_to_come step offers)

  pub weigh-append : (os ps : List (Place T)) → weigh (os ++ ps) ≡ weigh os + weigh ps
  weigh-append os ps = ap (sum_by h) (flat_map-append (events_of step) os ps) ∙ sum_by-append h (events_to_come step os) (events_to_come step ps)

  pub weigh_given : (put home : List (Event L)) (made : List (Place T))
      → sum_by h (put ++ (events_to_come step made ++ home)) ≡ sum_by h put + (weigh made + sum_by h home)
  weigh_given put home made =
      sum_by-append h put (events_to_come step made ++ home)
      ∙ ap (λ (n : ℕ). sum_by h put + n) (sum_by-append h (events_to_come step made) home)

module _ {T L : Type 0} (step : T → Step T L) where
  -- a balance in numbers, for one weight
  pub in_numbers : (starts : List (Event L)) (a : Account T L) → IsBalanced step starts a → (h : Event L → ℕ)
      → sum_by h starts + weigh step h a.taken ≡ sum_by h a.put + (weigh step h a.made + sum_by h a.home)
  in_numbers starts a balanced h =
      sym (sum_by-append h starts (events_to_come step a.taken)) ∙ (balanced h ∙ weigh_given step h a.put a.home a.made)

  pub from_numbers : (starts : List (Event L)) (a : Account T L)
      → ((h : Event L → ℕ) → sum_by h starts + weigh step h a.taken ≡ sum_by h a.put + (weigh step h a.made + sum_by h a.home))
      → IsBalanced step starts a
  from_numbers starts a equal h =
      sum_by-append h starts (events_to_come step a.taken) ∙ (equal h ∙ sym (weigh_given step h a.put a.home a.made))

  pub add_balances : (starts more : List (Event L)) (a b : Account T L)
      → IsBalanced step starts a → IsBalanced step more b → IsBalanced step (starts ++ more) (added a b)
  add_balances starts more a b of_a of_b = from_numbers (starts ++ more) (added a b) (λ h.
      let one = in_numbers starts a of_a h in
      let two = in_numbers more b of_b h in
      let begun = sum_by-append h starts more in
      let took = weigh-append step h a.taken b.taken in
      let gave = weigh-append step h a.made b.made in
      let put = sum_by-append h a.put b.put in
      let home = sum_by-append h a.home b.home in omega arith)

  pub close_decks : (starts : List (Event L)) (account : Account T L) (left : List (Place T))
      → WeighTheSame (account.taken ++ left) account.made
      → IsBalanced step starts account
      → WeighTheSame starts (account.put ++ (account.home ++ events_to_come step left))
  close_decks starts account left closed balanced h =
      let all = in_numbers starts account balanced h in
      let same : weigh step h (account.taken ++ left) ≡ weigh step h account.made = parts_weigh_the_same (events_of step) (account.taken ++ left) account.made closed h in
      let cut = weigh-append step h account.taken left in
      let one = sum_by-append h account.put (account.home ++ events_to_come step left) in
      let two = sum_by-append h account.home (events_to_come step left) in omega arith

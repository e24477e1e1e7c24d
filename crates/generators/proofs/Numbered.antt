-- Children that wait one after the other, the last of them first.
use Rattle.std.proofs.Common.{◌≡◌, ℕ, ◌+◌, List, [], ◌∷◌, ◌++◌, length, sym, ap, ◌∙◌, arith, append_assoc, length-append}
use Rattle.split_paths.specs.Places.{Place}
use Rattle.split_paths.specs.Tree.{numbered}

module _ {T : Type 0} where
  at_number : (path : List ℕ) (n i j : ℕ) (kid : T) → i ≡ j
      → numbered path n i (kid ∷ []) ≡ numbered path n j (kid ∷ [])
  at_number path n i j kid same = ap (λ (k : ℕ). numbered path n k (kid ∷ [])) same

  numbered-append : (path : List ℕ) (n i : ℕ) (kids : List T) (kid : T)
      → numbered path n i (kids ++ kid ∷ []) ≡ numbered path n i kids ++ numbered path n (i + length kids) (kid ∷ [])
  numbered-append path n i [] kid = at_number path n i (i + 0) kid (omega arith)
  numbered-append path n i (first ∷ kids) kid =
      ap
      (λ (places : List (Place T)). record { path = path ++ i ∷ []; steps = n; task = first } ∷ places)
      (numbered-append path n (i + 1) kids kid
      ∙ ap
      (λ (last : List (Place T)). numbered path n (i + 1) kids ++ last)
      (at_number path n (i + 1 + length kids) (i + length (first ∷ kids)) kid (omega arith)))

  -- the last child waits in front of those that waited, and the others come before it
  pub one_more_waits : (path child : List ℕ) (n number : ℕ) (kids kids' : List T) (kid : T)
      (waiting waiting' whole : List (Place T)) → kids ≡ kids' ++ kid ∷ [] → number ≡ length kids
      → child ≡ path ++ number ∷ []
      → waiting' ≡ record { path = child; steps = n; task = kid } ∷ waiting
      → numbered path n 1 kids ++ waiting ≡ whole
      → numbered path n 1 kids' ++ waiting' ≡ whole
  one_more_waits path child n number kids kids' kid waiting waiting' whole kids_are number_is child_is waiting_are so_far =
      let last : 1 + length kids' ≡ number = omega (arith, number_is, ap length kids_are, length-append kids' (kid ∷ [])) in
      let same_child : path ++ (1 + length kids') ∷ [] ≡ child = ap (λ (k : ℕ). path ++ k ∷ []) last ∙ sym child_is in
      ap (λ (w : List (Place T)). numbered path n 1 kids' ++ w)
      (waiting_are
      ∙ ap (λ (p : List ℕ). record { path = p; steps = n; task = kid } ∷ waiting) (sym same_child))
      ∙ (sym (append_assoc (numbered path n 1 kids') (numbered path n (1 + length kids') (kid ∷ [])) waiting)
      ∙ (ap (λ (w : List (Place T)). w ++ waiting) (sym (numbered-append path n 1 kids' kid))
      ∙ (ap (λ (ks : List T). numbered path n 1 ks ++ waiting) (sym kids_are) ∙ so_far)))

-- Leads in turn, each known nonzero by then or new.
use Rattle.std.proofs.Common.{◌≡◌, ℕ, suc, ◌+◌, ◌≤◌, Bool, true, false, not, ◌||◌, List, [], ◌∷◌, ◌++◌, length, drop, append_assoc, append-nil, Some, refl, sym, ap, ◌∙◌, arith}
use Rattle.std.specs.List.{slice_get}
use Rattle.std.proofs.Math.ListN.{drop_of_length-le}
use Rattle.polynomials.specs.Polynomials.{Polynomial, monic, same_polynomial}
use Rattle.polynomials.specs.Views.{is_constant}
use Rattle.item_lists.proofs.Places.{drop_at}
use Rattle.zero_sets.specs.Tasks.{is_member, is_known_nonzero, with_nonzero}
use Rattle.impose_rules.specs.Leads.{unknown_from, lead_cases}

or_grouped : (a b c : Bool) → (a || (b || c)) ≡ ((a || b) || c)
or_grouped true b c = refl
or_grouped false b c = refl

or_shared : (a b c : Bool) → (a || (b || c)) ≡ ((a || b) || (a || c))
or_shared true b c = refl
or_shared false b c = refl

is_not : (b new : Bool) → new ≡ not b → b ≡ not new
is_not true new e = ap not (sym e)
is_not false new e = ap not (sym e)

-- members of two lists together
is_member-append : (f : Polynomial) (xs ys : List Polynomial) → is_member f (xs ++ ys) ≡ (is_member f xs || is_member f ys)
is_member-append f [] ys = refl
is_member-append f (x ∷ xs) ys = ap (λ b. same_polynomial f x || b) (is_member-append f xs ys) ∙ or_grouped (same_polynomial f x) (is_member f xs) (is_member f ys)

module _ (p : ℕ) where
  -- what is known adds nothing
  with_known : (ns : List Polynomial) (h : Polynomial) → is_known_nonzero p ns h ≡ true → with_nonzero p ns h ≡ ns
  with_known ns h e = ap (λ b. elim b as (λ _. List Polynomial) [ true ↦ ns | false ↦ ns ++ monic p h ∷ [] ]) e

  -- what isn't adds its monic form
  with_new : (ns : List Polynomial) (h : Polynomial) → is_known_nonzero p ns h ≡ false → with_nonzero p ns h ≡ ns ++ monic p h ∷ []
  with_new ns h e = ap (λ b. elim b as (λ _. List Polynomial) [ true ↦ ns | false ↦ ns ++ monic p h ∷ [] ]) e

  module _ (ns added : List Polynomial) (h : Polynomial) where
    known-append : is_known_nonzero p (ns ++ added) h ≡ (is_known_nonzero p ns h || is_known_nonzero p added h)
    known-append = ap (λ b. is_constant h || b) (is_member-append (monic p h) ns added) ∙ or_shared (is_constant h) (is_member (monic p h) ns) (is_member (monic p h) added)

    -- known by the first of two lists
    pub known_first : is_known_nonzero p ns h ≡ true → is_known_nonzero p (ns ++ added) h ≡ true
    known_first e = known-append ∙ ap (λ b. b || is_known_nonzero p added h) e

    -- or by the second alone
    pub known_second : is_known_nonzero p ns h ≡ false → is_known_nonzero p added h ≡ true → is_known_nonzero p (ns ++ added) h ≡ true
    known_second e known = known-append ∙ ap (λ b. b || is_known_nonzero p added h) e ∙ known

    -- or by neither
    pub known_neither : is_known_nonzero p ns h ≡ false → is_known_nonzero p added h ≡ false → is_known_nonzero p (ns ++ added) h ≡ false
    known_neither e new = known-append ∙ ap (λ b. b || is_known_nonzero p added h) e ∙ new

    -- what is known leaves both lists
    pub both_stay : is_known_nonzero p (ns ++ added) h ≡ true → ns ++ added ≡ with_nonzero p (ns ++ added) h
    both_stay e = sym (with_known (ns ++ added) h e)

    -- and what is new is added to the second
    pub second_grows : (more : List Polynomial) → is_known_nonzero p ns h ≡ false → is_known_nonzero p added h ≡ false → more ≡ with_nonzero p added h → ns ++ more ≡ with_nonzero p (ns ++ added) h
    second_grows more e new is = ap (λ xs. ns ++ xs) (is ∙ with_new added h new) ∙ sym (append_assoc ns added (monic p h ∷ [])) ∙ sym (with_new (ns ++ added) h (known_neither e new))

  -- after the first lead the cases are those of the leads to come
  pub cases_begin : (ns ls known : List Polynomial) (l : Polynomial) → slice_get ls 0 ≡ Some l → known ≡ with_nonzero p (ns ++ []) l → lead_cases p ns ls ≡ [] ++ unknown_from p known (1 + 1) (drop 1 ls)
  cases_begin ns [] known l at is = cc
  cases_begin ns (k ∷ ls) known l at is =
      let same : k ≡ l = cc in
      ap (λ x. unknown_from p (with_nonzero p ns x) 2 ls) same ∙ ap (λ x. unknown_from p x 2 ls) (sym (is ∙ ap (λ x. with_nonzero p x l) (append-nil ns)))

  module _ (known ls : List Polynomial) (i : ℕ) (l : Polynomial) (at : slice_get ls i ≡ Some l) (more : List Polynomial) (is : more ≡ with_nonzero p known l) (places all : List ℕ) (whole : all ≡ places ++ unknown_from p known (i + 1) (drop i ls)) where
    abbrev later : List ℕ
    later = unknown_from p more (i + 1 + 1) (drop (i + 1) ls)

    later_is : unknown_from p (with_nonzero p known l) (suc (i + 1)) (drop (i + 1) ls) ≡ later
    later_is = ap (λ k. unknown_from p (with_nonzero p known l) k (drop (i + 1) ls)) next ∙ ap (λ x. unknown_from p x (i + 1 + 1) (drop (i + 1) ls)) (sym is)
      where
        next : suc (i + 1) ≡ i + 1 + 1
        next = omega arith

    here : (b : Bool) → is_known_nonzero p known l ≡ b → unknown_from p known (i + 1) (drop i ls) ≡ elim b as (λ _. List ℕ) [ true ↦ later | false ↦ (i + 1) ∷ later ]
    here b e = ap (unknown_from p known (i + 1)) (drop_at ls i l at) ∙ ap (λ x. elim x as (λ _. List ℕ) [ true ↦ unknown_from p (with_nonzero p known l) (suc (i + 1)) (drop (i + 1) ls) | false ↦ (i + 1) ∷ unknown_from p (with_nonzero p known l) (suc (i + 1)) (drop (i + 1) ls) ]) e ∙ ap (λ xs. elim b as (λ _. List ℕ) [ true ↦ xs | false ↦ (i + 1) ∷ xs ]) later_is

    -- a known lead makes no case
    pub case_passed : (new : Bool) → new ≡ not (is_known_nonzero p known l) → new ≡ false → (same : List ℕ) → same ≡ places → all ≡ same ++ later
    case_passed new told e same stays = whole ∙ ap (λ xs. places ++ xs) (here true (is_not (is_known_nonzero p known l) new told ∙ ap not e)) ∙ ap (λ xs. xs ++ later) (sym stays)

    -- a new one makes its own
    pub case_added : (new : Bool) → new ≡ not (is_known_nonzero p known l) → new ≡ true → (longer : List ℕ) → longer ≡ places ++ (i + 1) ∷ [] → all ≡ longer ++ later
    case_added new told e longer grows = whole ∙ ap (λ xs. places ++ xs) (here false (is_not (is_known_nonzero p known l) new told ∙ ap not e)) ∙ sym (ap (λ xs. xs ++ later) grows ∙ append_assoc places ((i + 1) ∷ []) later)

  -- at the end there are no more
  pub cases_end : (known ls : List Polynomial) (i : ℕ) (places all : List ℕ) → length ls ≤ i → all ≡ places ++ unknown_from p known (i + 1) (drop i ls) → places ≡ all
  cases_end known ls i places all end whole = sym (append-nil places) ∙ sym (whole ∙ ap (λ xs. places ++ unknown_from p known (i + 1) xs) (drop_of_length-le ls end))

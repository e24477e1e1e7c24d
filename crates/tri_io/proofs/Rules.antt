-- What the rules of a command say of its items.
use Rattle.std.proofs.Common.{◌≡◌, ◌⊎◌, inl, inr, ◌∙◌, ℕ, zero, suc, Bool, true, false, cond, ◌||◌, List, [], ◌∷◌, Option, Some, None, option_map, IfSome, refl, sym, ap, subst, true≢false, arith}
use Rattle.std.specs.List.{AllByRecursion, Any, IsDistinct, find}
use Rattle.std.specs.Str.{bytes_eq}
use Rattle.std.specs.Str.Parse.{digits_value}
use Rattle.std.specs.Option.{option_or}
use Rattle.std.proofs.lemmas.Slice.Eq.{bytes_eq-Decides}
use Rattle.tri_io.specs.Commands.{Rule, Item, AreItems, IsNumberOf, value_of}
use Rattle.tri_io.specs.Texts.{AreTexts, rule_names, text_of}
use Rattle.tri_io.proofs.KnownNames.{is_known}
use Rattle.tri_io.proofs.Distinct.{item_names}

-- ---- some and all

module _ {X : Type 0} where
  pub any_first : {P : X → Type 0} (x : X) (xs : List X) → P x → Any P (x ∷ xs)
  any_first x xs p = (0, x, omega arith, refl, p)

  pub any_later : {P : X → Type 0} (x : X) (xs : List X) → Any P xs → Any P (x ∷ xs)
  any_later x xs (k, y, below, at, p) = (suc k, y, omega (arith, below), at, p)

  pub first_or_later : {P : X → Type 0} (x : X) (xs : List X) → Any P (x ∷ xs) → P x ⊎ Any P xs
  first_or_later {P = P} x xs (zero, y, below, at, p) = inl (subst P (sym at) p)
  first_or_later {P = P} x xs (suc k, y, below, at, p) = inr (k, y, omega (arith, below), at, p)

  -- where all have one property and some has another, some has both
  pub any_with : {P Q R : X → Type 0} (xs : List X) → AllByRecursion P xs → Any Q xs → ((x : X) → P x → Q x → R x) → Any R xs
  any_with [] all some f = absurd (omega (arith, some.2))
  any_with (x ∷ xs) all some f = elim (first_or_later x xs some) [ inl q ↦ any_first x xs (f x all.0 q) | inr later ↦ any_later x xs (any_with xs all.1 later f) ]

  -- what some has that all have
  pub from_any : {P Q : X → Type 0} (R : Type 0) (xs : List X) → AllByRecursion P xs → Any Q xs → ((x : X) → P x → Q x → R) → R
  from_any R [] all some f = absurd (omega (arith, some.2))
  from_any R (x ∷ xs) all some f = elim (first_or_later x xs some) [ inl q ↦ f x all.0 q | inr later ↦ from_any R xs all.1 later f ]

  pub all_with : {P Q R : X → Type 0} (xs : List X) → AllByRecursion P xs → AllByRecursion Q xs → ((x : X) → P x → Q x → R x) → AllByRecursion R xs
  all_with [] p q f = tt
  all_with (x ∷ xs) p q f = (f x p.0 q.0, all_with xs p.1 q.1 f)

  pub all_of : {P : X → Type 0} (xs : List X) → ((x : X) → P x) → AllByRecursion P xs
  all_of [] f = tt
  all_of (x ∷ xs) f = (f x, all_of xs f)

-- ---- names

-- the name is this one's, or known later
name_here : {P : Type 0} (b k : Bool) → (b || k) ≡ true → (b ≡ true → P) → (k ≡ true → P) → P
name_here true k e first later = first refl
name_here false k e first later = later e

pub named : (rules : List Rule) (name : List ℕ) → is_known (rule_names rules) name ≡ true → Any (λ rule. rule.name ≡ name) rules
named [] name e = absurd (true≢false (sym e))
named (rule ∷ rules) name e = name_here (bytes_eq rule.name name) (is_known (rule_names rules) name) e
    (λ is. any_first rule rules ((bytes_eq-Decides rule.name name).0 is))
    (λ is. any_later rule rules (named rules name is))

either : (a b : Bool) → (a ≡ true) ⊎ (b ≡ true) → (a || b) ≡ true
either true b h = refl
either false b (inl e) = absurd (true≢false (sym e))
either false b (inr e) = e

pub name_known : (rules : List Rule) (name : List ℕ) → Any (λ rule. rule.name ≡ name) rules → is_known (rule_names rules) name ≡ true
name_known [] name some = absurd (omega (arith, some.2))
name_known (rule ∷ rules) name some = either (bytes_eq rule.name name) (is_known (rule_names rules) name)
    (elim (first_or_later rule rules some) [ inl e ↦ inl ((bytes_eq-Decides rule.name name).1 e) | inr later ↦ inr (name_known rules name later) ])

-- none of these has the first one's name
pub other_name : {R : Rule → Type 0} {P : Type 0} (first : Rule) (rules : List Rule) → AllByRecursion (λ name. bytes_eq first.name name ≡ false) (rule_names rules)
    → Any R rules → ((r : Rule) → R r → r.name ≡ first.name) → P
other_name first [] miss some same = absurd (omega (arith, some.2))
other_name first (rule ∷ rules) miss some same = elim (first_or_later rule rules some) [
  | inl r ↦ absurd (true≢false (sym ((bytes_eq-Decides first.name rule.name).1 (sym (same rule r))) ∙ miss.0))
  | inr later ↦ other_name first rules miss.1 later same
]

-- a rule with the name of this rule is this one, so that it has what that has
pub only_rule : {Q : Rule → Type 0} (rules : List Rule) (rule : Rule) → IsDistinct bytes_eq (rule_names rules)
    → Any (λ r. r ≡ rule) rules → Any (λ r. Q r × (r.name ≡ rule.name)) rules → Q rule
unfolding IsDistinct
only_rule [] rule once at some = absurd (omega (arith, at.2))
only_rule {Q = Q} (first ∷ rules) rule once at some = elim (first_or_later first rules at) [
  | inl here ↦ elim (first_or_later first rules some) [
    | inl q ↦ subst Q here q.0
    | inr later ↦ other_name first rules once.0 later (λ r q. q.1 ∙ sym (ap (λ x. x.name) here))
  ]
  | inr there ↦ elim (first_or_later first rules some) [
    | inl q ↦ other_name first rules once.0 there (λ r same. ap (λ x. x.name) same ∙ sym q.1)
    | inr later ↦ only_rule rules rule once.1 there later
  ]
]

-- ---- texts

-- the text of an item's name is its own
later_own : (first : Item) (items more : List Item) → AllByRecursion (λ name. bytes_eq first.name name ≡ false) (item_names more)
    → AllByRecursion (λ item. text_of item.name items ≡ Some item.value) more → AllByRecursion (λ item. text_of item.name (first ∷ items) ≡ Some item.value) more
later_own first items [] miss own = tt
later_own first items (item ∷ more) miss own = (
  ap (λ b. option_map (λ (i : Item). i.value) (cond b (Some first) (find (λ i. bytes_eq i.name item.name) items))) miss.0 ∙ own.0,
  later_own first items more miss.1 own.1,
)

pub texts_own : (items : List Item) → IsDistinct bytes_eq (item_names items) → AllByRecursion (λ item. text_of item.name items ≡ Some item.value) items
unfolding IsDistinct
texts_own [] once = tt
texts_own (item ∷ items) once = (
  ap (λ b. option_map (λ (i : Item). i.value) (cond b (Some item) (find (λ i. bytes_eq i.name item.name) items))) ((bytes_eq-Decides item.name item.name).1 refl),
  later_own item items items once.0 (texts_own items once.1),
)

-- the text of a name is that of an item with it
pub text_item : {P : Item → Type 0} (items : List Item) (name digits : List ℕ) → AllByRecursion P items → text_of name items ≡ Some digits
    → (item : Item) × P item × (item.name ≡ name) × (item.value ≡ digits)
text_item [] name digits all e = cc
text_item {P = P} (item ∷ items) name digits all e = go (bytes_eq item.name name) refl (text_item items name digits all.1) e
  where
    go : (b : Bool) → bytes_eq item.name name ≡ b
        → (text_of name items ≡ Some digits → (i : Item) × P i × (i.name ≡ name) × (i.value ≡ digits))
        → option_map (λ (i : Item). i.value) (cond b (Some item) (find (λ i. bytes_eq i.name name) items)) ≡ Some digits
        → (i : Item) × P i × (i.name ≡ name) × (i.value ≡ digits)
    go true is later f = (item, all.0, (bytes_eq-Decides item.name name).0 is, cc)
    go false is later f = later f

-- the number that the text of a rule's name gives
pub number_of_text : (rule : Rule) (items : List Item) → option_or (option_map (digits_value 10) (text_of rule.name items)) rule.default ≡ value_of rule items
number_of_text rule items = go (find (λ i. bytes_eq i.name rule.name) items)
  where
    go : (o : Option Item) → option_or (option_map (digits_value 10) (option_map (λ i. i.value) o)) rule.default ≡ option_or (option_map (λ i. digits_value 10 i.value) o) rule.default
    go None = refl
    go (Some i) = refl

-- texts that are numbers, as the rules say, are items
pub items_are : (rules : List Rule) (words : List (List ℕ)) (items : List Item) → AreTexts (rule_names rules) words items
    → AllByRecursion (λ rule. IfSome (text_of rule.name items) (IsNumberOf rule)) rules → AreItems rules words items
items_are rules words items texts lawful = record {
  falls = texts.falls;
  known = all_with items texts.known (texts_own items texts.once) (λ item known own.
      any_with rules lawful (named rules item.name known) (λ rule number same. record {
        named = sym same;
        value = (let at = ap (λ name. text_of name items) same ∙ own in subst (λ o. IfSome o (IsNumberOf rule)) at number);
      }));
  once = texts.once;
}

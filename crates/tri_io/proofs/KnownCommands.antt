-- Words fall into items of rules in one way, so they are one command at most.
use Rattle.std.proofs.Common.{◌≡◌, ◌∙◌, ℕ, Bool, true, false, cond, List, [], ◌∷◌, get_or, nat_lt, Option, Some, None, option_map, refl, sym, ap, ap₂, subst, inl, inr, arith, ◌≤◌, IfSome}
use Rattle.std.specs.Prelude.{codes}
use Rattle.std.specs.List.{AllByRecursion, Any, IsDistinct, find, list_all}
use Rattle.std.specs.Option.{option_or}
use Rattle.std.specs.Str.Parse.{digits_value}
use Rattle.std.specs.Str.{bytes_eq}
use Rattle.std.proofs.lemmas.Bool.{ltb-true}
use Rattle.std.proofs.lemmas.List.Sums.{AllPass-from_list_all}
use Rattle.tri_io.specs.Commands.{Rule, Item, AreItems, Begins, CommandsAreKnown, Falls, IsNumberOf, IsOfRule, made_rule, rules_of, steps_rule, value_of, width_rule, workers_rule}
use Rattle.tri_io.specs.Texts.{AreRules, AreTexts, HasNoEquals, IsPlainName, rule_names, text_of}
use Rattle.tri_io.proofs.Items.{begins_same}
use Rattle.tri_io.proofs.Matches.{all_map}
use Rattle.tri_io.proofs.Rules.{from_any, any_with, named, number_of_text, only_rule, text_item}

-- no item takes no words
nothing_begins : (words : List (List ℕ)) (item : Item) (rest : List (List ℕ)) → words ≡ [] → Begins words item rest → ⊥
nothing_begins words item rest empty (inl x) = cc
nothing_begins words item rest empty (inr x) = cc

-- items with plain names
abbrev ArePlain : List Item → Type 0
ArePlain items = AllByRecursion (λ item. HasNoEquals item.name) items

-- words fall into one list of such items
pub items_same : (a b : List Item) (words : List (List ℕ)) → Falls words a → Falls words b → ArePlain a → ArePlain b → a ≡ b
items_same [] [] words x y p q = refl
items_same [] (j ∷ b) words x y p q = absurd (nothing_begins words j y.0 x y.1)
items_same (i ∷ a) [] words x y p q = absurd (nothing_begins words i x.0 y x.1)
items_same (i ∷ a) (j ∷ b) words x y p q =
    let first = begins_same words i j x.0 y.0 p.0 q.0 x.1 y.1 in
    ap₂ ◌∷◌ first.0 (items_same a b y.0 (rw first.1 at x.2) y.2 p.1 q.1)

items_plain : (rules : List Rule) (words : List (List ℕ)) (items : List Item) → AreRules rules → AreItems rules words items → ArePlain items
items_plain rules words items are lawful = all_map items lawful.known (λ item some.
    from_any (HasNoEquals item.name) rules are.plain some (λ rule plain h. subst HasNoEquals (sym h.named) plain.1))

texts_plain : (rules : List Rule) (words : List (List ℕ)) (items : List Item) → AreRules rules → AreTexts (rule_names rules) words items → ArePlain items
texts_plain rules words items are texts = all_map items texts.known (λ item known.
    from_any (HasNoEquals item.name) rules are.plain (named rules item.name known) (λ rule plain same. subst HasNoEquals same plain.1))

-- a text that is no number of its rule stands in no items
pub no_items : (rules : List Rule) (words : List (List ℕ)) (texts : List Item) (rule : Rule) (digits : List ℕ) → AreRules rules
    → AreTexts (rule_names rules) words texts → Any (λ r. r ≡ rule) rules → text_of rule.name texts ≡ Some digits → (IsNumberOf rule digits → ⊥)
    → (items : List Item) → AreItems rules words items → ⊥
no_items rules words texts rule digits are read at is bad items lawful =
    let same : texts ≡ items = items_same texts items words read.falls lawful.falls (texts_plain rules words texts are read) (items_plain rules words items are lawful) in
    let own = text_item {P = λ item. Any (IsOfRule item) rules} items rule.name digits lawful.known (ap (λ xs. text_of rule.name xs) (sym same) ∙ is) in
    bad (only_rule {Q = λ r. IsNumberOf r digits} rules rule are.once at
    (any_with rules are.plain own.1 (λ r plain h. (subst (λ v. IsNumberOf r v) own.3 h.value, sym h.named ∙ own.2))))

-- a number of a command is one that its option takes
pub number_in_range : (rules : List Rule) (words : List (List ℕ)) (items : List Item) (rule : Rule) (number : ℕ) → AreRules rules → AreItems rules words items
    → Any (λ r. r ≡ rule) rules → IfSome rule.default (λ d. (rule.least ≤ d) × (d ≤ rule.most)) → Some number ≡ value_of rule items
    → (rule.least ≤ number) × (number ≤ rule.most)
number_in_range rules words items rule number are lawful at own is = go (text_of rule.name items) refl (is ∙ sym (number_of_text rule items))
  where
    own_at : (o : Option ℕ) → IfSome o (λ d. (rule.least ≤ d) × (d ≤ rule.most)) → Some number ≡ o → (rule.least ≤ number) × (number ≤ rule.most)
    own_at None h e = cc
    own_at (Some d) h e = let same : d ≡ number = cc in subst (λ n. (rule.least ≤ n) × (n ≤ rule.most)) same h

    go : (o : Option (List ℕ)) → text_of rule.name items ≡ o → Some number ≡ option_or (option_map (digits_value 10) o) rule.default → (rule.least ≤ number) × (number ≤ rule.most)
    go None at_text e = own_at rule.default own e
    go (Some digits) at_text e =
        let item = text_item {P = λ item. Any (IsOfRule item) rules} items rule.name digits lawful.known at_text in
        let h = only_rule {Q = λ r. IsNumberOf r digits} rules rule are.once at
        (any_with rules are.plain item.1 (λ r plain h. (subst (λ v. IsNumberOf r v) item.3 h.value, sym h.named ∙ item.2))) in
        let same : digits_value 10 digits ≡ number = cc in
        subst (λ n. (rule.least ≤ n) × (n ≤ rule.most)) same (h.least, h.most)

-- ---- the rules of the two programs

-- each letter's code is greater than that of the equals sign
plain_letters : (name : List ℕ) → list_all (λ byte. nat_lt 61 byte) name ≡ true → HasNoEquals name
plain_letters name letters =
    let pass = AllPass-from_list_all (λ byte. nat_lt 61 byte) name letters in
    λ place d below same. (let above = ltb-true 61 (get_or name place d) (pass place d below) in omega (arith, above, same))

workers_plain : IsPlainName workers_rule.name
workers_plain = (λ e. cc, plain_letters (codes "workers") refl)

steps_plain : IsPlainName steps_rule.name
steps_plain = (λ e. cc, plain_letters (codes "steps") refl)

width_plain : IsPlainName width_rule.name
width_plain = (λ e. cc, plain_letters (codes "width") refl)

made_plain : IsPlainName made_rule.name
made_plain = (λ e. cc, plain_letters (codes "made") refl)

pub rules_are : (with_workers : Bool) → AreRules (rules_of with_workers)
unfolding IsDistinct
rules_are true = record { plain = (workers_plain, (steps_plain, (width_plain, (made_plain, tt)))); once = ((refl, (refl, (refl, tt))), ((refl, (refl, tt)), ((refl, tt), (tt, tt)))) }
rules_are false = record { plain = (steps_plain, (width_plain, (made_plain, tt))); once = ((refl, (refl, tt)), ((refl, tt), (tt, tt))) }

-- an item of the program with a single worker says nothing of workers
not_workers : (item : Item) → Any (IsOfRule item) (rules_of false) → bytes_eq item.name workers_rule.name ≡ false
not_workers item some =
    from_any {P = λ rule. bytes_eq rule.name workers_rule.name ≡ false} (bytes_eq item.name workers_rule.name ≡ false) (rules_of false) (refl, (refl, (refl, tt))) some
    (λ rule other h. ap (λ name. bytes_eq name workers_rule.name) h.named ∙ other)

-- so that there are as many as usual
pub usual_workers : (words : List (List ℕ)) (items : List Item) → AreItems (rules_of false) words items → Some 4 ≡ value_of workers_rule items
usual_workers words items lawful =
    sym (ap (λ (o : Option Item). option_or (option_map (λ i. digits_value 10 i.value) o) workers_rule.default) (none_found items (all_map items lawful.known not_workers)))
  where
    none_found : (items : List Item) → AllByRecursion (λ item. bytes_eq item.name workers_rule.name ≡ false) items → find (λ i. bytes_eq i.name workers_rule.name) items ≡ None
    none_found [] miss = refl
    none_found (item ∷ items) miss = ap (λ b. cond b (Some item) (find (λ i. bytes_eq i.name workers_rule.name) items)) miss.0 ∙ none_found items miss.1

-- ---- items of the same words have the same numbers

-- numbers that are found alike are the same
found_same : (a b : ℕ) → Some a ≡ Some b → a ≡ b
found_same a b e = cc

pub commands_known : CommandsAreKnown
commands_known with_workers words a b x y =
    let are = rules_are with_workers in
    let same = items_same x.items y.items words x.lawful.falls y.lawful.falls (items_plain (rules_of with_workers) words x.items are x.lawful) (items_plain (rules_of with_workers) words y.items are y.lawful) in
    let workers = found_same a.workers b.workers (x.workers ∙ (ap (value_of workers_rule) same ∙ sym y.workers)) in
    let steps = found_same a.steps b.steps (x.steps ∙ (ap (value_of steps_rule) same ∙ sym y.steps)) in
    let width = found_same a.width b.width (x.width ∙ (ap (value_of width_rule) same ∙ sym y.width)) in
    let made = x.made ∙ (ap (value_of made_rule) same ∙ sym y.made) in
    λ i. record { workers = workers i; steps = steps i; width = width i; made = made i }

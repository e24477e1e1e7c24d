-- The words of a command line: options with numbers, in any order, each at most once.
use Rattle.std.specs.Prelude.{◌≡◌, ◌≢◌, ◌⊎◌, ℕ, ◌≤◌, Bool, true, false, List, [], ◌∷◌, ◌++◌, map}
use Rattle.std.specs.Prelude.{Option, Some, None, option_map, get_or, codes}
use Rattle.std.specs.List.{AllByRecursion, Any, IsDistinct, find}
use Rattle.std.specs.Option.{option_or}
use Rattle.std.specs.Str.{bytes_eq}
use Rattle.std.specs.Str.Parse.{IsNumeral, digits_value}

-- an option that may be given: its name, the least and the greatest number that it takes, and its
-- number where it isn't given, if it has one then
pub record Rule : Type 0 where
  pub name : List ℕ
  pub least : ℕ
  pub most : ℕ
  pub default : Option ℕ

-- an option that is given: its name and the digits of its number
pub record Item : Type 0 where
  pub name : List ℕ
  pub value : List ℕ

-- the option alone in a word, its number in the next
abbrev pub flag : Item → List ℕ
flag item = codes "--" ++ item.name

-- the option and its number in one word
abbrev pub single_word : Item → List ℕ
single_word item = codes "--" ++ (item.name ++ (codes "=" ++ item.value))

-- the words are the item, in one word or two, and then the rest
abbrev pub Begins : List (List ℕ) → Item → List (List ℕ) → Type 0
Begins words item rest = (words ≡ single_word item ∷ rest) ⊎ (words ≡ flag item ∷ item.value ∷ rest)

-- the words are these items, one after the other
abbrev pub Falls : List (List ℕ) → List Item → Type 0
Falls words [] = words ≡ []
Falls words (item ∷ items) = (rest : List (List ℕ)) × Begins words item rest × Falls rest items

-- the digits are a number that the option takes, without a sign and not beginning with a zero
pub record IsNumberOf (rule : Rule) (digits : List ℕ) : Type 0 where
  pub number : IsNumeral 10 digits
  pub unpadded : get_or digits 0 48 ≢ 48
  pub least : rule.least ≤ digits_value 10 digits
  pub most : digits_value 10 digits ≤ rule.most

-- the item is of this rule: it has the name, and a number that the option takes
pub record IsOfRule (item : Item) (rule : Rule) : Type 0 where
  pub named : item.name ≡ rule.name
  pub value : IsNumberOf rule item.value

-- the words are these items, each of one of the rules, and no two have one name
pub record AreItems (rules : List Rule) (words : List (List ℕ)) (items : List Item) : Type 0 where
  pub falls : Falls words items
  pub known : AllByRecursion (λ item. Any (IsOfRule item) rules) items
  pub once : IsDistinct bytes_eq (map (λ item. item.name) items)

-- the number of the rule's option: that of the item with its name, or else its own
abbrev pub value_of : Rule → List Item → Option ℕ
value_of rule items =
    option_or (option_map (λ item. digits_value 10 item.value)
    (find (λ item. bytes_eq item.name rule.name) items)) rule.default

-- the words are a command of these rules, whose options have these numbers, in the rules' order
pub record HasNumbers (rules : List Rule) (words : List (List ℕ)) (numbers : List (Option ℕ))
    : Type 0 where
  pub items : List Item
  pub lawful : AreItems rules words items
  pub values : numbers ≡ map (λ rule. value_of rule items) rules

-- how many workers, for the program that has several
abbrev pub workers_rule : Rule
workers_rule = record { name = codes "workers"; least = 1; most = 16; default = Some 4 }

-- how many steps along each branch
abbrev pub steps_rule : Rule
steps_rule = record { name = codes "steps"; least = 1; most = 1000000; default = Some 10000 }

-- the width that products fit
abbrev pub width_rule : Rule
width_rule = record { name = codes "width"; least = 1; most = 1000000; default = Some 100000 }

-- the number that a system is made from; where it isn't given, none is made
abbrev pub made_rule : Rule
made_rule = record { name = codes "made"; least = 1; most = 9000; default = None }

-- the options of the program with workers or without
abbrev pub rules_of : Bool → List Rule
rules_of true = workers_rule ∷ steps_rule ∷ width_rule ∷ made_rule ∷ []
rules_of false = steps_rule ∷ width_rule ∷ made_rule ∷ []

-- the numbers of a command line's options
pub record Options : Type 0 where
  pub workers : ℕ
  pub steps : ℕ
  pub width : ℕ
  pub made : Option ℕ

-- the words are the command with these options
pub record IsCommand (with_workers : Bool) (words : List (List ℕ)) (options : Options)
    : Type 0 where
  pub items : List Item
  pub lawful : AreItems (rules_of with_workers) words items
  pub workers : Some options.workers ≡ value_of workers_rule items
  pub steps : Some options.steps ≡ value_of steps_rule items
  pub width : Some options.width ≡ value_of width_rule items
  pub made : options.made ≡ value_of made_rule items

-- no words are two commands
abbrev pub CommandsAreKnown : Type 0
CommandsAreKnown =
    (with_workers : Bool) (words : List (List ℕ)) (a b : Options)
    → IsCommand with_workers words a → IsCommand with_workers words b → a ≡ b

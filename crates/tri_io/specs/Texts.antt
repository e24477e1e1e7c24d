-- Options as the parser of words sees them: by their names, with texts for numbers.
use Rattle.std.specs.Prelude.{◌≡◌, ◌≢◌, ℕ, true, List, [], map, Option, Some, option_map, All, codes}
use Rattle.std.specs.List.{AllByRecursion, IsDistinct, find, list_any}
use Rattle.std.specs.Str.{bytes_eq}
use Rattle.clap.specs.Walk.{Rule as ClapRule}
use Rattle.clap.specs.Simple.{App, new_rule, new_shape}
use Rattle.clap.specs.declared.builder.action.ArgAction.TheVariants.{Set}
use Rattle.tri_io.specs.Commands.{Rule, Item, Falls}

-- a name that ends where its value begins: it has no equals sign
abbrev pub HasNoEquals : List ℕ → Type 0
HasNoEquals name = All (λ byte. byte ≢ 61) name

-- and that isn't empty
abbrev pub IsPlainName : List ℕ → Type 0
IsPlainName name = (name ≢ []) × HasNoEquals name

-- the names of the options
abbrev pub rule_names : List Rule → List (List ℕ)
rule_names = map (λ rule. rule.name)

-- rules with plain names, of which no two are one
pub record AreRules (rules : List Rule) : Type 0 where
  pub plain : AllByRecursion (λ rule. IsPlainName rule.name) rules
  pub once : IsDistinct bytes_eq (rule_names rules)

-- an option with a text, in the parser's command
abbrev pub option_rule : List ℕ → ClapRule
option_rule name = record (new_rule name) { long = Some name; action = Some Set }

-- the parser's command with options of these names
abbrev pub app_of_names : List (List ℕ) → App
app_of_names names = record {
  top = record (new_shape (codes "options")) {
    rules = map option_rule names;
    no_binary_name = true;
    disable_help_flag = true;
    disable_version_flag = true;
  };
  subs = [];
}

-- the words are these items, each with one of the names, and no two have one name
pub record AreTexts (names words : List (List ℕ)) (items : List Item) : Type 0 where
  pub falls : Falls words items
  pub known : AllByRecursion (λ item. list_any (λ name. bytes_eq name item.name) names ≡ true) items
  pub once : IsDistinct bytes_eq (map (λ item. item.name) items)

-- the text of the item with the name
abbrev pub text_of : List ℕ → List Item → Option (List ℕ)
text_of name items = option_map (λ item. item.value) (find (λ item. bytes_eq item.name name) items)

-- From what the code did: options added one by one, words tried, numbers read one by one.
use Rattle.std.proofs.Common.{◌≡◌, ◌≢◌, inl, inr, ◌∙◌, ℕ, suc, ◌+◌, ◌<◌, ◌≤◌, Bool, true, false, ◌||◌, List, [], ◌∷◌, ◌++◌, map, take, length, get_or, Option, option_map, IfSome, string_bytes, refl, sym, ap, subst, true≢false, add-one, arith}
use Rattle.std.specs.Prelude.{String, codes}
use Rattle.std.specs.List.{AllByRecursion, list_any}
use Rattle.std.specs.Option.{option_or}
use Rattle.std.specs.Str.{bytes_eq}
use Rattle.std.specs.Str.Parse.{digits_value}
use Rattle.std.proofs.Math.Seq.{take-suc}
use Rattle.std.proofs.lemmas.List.{map-append, take_all}
use Rattle.clap.specs.Walk.{Rule as ClapRule}
use Rattle.clap.specs.Simple.{App, HasMatchesOf, with_rule}
use Rattle.clap.specs.Faults.{fault_of, is_simple_and_free}
use Rattle.clap.specs.declared.parser.matches.ArgMatches.{ArgMatches}
use Rattle.clap.specs.Kinds.{HasKind, Kinds}
use Rattle.clap.specs.Values.{kind_of}
use Rattle.clap.specs.declared.error.Error.{Error}
use Rattle.clap.specs.declared.error.kind.ErrorKind.TheVariants as kind
use Rattle.tri_io.specs.Commands.{Rule, Item, AreItems, HasNumbers, IsNumberOf, value_of}
use Rattle.tri_io.specs.Texts.{AreRules, AreTexts, app_of_names, rule_names, option_rule, text_of}
use Rattle.tri_io.proofs.Parsers.{simple}
use Rattle.tri_io.proofs.Turns.{IsNoBreak}
use Rattle.tri_io.proofs.Matches.{FoundTexts, found, items_are_taken}
use Rattle.tri_io.proofs.Rules.{items_are, number_of_text}

-- one more option
added_name : (names : List (List ℕ)) (name : List ℕ) → with_rule (app_of_names names) (option_rule name) ≡ app_of_names (names ++ name ∷ [])
added_name names name =
    ap (λ rules. let a : App = record (app_of_names names) { top = record (app_of_names names).top { rules = rules } } in a) (sym (map-append option_rule names (name ∷ [])))

pub option_added : (options : List Rule) (i : ℕ) (option : Rule) (rule : ClapRule) (old new : App) → i < length options → option ≡ get_or options i option
    → old ≡ app_of_names (rule_names (take i options)) → rule ≡ option_rule option.name → new ≡ with_rule old rule → new ≡ app_of_names (rule_names (take (i + 1) options))
option_added options i option rule old new below at is_old is_rule is_new =
    let next : take (i + 1) options ≡ take i options ++ option ∷ [] = ap (λ k. take k options) (add-one i) ∙ take-suc options i option below ∙ ap (λ (o : Rule). take i options ++ o ∷ []) (sym at) in
    is_new ∙ (λ j. with_rule (is_old j) (is_rule j))
    ∙ (added_name (rule_names (take i options)) option.name
    ∙ ap (λ (ns : List (List ℕ)). app_of_names ns) (sym (map-append (λ (r : Rule). r.name) (take i options) (option ∷ [])) ∙ ap (λ (rs : List Rule). rule_names rs) (sym next)))

-- no word is a break
neither : (a b : Bool) → (a || b) ≡ false → (a ≡ false) × (b ≡ false)
neither true b e = absurd (true≢false e)
neither false b e = (refl, e)

pub no_breaks : {Z : Type 0} (words : List (String Z)) → list_any (λ word. bytes_eq (string_bytes word) (codes "--")) words ≡ false → AllByRecursion IsNoBreak (map string_bytes words)
no_breaks [] e = tt
no_breaks (word ∷ words) e =
    let parts = neither (bytes_eq (string_bytes word) (codes "--")) (list_any (λ w. bytes_eq (string_bytes w) (codes "--")) words) e in (parts.0, no_breaks words parts.1)

pub a_break : {Z : Type 0} (words : List (String Z)) → list_any (λ word. bytes_eq (string_bytes word) (codes "--")) words ≡ true → AllByRecursion IsNoBreak (map string_bytes words) → ⊥
a_break [] e all = true≢false (sym e)
a_break (word ∷ words) e all = a_break words (sym (ap (λ b. b || list_any (λ w. bytes_eq (string_bytes w) (codes "--")) words) all.0) ∙ e) all.1

-- where there was memory, an error shows that the words aren't taken
pub not_taken : (kinds : Kinds) (error : Error) → kind_of error ≢ kind.OutOfMemory → HasKind kinds error → kinds ≡ [] → ⊥
not_taken kinds error memory (inl e) none = memory e
not_taken [] error memory (inr among) none = among
not_taken (k ∷ ks) error memory (inr among) none = cc

-- what holds at each place holds of all
pub all_from : {X : Type 0} (P : X → Type 0) (xs : List X) → ((k : ℕ) (d : X) → k < length xs → P (get_or xs k d)) → AllByRecursion P xs
all_from P [] each = tt
all_from P (x ∷ xs) each = (each 0 x (omega arith), all_from P xs (λ k d below. each (suc k) d (omega (arith, below))))

-- the number that a text gives, or the rule's own
abbrev pub number_by : (List ℕ → Option (List ℕ)) → Rule → Option ℕ
number_by texts rule = option_or (option_map (digits_value 10) (texts rule.name)) rule.default

-- numbers read one by one
pub one_more : (texts : List ℕ → Option (List ℕ)) (options : List Rule) (i : ℕ) (option : Rule) (old : List (Option ℕ)) (number : Option ℕ) → i < length options
    → option ≡ get_or options i option → old ≡ map (number_by texts) (take i options) → number ≡ number_by texts option
    → old ++ number ∷ [] ≡ map (number_by texts) (take (i + 1) options)
one_more texts options i option old number below at is_old is =
    let next : take (i + 1) options ≡ take i options ++ option ∷ [] = ap (λ k. take k options) (add-one i) ∙ take-suc options i option below ∙ ap (λ (o : Rule). take i options ++ o ∷ []) (sym at) in
    (λ j. is_old j ++ is j ∷ [])
    ∙ (sym (map-append (number_by texts) (take i options) (option ∷ [])) ∙ ap (λ (rs : List Rule). map (number_by texts) rs) (sym next))

numbers_same : (texts : List ℕ → Option (List ℕ)) (items : List Item) → ((name : List ℕ) → texts name ≡ text_of name items) → (rules : List Rule)
    → map (number_by texts) rules ≡ map (λ rule. value_of rule items) rules
numbers_same texts items same [] = refl
numbers_same texts items same (rule ∷ rules) = λ j.
    (ap (λ o. option_or (option_map (digits_value 10) o) rule.default) (same rule.name) ∙ number_of_text rule items) j ∷ numbers_same texts items same rules j

-- all of them are those of a command
pub numbers_are : (rules : List Rule) (words : List (List ℕ)) (texts : List ℕ → Option (List ℕ)) (items : List Item) (n : ℕ) (numbers : List (Option ℕ))
    → AreTexts (rule_names rules) words items → ((name : List ℕ) → texts name ≡ text_of name items) → length rules ≤ n → numbers ≡ map (number_by texts) (take n rules)
    → ((k : ℕ) (d : Rule) → k < n → IfSome (texts (get_or rules k d).name) (IsNumberOf (get_or rules k d))) → HasNumbers rules words numbers
numbers_are rules words texts items n numbers read same enough are lawful = record {
  items = items;
  lawful = items_are rules words items read (all_from (λ rule. IfSome (text_of rule.name items) (IsNumberOf rule)) rules (λ k d below.
      subst (λ o. IfSome o (IsNumberOf (get_or rules k d))) (same (get_or rules k d).name) (lawful k d (omega (arith, below, enough)))));
  values = are ∙ (ap (map (number_by texts)) (take_all n rules enough) ∙ numbers_same texts items same rules);
}

-- ---- what the parser answered, of a command that is the options'

pub texts_of_command : (app : App) (names words : List (List ℕ)) (m : ArgMatches) → app ≡ app_of_names names → AllByRecursion IsNoBreak words
    → (is_simple_and_free app ≡ true → fault_of app words ≡ []) → HasMatchesOf app words m → FoundTexts names words m
texts_of_command app names words m is breaks none matches =
    found names words m breaks (sym (ap (λ (a : App). fault_of a words) is) ∙ none (ap is_simple_and_free is ∙ simple names))
    (subst (λ (a : App). HasMatchesOf a words m) is matches)

pub no_command : (app : App) (rules : List Rule) (words : List (List ℕ)) (error : Error) → app ≡ app_of_names (rule_names rules) → AreRules rules
    → (is_simple_and_free app ≡ true → HasKind (fault_of app words) error) → kind_of error ≢ kind.OutOfMemory
    → (items : List Item) → AreItems rules words items → ⊥
no_command app rules words error is are fails memory items lawful =
    not_taken (fault_of app words) error memory (fails (ap is_simple_and_free is ∙ simple (rule_names rules)))
    (ap (λ (a : App). fault_of a words) is ∙ items_are_taken rules words items are lawful)

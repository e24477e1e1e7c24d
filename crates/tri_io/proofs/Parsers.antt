-- The parser's command with options of some names, once it is built.
use Rattle.std.proofs.Common.{◌≡◌, ◌∙◌, ℕ, Bool, true, false, cond, ◌&&◌, ◌||◌, not, List, [], ◌∷◌, map, Some, None, is_some, refl, ap, ap₂, codes}
use Rattle.std.specs.List.{find, list_all, list_any, count_by}
use Rattle.clap.specs.Walk.{Rule as ClapRule, is_early_multiple}
use Rattle.clap.specs.Simple.{App, Shape, built, filled, filled_from, is_buildable, is_ready, is_ready_leaf, new_shape}
use Rattle.clap.specs.Faults.{is_free_app, is_simple_and_free}
use Rattle.tri_io.specs.Texts.{app_of_names, option_rule}

-- an option of this name, filled in
abbrev pub filled_rule : List ℕ → ClapRule
filled_rule name = filled (option_rule name)

abbrev pub filled_rules : List (List ℕ) → List ClapRule
filled_rules = map filled_rule

-- options are no positionals, so that none gets a place
filled_are : (i : ℕ) (names : List (List ℕ)) → filled_from i (map option_rule names) ≡ filled_rules names
filled_are i [] = refl
filled_are i (name ∷ names) = ap (λ rules. filled_rule name ∷ rules) (filled_are i names)

-- the command once it is built
abbrev pub shape_with : List ClapRule → Shape
shape_with rules = record (new_shape (codes "options")) {
  rules = rules;
  no_binary_name = true;
  disable_help_flag = true;
  disable_help_subcommand = true;
  disable_version_flag = true;
  is_built = true;
}

pub built_is : (names : List (List ℕ)) → built (app_of_names names) ≡ record { top = shape_with (filled_rules names); subs = [] }
built_is names = ap (λ rules. let app : App = record { top = shape_with rules; subs = [] } in app) (filled_are 1 names)

-- a test that each option passes
all_pass : (test : ClapRule → Bool) (make : List ℕ → ClapRule) → ((name : List ℕ) → test (make name) ≡ true) → (names : List (List ℕ)) → list_all test (map make names) ≡ true
all_pass test make each [] = refl
all_pass test make each (name ∷ names) = ap₂ ◌&&◌ (each name) (all_pass test make each names)

-- and one that none passes
pub none_passes : (test : ClapRule → Bool) (make : List ℕ → ClapRule) → ((name : List ℕ) → test (make name) ≡ false) → (names : List (List ℕ)) → list_any test (map make names) ≡ false
none_passes test make each [] = refl
none_passes test make each (name ∷ names) = ap₂ ◌||◌ (each name) (none_passes test make each names)

pub none_found : (test : ClapRule → Bool) → ((name : List ℕ) → test (filled_rule name) ≡ false) → (names : List (List ℕ)) → find test (filled_rules names) ≡ None
none_found test each [] = refl
none_found test each (name ∷ names) = ap (λ b. cond b (Some (filled_rule name)) (find test (filled_rules names))) (each name) ∙ none_found test each names

-- the command is one whose matches and faults are known
pub simple : (names : List (List ℕ)) → is_simple_and_free (app_of_names names) ≡ true
simple names =
    let plain : list_all (λ (a : ClapRule). a.is_simple) (map option_rule names) ≡ true = all_pass (λ a. a.is_simple) option_rule (λ name. refl) names in
    let ready : list_all (λ (a : ClapRule). a.is_simple) (filled_rules names) ≡ true = all_pass (λ a. a.is_simple) filled_rule (λ name. refl) names in
    let order = none_passes (is_early_multiple (count_by (λ a. is_some a.index) (filled_rules names))) filled_rule (λ name. refl) names in
    let free : list_all (λ (a : ClapRule). a.is_free) (filled_rules names) ≡ true = all_pass (λ a. a.is_free) filled_rule (λ name. refl) names in
    ap (λ (b : App). (is_buildable (app_of_names names) && (is_ready b.top && list_all is_ready_leaf b.subs)) && is_free_app b) (built_is names)
    ∙ (λ i. ((plain i && true) && ((ready i && not (order i)) && true)) && (free i && true))

-- The faults and the matches of the parser's command on words without a break.
use Rattle.std.proofs.Common.{◌≡◌, ◌∙◌, ℕ, Bool, true, false, cond, ◌&&◌, ◌||◌, not, is_some, List, [], ◌∷◌, map, Option, Some, None, option_map, option_and_then, refl, ap, ap₂}
use Rattle.std.specs.Prelude.{slice_get}
use Rattle.std.specs.List.{find, fold}
use Rattle.std.specs.Str.{bytes_eq}
use Rattle.clap.specs.Walk.{Row, Rule as ClapRule, Text, finished, first_of, has_row, nothing_held, rows_after, settled, walk, walk_from, with_default}
use Rattle.clap.specs.Simple.{App, entered, matches_of, names_of}
use Rattle.clap.specs.Kinds.{check_kinds, or_else}
use Rattle.clap.specs.Faults.{built_fault, check_fault, defaults_fault, entered_fault, fault_of, level_fault, settle_fault, walk_fault}
use Rattle.clap.specs.Takes.{is_given}
use Rattle.tri_io.specs.Commands.{Item}
use Rattle.tri_io.specs.Texts.{app_of_names, text_of}
use Rattle.tri_io.proofs.Parsers.{built_is, filled_rule, filled_rules, none_passes, shape_with}
use Rattle.tri_io.proofs.States.{faults_from, item_row, or_else_nil, rows_from, walk_at}

-- no option has a default
defaults_none : (names : List (List ℕ)) (rows : List Row) → defaults_fault rows (filled_rules names) ≡ []
unfolding defaults_fault
defaults_none [] rows = refl
defaults_none (name ∷ names) rows = ap₂ or_else (go (has_row name rows)) (defaults_none names (with_default rows (filled_rule name)))
  where
    go : (b : Bool) → cond (b || true) [] (or_else [] []) ≡ []
    go true = refl
    go false = refl

default_keeps : (name : List ℕ) (rows : List Row) → with_default rows (filled_rule name) ≡ rows
default_keeps name rows = go (has_row name rows)
  where
    go : (b : Bool) → cond b rows rows ≡ rows
    go true = refl
    go false = refl

finished_is : (names : List (List ℕ)) (rows : List Row) → fold with_default rows (filled_rules names) ≡ rows
finished_is [] rows = refl
finished_is (name ∷ names) rows = ap (λ rs. fold with_default rs (filled_rules names)) (default_keeps name rows) ∙ finished_is names rows

module _ (names : List (List ℕ)) where
  -- there are no subcommands
  no_entered : (stop : Option (Text × List Text)) → entered_fault (record { top = shape_with (filled_rules names); subs = [] }) stop ≡ []
  no_entered None = refl
  no_entered (Some p) = refl

  none_is_entered : (stop : Option (Text × List Text)) → entered (record { top = shape_with (filled_rules names); subs = [] }) stop ≡ None
  none_is_entered None = refl
  none_is_entered (Some p) = refl

  pub faults_are : (words : List Text) → fault_of (app_of_names names) words ≡ faults_from names (walk_at [] None) words
  faults_are words =
      let s = shape_with (filled_rules names) in
      let a : App = record { top = s; subs = [] } in
      let stop = (walk (filled_rules names) [] nothing_held words).stopped in
      let end = (walk (filled_rules names) [] nothing_held words).held in
      let walks = walk_fault s [] (walk_from nothing_held) words in
      let settles = settle_fault (filled_rules names) false end in
      let rows = finished (filled_rules names) end in
      let none_required = none_passes (λ (r : ClapRule). r.required && not (is_given r.id rows)) filled_rule (λ name. refl) names in
      let checks : check_fault s rows false ≡ [] = ap (λ b. check_kinds false false b) none_required in
      ap (λ b. built_fault b nothing_held words) (built_is names)
      ∙ ((λ i. level_fault s [] nothing_held words (is_some (none_is_entered stop i)) (no_entered stop i))
      ∙ ap (λ k. or_else walks k) (ap₂ (λ d k. or_else settles (or_else d k)) (defaults_none names (settled (filled_rules names) end).rows) checks ∙ or_else_nil settles))

  pub rows_are : (words : List Text) → matches_of (app_of_names names) words ≡ rows_from names (walk_at [] None) words
  rows_are words =
      ap (λ (b : App). rows_after b.top.rules (names_of b) words) (built_is names)
      ∙ finished_is names (settled (filled_rules names) (walk (filled_rules names) [] nothing_held words).held).rows

-- the first row of a name has the value of the first item with it
pub first_is : (name : List ℕ) (items : List Item) → first_of name (map item_row items) ≡ text_of name items
first_is name [] = refl
first_is name (item ∷ items) = go (bytes_eq item.name name) (first_is name items)
  where
    go : (b : Bool) → first_of name (map item_row items) ≡ text_of name items
        → option_and_then (λ (r : Row). slice_get r.values 0) (cond b (Some (item_row item)) (find (λ r. bytes_eq r.id name) (map item_row items)))
        ≡ option_map (λ i. i.value) (cond b (Some item) (find (λ i. bytes_eq i.name name) items))
    go true later = refl
    go false later = later

-- Where the parser stands between two items, and what it holds there.
use Rattle.std.proofs.Common.{◌≡◌, ◌∙◌, ℕ, Bool, true, false, cond, ◌&&◌, ◌||◌, List, [], ◌∷◌, ◌++◌, map, Option, Some, None, option_map, refl, sym, ap, ap₂, true≢false}
use Rattle.std.specs.List.{fold, list_any}
use Rattle.std.specs.Option.{option_map_or}
use Rattle.std.specs.Str.{bytes_eq}
use Rattle.std.proofs.lemmas.List.{append-nil, map-append}
use Rattle.clap.specs.Values.{reading_of}
use Rattle.clap.specs.Walk.{Held, Row, Text, Walk, at_row, has_row, more_values, option, reacted, settled, used, used_by_id, walk_from, walked, without}
use Rattle.clap.specs.Kinds.{Kinds, or_else}
use Rattle.clap.specs.Faults.{settle_fault, turn_fault, use_fault, walk_fault}
use Rattle.clap.specs.declared.error.kind.ErrorKind.TheVariants as kind
use Rattle.clap.specs.declared.builder.value_parser.ValueParser.TheVariants as vp
use Rattle.clap.specs.declared.parser.matches.ValueSource.TheVariants.{CommandLine}
use Rattle.clap.proofs.WalkLemmas.{list_any-map}
use Rattle.tri_io.specs.Commands.{Item}
use Rattle.tri_io.proofs.Parsers.{filled_rule, filled_rules, shape_with}
use Rattle.tri_io.proofs.KnownNames.{is_known, by_id}

-- one of the items has the name
abbrev pub has_name : List Item → List ℕ → Bool
has_name items name = list_any (λ item. bytes_eq item.name name) items

-- what the parser keeps of an item
abbrev pub item_row : Item → Row
item_row item = record {
  id = item.name;
  values = item.value ∷ [];
  count = None;
  source = Some CommandLine;
  reading = reading_of vp.String;
}

-- the items, and the last one, if its number stood in a word of its own
abbrev pub with_last : List Item → Option Item → List Item
with_last items None = items
with_last items (Some item) = items ++ item ∷ []

abbrev pub pending_item : Option Item → Option (Text × List Text)
pending_item = option_map (λ item. (item.name, item.value ∷ []))

-- what is held behind these items
abbrev pub held_with : List Item → Option Item → Held
held_with items last = record { rows = map item_row items; pending = pending_item last; skip = 0 }

abbrev pub walk_at : List Item → Option Item → Walk
walk_at items last = walk_from (held_with items last)

-- and behind the word of an option whose number is to come
abbrev pub held_asked : List Item → List ℕ → Held
held_asked items name = record { rows = map item_row items; pending = Some (name, []); skip = 0 }

abbrev pub walk_asked : List Item → List ℕ → Walk
walk_asked items name = record (walk_from (held_asked items name)) { waiting = option name }

-- the faults of the words from here on, and the rows at their end
abbrev pub faults_from : List (List ℕ) → Walk → List Text → Kinds
faults_from names w words =
    or_else (walk_fault (shape_with (filled_rules names)) [] w words)
    (settle_fault (filled_rules names) false (fold (walked (filled_rules names) []) w words).held)

abbrev pub rows_from : List (List ℕ) → Walk → List Text → List Row
rows_from names w words = (settled (filled_rules names) (fold (walked (filled_rules names) []) w words).held).rows

-- the last item has a known name, and no item before has it
abbrev pub IsKnownLast : List (List ℕ) → Option Item → Type 0
IsKnownLast names None = Unit {0}
IsKnownLast names (Some item) = is_known names item.name ≡ true

abbrev pub IsNewLast : List Item → Option Item → Type 0
IsNewLast items None = Unit {0}
IsNewLast items (Some item) = has_name items item.name ≡ false

-- ---- kinds

pub or_else_assoc : (a b c : Kinds) → or_else (or_else a b) c ≡ or_else a (or_else b c)
or_else_assoc [] b c = refl
or_else_assoc (k ∷ ks) b c = refl

pub or_else_nil : (a : Kinds) → or_else a [] ≡ a
or_else_nil [] = refl
or_else_nil (k ∷ ks) = refl

-- neither has a fault
pub both_none : (a b : Kinds) → or_else a b ≡ [] → (a ≡ []) × (b ≡ [])
both_none [] b e = (refl, e)
both_none (k ∷ ks) b e = cc

pub none_both : (a b : Kinds) → a ≡ [] → b ≡ [] → or_else a b ≡ []
none_both a b e f = ap₂ or_else e f

-- ---- rows

row_of_name : (items : List Item) (name : List ℕ) → has_row name (map item_row items) ≡ has_name items name
row_of_name items name = sym (list_any-map (λ (r : Row). bytes_eq r.id name) item_row items)

-- without a row of the name, what is missing comes at the end
at_row_none : (id : Text) (change : Row → List Row) (missing rows : List Row) → has_row id rows ≡ false → at_row id change missing rows ≡ rows ++ missing
at_row_none id change missing [] e = refl
at_row_none id change missing (r ∷ rs) e = go (bytes_eq r.id id) e (at_row_none id change missing rs)
  where
    go : (b : Bool) → (b || has_row id rs) ≡ false → (has_row id rs ≡ false → at_row id change missing rs ≡ rs ++ missing)
        → cond b (change r ++ rs) (r ∷ at_row id change missing rs) ≡ r ∷ rs ++ missing
    go true f later = absurd (true≢false f)
    go false f later = ap (λ xs. r ∷ xs) (later f)

-- a new item has its row at the end
used_new : (items : List Item) (item : Item) → has_name items item.name ≡ false
    → used (filled_rule item.name) (item.value ∷ []) (map item_row items) ≡ map item_row (items ++ item ∷ [])
used_new items item new =
    let free : has_row item.name (map item_row items) ≡ false = row_of_name items item.name ∙ new in
    let gone : without item.name (map item_row items) ≡ map item_row items =
    at_row_none item.name (λ _. []) [] (map item_row items) free ∙ append-nil (map item_row items) in
    ap (λ rows. at_row item.name (more_values CommandLine (item.value ∷ [])) (item_row item ∷ []) rows) gone
    ∙ (at_row_none item.name (more_values CommandLine (item.value ∷ [])) (item_row item ∷ []) (map item_row items) free
    ∙ sym (map-append item_row items (item ∷ [])))

-- ---- faults

-- a second use of an option is the only fault of a use
pub use_new : (items : List Item) (item : Item) → has_name items item.name ≡ false
    → use_fault false (filled_rule item.name) (item.value ∷ []) (map item_row items) ≡ []
use_new items item new =
    ap (λ (b : Bool). or_else (cond (b && true) (kind.ArgumentConflict ∷ []) []) []) (row_of_name items item.name ∙ new)

pub used_once : (items : List Item) (item : Item)
    → use_fault false (filled_rule item.name) (item.value ∷ []) (map item_row items) ≡ [] → has_name items item.name ≡ false
used_once items item none = go (has_name items item.name) (ap (λ (b : Bool). or_else (cond (b && true) (kind.ArgumentConflict ∷ []) []) []) (sym (row_of_name items item.name)) ∙ none)
  where
    go : (b : Bool) → or_else (cond (b && true) (kind.ArgumentConflict ∷ []) []) [] ≡ [] → b ≡ false
    go true e = cc
    go false e = refl

module _ (names : List (List ℕ)) where
  -- what settling the last item finds
  pub settle_new : (items : List Item) (last : Option Item) → IsKnownLast names last → IsNewLast items last → settle_fault (filled_rules names) false (held_with items last) ≡ []
  settle_new items None known new = refl
  settle_new items (Some item) known new =
      ap (λ o. option_map_or (λ a. use_fault false a (item.value ∷ []) (map item_row items)) o []) (by_id names item.name known) ∙ use_new items item new

  pub settled_once : (items : List Item) (last : Option Item) → IsKnownLast names last → settle_fault (filled_rules names) false (held_with items last) ≡ [] → IsNewLast items last
  settled_once items None known none = tt
  settled_once items (Some item) known none =
      used_once items item (sym (ap (λ o. option_map_or (λ a. use_fault false a (item.value ∷ []) (map item_row items)) o []) (by_id names item.name known)) ∙ none)

  -- and what it keeps
  pub settled_is : (items : List Item) (last : Option Item) → IsKnownLast names last → IsNewLast items last
      → settled (filled_rules names) (held_with items last) ≡ held_with (with_last items last) None
  settled_is items None known new = refl
  settled_is items (Some item) known new =
      ap (λ o. let h : Held = record { rows = used_by_id o (item.value ∷ []) (map item_row items); pending = None; skip = 0 } in h) (by_id names item.name known)
      ∙ ap (λ rows. let h : Held = record { rows = rows; pending = None; skip = 0 } in h) (used_new items item new)

  -- an option whose number doesn't come is a fault
  pub asked_fault : (items : List Item) (name : List ℕ) (P : Type 0) → is_known names name ≡ true → settle_fault (filled_rules names) false (held_asked items name) ≡ [] → P
  asked_fault items name P known none =
      let bad : kind.InvalidValue ∷ [] ≡ [] = sym (ap (λ o. option_map_or (λ a. use_fault false a [] (map item_row items)) o []) (by_id names name known)) ∙ none in cc

  -- one more item in one word
  pub reacted_is : (items : List Item) (last : Option Item) (item : Item) → IsKnownLast names last → IsNewLast items last → has_name (with_last items last) item.name ≡ false
      → reacted (filled_rules names) (filled_rule item.name) (item.value ∷ []) (held_with items last) ≡ held_with (with_last items last ++ item ∷ []) None
  reacted_is items last item known fresh new =
      ap (λ (g : Held). let h : Held = record { rows = used (filled_rule item.name) (item.value ∷ []) g.rows; pending = None; skip = (held_with items last).skip } in h) (settled_is items last known fresh)
      ∙ ap (λ rows. let h : Held = record { rows = rows; pending = None; skip = 0 } in h) (used_new (with_last items last) item new)

  -- ---- one word

  -- no more words
  pub end_faults : (w : Walk) → faults_from names w [] ≡ settle_fault (filled_rules names) false w.held
  unfolding walk_fault
  end_faults w = refl

  -- a word after another
  pub word_faults : (w next : Walk) (word : Text) (words : List Text) (faults : Kinds) → turn_fault (shape_with (filled_rules names)) [] w word ≡ faults → walked (filled_rules names) [] w word ≡ next
      → faults_from names w (word ∷ words) ≡ or_else faults (faults_from names next words)
  unfolding walk_fault
  word_faults w next word words faults is goes =
      or_else_assoc (turn_fault (shape_with (filled_rules names)) [] w word) _ _
      ∙ ap₂ (λ (f : Kinds) (v : Walk). or_else f (faults_from names v words)) is goes

  pub word_rows : (w next : Walk) (word : Text) (words : List Text) → walked (filled_rules names) [] w word ≡ next → rows_from names w (word ∷ words) ≡ rows_from names next words
  word_rows w next word words goes = ap (λ (v : Walk). rows_from names v words) goes

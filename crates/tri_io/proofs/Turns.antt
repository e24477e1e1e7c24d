-- What the parser makes of one word of a command line.
use Rattle.std.proofs.Common.{◌≡◌, ◌⊎◌, inl, inr, ◌∙◌, ℕ, zero, suc, Bool, true, false, cond, nat_lt, List, [], ◌∷◌, map, length, Option, Some, None, refl, sym, ap, ap₂}
use Rattle.std.specs.Prelude.{drop, encode_utf8, slice_get}
use Rattle.std.specs.Option.{option_map_or}
use Rattle.std.specs.Str.{bytes_eq, chars}
use Rattle.std.proofs.lemmas.Slice.Eq.{bytes_eq-Decides}
use Rattle.clap.specs.Lexer.{long_of, short_of}
use Rattle.clap.specs.Walk.{Held, Outcome, Row, Step, Text, Waiting, after_flag, after_step, arg_by_long, bundle_met, bundle_step, idle, long_met, long_or_other, long_word, next, option, option_word, plain, plain_word, reacted, settled, short_or_plain, trailing, walk_from, walked, word_met}
use Rattle.clap.specs.Kinds.{Kinds, or_else}
use Rattle.clap.specs.Faults.{bundle_fault, bundle_step_fault, flag_word_fault, flags_fault, long_fault, positional_fault, settle_fault, short_fault, step_fault, stray_fault, turn_fault, use_fault, word_fault}
use Rattle.clap.specs.declared.error.kind.ErrorKind.TheVariants as kind
use Rattle.tri_io.specs.Commands.{Item}
use Rattle.tri_io.proofs.Parsers.{filled_rule, filled_rules, shape_with}
use Rattle.tri_io.proofs.KnownNames.{is_known, by_id, by_index, by_long, by_long_unknown, by_short}
use Rattle.tri_io.proofs.States.{asked_fault, both_none, held_asked, held_with, item_row, pending_item, walk_asked, walk_at}

-- two hyphens, behind which no word is an option
abbrev pub IsNoBreak : List ℕ → Type 0
IsNoBreak word = bytes_eq word (45 ∷ 45 ∷ []) ≡ false

module _ (names : List (List ℕ)) where
  -- the word is read where the parser waits so, and is met so
  turn_as : (waiting : Waiting) (h : Held) (word : Text) (faults : Kinds) (met : Held × Step)
      → word_fault (shape_with (filled_rules names)) [] false waiting word h ≡ faults → word_met (filled_rules names) [] false waiting 1 word h ≡ met
      → (turn_fault (shape_with (filled_rules names)) [] (record (walk_from h) { waiting = waiting }) word ≡ or_else faults (step_fault (shape_with (filled_rules names)) 1 met.0 met.1))
      × (walked (filled_rules names) [] (record (walk_from h) { waiting = waiting }) word ≡ after_step (filled_rules names) word (record (walk_from h) { waiting = waiting }) met.0 met.1)
  unfolding walked
  turn_as waiting h word faults met is goes = (
    ap₂ (λ (f : Kinds) (m : Held × Step). or_else f (step_fault (shape_with (filled_rules names)) 1 m.0 m.1)) is goes,
    ap (λ (m : Held × Step). after_step (filled_rules names) word (record (walk_from h) { waiting = waiting }) m.0 m.1) goes,
  )

  -- ---- a word with two hyphens

  long_faults_idle : (h : Held) (word : Text) (p : Text × Option Text) → IsNoBreak word → long_of word ≡ Some p
      → word_fault (shape_with (filled_rules names)) [] false idle word h ≡ long_fault (filled_rules names) false (arg_by_long (filled_rules names) p.0) p.1 h
  long_faults_idle h word p break is =
      ap (λ b. cond b [] (flag_word_fault (filled_rules names) false (long_of word) word h)) break ∙ ap (λ o. flag_word_fault (filled_rules names) false o word h) is

  long_faults_asked : (name : Text) (h : Held) (word : Text) (p : Text × Option Text) → IsNoBreak word → long_of word ≡ Some p
      → word_fault (shape_with (filled_rules names)) [] false (option name) word h ≡ long_fault (filled_rules names) false (arg_by_long (filled_rules names) p.0) p.1 h
  long_faults_asked name h word p break is =
      ap (λ b. cond b [] (flag_word_fault (filled_rules names) false (long_of word) word h)) break ∙ ap (λ o. flag_word_fault (filled_rules names) false o word h) is

  long_met_idle : (h : Held) (word : Text) (p : Text × Option Text) → IsNoBreak word → long_of word ≡ Some p
      → word_met (filled_rules names) [] false idle 1 word h ≡ long_word (filled_rules names) idle word p.0 p.1 h
  long_met_idle h word p break is =
      ap (λ b. let m : Held × Step = cond b (h, trailing 1) (long_or_other (filled_rules names) idle word (long_of word) h) in m) break
      ∙ ap (λ o. long_or_other (filled_rules names) idle word o h) is

  -- an option with its number
  pub turn_single : (items : List Item) (last : Option Item) (word : Text) (item : Item) → is_known names item.name ≡ true → IsNoBreak word → long_of word ≡ Some (item.name, Some item.value)
      → let h = held_with items last in
      (turn_fault (shape_with (filled_rules names)) [] (walk_at items last) word
      ≡ or_else (or_else (settle_fault (filled_rules names) false h) (use_fault false (filled_rule item.name) (item.value ∷ []) (settled (filled_rules names) h).rows)) [])
      × (walked (filled_rules names) [] (walk_at items last) word ≡ walk_from (reacted (filled_rules names) (filled_rule item.name) (item.value ∷ []) h))
  turn_single items last word item known break is =
      let h = held_with items last in
      let found = by_long names item.name known in
      turn_as idle h word _ (reacted (filled_rules names) (filled_rule item.name) (item.value ∷ []) h, next idle)
      (long_faults_idle h word (item.name, Some item.value) break is ∙ ap (λ a. long_fault (filled_rules names) false a (Some item.value) h) found)
      (long_met_idle h word (item.name, Some item.value) break is
      ∙ ap (λ a. after_flag (filled_rules names) idle word (long_met (filled_rules names) a (Some item.value) h).0 (long_met (filled_rules names) a (Some item.value) h).1) found)

  -- an option whose number is to come
  pub turn_flag : (items : List Item) (last : Option Item) (word name : Text) → is_known names name ≡ true → IsNoBreak word → long_of word ≡ Some (name, None)
      → let h = held_with items last in
      (turn_fault (shape_with (filled_rules names)) [] (walk_at items last) word ≡ or_else (settle_fault (filled_rules names) false h) [])
      × (walked (filled_rules names) [] (walk_at items last) word
      ≡ record (walk_from (record (settled (filled_rules names) h) { pending = Some (name, []) })) { waiting = option name })
  turn_flag items last word name known break is =
      let h = held_with items last in
      let found = by_long names name known in
      turn_as idle h word _ (record (settled (filled_rules names) h) { pending = Some (name, []) }, next (option name))
      (long_faults_idle h word (name, None) break is ∙ ap (λ a. long_fault (filled_rules names) false a None h) found)
      (long_met_idle h word (name, None) break is
      ∙ ap (λ a. after_flag (filled_rules names) idle word (long_met (filled_rules names) a None h).0 (long_met (filled_rules names) a None h).1) found)

  -- an option that there isn't
  pub turn_unknown : (items : List Item) (last : Option Item) (word : Text) (p : Text × Option Text) (P : Type 0) → is_known names p.0 ≡ false → IsNoBreak word → long_of word ≡ Some p
      → turn_fault (shape_with (filled_rules names)) [] (walk_at items last) word ≡ [] → P
  turn_unknown items last word p P unknown break is none =
      let h = held_with items last in
      let faults = (turn_as idle h word _ _ (long_faults_idle h word p break is) refl).0 in
      let here : long_fault (filled_rules names) false (arg_by_long (filled_rules names) p.0) p.1 h ≡ [] = (both_none _ _ (sym faults ∙ none)).0 in
      let bad : kind.UnknownArgument ∷ [] ≡ [] = sym (ap (λ a. long_fault (filled_rules names) false a p.1 h) (by_long_unknown names p.0 unknown)) ∙ here in cc

  -- ---- a word without two hyphens

  -- letters behind one hyphen are options that there aren't; no letters are no option
  abbrev Bundles : Kinds → Held × Outcome → Held → Type 1
  Bundles faults met h = ((P : Type 0) → faults ≡ [] → P) ⊎ ((faults ≡ []) × (met ≡ (h, plain)))

  bundle_step_is : (letter : Option ℕ) (flags : Text) (h : Held) (faults : Text → ℕ → Held → Kinds) (later : Text → ℕ → Outcome → Held → Held × Outcome)
      → Bundles (bundle_step_fault (filled_rules names) false letter flags 0 h faults) (bundle_step (filled_rules names) letter flags 0 plain h later) h
  bundle_step_is None flags h faults later = inr (refl, refl)
  bundle_step_is (Some x) flags h faults later = inl (λ P none.
      let bad : kind.UnknownArgument ∷ [] ≡ [] = sym (ap (λ a. short_fault (filled_rules names) false a (drop (length (encode_utf8 x)) flags) h (faults (drop (length (encode_utf8 x)) flags) 0)) (by_short names x)) ∙ none in cc)

  flags_are : (k : ℕ) (flags : Text) (h : Held) → Bundles (flags_fault (filled_rules names) false k flags 0 h) (bundle_met (filled_rules names) k flags 0 plain h) h
  unfolding flags_fault bundle_met
  flags_are zero flags h = inr (refl, refl)
  flags_are (suc k) flags h = bundle_step_is (slice_get (chars flags) 0) flags h (flags_fault (filled_rules names) false k) (bundle_met (filled_rules names) k)

  -- the parser holds nothing over in a bundle
  abbrev held_flat : List Row → Option (Text × List Text) → Held
  held_flat rows pending = record { rows = rows; pending = pending; skip = 0 }

  -- a word without two hyphens is no option, or a fault
  other_is : (waiting : Waiting) (word : Text) (flags : Option Text) (rows : List Row) (pending : Option (Text × List Text))
      → ((P : Type 0) → option_map_or (λ f. bundle_fault (filled_rules names) false f (held_flat rows pending)) flags [] ≡ [] → P)
      ⊎ ((option_map_or (λ f. bundle_fault (filled_rules names) false f (held_flat rows pending)) flags [] ≡ [])
      × (short_or_plain (filled_rules names) waiting word flags (held_flat rows pending) ≡ plain_word (filled_rules names) waiting word (held_flat rows pending)))
  other_is waiting word None rows pending = inr (refl, refl)
  other_is waiting word (Some f) rows pending = elim (flags_are (length f) f (held_flat rows pending)) [
    | inl bad ↦ inl bad
    | inr h ↦ inr (h.0, ap (λ (m : Held × Outcome). after_flag (filled_rules names) waiting word m.0 m.1) h.1)
  ]

  -- where no number is to come, it is a fault
  pub turn_stray : (items : List Item) (last : Option Item) (word : Text) (P : Type 0) → IsNoBreak word → long_of word ≡ None
      → turn_fault (shape_with (filled_rules names)) [] (walk_at items last) word ≡ [] → P
  turn_stray items last word P break is none =
      let h = held_with items last in
      let reads = ap (λ b. cond b [] (flag_word_fault (filled_rules names) false (long_of word) word h)) break ∙ ap (λ o. flag_word_fault (filled_rules names) false o word h) is in
      let meets = ap (λ b. let m : Held × Step = cond b (h, trailing 1) (long_or_other (filled_rules names) idle word (long_of word) h) in m) break ∙ ap (λ o. long_or_other (filled_rules names) idle word o h) is in
      elim (other_is idle word (short_of word) (map item_row items) (pending_item last)) [
        | inl bad ↦ bad P (both_none _ _ (sym (turn_as idle h word _ _ reads meets).0 ∙ none)).0
        | inr same ↦
            let strays = (both_none _ _ (sym (turn_as idle h word _ _ reads (meets ∙ same.1)).0 ∙ none)).1 in
            let bad : kind.UnknownArgument ∷ [] ≡ [] = sym (ap (λ a. option_map_or (λ r. positional_fault (filled_rules names) false r h) a (stray_fault (shape_with (filled_rules names)))) (by_index names 1)) ∙ strays in cc
      ]

  -- ---- where a number is to come

  same_name : (name : Text) → bytes_eq name name ≡ true
  same_name name = (bytes_eq-Decides name name).1 refl

  takes_value : (items : List Item) (item : Item) → is_known names item.name ≡ true
      → plain_word (filled_rules names) (option item.name) item.value (held_asked items item.name) ≡ (held_with items (Some item), next idle)
  takes_value items item known =
      let h = held_asked items item.name in
      ap (λ o. let m : Held × Step = ((option_word o item.name item.value h).0, next (option_word o item.name item.value h).1) in m) (by_id names item.name known)
      ∙ ap (λ b. let m : Held × Step = (held_with items (Some item), next (cond (nat_lt (cond b 1 0) 1) (option item.name) idle)) in m) (same_name item.name)

  -- a word is the number, or a fault
  pub turn_value : (items : List Item) (item : Item) → is_known names item.name ≡ true → IsNoBreak item.value → long_of item.value ≡ None
      → turn_fault (shape_with (filled_rules names)) [] (walk_asked items item.name) item.value ≡ []
      → walked (filled_rules names) [] (walk_asked items item.name) item.value ≡ walk_at items (Some item)
  turn_value items item known break is none =
      let h = held_asked items item.name in
      let word = item.value in
      let reads = ap (λ b. cond b [] (flag_word_fault (filled_rules names) false (long_of word) word h)) break ∙ ap (λ o. flag_word_fault (filled_rules names) false o word h) is in
      let meets = ap (λ b. let m : Held × Step = cond b (h, trailing 1) (long_or_other (filled_rules names) (option item.name) word (long_of word) h) in m) break ∙ ap (λ o. long_or_other (filled_rules names) (option item.name) word o h) is in
      elim (other_is (option item.name) word (short_of word) (map item_row items) (Some (item.name, []))) [
        | inl bad ↦ bad _ (both_none _ _ (sym (turn_as (option item.name) h word _ _ reads meets).0 ∙ none)).0
        | inr same ↦ (turn_as (option item.name) h word _ _ reads (meets ∙ same.1 ∙ takes_value items item known)).1
      ]

  -- a word without hyphens is the number
  pub turn_plain : (items : List Item) (item : Item) → is_known names item.name ≡ true → IsNoBreak item.value → long_of item.value ≡ None → short_of item.value ≡ None
      → (turn_fault (shape_with (filled_rules names)) [] (walk_asked items item.name) item.value ≡ [])
      × (walked (filled_rules names) [] (walk_asked items item.name) item.value ≡ walk_at items (Some item))
  turn_plain items item known break is short =
      let h = held_asked items item.name in
      let word = item.value in
      let reads = ap (λ b. cond b [] (flag_word_fault (filled_rules names) false (long_of word) word h)) break ∙ ap (λ o. flag_word_fault (filled_rules names) false o word h) is
      ∙ ap (λ o. option_map_or (λ f. bundle_fault (filled_rules names) false f h) o []) short in
      let meets = ap (λ b. let m : Held × Step = cond b (h, trailing 1) (long_or_other (filled_rules names) (option item.name) word (long_of word) h) in m) break ∙ ap (λ o. long_or_other (filled_rules names) (option item.name) word o h) is
      ∙ ap (λ o. short_or_plain (filled_rules names) (option item.name) word o h) short in
      turn_as (option item.name) h word [] (held_with items (Some item), next idle) reads (meets ∙ takes_value items item known)

  -- a word with two hyphens is no number
  pub turn_long_asked : (items : List Item) (name word : Text) (p : Text × Option Text) (P : Type 0) → is_known names name ≡ true → IsNoBreak word → long_of word ≡ Some p
      → turn_fault (shape_with (filled_rules names)) [] (walk_asked items name) word ≡ [] → P
  turn_long_asked items name word p P known break is none =
      let h = held_asked items name in
      let here : long_fault (filled_rules names) false (arg_by_long (filled_rules names) p.0) p.1 h ≡ [] =
      (both_none _ _ (sym (turn_as (option name) h word _ _ (long_faults_asked name h word p break is) refl).0 ∙ none)).0 in
      go (is_known names p.0) refl p.1 here
    where
      go : (b : Bool) → is_known names p.0 ≡ b → (v : Option Text) → long_fault (filled_rules names) false (arg_by_long (filled_rules names) p.0) v (held_asked items name) ≡ [] → P
      go false unknown v here =
          let bad : kind.UnknownArgument ∷ [] ≡ [] = sym (ap (λ a. long_fault (filled_rules names) false a v (held_asked items name)) (by_long_unknown names p.0 unknown)) ∙ here in cc
      go true found None here =
          asked_fault names items name P known (sym (ap (λ a. long_fault (filled_rules names) false a None (held_asked items name)) (by_long names p.0 found)) ∙ here)
      go true found (Some v) here =
          asked_fault names items name P known (both_none _ _ (sym (ap (λ a. long_fault (filled_rules names) false a (Some v) (held_asked items name)) (by_long names p.0 found)) ∙ here)).0

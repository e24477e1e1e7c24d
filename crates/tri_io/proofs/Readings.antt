-- The parser takes words without a break just where they fall into items.
use Rattle.std.proofs.Common.{◌≡◌, inl, inr, ◌∙◌, ℕ, Bool, true, false, List, [], ◌∷◌, ◌++◌, map, Option, Some, None, refl, sym, ap, subst}
use Rattle.std.specs.Prelude.{codes}
use Rattle.std.specs.List.{AllByRecursion}
use Rattle.std.proofs.lemmas.List.{append_assoc, append-nil}
use Rattle.clap.specs.Lexer.{long_of, short_of}
use Rattle.clap.specs.Walk.{Text, Walk, option, reacted, settled, walk_from, walked}
use Rattle.clap.specs.Kinds.{Kinds, or_else}
use Rattle.clap.specs.Faults.{settle_fault, turn_fault, use_fault}
use Rattle.tri_io.specs.Commands.{Item, Falls, flag, single_word}
use Rattle.tri_io.specs.Texts.{IsPlainName}
use Rattle.tri_io.proofs.Cuts.{long_of_flag, long_of_single, word_is}
use Rattle.tri_io.proofs.Parsers.{filled_rule, filled_rules, shape_with}
use Rattle.tri_io.proofs.KnownNames.{is_known}
use Rattle.tri_io.proofs.States.{IsKnownLast, IsNewLast, asked_fault, both_none, end_faults, faults_from, has_name, held_with, item_row, none_both, reacted_is, rows_from, settle_new, settled_is, settled_once, use_new, used_once, walk_asked, walk_at, with_last, word_faults, word_rows}
use Rattle.tri_io.proofs.Turns.{IsNoBreak, turn_flag, turn_long_asked, turn_plain, turn_single, turn_stray, turn_unknown, turn_value}

-- each item has a name that none before has
abbrev pub AreNew : List Item → List Item → Type 0
AreNew before [] = Unit {0}
AreNew before (item ∷ items) = (has_name before item.name ≡ false) × AreNew (before ++ item ∷ []) items

-- a value that begins with no hyphen
abbrev pub IsBare : Text → Type 0
IsBare value = IsNoBreak value × (long_of value ≡ None) × (short_of value ≡ None)

module _ (names : List (List ℕ)) where
  abbrev pub AreKnown : List Item → Type 0
  AreKnown items = AllByRecursion (λ item. is_known names item.name ≡ true) items

  -- the words from here on fall into items, whose rows are kept
  pub record Reads (before : List Item) (last : Option Item) (words : List Text) : Type 0 where
    pub items : List Item
    pub falls : Falls words items
    pub known : AreKnown items
    pub new_last : IsNewLast before last
    pub new : AreNew (with_last before last) items
    pub rows : rows_from names (walk_at before last) words ≡ map item_row (with_last before last ++ items)

  abbrev Words : List Text → Type 0
  Words words = AllByRecursion IsNoBreak words

  -- the faults of two words are those of both
  two_none : (a b c : Kinds) → or_else (or_else (or_else a b) []) c ≡ [] → (a ≡ []) × (b ≡ []) × (c ≡ [])
  two_none a b c e =
      let p = both_none (or_else (or_else a b) []) c e in
      let q = both_none (or_else a b) [] p.0 in
      let r = both_none a b q.0 in (r.0, r.1, p.1)

  -- after an item in one word
  reads_single : (before : List Item) (last : Option Item) (word : Text) (rest : List Text) (item : Item) → IsKnownLast names last → is_known names item.name ≡ true
      → IsNoBreak word → long_of word ≡ Some (item.name, Some item.value) → word ≡ single_word item
      → faults_from names (walk_at before last) (word ∷ rest) ≡ []
      → ((items : List Item) → faults_from names (walk_at items None) rest ≡ [] → Reads items None rest)
      → Reads before last (word ∷ rest)
  reads_single before last word rest item ready known break is spelled none later =
      let turn = turn_single names before last word item known break is in
      let parts = two_none (settle_fault (filled_rules names) false (held_with before last))
      (use_fault false (filled_rule item.name) (item.value ∷ []) (settled (filled_rules names) (held_with before last)).rows)
      (faults_from names (walk_from (reacted (filled_rules names) (filled_rule item.name) (item.value ∷ []) (held_with before last))) rest)
      (sym (word_faults names _ _ word rest _ turn.0 turn.1) ∙ none) in
      let new_last = settled_once names before last ready parts.0 in
      let once : has_name (with_last before last) item.name ≡ false = used_once (with_last before last) item
      (ap (λ h. use_fault false (filled_rule item.name) (item.value ∷ []) h.rows) (sym (settled_is names before last ready new_last)) ∙ parts.1) in
      let same = reacted_is names before last item ready new_last once in
      let goes : walked (filled_rules names) [] (walk_at before last) word ≡ walk_at (with_last before last ++ item ∷ []) None = turn.1 ∙ ap walk_from same in
      let r = later (with_last before last ++ item ∷ []) (ap (λ h. faults_from names (walk_from h) rest) (sym same) ∙ parts.2) in
      record {
        items = item ∷ r.items;
        falls = (rest, inl (ap (λ w. w ∷ rest) spelled), r.falls);
        known = (known, r.known);
        new_last = new_last;
        new = (once, r.new);
        rows = word_rows names (walk_at before last) _ word rest goes ∙ (r.rows ∙ ap (λ xs. map item_row xs) (append_assoc (with_last before last) (item ∷ []) r.items));
      }

  -- after an option's word: the parser waits for its number
  asks : (before : List Item) (last : Option Item) (word name : Text) → IsKnownLast names last → is_known names name ≡ true → IsNoBreak word → long_of word ≡ Some (name, None) → IsNewLast before last
      → walked (filled_rules names) [] (walk_at before last) word ≡ walk_asked (with_last before last) name
  asks before last word name ready known break is new_last =
      (turn_flag names before last word name known break is).1
      ∙ ap (λ h. record (walk_from (record h { pending = Some (name, []) })) { waiting = option name }) (settled_is names before last ready new_last)

  -- what the first of the words finds
  first_none : (w : Walk) (word : Text) (rest : List Text) → faults_from names w (word ∷ rest) ≡ []
      → (turn_fault (shape_with (filled_rules names)) [] w word ≡ []) × (faults_from names (walked (filled_rules names) [] w word) rest ≡ [])
  first_none w word rest none = both_none _ _ (sym (word_faults names w _ word rest _ refl refl) ∙ none)

  -- after an item in two words
  reads_flag : (before : List Item) (last : Option Item) (word : Text) (rest : List Text) (item : Item) → IsKnownLast names last → is_known names item.name ≡ true
      → IsNoBreak word → IsNoBreak item.value → long_of word ≡ Some (item.name, None) → word ≡ flag item
      → faults_from names (walk_at before last) (word ∷ item.value ∷ rest) ≡ []
      → ((items : List Item) → faults_from names (walk_at items (Some item)) rest ≡ [] → Reads items (Some item) rest)
      → Reads before last (word ∷ item.value ∷ rest)
  reads_flag before last word rest item ready known break break_value is spelled none later =
      let one = first_none (walk_at before last) word (item.value ∷ rest) none in
      let new_last = settled_once names before last ready (both_none _ [] (sym (turn_flag names before last word item.name known break is).0 ∙ one.0)).0 in
      let asked = asks before last word item.name ready known break is new_last in
      let two = first_none (walk_asked (with_last before last) item.name) item.value rest (ap (λ (w : Walk). faults_from names w (item.value ∷ rest)) (sym asked) ∙ one.1) in
      value_at asked two new_last (long_of item.value) refl
    where
      done : walked (filled_rules names) [] (walk_at before last) word ≡ walk_asked (with_last before last) item.name
          → walked (filled_rules names) [] (walk_asked (with_last before last) item.name) item.value ≡ walk_at (with_last before last) (Some item)
          → IsNewLast before last → Reads (with_last before last) (Some item) rest → Reads before last (word ∷ item.value ∷ rest)
      done asked goes new_last r = record {
        items = item ∷ r.items;
        falls = (rest, inr (ap (λ w. w ∷ item.value ∷ rest) spelled), r.falls);
        known = (known, r.known);
        new_last = new_last;
        new = (r.new_last, r.new);
        rows = word_rows names (walk_at before last) _ word (item.value ∷ rest) asked
            ∙ (word_rows names (walk_asked (with_last before last) item.name) _ item.value rest goes
            ∙ (r.rows ∙ ap (λ xs. map item_row xs) (append_assoc (with_last before last) (item ∷ []) r.items)));
      }

      value_at : walked (filled_rules names) [] (walk_at before last) word ≡ walk_asked (with_last before last) item.name
          → ((turn_fault (shape_with (filled_rules names)) [] (walk_asked (with_last before last) item.name) item.value ≡ [])
          × (faults_from names (walked (filled_rules names) [] (walk_asked (with_last before last) item.name) item.value) rest ≡ []))
          → IsNewLast before last → (o : Option (Text × Option Text)) → long_of item.value ≡ o → Reads before last (word ∷ item.value ∷ rest)
      value_at asked two new_last (Some p) at = turn_long_asked names (with_last before last) item.name item.value p _ known break_value at two.0
      value_at asked two new_last None at =
          let goes = turn_value names (with_last before last) item known break_value at two.0 in
          done asked goes new_last (later (with_last before last) (ap (λ (w : Walk). faults_from names w rest) (sym goes) ∙ two.1))

  -- the first word is an option with its number, or one whose number is to come
  first_word : (before : List Item) (last : Option Item) (word : Text) (rest : List Text) (P : Type 0) → IsNoBreak word
      → ((item : Item) → is_known names item.name ≡ true → long_of word ≡ Some (item.name, Some item.value) → word ≡ single_word item → P)
      → ((name : Text) → is_known names name ≡ true → long_of word ≡ Some (name, None) → word ≡ codes "--" ++ name → P)
      → turn_fault (shape_with (filled_rules names)) [] (walk_at before last) word ≡ [] → P
  first_word before last word rest P break single alone none = go (long_of word) refl
    where
      known_at : (p : Text × Option Text) → long_of word ≡ Some p → (b : Bool) → is_known names p.0 ≡ b → (v : Option Text) → p.1 ≡ v → P
      known_at p is false unknown v at = turn_unknown names before last word p P unknown break is none
      known_at p is true known None at = alone p.0 known (is ∙ ap (λ (w : Option Text). Some (p.0, w)) at) ((word_is word p is).alone at)
      known_at p is true known (Some v) at =
          single (record { name = p.0; value = v }) known (is ∙ ap (λ (w : Option Text). Some (p.0, w)) at) ((word_is word p is).valued v at)

      go : (o : Option (Text × Option Text)) → long_of word ≡ o → P
      go None is = turn_stray names before last word P break is none
      go (Some p) is = known_at p is (is_known names p.0) refl p.1 refl

  -- words without faults fall into items
  pub reads : (words : List Text) (before : List Item) (last : Option Item) → IsKnownLast names last → Words words → faults_from names (walk_at before last) words ≡ [] → Reads before last words
  reads [] before last ready breaks none =
      let new_last = settled_once names before last ready (sym (end_faults names (walk_at before last)) ∙ none) in
      record {
        items = [];
        falls = refl;
        known = tt;
        new_last = new_last;
        new = tt;
        rows = ap (λ h. h.rows) (settled_is names before last ready new_last) ∙ ap (λ xs. map item_row xs) (sym (append-nil (with_last before last)));
      }
  reads (word ∷ []) before last ready breaks none =
      let one = first_none (walk_at before last) word [] none in
      first_word before last word [] _ breaks.0
      (λ item known is spelled. reads_single before last word [] item ready known breaks.0 is spelled none (λ items e. reads [] items None tt tt e))
      (λ name known is spelled.
      let new_last = settled_once names before last ready (both_none _ [] (sym (turn_flag names before last word name known breaks.0 is).0 ∙ one.0)).0 in
      asked_fault names (with_last before last) name _ known (sym (end_faults names (walk_asked (with_last before last) name)) ∙ ap (λ (w : Walk). faults_from names w []) (sym (asks before last word name ready known breaks.0 is new_last)) ∙ one.1))
      one.0
  reads (word ∷ value ∷ rest) before last ready breaks none =
      let one = first_none (walk_at before last) word (value ∷ rest) none in
      first_word before last word (value ∷ rest) _ breaks.0
      (λ item known is spelled. reads_single before last word (value ∷ rest) item ready known breaks.0 is spelled none (λ items e. reads (value ∷ rest) items None tt breaks.1 e))
      (λ name known is spelled.
      let item : Item = record { name = name; value = value } in
      reads_flag before last word rest item ready known breaks.0 breaks.1.0 is spelled none (λ items e. reads rest items (Some item) known breaks.1.1 e))
      one.0

  -- ---- and words that fall into items have no faults

  -- an item that may stand in either way
  pub record IsFit (item : Item) : Type 0 where
    pub plain : IsPlainName item.name
    pub known : is_known names item.name ≡ true
    pub bare : IsBare item.value

  -- an item in one word
  single_taken : (before : List Item) (last : Option Item) (rest : List Text) (item : Item) → IsKnownLast names last → IsNewLast before last → IsFit item
      → has_name (with_last before last) item.name ≡ false → IsNoBreak (single_word item) → faults_from names (walk_at (with_last before last ++ item ∷ []) None) rest ≡ []
      → faults_from names (walk_at before last) (single_word item ∷ rest) ≡ []
  single_taken before last rest item ready new_last fit new break later =
      let turn = turn_single names before last (single_word item) item fit.known break (long_of_single item fit.plain) in
      let same = reacted_is names before last item ready new_last new in
      let once = ap (λ h. use_fault false (filled_rule item.name) (item.value ∷ []) h.rows) (settled_is names before last ready new_last) ∙ use_new (with_last before last) item new in
      word_faults names _ _ (single_word item) rest _ turn.0 (turn.1 ∙ ap walk_from same)
      ∙ none_both _ _ (none_both _ [] (none_both _ _ (settle_new names before last ready new_last) once) refl) later

  -- an item in two
  flag_taken : (before : List Item) (last : Option Item) (rest : List Text) (item : Item) → IsKnownLast names last → IsNewLast before last → IsFit item
      → IsNoBreak (flag item) → faults_from names (walk_at (with_last before last) (Some item)) rest ≡ []
      → faults_from names (walk_at before last) (flag item ∷ item.value ∷ rest) ≡ []
  flag_taken before last rest item ready new_last fit break later =
      let is = long_of_flag item fit.plain in
      let turn = turn_flag names before last (flag item) item.name fit.known break is in
      let value = turn_plain names (with_last before last) item fit.known fit.bare.0 fit.bare.1 fit.bare.2 in
      word_faults names _ _ (flag item) (item.value ∷ rest) _ turn.0 (asks before last (flag item) item.name ready fit.known break is new_last)
      ∙ none_both _ _ (none_both _ [] (settle_new names before last ready new_last) refl)
      (word_faults names _ _ item.value rest _ value.0 value.1 ∙ later)

  pub taken : (items : List Item) (words : List Text) (before : List Item) (last : Option Item) → IsKnownLast names last → IsNewLast before last
      → Words words → Falls words items → AllByRecursion IsFit items → AreNew (with_last before last) items → faults_from names (walk_at before last) words ≡ []
  taken [] words before last ready new_last breaks falls fit new =
      ap (λ ws. faults_from names (walk_at before last) ws) falls ∙ (end_faults names (walk_at before last) ∙ settle_new names before last ready new_last)
  taken (item ∷ items) words before last ready new_last breaks (rest, inl e, falls) fit new =
      let words_are = subst Words e breaks in
      ap (λ ws. faults_from names (walk_at before last) ws) e
      ∙ single_taken before last rest item ready new_last fit.0 new.0 words_are.0 (taken items rest (with_last before last ++ item ∷ []) None tt tt words_are.1 falls fit.1 new.1)
  taken (item ∷ items) words before last ready new_last breaks (rest, inr e, falls) fit new =
      let words_are = subst Words e breaks in
      ap (λ ws. faults_from names (walk_at before last) ws) e
      ∙ flag_taken before last rest item ready new_last fit.0 words_are.0 (taken items rest (with_last before last) (Some item) fit.0.known new.0 words_are.1.1 falls fit.1 new.1)

-- Columns of rows.
use Rattle.std.proofs.Common.{◌≡◌, ◌≢◌, ◌≤◌, ◌<◌, ℕ, zero, suc, ◌+◌, List, [], ◌∷◌, ◌++◌, map, length, length-append, ◌⊎◌, inl, inr, refl, sym, ap, ◌∙◌, subst, arith, append_assoc, append-nil, set, drop, take, get_or, drop-cons}
use Rattle.std.proofs.Math.Seq.{drop-length, take-length}
use Rattle.std.proofs.lemmas.List.{take_more}
use Rattle.std.proofs.lemmas.List.Sums.{sum_by-append}
use Rattle.std.proofs.lemmas.List.Concat.{flat_map-append}
use Rattle.std.proofs.lemmas.List.{map-append}
use Rattle.std.specs.List.{sum_by, flat_map, AllByRecursion}
use native.Mathlib.Decide.{ℕ_discrete}
use Rattle.split_paths.proofs.Lists.{all_append}
use Rattle.work_pool.specs.Rows.{others, AreRows, Pops, Columns}

module _ {D : Type 0} where
  pub others_own : (ds : List D) (d : D) → others (length ds) (ds ++ d ∷ []) ≡ others (length ds) ds
  others_own [] d = refl
  others_own (e ∷ ds) d = ap (λ (xs : List D). e ∷ xs) (others_own ds d)

  pub others_other : (i : ℕ) (ds : List D) (d : D) → i ≢ length ds → others i (ds ++ d ∷ []) ≡ others i ds ++ d ∷ []
  others_other zero [] d apart = absurd (apart refl)
  others_other (suc i) [] d apart = refl
  others_other zero (e ∷ ds) d apart = refl
  others_other (suc i) (e ∷ ds) d apart = ap (λ (xs : List D). e ∷ xs) (others_other i ds d (λ same. apart (ap suc same)))

  others_beyond : (i : ℕ) (ds : List D) → i ≡ length ds → others i ds ≡ ds
  others_beyond i [] is = refl
  others_beyond zero (e ∷ ds) is = absurd (omega arith)
  others_beyond (suc i) (e ∷ ds) is = ap (λ (xs : List D). e ∷ xs) (others_beyond i ds (omega arith))

  no_snoc : (xs : List D) (x : D) → xs ++ x ∷ [] ≡ [] → ⊥
  no_snoc xs x e = let n = ap length e in let m = length-append xs (x ∷ []) in omega arith

  snoc_same : (xs ys : List D) (x y : D) → xs ++ x ∷ [] ≡ ys ++ y ∷ [] → (xs ≡ ys) × (x ≡ y)
  snoc_same [] [] x y e = (refl, cc)
  snoc_same [] (b ∷ ys) x y e = absurd (no_snoc ys y (sym (let t : [] ≡ ys ++ y ∷ [] = cc in t)))
  snoc_same (a ∷ xs) [] x y e = absurd (no_snoc xs x (let t : xs ++ x ∷ [] ≡ [] = cc in t))
  snoc_same (a ∷ xs) (b ∷ ys) x y e =
      let rest = snoc_same xs ys x y (let t : xs ++ x ∷ [] ≡ ys ++ y ∷ [] = cc in t) in
      let front : a ≡ b = cc in
      ((ap (λ (z : D). z ∷ xs) front ∙ ap (λ (zs : List D). b ∷ zs) rest.0), rest.1)

  pub one_item : (xs : List D) → length xs ≡ 1 → (x : D) × (xs ≡ x ∷ [])
  one_item [] e = absurd (omega arith)
  one_item (x ∷ []) e = (x, refl)
  one_item (x ∷ y ∷ xs) e = absurd (omega arith)

module _ {A D : Type 0} (deck : A → D) where
  -- one row loses the last deck
  row_of_last : (own i : ℕ) (row rest popped : List A) (ds : List D) (d : D) → own ≡ length ds → Pops own i row rest popped
      → map deck row ≡ others i (ds ++ d ∷ [])
      → (map deck rest ≡ others i ds) × AllByRecursion (λ t. deck t ≡ d) popped
  row_of_last own i row rest popped ds d last pops fits = elim (ℕ_discrete i own) as (λ _. (map deck rest ≡ others i ds) × AllByRecursion (λ t. deck t ≡ d) popped) [
    | yes same ↦
        (let none : popped ≡ [] = pops.at_own same in
        let whole : row ≡ rest = pops.cut ∙ (ap (λ (xs : List A). rest ++ xs) none ∙ append-nil rest) in
        let here : others i (ds ++ d ∷ []) ≡ others i ds =
        subst (λ (n : ℕ). others n (ds ++ d ∷ []) ≡ others n ds) (sym (same ∙ last)) (others_own ds d) in
        (ap (map deck) (sym whole) ∙ (fits ∙ here), subst (λ (xs : List A). AllByRecursion (λ t. deck t ≡ d) xs) (sym none) tt))
    | no apart ↦
        (let decks : map deck row ≡ others i ds ++ d ∷ [] = fits ∙ others_other i ds d (λ e. apart (e ∙ sym last)) in
        elim (pops.at_other apart) as (λ _. (map deck rest ≡ others i ds) × AllByRecursion (λ t. deck t ≡ d) popped) [
          | inl single ↦
              (let one = one_item popped single in
              let cut : map deck row ≡ map deck rest ++ deck one.0 ∷ [] =
              ap (map deck) (pops.cut ∙ ap (λ (xs : List A). rest ++ xs) one.1) ∙ map-append deck rest (one.0 ∷ []) in
              let same = snoc_same (map deck rest) (others i ds) (deck one.0) d (sym cut ∙ decks) in
              (same.0, subst (λ (xs : List A). AllByRecursion (λ t. deck t ≡ d) xs) (sym one.1) (same.1, tt)))
          | inr empty ↦ absurd (no_snoc (others i ds) d (sym decks ∙ ap (map deck) empty))
        ])
  ]

  -- all rows lose the last deck
  pub rows_of_last : (own i : ℕ) (rows rests : List (List A)) (column : List A) (ds : List D) (d : D) → own ≡ length ds
      → Columns own i rows rests column → AreRows deck i rows (ds ++ d ∷ [])
      → AreRows deck i rests ds × AllByRecursion (λ t. deck t ≡ d) column
  rows_of_last own i [] [] column ds d last none fits = (tt, subst (λ (xs : List A). AllByRecursion (λ t. deck t ≡ d) xs) (sym none) tt)
  rows_of_last own i [] (rest ∷ rests) column ds d last none fits = absurd none
  rows_of_last own i (row ∷ rows) [] column ds d last none fits = absurd none
  rows_of_last own i (row ∷ rows) (rest ∷ rests) column ds d last (popped, later, cut, pops, columns) fits =
      let here = row_of_last own i row rest popped ds d last pops fits.0 in
      let more = rows_of_last own (i + 1) rows rests later ds d last columns fits.1 in
      ((here.0, more.0), subst (λ (xs : List A). AllByRecursion (λ t. deck t ≡ d) xs) (sym cut) (all_append (λ t. deck t ≡ d) popped later here.1 more.1))

  -- how many are popped
  popped_one : (own i : ℕ) (row rest popped : List A) (ds : List D) (d : D) → own ≡ length ds → i ≢ own → Pops own i row rest popped
      → map deck row ≡ others i (ds ++ d ∷ []) → length popped ≡ 1
  popped_one own i row rest popped ds d last apart pops fits =
      elim (pops.at_other apart) as (λ _. length popped ≡ 1) [
        | inl single ↦ single
        | inr empty ↦ absurd (no_snoc (others i ds) d (sym (fits ∙ others_other i ds d (λ e. apart (e ∙ sym last))) ∙ ap (map deck) empty))
      ]

  long_past : (own i : ℕ) (rows rests : List (List A)) (column : List A) (ds : List D) (d : D) → own ≡ length ds → own < i
      → Columns own i rows rests column → AreRows deck i rows (ds ++ d ∷ []) → length column ≡ length rows
  long_past own i [] [] column ds d last past none fits = ap length none
  long_past own i [] (rest ∷ rests) column ds d last past none fits = absurd none
  long_past own i (row ∷ rows) [] column ds d last past none fits = absurd none
  long_past own i (row ∷ rows) (rest ∷ rests) column ds d last past (popped, later, cut, pops, columns) fits =
      let one = popped_one own i row rest popped ds d last (λ e. omega arith) pops fits.0 in
      let more = long_past own (i + 1) rows rests later ds d last (omega arith) columns fits.1 in
      let n = ap length cut in let m = length-append popped later in omega arith

  pub long_column : (own i : ℕ) (rows rests : List (List A)) (column : List A) (ds : List D) (d : D) → own ≡ length ds
      → i ≤ own → own < i + length rows
      → Columns own i rows rests column → AreRows deck i rows (ds ++ d ∷ []) → length column + 1 ≡ length rows
  long_column own i [] rests column ds d last low high columns fits = absurd (omega arith)
  long_column own i (row ∷ rows) [] column ds d last low high none fits = absurd none
  long_column own i (row ∷ rows) (rest ∷ rests) column ds d last low high (popped, later, cut, pops, columns) fits =
      let n = ap length cut in let m = length-append popped later in
      elim (ℕ_discrete i own) as (λ _. length column + 1 ≡ length (row ∷ rows)) [
        | yes same ↦
            (let none : length popped ≡ 0 = ap length (pops.at_own same) in
            let more = long_past own (i + 1) rows rests later ds d last (omega arith) columns fits.1 in omega arith)
        | no apart ↦
            (let one = popped_one own i row rest popped ds d last apart pops fits.0 in
            let more = long_column own (i + 1) rows rests later ds d last (omega arith) (omega arith) columns fits.1 in omega arith)
      ]

module _ {A B : Type 0} (h : B → ℕ) (f : A → List B) where
  pub weigh_column : (own i : ℕ) (rows rests : List (List A)) (column : List A) → Columns own i rows rests column
      → sum_by h (flat_map (flat_map f) rows) ≡ sum_by h (flat_map (flat_map f) rests) + sum_by h (flat_map f column)
  weigh_column own i [] [] column none = let e = ap (λ (xs : List A). sum_by h (flat_map f xs)) none in omega arith
  weigh_column own i [] (rest ∷ rests) column none = absurd none
  weigh_column own i (row ∷ rows) [] column none = absurd none
  weigh_column own i (row ∷ rows) (rest ∷ rests) column (popped, later, cut, pops, columns) =
      let more = weigh_column own (i + 1) rows rests later columns in
      let all = sum_by-append h (flat_map f row) (flat_map (flat_map f) rows) in
      let left = sum_by-append h (flat_map f rest) (flat_map (flat_map f) rests) in
      let one : sum_by h (flat_map f row) ≡ sum_by h (flat_map f rest) + sum_by h (flat_map f popped) =
      ap (λ (xs : List A). sum_by h (flat_map f xs)) pops.cut
      ∙ (ap (sum_by h) (flat_map-append f rest popped) ∙ sum_by-append h (flat_map f rest) (flat_map f popped)) in
      let two : sum_by h (flat_map f column) ≡ sum_by h (flat_map f popped) + sum_by h (flat_map f later) =
      ap (λ (xs : List A). sum_by h (flat_map f xs)) cut
      ∙ (ap (sum_by h) (flat_map-append f popped later) ∙ sum_by-append h (flat_map f popped) (flat_map f later)) in
      omega arith

module _ {A : Type 0} where
  -- one row more
  pub columns_more : (own i : ℕ) (rows rests : List (List A)) (column : List A) (row rest popped : List A)
      → Columns own i rows rests column → Pops own (i + length rows) row rest popped
      → Columns own i (rows ++ row ∷ []) (rests ++ rest ∷ []) (column ++ popped)
  columns_more own i [] [] column row rest popped none pops = (
    popped,
    [],
    ap (λ (xs : List A). xs ++ popped) none ∙ sym (append-nil popped),
    subst (λ (n : ℕ). Pops own n row rest popped) (omega arith) pops,
    refl,
  )
  columns_more own i [] (r ∷ rests) column row rest popped none pops = absurd none
  columns_more own i (r ∷ rows) [] column row rest popped none pops = absurd none
  columns_more own i (r ∷ rows) (s ∷ rests) column row rest popped (first, later, cut, of_first, columns) pops = (
    first,
    later ++ popped,
    ap (λ (xs : List A). xs ++ popped) cut ∙ append_assoc first later popped,
    of_first,
    columns_more own (i + 1) rows rests later row rest popped columns (subst (λ (n : ℕ). Pops own n row rest popped) (omega arith) pops),
  )

  pub same_count : (own i : ℕ) (rows rests : List (List A)) (column : List A) → Columns own i rows rests column → length rows ≡ length rests
  same_count own i [] [] column c = refl
  same_count own i [] (s ∷ rests) column c = absurd c
  same_count own i (r ∷ rows) [] column c = absurd c
  same_count own i (r ∷ rows) (s ∷ rests) column (first, later, cut, of_first, columns) =
      let more = same_count own (i + 1) rows rests later columns in omega arith

  pub set_next : (done rest : List A) (r s : A) (i : ℕ) → length done ≡ i → set (done ++ r ∷ rest) i s ≡ (done ++ s ∷ []) ++ rest
  set_next [] rest r s zero e = refl
  set_next [] rest r s (suc i) e = absurd (omega arith)
  set_next (d ∷ done) rest r s zero e = absurd (omega arith)
  set_next (d ∷ done) rest r s (suc i) e = ap (λ (xs : List A). d ∷ xs) (set_next done rest r s i (omega arith))

at_end : {A : Type 0} (done rest : List A) (r d : A) (i : ℕ) → length done ≡ i → get_or (done ++ r ∷ rest) i d ≡ r
at_end [] rest r d zero e = refl
at_end [] rest r d (suc i) e = absurd (omega arith)
at_end (x ∷ done) rest r d zero e = absurd (omega arith)
at_end (x ∷ done) rest r d (suc i) e = at_end done rest r d i (omega arith)

-- what a loop over rows has popped before the row i
abbrev pub PoppedTo : {A : Type 0} → ℕ → ℕ → List (List A) → List (List A) → List A → Type 0
PoppedTo {A} own i begun now column =
    (done : List (List A)) × (length done ≡ i) × (now ≡ done ++ drop i begun) × Columns own 0 (take i begun) done column

pub popped_next : {A : Type 0} (own i : ℕ) (begun now : List (List A)) (column more : List A) (row rest : List A)
    → i < length begun → row ≡ get_or now i row
    → ((popped : List A) × (more ≡ column ++ popped) × Pops own i row rest popped)
    → PoppedTo own i begun now column → PoppedTo own (i + 1) begun (set now i rest) more
popped_next {A} own i begun now column more row rest within is (popped, grown, pops) (done, long, cut, columns) =
    let at : drop i begun ≡ get_or begun i row ∷ drop (i + 1) begun =
    drop-cons begun i row within ∙ (let n : suc i ≡ i + 1 = omega arith in ap (λ (n : ℕ). get_or begun i row ∷ drop n begun) n) in
    let same : row ≡ get_or begun i row =
    is ∙ (ap (λ (xs : List (List A)). get_or xs i row) (cut ∙ ap (λ (xs : List (List A)). done ++ xs) at)
    ∙ at_end done (drop (i + 1) begun) (get_or begun i row) row i long) in
    let cut_here : now ≡ done ++ row ∷ drop (i + 1) begun =
    cut ∙ (ap (λ (xs : List (List A)). done ++ xs) at ∙ ap (λ (r : List A). done ++ r ∷ drop (i + 1) begun) (sym same)) in
    let longer = length-append done (rest ∷ []) in
    let to : take (i + 1) begun ≡ take i begun ++ row ∷ [] =
    take_more begun i row within ∙ ap (λ (r : List A). take i begun ++ r ∷ []) (sym same) in (
      done ++ rest ∷ [],
      omega arith,
      ap (λ (xs : List (List A)). set xs i rest) cut_here ∙ set_next done (drop (i + 1) begun) row rest i long,
      subst (λ (rows : List (List A)). Columns own 0 rows (done ++ rest ∷ []) more) (sym to)
          (subst (λ (c : List A). Columns own 0 (take i begun ++ row ∷ []) (done ++ rest ∷ []) c) (sym grown)
          (columns_more own 0 (take i begun) done column row rest popped columns
          (subst (λ (n : ℕ). Pops own n row rest popped)
          (let n = same_count own 0 (take i begun) done column columns in omega arith) pops))),
    )

pub popped_all : {A : Type 0} (own i : ℕ) (begun now : List (List A)) (column : List A) → i ≡ length begun
    → PoppedTo own i begun now column → Columns own 0 begun now column
popped_all {A} own i begun now column all (done, long, cut, columns) =
    let none : drop i begun ≡ [] = ap (λ (n : ℕ). drop n begun) all ∙ drop-length begun in
    let whole : take i begun ≡ begun = ap (λ (n : ℕ). take n begun) all ∙ take-length begun in
    let here : now ≡ done = cut ∙ (ap (λ (xs : List (List A)). done ++ xs) none ∙ append-nil done) in
    subst (λ (xs : List (List A)). Columns own 0 begun xs column) (sym here)
    (subst (λ (xs : List (List A)). Columns own 0 xs done column) whole columns)

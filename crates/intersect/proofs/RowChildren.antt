-- The children by remainder rows are those of the step.
use Rattle.std.proofs.Common.{◌≡◌, ℕ, Bool, true, false, List, [], ◌∷◌, ◌++◌, map, Option, Some, None, IfSome, refl, sym, ap, ap₂, subst, ◌∙◌}
use Rattle.std.proofs.lemmas.List.{map-append}
use Rattle.mono_words.specs.declared.mono.TheConstants.{VARS}
use Rattle.polynomials.specs.Primes.{IsPrime}
use Rattle.polynomials.specs.Polynomials.{Polynomial, IsPolynomial, ArePolynomials}
use Rattle.polynomials.specs.Views.{main_var}
use Rattle.zero_sets.specs.ZeroSets.{IsTriangular, member_in, members_below}
use Rattle.zero_sets.specs.Tasks.{Task}
use Rattle.division_rules.specs.Rows.{Row, plain, plains}
use Rattle.division_rules.specs.Turns.{last_row}
use Rattle.division_rules.specs.Within.{and_then}
use Rattle.division_rules.specs.RemainderRows.{LaterRows, leads}
use Rattle.division_rules.specs.RemainderRowsWithin.{remainder_rows_within}
use Rattle.division_rules.proofs.WithinLimits.{gives-remainder_rows}
use Rattle.impose_rules.specs.Factors.{stripped}
use Rattle.impose_rules.specs.Leads.{lead_cases}
use Rattle.impose_rules.specs.Impose.{child_initial, child_lead, child_common, children_by_rows, children_at}
use Rattle.impose_laws.specs.TaskForms.{IsTaskOver}
use Rattle.impose_laws.proofs.Heads.{IsHead, start_of}
use Rattle.impose_laws.proofs.RowStarts.{IsStart}
use Rattle.impose_laws.proofs.RowShapes.{rows}
use Rattle.impose_laws.proofs.CommonRows.{leads_canonical, leads_free, last_polynomial, last_canonical, last_main}
use Rattle.impose_laws.proofs.Stripped.{main_var-stripped}
use Rattle.pseudo_division.specs.FieldOperations.{operations}
use Rattle.subresultants.specs.Ends.{end_of, ends_of}
use Rattle.subresultants.specs.Outcomes.{with_leads, ended, outcome_after, remainders_of}
use Rattle.subresultants.specs.declared.outcome.RowEnds.{RowEnds}
use Rattle.subresultants.specs.declared.outcome.Remainders.{Remainders}
use Rattle.row_laws.specs.Words.{IsReducedBy, StartRemainderRows}
use Rattle.row_laws.proofs.Members.{members_start_remainder_rows}
use Rattle.intersect.specs.declared.cases.Case.TheVariants.{Lead}
use Rattle.intersect.specs.Cases.{member_cases, initial_cases}
use Rattle.intersect.specs.Children.{child_in, children_by}
use Rattle.intersect.specs.Children as here
use Rattle.chains.proofs.MemberSteps.{member_main}
use Rattle.intersect.proofs.Triangular.{members_reduce}
use Rattle.intersect.proofs.CaseChildren.{head_of, initial_child, lead_children, member_child}

module _ (p w v : ℕ) (r : Polynomial) (left : Task) where
  abbrev leads_after : List (Row Polynomial) → List Polynomial
  leads_after later = leads (operations p) v (plain r ∷ later)

  abbrev last_after : List (Row Polynomial) → Polynomial
  last_after later = (last_row (plain r) later).first

  -- by the rows that follow r, where the last has a child
  abbrev kids_of : List (Row Polynomial) → Option (Row Polynomial) → List Task
  kids_of later last = child_common p VARS w left.chain left.queue left.nonzero v (leads_after later) (last_after later) last ++ map (child_lead p VARS w left.chain left.queue left.nonzero r (leads_after later)) (lead_cases p left.nonzero (leads_after later)) ++ child_initial p VARS w left.chain left.queue left.nonzero v r

  module _ (t : Polynomial) (later : List (Row Polynomial)) where
    abbrev made : RowEnds
    made = end_of (with_leads p v (plain t ∷ plain r ∷ later))

    -- in cases, of which those of the last row are given
    by_cases : (common : Bool) (kids : List Task) → map (child_in p (head_of v r (leads_after later)) left) (member_cases p w made common) ≡ kids → here.children_after_rows p w v r left made common ≡ kids ++ map (child_lead p VARS w left.chain left.queue left.nonzero r (leads_after later)) (lead_cases p left.nonzero (leads_after later)) ++ child_initial p VARS w left.chain left.queue left.nonzero v r
    by_cases common kids first =
        let g = child_in p (head_of v r (leads_after later)) left in
        map-append g (member_cases p w made common ++ map Lead (lead_cases p left.nonzero (leads_after later))) (initial_cases p left.nonzero (leads_after later))
        ∙ ap₂ ◌++◌ (map-append g (member_cases p w made common) (map Lead (lead_cases p left.nonzero (leads_after later))) ∙ ap₂ ◌++◌ first (lead_children p w v r left (leads_after later) (lead_cases p left.nonzero (leads_after later)))) (initial_child p w v r left (leads_after later) (leads (operations p) v later))

    -- by how the rows end
    children_ended : (last : Option (Row Polynomial)) → ((z : Row Polynomial) → last ≡ Some z → main_var (stripped p w (leads_after later) (last_after later)) ≡ Some v) → children_by p w v r left (ends_of (ended (with_leads p v (plain t ∷ plain r ∷ later)) last)) ≡ Some (kids_of later last)
    children_ended None main = ap Some (by_cases false [] refl)
    children_ended (Some z) main = ap Some (by_cases true (child_common p VARS w left.chain left.queue left.nonzero v (leads_after later) (last_after later) (Some z)) (ap (λ kid. kid ∷ []) (member_child p w v r left (leads_after later) (stripped p w (leads_after later) (last_after later)) (main z refl))))

  module _ (prime : IsPrime p) (over : IsTaskOver p VARS left) (triangular : IsTriangular left.chain) (i : IsPolynomial p VARS r) (reduced : IsReducedBy r left.chain) (main : main_var r ≡ Some v) (t : Polynomial) (found : member_in v left.chain ≡ Some t) where
    abbrev below : List Polynomial
    below = members_below v left.chain

    head : IsHead p VARS left.chain r
    head = record { canonical = i; reduced = members_reduce r left.chain reduced }

    -- rows start there
    start : IsStart p VARS v below t r
    start = start_of p VARS w prime left.chain left.nonzero over.0 over.2 triangular v r t head main found

    main_t : main_var t ≡ Some v
    main_t = member_main v left.chain t found

    -- where they are common, the last one has the main variable v, also without the leads
    common_main : (x : LaterRows Polynomial) → x ≡ rows p VARS prime w v below t r start → (z : Row Polynomial) → x.last ≡ Some z → main_var (stripped p w (leads_after x.later) (last_after x.later)) ≡ Some v
    common_main x e = subst (λ (y : LaterRows Polynomial). (z : Row Polynomial) → y.last ≡ Some z → main_var (stripped p w (leads_after y.later) (last_after y.later)) ≡ Some v) (sym e) (λ z last. main_var-stripped p VARS w prime (leads_after (rows p VARS prime w v below t r start).later) (leads_canonical p VARS prime w v below t r start) v (leads_free p VARS prime w v below t r start) (last_polynomial p VARS prime w v below t r start) (last_canonical p VARS prime w v below t r start) (last_main p VARS prime w v below t r start z last main_t main))

    outcome : (o : Option (LaterRows Polynomial)) → IfSome o (λ y. y ≡ rows p VARS prime w v below t r start) → children_by p w v r left (ends_of (outcome_after p v (plain t ∷ plain r ∷ []) o)) ≡ and_then o (λ x. Some (children_by_rows p VARS w left.chain left.queue left.nonzero v r x))
    outcome None e = refl
    outcome (Some x) e = children_ended t x.later x.last (common_main x e)

    -- the children at a member of the chain
    member_children : children_by p w v r left (ends_of (remainders_of p w v false t r below)) ≡ children_at p VARS w left.chain left.queue left.nonzero v r (Some t)
    member_children = outcome (remainder_rows_within (operations p) w v (plains below) (plain t) (plain r)) (gives-remainder_rows (operations p) w v (plains below) (plain t) (plain r))

    -- also where those below it, the rows and the children were made
    pub member_kids : (lower : List Polynomial) (remainders : Remainders) (kids : Option (List Task)) → lower ≡ below → remainders ≡ ends_of (remainders_of p w v false t r lower) → kids ≡ children_by p w v r left remainders → kids ≡ children_at p VARS w left.chain left.queue left.nonzero v r (member_in v left.chain)
    member_kids lower remainders kids those is made =
        made
        ∙ ap (children_by p w v r left) (is ∙ ap (λ xs. ends_of (remainders_of p w v false t r xs)) those)
        ∙ member_children
        ∙ ap (children_at p VARS w left.chain left.queue left.nonzero v r) (sym found)

    -- the rows start with canonical polynomials
    pub member_canonical : IsPolynomial p VARS t
    member_canonical = start.canonical_t

    pub lower_canonical : (lower : List Polynomial) → lower ≡ below → ArePolynomials p VARS lower
    lower_canonical lower those = subst (ArePolynomials p VARS) (sym those) start.canonical_chain

    -- below the member
    pub rows_start : (lower : List Polynomial) → lower ≡ below → StartRemainderRows v lower t r
    rows_start lower those = subst (λ xs. StartRemainderRows v xs t r) (sym those) (members_start_remainder_rows v left.chain t r triangular found reduced start.occurs)

-- Identities of an initial, from turn to turn.
use Rattle.std.proofs.Common.{◌≡◌, ℕ, suc, ◌+◌, ◌<◌, ◌≤◌, true, false, eqb, List, ◌∷◌, length, Option, Some, None, length-append, refl, sym, ap, ◌∙◌, subst, arith}
use Rattle.std.proofs.lemmas.Bool.{eqb-true, false_from_ne_true}
use Rattle.mono_words.specs.declared.mono.TheConstants.{VARS}
use Rattle.polynomials.specs.Polynomials.{Polynomial, IsPolynomial}
use Rattle.polynomials.specs.Views.{degree_in, IsFreeOf, initial_of}
use Rattle.zero_sets.specs.ZeroSets.{member_in, members_below}
use Rattle.division_rules.specs.PolynomialRows.{IsPolynomialRow}
use Rattle.division_rules.specs.Rows.{Row}
use Rattle.division_rules.specs.RemainderRows.{LaterRows}
use Rattle.division_rules.specs.Turns.{last_row}
use Rattle.division_rules.specs.Cofactors.{first_cofactor}
use Rattle.division_rules.specs.RemainderRows.{leads}
use Rattle.impose_rules.proofs.ChainParts.{each_canonical, member_of_chain}
use Rattle.pseudo_division.specs.FieldOperations.{operations}
use Rattle.row_laws.specs.Members.{LacksMainFrom}
use Rattle.row_laws.specs.Words.{StartRemainderRows}
use Rattle.row_laws.proofs.Members.{members_are_split, members_start_remainder_rows}
use Rattle.cofactor_laws.specs.RowsWithCofactors.{row_of_c}
use Rattle.split_paths.specs.declared.splitter.Step.TheVariants.{Emit}
use Rattle.tree_laws.specs.Points.{IfEmitted}
use Rattle.tree_laws.specs.Steps.{fitting_then, gives_way_to}
use Rattle.tree_laws.proofs.Steps.{fitting_holds, nothing_emitted}
use Rattle.chains.proofs.MemberSteps.{main_variable_small, member_main}
use Rattle.subresultants.specs.Ends.{EachEnd, ends_of}
use Rattle.subresultants.specs.Outcomes.{remainders_of}
use Rattle.subresultants.specs.Shape.{EachRemainderRow}
use Rattle.subresultants.specs.declared.outcome.Remainders.{Remainders}
use Rattle.subresultants.proofs.PolynomialRemainders as made
use Rattle.certificates.proofs.Members.{lower_canonical}
use Rattle.finish_rules.specs.Remainders.{remainder_of}
use Rattle.finish_rules.specs.Identities.{composed_within}
use Rattle.finish_rules.specs.Turns.{IdentitySoFar, Turned, rows_at, vanishing, turn_by_rows, turn_at}
use Rattle.finish_laws.proofs.CoprimeTurns.{composed_identity}
use Rattle.finish_laws.proofs.Mains.{lacks_absent, lacks_free}
use Rattle.finish_laws.proofs.Starts.{are_generators}
use Rattle.regularise.specs.declared.identity.Turn.{Turn}
use Rattle.regularise.specs.declared.identity.Turn.TheVariants.{Further, Vanishing, TooWide}
use Rattle.regularise.specs.Identities.{HasIdentity}
use Rattle.regularise.specs.Turns.{after, IfFurther, turn_by_outcome}
use Rattle.regularise.proofs.Outcomes.{outcome_turn}

module _ (p u : ℕ) (chain : List Polynomial) (f : Row Polynomial) (is : HasIdentity p (suc u) chain f) where
  member_canonical : (v : ℕ) (t : Polynomial) → member_in v chain ≡ Some t → IsPolynomial p VARS t
  member_canonical v t found = (member_of_chain (IsPolynomial p VARS) v chain t found (each_canonical p VARS chain is.member.canonical)).0

  -- the variable of the turn is one of the variables
  pub turn_variable : u < VARS
  turn_variable =
      let less = main_variable_small p VARS is.v is.t (member_canonical is.v is.t is.member.member) (member_main is.v chain is.t is.member.member) in
      let up = is.up in
      omega arith

  passed : LacksMainFrom u f.first chain → HasIdentity p u chain f
  passed lacks = record {
    v = is.v;
    t = is.t;
    up = (let up = is.up in omega arith);
    member = is.member;
    identity = record { over = is.identity.over; nonzero = is.identity.nonzero; reduced = is.identity.reduced; lacks = lacks };
  }

  -- it is one for the next turn where the variable is no main variable
  pub absent_kept : member_in u chain ≡ None → HasIdentity p u chain f
  absent_kept none = passed (lacks_absent u f.first chain none is.identity.lacks)

  -- or doesn't occur
  pub free_kept : IsFreeOf u f.first → HasIdentity p u chain f
  free_kept free = passed (lacks_free u f.first chain free is.identity.lacks)

  pub row_canonical : IsPolynomialRow p VARS f
  row_canonical = is.identity.over.canonical

  module _ (t : Polynomial) (found : member_in u chain ≡ Some t) where
    pub turn_canonical : IsPolynomial p VARS t
    turn_canonical = member_canonical u t found

    -- there are as many cofactors as places of a composition
    pub turn_room : (count : ℕ) (lower : List Polynomial) → count ≡ length lower → lower ≡ members_below u chain → count + 1 < length f.cofactors
    turn_room count lower same those =
        let split = members_are_split u is.v chain t (let up = is.up in omega arith) is.member.triangular found in
        let all = is.identity.over.combination.one_each ∙ ap (λ fs. suc (length fs)) split.1 ∙ ap suc (length-append (members_below u chain) (t ∷ split.0)) in
        let below = same ∙ ap length those in
        omega (arith, all, below)

    module _ (occurs : 1 ≤ degree_in u f.first) where
      -- remainder rows start there
      pub turn_starts : (lower : List Polynomial) → lower ≡ members_below u chain → StartRemainderRows u lower t f.first
      turn_starts lower those = subst (λ fs. StartRemainderRows u fs t f.first) (sym those) (members_start_remainder_rows u chain t f.first is.member.triangular found is.identity.reduced occurs)

      module _ (w count : ℕ) (lower : List Polynomial) (same : count ≡ length lower) (those : lower ≡ members_below u chain) (remainders : Remainders) (value : remainders ≡ ends_of (remainders_of p w u true t f.first lower)) where
        -- each row has two cofactors more than there are polynomials below
        pub turn_counts : EachEnd (λ g. length g.cofactors ≡ count + 2) remainders
        turn_counts =
            let two : 2 + length lower ≡ count + 2 = omega (arith, same) in
            subst (EachEnd (λ g. length g.cofactors ≡ count + 2)) (sym value)
            (made.kept p w u true t f.first lower (λ g. length g.cofactors ≡ count + 2)
            (subst (λ k. EachRemainderRow (λ g. length g.cofactors ≡ k) (remainders_of p w u true t f.first lower)) two
            (made.counts p w u true is.member.prime t f.first lower turn_canonical row_canonical.0 (lower_canonical p VARS u chain lower is.member.canonical those) (turn_starts lower those))))

module _ (p w u : ℕ) (chain ns : List Polynomial) (s : IdentitySoFar) (is : HasIdentity p (suc u) chain s.row) (t : Polynomial) (found : member_in u chain ≡ Some t) (occurs : 1 ≤ degree_in u s.row.first) where
  abbrev by_rows : (IdentitySoFar → Turned) → Turned
  by_rows further = fitting_then (rows_at p VARS w chain ns u t s.row.first) (λ rows. turn_by_rows p VARS w chain ns u further s rows.later rows.last)

  -- the turn is that by remainder rows
  pub turn_is : (further : IdentitySoFar → Turned) → turn_at p VARS w chain ns u further s (member_in u chain) ≡ by_rows further
  turn_is further = ap (turn_at p VARS w chain ns u further s) found ∙ ap (λ b. elim b as (λ _. Turned) [ true ↦ further s | false ↦ by_rows further ]) (false_from_ne_true (eqb (degree_in u s.row.first) 0) (λ e. let none = eqb-true (degree_in u s.row.first) 0 e in omega arith))

  -- so it is what the outcome of the remainder rows makes
  pub made_step : (lower : List Polynomial) (remainders : Remainders) (r : Turn) → lower ≡ members_below u chain → remainders ≡ ends_of (remainders_of p w u true t s.row.first lower) → ((further : IdentitySoFar → Turned) → after further r ≡ turn_by_outcome p w chain ns further s remainders) → (further : IdentitySoFar → Turned) → after further r ≡ turn_at p VARS w chain ns u further s (member_in u chain)
  made_step lower remainders r those value each further = each further ∙ ap (turn_by_outcome p w chain ns further s) (value ∙ ap (λ xs. ends_of (remainders_of p w u true t s.row.first xs)) those) ∙ outcome_turn p w chain ns further s u t ∙ sym (turn_is further)

  abbrev Emits : Turned → Type 0
  Emits x = IfEmitted (HasIdentity p u chain) x

  abbrev emit : IdentitySoFar → Turned
  emit x = Emit x.row

  rows_emit : (rows : LaterRows Polynomial) → rows_at p VARS w chain ns u t s.row.first ≡ Some rows → (last : Option (Row Polynomial)) → rows.last ≡ last → Emits (turn_by_rows p VARS w chain ns u emit s rows.later last)
  rows_emit rows fits None none = fitting_holds Emits (composed_within p VARS w s.row (last_row (row_of_c VARS s.row.first (members_below u chain)) rows.later)) (λ f. Emit f) tt (λ f composes. record {
    v = is.v;
    t = is.t;
    up = (let up = is.up in omega arith);
    member = is.member;
    identity = composed_identity p VARS w is.v u chain ns is.t is.member (initial_of is.t) (are_generators p VARS w is.v chain is.t is.member) s.row is.identity (let up = is.up in omega arith) t rows (record { found = found; occurs = occurs; fits = fits }) none f composes;
  })
  rows_emit rows fits (Some z) last = fitting_holds Emits (remainder_of p VARS w chain (first_cofactor (operations p) z)) (λ b. gives_way_to (vanishing p VARS w chain ns s (leads (operations p) u (row_of_c VARS s.row.first (members_below u chain) ∷ rows.later)) b)) tt (λ b made. nothing_emitted (HasIdentity p u chain) (vanishing p VARS w chain ns s (leads (operations p) u (row_of_c VARS s.row.first (members_below u chain) ∷ rows.later)) b))

  -- so an identity for further turns is one
  pub further_identity : (r : Turn) → ((further : IdentitySoFar → Turned) → after further r ≡ turn_at p VARS w chain ns u further s (member_in u chain)) → IfFurther (λ x. HasIdentity p u chain x.row) r
  further_identity (Further x) each = subst Emits (sym (each emit ∙ turn_is emit)) (fitting_holds Emits (rows_at p VARS w chain ns u t s.row.first) (λ rows. turn_by_rows p VARS w chain ns u emit s rows.later rows.last) tt (λ rows fits. rows_emit rows fits rows.last refl))
  further_identity (Vanishing fs) each = tt
  further_identity TooWide each = tt

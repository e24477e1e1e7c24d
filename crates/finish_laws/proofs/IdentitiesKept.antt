-- At each turn there is an identity of the initial; what holds with it holds of what becomes of it.
use Rattle.std.proofs.Common.{◌≡◌, ℕ, suc, ◌≤◌, false, true, List, [], ◌∷◌, Some, arith}
use Rattle.polynomials.specs.Polynomials.{Polynomial}
use Rattle.polynomials.specs.Views.{initial_of}
use Rattle.zero_sets.specs.ZeroSets.{members_below}
use Rattle.division_rules.specs.Cofactors.{first_cofactor}
use Rattle.division_rules.specs.Lists.{list_operations}
use Rattle.division_rules.specs.RemainderRows.{LaterRows, leads}
use Rattle.division_rules.specs.Rows.{Row}
use Rattle.division_rules.specs.Turns.{last_row}
use Rattle.split_paths.specs.declared.splitter.Step.TheVariants.{Gone, Emit, TooWide}
use Rattle.row_laws.specs.Members.{LacksMainFrom}
use Rattle.cofactor_laws.specs.RowsWithCofactors.{row_of_c}
use Rattle.tree_laws.specs.Steps.{gives_way_to}
use Rattle.finish_rules.specs.Remainders.{remainder_of}
use Rattle.finish_rules.specs.Identities.{initial_row, composed_within}
use Rattle.finish_rules.specs.Turns.{IdentitySoFar, Turned, vanishing}
use Rattle.finish_rules.specs.Initials.{turned}
use Rattle.finish_laws.specs.Identities.{IsMemberOver, IsIdentity}
use Rattle.finish_laws.proofs.CoprimeTurns.{composed_identity}
use Rattle.finish_laws.proofs.Mains.{lacks_absent, lacks_free}
use Rattle.finish_laws.proofs.Starts.{are_generators, starts_identity}
use Rattle.finish_laws.proofs.Turns.{MakesRows, TurnsKeep, turned_keeps}

module _ (p n w v : ℕ) (chain ns : List Polynomial) (t : Polynomial) (member : IsMemberOver p n v chain t) where
  -- J holds with the identity at each turn, Q of what becomes of it
  pub record Keep (J : IdentitySoFar → Type 0) (Q : Turned → Type 0) : Type 0 where
    pub wide : Q TooWide
    pub gone : (f : Row Polynomial) → initial_row p n w (initial_of t) (members_below v chain) ≡ Some f → f.first ≡ [] → Q Gone
    pub start : (f : Row Polynomial) → initial_row p n w (initial_of t) (members_below v chain) ≡ Some f → IsIdentity p n v v chain (initial_of t) f → J (record { row = f; composed = false })
    pub done : (s : IdentitySoFar) → IsIdentity p n v 0 chain (initial_of t) s.row → J s → Q (Emit s.row)
    pub coprime : (u : ℕ) (s : IdentitySoFar) (q : Polynomial) (rows : LaterRows Polynomial) (f : Row Polynomial) → IsIdentity p n v (suc u) chain (initial_of t) s.row → J s → MakesRows p n w u chain ns s.row q rows → composed_within p n w s.row (last_row (row_of_c n s.row.first (members_below u chain)) rows.later) ≡ Some f → IsIdentity p n v u chain (initial_of t) f → J (record { row = f; composed = true })
    pub common : (u : ℕ) (s : IdentitySoFar) (q : Polynomial) (rows : LaterRows Polynomial) (z : Row Polynomial) (b : Polynomial) → IsIdentity p n v (suc u) chain (initial_of t) s.row → J s → MakesRows p n w u chain ns s.row q rows → rows.last ≡ Some z → remainder_of p n w chain (first_cofactor (list_operations p n) z) ≡ Some b → Q (gives_way_to (vanishing p n w chain ns s (leads (list_operations p n) u (row_of_c n s.row.first (members_below u chain) ∷ rows.later)) b))

  module _ (J : IdentitySoFar → Type 0) (Q : Turned → Type 0) (keep : Keep J Q) where
    -- an identity at each turn
    record IsAtTurn (u : ℕ) (s : IdentitySoFar) : Type 0 where
      pub identity : IsIdentity p n v u chain (initial_of t) s.row
      pub below : u ≤ v
      pub more : J s

    -- turns at variables that don't occur keep it
    passed : (u : ℕ) (s : IdentitySoFar) → IsAtTurn (suc u) s → LacksMainFrom u s.row.first chain → IsAtTurn u s
    passed u s at lacks = record {
      identity = record { over = at.identity.over; nonzero = at.identity.nonzero; reduced = at.identity.reduced; lacks = lacks };
      below = (let less = at.below in omega (arith, less));
      more = at.more;
    }

    turns_kept : TurnsKeep p n w chain ns IsAtTurn Q
    turns_kept = record {
      wide = keep.wide;
      done = λ s at. keep.done s at.identity at.more;
      absent = λ u s at none. passed u s at (lacks_absent u s.row.first chain none at.identity.lacks);
      skipped = λ u s at free. passed u s at (lacks_free u s.row.first chain free at.identity.lacks);
      coprime = λ u s q rows f at makes none composes.
          let is = composed_identity p n w v u chain ns t member (initial_of t) (are_generators p n w v chain t member) s.row at.identity at.below q rows makes none f composes in
          record {
            identity = is;
            below = (let less = at.below in omega (arith, less));
            more = keep.coprime u s q rows f at.identity at.more makes composes is;
          };
      common = λ u s q rows z b at makes last reduced. keep.common u s q rows z b at.identity at.more makes last reduced;
    }

    pub turned_holds : Q (turned p n w chain ns v (initial_of t))
    turned_holds = turned_keeps p n w chain ns IsAtTurn Q turns_kept v (initial_of t) keep.gone (λ f made some.
        let is = starts_identity p n w v chain t member f made some in
        record { identity = is; below = omega arith; more = keep.start f made is })

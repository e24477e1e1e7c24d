-- The turns that are left after one.
use Rattle.std.proofs.Common.{◌≡◌, ℕ, zero, suc, List, [], ◌∷◌, refl, sym, ap, ◌∙◌}
use Rattle.mono_words.specs.declared.mono.TheConstants.{VARS}
use Rattle.polynomials.specs.Polynomials.{Polynomial}
use Rattle.zero_sets.specs.Certificates.{Certificate}
use Rattle.zero_sets.specs.ZeroSets.{member_in}
use Rattle.division_rules.specs.Rows.{Row}
use Rattle.split_paths.specs.declared.splitter.Step.{Step}
use Rattle.split_paths.specs.declared.splitter.Step.TheVariants.{Emit}
use Rattle.tree_laws.specs.Steps.{emitted_then, gives_way_to}
use Rattle.finish_rules.specs.Identities.{certificate_of}
use Rattle.finish_rules.specs.Turns.{IdentitySoFar, Turned, turn_at, turns_below}

module _ (p w : ℕ) (chain ns : List Polynomial) where
  abbrev left : ℕ → IdentitySoFar → Turned
  left u s = turns_below p VARS w chain ns u s

  -- one turn, and those below it
  pub turn_made : (u k : ℕ) (s : IdentitySoFar) (x whole : Turned) → u ≡ suc k → x ≡ turn_at p VARS w chain ns k (turns_below p VARS w chain ns k) s (member_in k chain) → turns_below p VARS w chain ns u s ≡ whole → x ≡ whole
  turn_made u k s x whole next is all = is ∙ ap (λ m. left m s) (sym next) ∙ all

  -- where no turn is left the identity is emitted
  pub turns_done : (u v : ℕ) (s : IdentitySoFar) (whole : Turned) → u ≡ zero → turns_below p VARS w chain ns u s ≡ whole → ◌≡◌ {A = Step Polynomial Certificate} (Emit (certificate_of v s.row)) (emitted_then whole (λ f. Emit (certificate_of v f)))
  turns_done u v s whole none all = ap (λ x. emitted_then x (λ f. Emit (certificate_of v f))) (sym (ap (λ m. left m s) none) ∙ all)

-- where polynomials vanish the others are passed over
pub turn_ended : (v : ℕ) (fs : List Polynomial) (whole : Turned) → gives_way_to fs ≡ whole → gives_way_to fs ≡ emitted_then whole (λ f. Emit (certificate_of v f))
turn_ended v fs whole is = go fs ∙ ap (λ x. emitted_then x (λ f. Emit (certificate_of v f))) is
  where
    go : (gs : List Polynomial) → gives_way_to {L = Certificate} gs ≡ emitted_then (gives_way_to {L = Row Polynomial} gs) (λ f. Emit (certificate_of v f))
    go [] = refl
    go (g ∷ gs) = refl

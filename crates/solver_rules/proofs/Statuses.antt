-- Which statuses go with a system.
use Rattle.std.proofs.Common.{◌≡◌, ◌⊎◌, inl, inr, zero, suc, [], ◌∷◌, sym, ◌∙◌, arith}
use Rattle.std.specs.Prelude.{Contains}
use Rattle.report_text.specs.declared.status.Status.{Status}
use Rattle.report_text.specs.declared.status.Status.TheVariants.{Chains, Stopped, Usage, Refused, WriteFault}
use Rattle.solver_rules.specs.Solved.{IsOfSystem}

-- one of two is the first or the second
pub of_two : {A : Type 0} → (a b x : A) → Contains (a ∷ b ∷ []) x → (x ≡ a) ⊎ (x ≡ b)
of_two a b x (zero, below, e) = inl (sym e)
of_two a b x (suc zero, below, e) = inr (sym e)
of_two a b x (suc (suc k), below, e) = absurd (omega arith)

-- a refusal isn't the usage line
pub refused_not_usage : {P : Type 0} → (status : Status) → status ≡ Refused → status ≡ Usage → P
refused_not_usage status e f = let bad = sym e ∙ f in cc

-- a line answers no system
pub line_not_system : {P : Type 0} → (status : Status) → Contains (Usage ∷ Refused ∷ []) status → IsOfSystem status → P
line_not_system status line of = elim (of_two Usage Refused status line) [
  | inl e ↦ elim (of_two Chains Stopped status of) [ inl f ↦ let bad = sym f ∙ e in cc | inr f ↦ let bad = sym f ∙ e in cc ]
  | inr e ↦ elim (of_two Chains Stopped status of) [ inl f ↦ let bad = sym f ∙ e in cc | inr f ↦ let bad = sym f ∙ e in cc ]
]

-- nor is it a fault of a write
pub line_not_fault : {P : Type 0} → (status : Status) → Contains (Usage ∷ Refused ∷ []) status → status ≡ WriteFault → P
line_not_fault status line fault = elim (of_two Usage Refused status line) [ inl e ↦ let bad = sym e ∙ fault in cc | inr e ↦ let bad = sym e ∙ fault in cc ]

-- a fault of a write answers no system
pub not_write_fault : {P : Type 0} → (status : Status) → status ≡ WriteFault → IsOfSystem status → P
not_write_fault status e h = elim (of_two Chains Stopped status h) [ inl f ↦ let bad = sym f ∙ e in cc | inr f ↦ let bad = sym f ∙ e in cc ]

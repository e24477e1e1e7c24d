-- What an initial gives way to is lawful, and so are the certificates of a lawful chain.
use Rattle.std.proofs.Common.{ℕ, List, ◌∷◌}
use Rattle.polynomials.specs.Polynomials.{Polynomial}
use Rattle.polynomials.specs.Views.{initial_of}
use Rattle.split_paths.specs.Lawful.{IsLawfulStep}
use Rattle.split_paths.specs.declared.splitter.Step.TheVariants.{Emit}
use Rattle.tree_laws.specs.Steps.{emitted_then}
use Rattle.tree_laws.proofs.Steps.{emitted_lawful, few_lawful}
use Rattle.finish_rules.specs.Identities.{certificate_of}
use Rattle.finish_rules.specs.Turns.{IdentitySoFar, Turned}
use Rattle.finish_rules.specs.Initials.{turned, regularised, certified}
use Rattle.finish_laws.specs.Identities.{IsMemberOver}
use Rattle.finish_laws.specs.Lawful.{IsLawfulPolynomial, IsLawfulChain, IsLawfulCertificate, AreLawfulCertificates}
use Rattle.finish_laws.specs.Laws.{RegularisingKeepsLaw, CertifiedKeepsLaw}
use Rattle.finish_laws.proofs.EachInitial.{each_holds}
use Rattle.finish_laws.proofs.IdentitiesKept.{Keep, turned_holds}
use Rattle.finish_laws.proofs.LawfulTurns.{IsLawfulRow, certificate_lawful, start_lawful, composed_lawful, vanishing_lawful}
use Rattle.finish_laws.proofs.Parts.{canonical_lawful}

module _ (p n k w v : ℕ) (chain ns : List Polynomial) (t : Polynomial) (member : IsMemberOver p n v chain t) (lawful_chain : IsLawfulChain p n k chain) where
  abbrev IsLawful : IdentitySoFar → Type 0
  IsLawful s = IsLawfulRow p n k s.row

  abbrev IsLawfulTurn : Turned → Type 0
  IsLawfulTurn made = IsLawfulStep (IsLawfulPolynomial p n k) (IsLawfulRow p n k) made

  -- at each turn
  law_kept : Keep p n w v chain ns t member IsLawful IsLawfulTurn
  law_kept = record {
    wide = tt;
    gone = λ f made null. tt;
    start = λ f made is. start_lawful p n k w member.prime chain ns lawful_chain v t member f made is.over.canonical;
    done = λ s is lawful. lawful;
    coprime = λ u s q rows f is lawful makes composes next. composed_lawful p n k w member.prime chain ns lawful_chain v u t member (initial_of t) s is lawful q rows makes f composes next.over.canonical;
    common = λ u s q rows z b is lawful makes last reduced.
        let kids = vanishing_lawful p n k w member.prime chain ns lawful_chain v u t member (initial_of t) s is lawful q rows makes z last b reduced in
        few_lawful (IsLawfulPolynomial p n k) (IsLawfulRow p n k) _ kids.1 kids.0;
  }

  pub regularised_lawful : IsLawfulStep (IsLawfulPolynomial p n k) (IsLawfulCertificate p n k) (regularised p n w chain ns v (initial_of t))
  regularised_lawful = emitted_lawful (IsLawfulPolynomial p n k) (IsLawfulRow p n k) (IsLawfulCertificate p n k) (turned p n w chain ns v (initial_of t)) (λ f. Emit (certificate_of v f)) (turned_holds p n w v chain ns t member IsLawful IsLawfulTurn law_kept) (λ f lawful. certificate_lawful p n k v f lawful)

-- the laws
pub regularising_keeps_law : RegularisingKeepsLaw
regularising_keeps_law p n k w v chain ns t member lawful_chain = regularised_lawful p n k w v chain ns t member lawful_chain

pub certified_keeps_law : CertifiedKeepsLaw
certified_keeps_law p n k w chain ns prime lawful_chain = each_holds p n w prime chain ns (canonical_lawful p n k chain lawful_chain.lawful) lawful_chain.triangular (λ rest made. IsLawfulStep P (AreLawfulCertificates p n k) made) (record {
  nothing = tt;
  passed = λ t rest e later. later;
  needed = λ t rest v e member initial later. emitted_lawful P (IsLawfulCertificate p n k) (AreLawfulCertificates p n k) (regularised p n w chain ns v (initial_of t)) (λ c. emitted_then (certified p n w chain ns rest) (λ cs. Emit (c ∷ cs))) (regularised_lawful p n k w v chain ns t member lawful_chain) (λ c lawful. emitted_lawful P (AreLawfulCertificates p n k) (AreLawfulCertificates p n k) (certified p n w chain ns rest) (λ cs. Emit (c ∷ cs)) later (λ cs more. (lawful, more)));
})
  where
    P : Polynomial → Type 0
    P = IsLawfulPolynomial p n k

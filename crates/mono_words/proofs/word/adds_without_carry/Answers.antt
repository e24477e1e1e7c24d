-- The lowest bits show the carries.
use Rattle.std.proofs.Common.{bit_and, arith}
use Rattle.std.proofs.lemmas.Bool.{eqb-true, eq-eqb}
use Rattle.mono_words.proofs.Carries.{turned, lowest_bits, carries_from_mask, mask_from_carries}
use Rattle.mono_words.proofs.word.adds_without_carry.Goals as goal

pub returns : goal.returns
returns c = (
  (λ h. carries_from_mask 4 c.args.a c.args.b c.args.sum c.requires (omega arith) (eqb-true (bit_and (turned c.args.a c.args.b c.args.sum) (lowest_bits 4)) 0 h)),
  (λ add. eq-eqb (bit_and (turned c.args.a c.args.b c.args.sum) (lowest_bits 4)) 0 (mask_from_carries 4 c.args.a c.args.b c.args.sum c.requires add)),
)

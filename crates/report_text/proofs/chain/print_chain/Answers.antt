-- The next certificate is written.
use Rattle.std.proofs.Common.{map, string_bytes}
use Rattle.report_text.specs.Certified.{certificate_text}
use Rattle.report_text.proofs.ChainTurns.{text_turn}
use Rattle.report_text.proofs.chain.print_chain.Goals as goal

pub loop-i-preserved : goal.loop-i-preserved
loop-i-preserved c =
    text_turn (certificate_text (map string_bytes c.args.names.now) c.args.polys.now) c.args.certificates.now c.loop-i.i c.at.result.now c.at.ensures
    (string_bytes c.loop-i.text) (string_bytes c.write_certificate.new.text) _ c.in_ok-write_certificate.ensures c.loop-i.invariant

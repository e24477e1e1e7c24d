-- A line is `poly `, the polynomial, and a line feed.
use Rattle.std.proofs.Common.{map, string_bytes}
use Rattle.report_text.proofs.ChainTurns.{line_turn}
use Rattle.report_text.proofs.chain.print_plain_chain.Goals as goal

pub loop-i-preserved : goal.loop-i-preserved
loop-i-preserved c =
    line_turn (map string_bytes c.args.names.now) c.args.polys.now c.loop-i.i c.at.result.now c.at.ensures
    (string_bytes c.loop-i.text) (string_bytes c.push_str.new.self) (string_bytes c.write_poly.new.text) (string_bytes c.push_str-in-loop-i.new.self) _
    c.in_ok-push_str.ensures.bytes c.in_ok-write_poly.ensures c.in_ok-push_str-2.ensures.bytes c.loop-i.invariant

-- The lemmas of rows, at the end of the lines and at the next line.
use Rattle.std.proofs.Common.{arith}
use Rattle.std.proofs.lemmas.Grind.{common_steps}
use Rattle.debug_listing.proofs.SourceLemmas.{rows_go_on, rows_stop}
use Rattle.debug_listing.proofs.source_listing.rows_of_lines.Goals as goal

pub loop-line-preserved : goal.loop-line-preserved
loop-line-preserved c = rows_go_on c.loop-line.text.items c.push_row.new.text.items _ c.args.counts.now c.args.places.now
    c.args.start c.args.bytes.now _ c.next_line.new.self.number _ c.in-Some.line.now _ c.in-Some.ensures.line c.in-Some.ensures.number
    (grind (arith, common_steps)) c.loop-line.invariant

pub returns : goal.returns
returns c = rows_stop _ _ _ _ _ _ _ _ c.in_default.ensures.line c.loop-line.invariant

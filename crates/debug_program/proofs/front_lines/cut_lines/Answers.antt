use Rattle.debug_program.proofs.FrontLineLemmas.{behind_line, cut_more, cut_short, one_line}
use Rattle.debug_program.proofs.front_lines.cut_lines.Goals as goal

pub loop-left-preserved : goal.loop-left-preserved
loop-left-preserved c =
    let line = c.in-Some.ensures in
    cut_more c.args.text.now c.loop-left.rest.now c.in-Some.after.now c.args.count c.loop-left.left _ c.loop-left.invariant
    c.loop-left-test.true (behind_line c.loop-left.rest.now c.in-Some.after.now _ line.one line.ends) line.after

pub returns-in-None-clause-first : goal.returns-in-None-clause-first
returns-in-None-clause-first c =
    (cut_short c.args.text.now c.loop-left.rest.now c.args.count c.loop-left.left c.loop-left.invariant c.loop-left-test.true
    (one_line c.loop-left.rest.now c.in-None.ensures.lines c.in-None.ensures.unended)).0

pub returns-in-None-clause-rest : goal.returns-in-None-clause-rest
returns-in-None-clause-rest c =
    (cut_short c.args.text.now c.loop-left.rest.now c.args.count c.loop-left.left c.loop-left.invariant c.loop-left-test.true
    (one_line c.loop-left.rest.now c.in-None.ensures.lines c.in-None.ensures.unended)).1

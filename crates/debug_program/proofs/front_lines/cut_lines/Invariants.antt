use Rattle.debug_program.proofs.FrontLineLemmas.{CutSoFar}
use Rattle.debug_program.proofs.front_lines.cut_lines.Given as goal

abbrev pub invariant-loop-left : goal.invariant-loop-left
invariant-loop-left l = CutSoFar l.text l.rest l.count l.left

abbrev pub decreases-loop-left : goal.decreases-loop-left
decreases-loop-left l = l.left

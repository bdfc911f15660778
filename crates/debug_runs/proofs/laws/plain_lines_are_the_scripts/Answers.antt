use Rattle.debug_runs.proofs.PlainLemmas.{lines_are}
use Rattle.debug_runs.proofs.laws.plain_lines_are_the_scripts.Goals as goal

pub returns : goal.returns
returns c modes labels s number block plain unhalted = lines_are modes labels s number block plain unhalted

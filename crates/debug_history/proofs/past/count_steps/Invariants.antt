use Rattle.std.proofs.Common.{◌≡◌, ◌+◌, drop}
use Rattle.debug_history.specs.Acts.{steps_of_acts}
use Rattle.debug_history.proofs.past.count_steps.Given as goal

-- the steps so far, and those of the acts that are left, are all
abbrev pub invariant-loop-act : goal.invariant-loop-act
invariant-loop-act l = l.steps + steps_of_acts (drop l.act-index l.acts) ≡ steps_of_acts l.acts

use Rattle.law_machine.proofs.ModuleSwisLemmas.Entering.{swi_steps_enter, swis_enter}
use Rattle.law_machine.proofs.module_swis.laws.frames_name_the_preferred.Goals as goal

pub returns-clause-calls : goal.returns-clause-calls
returns-clause-calls c = swis_enter

pub returns-clause-steps : goal.returns-clause-steps
returns-clause-steps c = swi_steps_enter

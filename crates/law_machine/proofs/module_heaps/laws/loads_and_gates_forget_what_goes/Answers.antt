use Rattle.law_machine.proofs.ModuleHeapsLemmas.Calls.{gates_forget_given, loads_forget_given}
use Rattle.law_machine.proofs.module_heaps.laws.loads_and_gates_forget_what_goes.Goals as goal

pub returns-clause-loads : goal.returns-clause-loads
returns-clause-loads c = loads_forget_given

pub returns-clause-gates : goal.returns-clause-gates
returns-clause-gates c = gates_forget_given

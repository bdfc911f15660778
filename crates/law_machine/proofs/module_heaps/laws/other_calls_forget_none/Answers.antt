use Rattle.law_machine.proofs.ModuleHeapsLemmas.Silent.{calls_forget_none, gates_forget_none}
use Rattle.law_machine.proofs.module_heaps.laws.other_calls_forget_none.Goals as goal

pub returns-clause-calls : goal.returns-clause-calls
returns-clause-calls c = calls_forget_none

pub returns-clause-gates : goal.returns-clause-gates
returns-clause-gates c = gates_forget_none

use Rattle.law_machine.proofs.ModuleHeapsLemmas.Calls.{calls_forget_given, extends_forget_cut}
use Rattle.law_machine.proofs.module_heaps.laws.module_calls_forget_what_goes.Goals as goal

pub returns-clause-calls : goal.returns-clause-calls
returns-clause-calls c = calls_forget_given

pub returns-clause-extends : goal.returns-clause-extends
returns-clause-extends c = extends_forget_cut

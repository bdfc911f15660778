-- What the calls on modules and the return gate keep, for the states of machines.
use Rattle.std.proofs.Common.{ℕ, ◌≡◌, ◌∙◌, true, false, List, Option, Some, None, ap, subst}
use Rattle.std.specs.Prelude.{ok_or}
use Rattle.profile.specs.Outcome.{bind}
use Rattle.profile.specs.ErrorNumber.TheVariants.{BadString}
use Rattle.os_heap_words.specs.lists.Heap.{HeapList}
use Rattle.os_heap.specs.Store.{Store, find_heap}
use Rattle.law_machine.specs.heap_calls.Laws.{KeepsHeap}
use Rattle.swi_dispatch_guest.specs.SwiDispatchAnswersWords.{host_string}
use Rattle.swi_dispatch_guest.specs.declared.halt.Halt.{Halt}
use Rattle.swi_dispatch_guest.specs.Additions.{load_planned}
use Rattle.swi_dispatch_guest.specs.MachineState.{MachineState, StepOutcome}
use Rattle.swi_dispatch_guest.specs.Step.{outcome_of_planned, outcome_of_module_swi, module_loaded, os_module_called, unless_halted}
use Rattle.law_machine.proofs.HeapAloneLemmas.Gates.{gate_keeps}
use Rattle.law_machine.proofs.HeapAloneLemmas.ModuleCalls.{loaded_keeps, module_swi_keeps, os_module_keeps}
use Rattle.law_machine.proofs.HeapAloneLemmas.ModuleHosts.{HasModules, IsHost, KeepsRecorded, given_modules, has_modules}
use Rattle.law_machine.proofs.HeapAloneLemmas.States.{IsGiven, given_goes, given_same, given_stays}
use Rattle.law_machine.specs.heap_alone.Laws.{HasHeap}
use Rattle.law_machine.specs.heap_alone.ModuleLaws.{GatesKeepHeap, HasAnyHeap, LoadsKeepHeap, ModuleCallsKeepHeap, ModuleSwisKeepHeap}
use Rattle.swi_dispatch_guest.specs.Moves.{machine_with_words}
use Rattle.law_machine.proofs.HeapFrameLemmas.Areas.{heap_same}

pub any_heap : (s : MachineState) (h : HeapList) → HasHeap s h → HasAnyHeap s h
any_heap s h has = record { state = has.state; goes = has.goes; found = has.found; own = has.own }

pub host : (s : MachineState) (h : HeapList) → HasAnyHeap s h → IsHost s h
host s h has = record { modules = has_modules s has.state; found = has.found; own = has.own }

-- the machine on which a call from outside is made
pub record IsAsked (s : MachineState) (h : HeapList) (words : List ℕ) : Type 0 where
  pub host : IsHost (machine_with_words s words) h
  pub stays : (machine_with_words s words).store ≡ s.store
  pub goes : (machine_with_words s words).halt ≡ s.halt

pub asked : (s : MachineState) (h : HeapList) (words : List ℕ) → HasAnyHeap s h → IsAsked s h words
asked s h words has =
    let u : MachineState = machine_with_words s words in
    let on : HasModules s = has_modules s has.state in
    let like : IsGiven s u = given_same s 0 words on.store.size in
    let stays : u.store ≡ s.store = given_stays s u like in
    record {
      host = record {
        modules = given_modules s u on like;
        found = ap (λ (t : Store). find_heap h.start t.heaps) stays ∙ has.found;
        own = has.own;
      };
      stays = stays;
      goes = given_goes s u like;
    }

pub module_calls_keep : ModuleCallsKeepHeap
module_calls_keep images s h words x next number has =
    let a : IsAsked s h words = asked s h words has in
    subst (λ (t : Store). KeepsRecorded h t (os_module_called images (machine_with_words s words) x next number).now.store) a.stays
    (os_module_keeps (machine_with_words s words) h a.host images x next number)

pub module_swis_keep : ModuleSwisKeepHeap
module_swis_keep s h words x next number handler has =
    let a : IsAsked s h words = asked s h words has in
    subst (λ (t : Store). KeepsHeap h t (outcome_of_module_swi (machine_with_words s words) x next number handler).now.store) a.stays
    (module_swi_keeps (machine_with_words s words) h a.host x next number handler)

unhalted : (s : MachineState) (h : HeapList) (o : Option Halt) (a : StepOutcome) → find_heap h.start s.store.heaps ≡ Some h
    → KeepsRecorded h s.store a.now.store → KeepsRecorded h s.store (unless_halted s o a).now.store
unhalted s h None a found kept = kept
unhalted s h (Some why) a found kept = λ _. heap_same h s.store found

pub loads_keep : LoadsKeepHeap
unfolding module_loaded
loads_keep images s h text has =
    unhalted s h s.halt (outcome_of_planned s true s.cpu.pc false (bind (ok_or (host_string text) BadString) (λ words. load_planned images s words false))) has.found
    (loaded_keeps s h (host s h has) images true s.cpu.pc text)

pub gates_keep : GatesKeepHeap
gates_keep s h has = gate_keeps s h (host s h has)

use Rattle.rma.proofs.HeapCalls.{areas_written}
use Rattle.rma.proofs.SystemWrites.{kept_classes}
use Rattle.instances.proofs.ModuleStateLemmas.Writes.{pages_kept, private_keeps, private_kept, private_written, module_state_written}
use Rattle.instances.proofs.module_state.system_pages.put_private.Goals as goal

pub returns-clause-area_store : goal.returns-clause-area_store
returns-clause-area_store c =
    let e = c.put_word.ensures in
    private_written _ _ c.args.slot _ _ c.private_word.ensures e.layout e.bytes
    (private_kept _ _ c.args.slot _ _ c.private_word.ensures e.layout e.bytes c.requires.system c.requires.below e.marks)

pub returns-clause-kept : goal.returns-clause-kept
returns-clause-kept c =
    let e = c.put_word.ensures in
    let kept = private_kept _ _ c.args.slot _ _ c.private_word.ensures e.layout e.bytes c.requires.system c.requires.below e.marks in
    record {
      sound = λ l modules pending. module_state_written _ _ l modules pending kept e.layout;
      areas = λ l area_store. areas_written _ _ l area_store kept.sound e.layout;
      pages = pages_kept _ _ kept e.layout c.requires.system;
      classes = kept_classes _ _ kept e.marks;
      layout = e.layout;
      flex = private_keeps _ _ c.args.slot _ _ c.private_word.ensures e.layout e.bytes c.requires.system c.requires.below e.marks;
    }

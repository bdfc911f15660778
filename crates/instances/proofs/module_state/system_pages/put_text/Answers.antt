use Rattle.std.proofs.Common.{◌∙◌}
use Rattle.rma.proofs.HeapCalls.{areas_written}
use Rattle.rma.proofs.SystemWrites.{kept_classes}
use Rattle.instances.proofs.ModuleStateLemmas.Writes.{pages_kept, text_keeps, text_kept, text_written, module_state_written}
use Rattle.instances.proofs.module_state.system_pages.put_text.Goals as goal

pub returns-clause-area_store : goal.returns-clause-area_store
returns-clause-area_store c =
    let one = c.put_bytes.ensures in
    let two = c.put_bytes-2.ensures in
    text_written _ _ _ c.args.text.now one.layout two.layout one.bytes two.bytes
    (text_kept _ _ _ c.args.text.now one.layout two.layout one.bytes two.bytes c.requires.system c.requires.short (two.marks ∙ one.marks))

pub returns-clause-kept : goal.returns-clause-kept
returns-clause-kept c =
    let one = c.put_bytes.ensures in
    let two = c.put_bytes-2.ensures in
    let marks = two.marks ∙ one.marks in
    let same = two.layout ∙ one.layout in
    let kept = text_kept _ _ _ c.args.text.now one.layout two.layout one.bytes two.bytes c.requires.system c.requires.short marks in
    record {
      sound = λ l modules pending. module_state_written _ _ l modules pending kept same;
      areas = λ l area_store. areas_written _ _ l area_store kept.sound same;
      pages = pages_kept _ _ kept same c.requires.system;
      classes = kept_classes _ _ kept marks;
      layout = same;
      flex = text_keeps _ _ _ c.args.text.now one.layout two.layout one.bytes two.bytes c.requires.system c.requires.short marks;
    }

use Rattle.std.proofs.Common.{◌≡◌}
use Rattle.std.specs.Prelude.{slice_get}
use Rattle.swi_dispatch_guest.specs.Output.{AddsAllBut}
use Rattle.swi_dispatch_guest.specs.AddressMapMemory.{bytes_of}
use Rattle.debugger.specs.Modules.{one_text, instances_text}
use Rattle.debugger.proofs.ModuleLemmas.{instances_from}
use Rattle.debugger.proofs.modules.show_instances.Given as goal

-- what stands written, and the lines of the instances that are left, is all
abbrev pub invariant-loop-instance : goal.invariant-loop-instance
invariant-loop-instance g l = record {
  text : AddsAllBut (g.W.Sink.contents l.fn.sink) (g.W.Sink.contents l.sink)
      (instances_from (bytes_of l.memory) l.instance (slice_get l.modules l.number))
      (one_text (instances_text (bytes_of l.memory)) (slice_get l.modules l.number));
  same_flag : g.W.Sink.has_failed l.sink ≡ g.W.Sink.has_failed l.fn.sink;
}

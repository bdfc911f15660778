use Rattle.std.proofs.Common.{◌≡◌, drop}
use Rattle.std.specs.List.{flat_map}
use Rattle.swi_dispatch_guest.specs.Output.{AddsAllBut}
use Rattle.swi_dispatch_guest.specs.AddressMapMemory.{bytes_of}
use Rattle.debugger.specs.Modules.{module_text}
use Rattle.debugger.proofs.modules.show_all.Given as goal

-- what stands written, and the lines of the modules that are left, is all
abbrev pub invariant-loop-number : goal.invariant-loop-number
invariant-loop-number g l = record {
  text : AddsAllBut (g.W.Sink.contents l.fn.sink) (g.W.Sink.contents l.sink)
      (flat_map (module_text (bytes_of l.memory)) (drop l.number l.modules)) (flat_map (module_text (bytes_of l.memory)) l.modules);
  same_flag : g.W.Sink.has_failed l.sink ≡ g.W.Sink.has_failed l.fn.sink;
}

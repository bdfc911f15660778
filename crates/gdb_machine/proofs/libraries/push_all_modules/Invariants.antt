use Rattle.std.proofs.Common.{◌≡◌, drop}
use Rattle.std.specs.List.{flat_map}
use Rattle.profile.specs.Output.{AddsAllBut}
use Rattle.gdb_machine.specs.Libraries.{module_library}
use Rattle.gdb_machine.proofs.libraries.push_all_modules.Given as goal

-- what stands written, and the lines of the modules that are left, is all
abbrev pub invariant-loop-number : goal.invariant-loop-number
invariant-loop-number g l = record {
  text : AddsAllBut (g.W.Sink.contents l.fn.sink) (g.W.Sink.contents l.sink)
      (flat_map module_library (drop l.number l.modules)) (flat_map module_library l.modules);
  same_flag : g.W.Sink.has_failed l.sink ≡ g.W.Sink.has_failed l.fn.sink;
}

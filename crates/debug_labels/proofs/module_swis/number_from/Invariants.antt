use Rattle.std.proofs.Common.{◌≡◌, ◌≤◌, ◌-◌, ◌^◌}
use Rattle.debugger.specs.AddressMapMemory.{bytes_of}
use Rattle.debug_labels.specs.ModuleSwis.{number_from}
use Rattle.debug_labels.proofs.module_swis.number_from.Given as goal

-- the texts that are left give what all give
abbrev pub invariant-loop-number : goal.invariant-loop-number
invariant-loop-number l = record {
  number : number_from (64 - l.number) (bytes_of l.memory) l.name l.number l.place
      ≡ number_from 64 (bytes_of l.memory) l.name 0 l.at;
  within : l.place ≤ 2 ^ 27;
}

use Rattle.std.proofs.Common.{◌≡◌, drop}
use Rattle.debugger.specs.AddressMapMemory.{bytes_of}
use Rattle.debugger.specs.Lookup.{shown_of_module}
use Rattle.profile.specs.Firsts.{first_of}
use Rattle.debug_labels.specs.ModuleSwis.{swi_of_module, swi_of_modules}
use Rattle.debug_labels.proofs.module_swis.swi_of_modules.Given as goal

-- none of the modules that were passed has a SWI of that name
abbrev pub invariant-loop-number : goal.invariant-loop-number
invariant-loop-number l =
    first_of (λ m. swi_of_module (bytes_of l.memory) l.name (shown_of_module m)) (drop l.number l.modules)
    ≡ swi_of_modules (bytes_of l.memory) l.modules l.name

use Rattle.std.proofs.Common.{◌≡◌, drop}
use Rattle.debugger.specs.Lookup.{shown_of_module}
use Rattle.debug_labels.specs.Standing.{module_start, start_as}
use Rattle.profile.specs.Firsts.{first_of}
use Rattle.debug_labels.proofs.labels.LabelledImage.module_start.Given as goal

-- none of the modules that were passed is loaded from the image
abbrev pub invariant-loop-number : goal.invariant-loop-number
invariant-loop-number l =
    first_of (λ m. start_as l.self (shown_of_module m)) (drop l.number l.modules) ≡ module_start l.modules l.self

use Rattle.std.proofs.Common.{◌≡◌, drop}
use Rattle.instances_table.specs.Lookup.{shown_of_module}
use Rattle.profile.specs.Firsts.{first_of}
use Rattle.debug_listing.specs.Describing.{if_titled, module_of_title}
use Rattle.debug_listing.proofs.describing.module_of_title.Given as goal

-- none of the modules that were passed has the title
abbrev pub invariant-loop-number : goal.invariant-loop-number
invariant-loop-number l =
    first_of (λ m. if_titled l.title (shown_of_module m)) (drop l.number l.modules) ≡ module_of_title l.modules l.title

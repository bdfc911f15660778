-- The texts of the faults of a header. They are this project's own.
use Rattle.std.specs.Prelude.{ℕ, List, codes}
use Rattle.profile.specs.declared.images.module_header.fault.HeaderFault.{HeaderFault}
use Rattle.profile.specs.declared.images.module_header.fault.HeaderFault.TheVariants.{Short, Initialise, Finalise, Title}

abbrev pub header_fault_text : HeaderFault → List ℕ
header_fault_text Short = codes "the image is shorter than a module's header"
header_fault_text Initialise = codes "the initialisation entry is no word of the image"
header_fault_text Finalise = codes "the finalisation entry is no word of the image"
header_fault_text Title = codes "the image has no good title"

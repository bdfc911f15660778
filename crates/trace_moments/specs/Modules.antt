-- The instances of all modules as records show them, oldest module first (RISC OS 3 Programmer's
-- Reference Manual, "Modules", "Module instantiation"): each with its name, its slot, and whether its
-- module prefers it, and the title of its module, and where the image of that is. A module has an
-- instance at least, so each is shown.
use Rattle.std.specs.Prelude.{List}
use Rattle.arrayvec.specs.ArrayVec.{ArrayVec}
use Rattle.instances_table.specs.Modules.{Module}
use Rattle.trace_store_text.specs.modules.Marks.{instance_marks}
use Rattle.trace_store_text.specs.declared.modules.marks.InstanceMark.{InstanceMark}

abbrev pub module_marks : List Module → ArrayVec InstanceMark
module_marks modules = record { items = instance_marks modules }

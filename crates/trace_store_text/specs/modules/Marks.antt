-- The instances of all modules as one list, oldest module first, each with its instances, oldest first
-- (RISC OS 3 Programmer's Reference Manual, "Modules", "Module instantiation").
use Rattle.std.specs.Prelude.{ℕ, List, [], map, Option, Some, None, option_map, option_to_list, slice_get}
use Rattle.std.specs.List.{flat_map}
use Rattle.instances_table.specs.Lookup.{shown_of_instance, shown_of_module}
use Rattle.instances_table.specs.Modules.{Instance, Module}
use Rattle.instances_table.specs.declared.parts.InstanceInfo.{InstanceInfo}
use Rattle.instances_table.specs.declared.parts.ModuleInfo.{ModuleInfo}
use Rattle.trace_store_text.specs.declared.modules.marks.InstanceMark.{InstanceMark}

abbrev pub mark_shown : ModuleInfo → InstanceInfo → InstanceMark
mark_shown m i = record {
  title = m.title;
  name = i.name;
  slot = i.slot;
  preferred = i.preferred;
  at = m.image;
  len = m.len;
}

abbrev pub mark_of : Module → Instance → InstanceMark
mark_of m i = mark_shown (shown_of_module m) (shown_of_instance m i)

abbrev pub marks_in : Module → List InstanceMark
marks_in m = map (mark_of m) m.instances

unfoldable pub instance_marks : List Module → List InstanceMark
instance_marks modules = flat_map marks_in modules

-- those of a module, if there is one
abbrev pub marks_at : Option Module → List InstanceMark
marks_at None = []
marks_at (Some m) = marks_in m

-- that of the instance of a number, if there is one
abbrev pub one_mark : ℕ → Option Module → List InstanceMark
one_mark n None = []
one_mark n (Some m) = option_to_list (option_map (mark_of m) (slice_get m.instances n))

-- The images of modules, which go with their last instances (RISC OS 3 Programmer's Reference
-- Manual, "OS_Module", reason 4).
use Rattle.std.specs.Prelude.{ℕ, List, [], ◌∷◌, Option, Some, None, if◌then◌else◌}
use Rattle.instances_table.specs.declared.parts.Image.{Image}
use Rattle.instances_table.specs.Modules.{Module, has_instance}
use Rattle.instances_table.specs.Changes.{module_without}

-- the image of a module of which that is left, where it is nothing
abbrev pub image_unless : Module → List Module → Option Image
image_unless m [] = Some m.image
image_unless m (left ∷ others) = None

-- the image that goes with the instance of a slot: its module's, if it has no other instance
abbrev pub last_image : ℕ → List Module → Option Image
last_image slot [] = None
last_image slot (m ∷ ms) = if has_instance slot m then image_unless m (module_without slot m)
    else last_image slot ms

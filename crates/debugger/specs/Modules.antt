-- Modules as text: a line for each, oldest first, with its title and its image's address and length
-- in bytes; and under it a line for each instance, oldest first, with its name, its private word's
-- address and the value there, and whether it is preferred (RISC OS 3 Programmer's Reference
-- Manual, "OS_Module", reason 12; the text is this project's own).
use Rattle.std.specs.Prelude.{ℕ, Bool, true, false, ◌+◌, ◌*◌, ◌++◌, List, [], codes, Option, Some, None}
use Rattle.std.specs.Fmt.{decimal}
use Rattle.std.specs.List.{flat_map}
use Rattle.std.specs.Result.{result_unwrap_or}
use Rattle.assembler_text.specs.Digits.{hex_word}
use Rattle.swi_dispatch_guest.specs.Bytes.{Bytes, word_loaded}
use Rattle.swi_dispatch_guest.specs.ModuleInfo.{ModuleInfo}
use Rattle.swi_dispatch_guest.specs.InstanceInfo.{InstanceInfo}
use Rattle.swi_dispatch_guest.specs.Lookup.{shown_of_module, shown_of_instance}
use Rattle.swi_dispatch_guest.specs.Modules.{Instance, Module}

-- what is shown of something, nothing where there is none
abbrev pub one_text : {X : Type 0} → (X → List ℕ) → Option X → List ℕ
one_text text None = []
one_text text (Some x) = text x

-- `module Title at 01800014 length 47`
abbrev pub module_line : ModuleInfo → List ℕ
module_line m =
    codes "module " ++ (m.title.items ++ (codes " at " ++ (hex_word m.image
    ++ (codes " length " ++ (decimal m.len ++ codes "\n")))))

-- the private word of a slot, and its value
abbrev pub private_word_address : ℕ → ℕ
private_word_address slot = 0x01C02000 + 4 * slot

abbrev pub private_value : Bytes → ℕ → ℕ
private_value b slot = result_unwrap_or (word_loaded b (private_word_address slot)) 0

abbrev pub preferred_text : Bool → List ℕ
preferred_text true = codes " preferred\n"
preferred_text false = codes "\n"

-- `  Base word 01C02000 00000000 preferred`
abbrev pub instance_line : Bytes → InstanceInfo → List ℕ
instance_line b i =
    codes "  " ++ (i.name.items ++ (codes " word " ++ (hex_word (private_word_address i.slot)
    ++ (codes " " ++ (hex_word (private_value b i.slot) ++ preferred_text i.preferred)))))

abbrev pub instances_text : Bytes → Module → List ℕ
instances_text b m = flat_map (λ (i : Instance). instance_line b (shown_of_instance m i)) m.instances

abbrev pub module_text : Bytes → Module → List ℕ
module_text b m = module_line (shown_of_module m) ++ instances_text b m

abbrev pub modules_text : Bytes → List Module → List ℕ
modules_text b modules = flat_map (module_text b) modules

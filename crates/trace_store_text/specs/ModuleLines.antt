-- What a store call changes in modules, a line below the call for each instance that is gone, new or
-- moved with its module's image, and for each that is preferred in place of another.
use Rattle.std.specs.Prelude.{ℕ, List, [], ◌++◌, codes, Option, Some, None, if◌then◌else◌}
use Rattle.std.specs.Fmt.{decimal}
use Rattle.std.specs.List.{flat_map}
use Rattle.profile.specs.Digits.{hex_word}
use Rattle.instances_table.specs.Modules.{Module}
use Rattle.trace_store_text.specs.modules.Changes.{InstanceChange, gone_instance, is_preferred_anew, kept_instance}
use Rattle.trace_store_text.specs.modules.Marks.{instance_marks}
use Rattle.trace_store_text.specs.declared.modules.marks.InstanceMark.{InstanceMark}

-- `module Dbl%Base gone at 01800014`
unfoldable pub gone_instance_line : InstanceMark → ℕ → List ℕ
gone_instance_line x at = codes "                  module " ++ (x.title.items ++ (codes "%" ++ (x.name.items
    ++ (codes " gone at " ++ (hex_word at ++ codes "\n")))))

-- `module Dbl%Base new at 01800014 length 72`
unfoldable pub new_instance_line : InstanceMark → ℕ → List ℕ
new_instance_line x at = codes "                  module " ++ (x.title.items ++ (codes "%" ++ (x.name.items
    ++ (codes " new at " ++ (hex_word at ++ (codes " length " ++ (decimal x.len ++ codes "\n")))))))

-- `module Dbl%Base at 01800014 was 0180003C`
unfoldable pub moved_instance_line : InstanceMark → ℕ → ℕ → List ℕ
moved_instance_line x was at = codes "                  module " ++
    (x.title.items ++ (codes "%" ++ (x.name.items
    ++ (codes " at " ++ (hex_word at ++ (codes " was " ++ (hex_word was ++ codes "\n")))))))

abbrev pub instance_line_by : InstanceMark → Option ℕ → Option ℕ → List ℕ
instance_line_by x None None = []
instance_line_by x (Some was) None = gone_instance_line x was
instance_line_by x None (Some at) = new_instance_line x at
instance_line_by x (Some was) (Some at) = moved_instance_line x was at

abbrev pub instance_change_line : InstanceChange → List ℕ
instance_change_line c = instance_line_by c.mark c.was c.is

abbrev pub gone_instance_lines : List InstanceMark → InstanceMark → List ℕ
gone_instance_lines after x = flat_map instance_change_line (gone_instance after x)

abbrev pub kept_instance_lines : List InstanceMark → InstanceMark → List ℕ
kept_instance_lines before x = flat_map instance_change_line (kept_instance before x)

-- `module Dbl%B preferred`
unfoldable pub preferred_line : InstanceMark → List ℕ
preferred_line x = codes "                  module " ++ (x.title.items ++ (codes "%" ++ (x.name.items
    ++ codes " preferred\n")))

abbrev pub preferred_lines : List InstanceMark → InstanceMark → List ℕ
preferred_lines before x = if is_preferred_anew before x then preferred_line x else []

unfoldable pub module_lines : List Module → List Module → List ℕ
module_lines before after = flat_map (gone_instance_lines (instance_marks after)) (instance_marks before)
    ++ (flat_map (kept_instance_lines (instance_marks before)) (instance_marks after)
    ++ flat_map (preferred_lines (instance_marks before)) (instance_marks after))

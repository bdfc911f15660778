-- Where an image stands now: where a module is loaded from it, there, and else where it was
-- assembled. Addresses count modulo 2^32.
use Rattle.std.specs.Prelude.{ℕ, Bool, false, ◌+◌, ◌%◌, ◌^◌, ◌==◌, ◌&&◌, List, [], ◌∷◌, Option, Some, None, unwrap_or, if◌then◌else◌}
use Rattle.std.specs.Option.{option_or}
use Rattle.std.specs.Str.{bytes_eq}
use Rattle.profile.specs.Firsts.{first_of}
use Rattle.profile.specs.declared.images.module_header.header.Header.{Header}
use Rattle.debugger.specs.Lookup.{shown_of_module}
use Rattle.debugger.specs.InstancesTableModules.{Module}
use Rattle.debugger.specs.ModuleInfo.{ModuleInfo}
use Rattle.debug_labels.specs.Labels.{ImageLabels}

abbrev pub is_titled : Option Header → ModuleInfo → Bool
is_titled None m = false
is_titled (Some header) m = bytes_eq m.title.items header.title.items

-- whether a module is loaded from an image: it has the image's title and its length
abbrev pub is_loaded_from : ImageLabels → ModuleInfo → Bool
is_loaded_from i m = is_titled i.header m && (m.len == i.size)

abbrev pub start_as : ImageLabels → ModuleInfo → Option ℕ
start_as i m = if is_loaded_from i m then Some m.image else None

abbrev pub module_start : List Module → ImageLabels → Option ℕ
module_start modules i = first_of (λ m. start_as i (shown_of_module m)) modules

-- where an image stands now
abbrev pub start_now : List Module → ImageLabels → ℕ
start_now modules i = unwrap_or (module_start modules i) i.origin

-- where that many bytes of it stand before
abbrev pub place_now : List Module → ImageLabels → ℕ → ℕ
place_now modules i offset = (start_now modules i + offset) % 2 ^ 32

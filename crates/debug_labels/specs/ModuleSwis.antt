-- The SWIs that loaded modules name (RISC OS 3 Programmer's Reference Manual, "Modules", "Module header
-- format"): the word at &24 is the offset of a table of texts, each with a zero byte behind it. The first is
-- the name of the chunk; then come those of its SWIs, in their order, up to an empty one. A SWI is called by
-- the chunk's name, `_` and its own: `Pots_Sum`. A text of more than 255 bytes ends the table: that is this
-- project's own.
use Rattle.std.specs.Prelude.{ℕ, zero, suc, ◌+◌, ◌==◌, ◌&&◌, nat_le, nat_lt, List, length, take, drop, slice_index, Option, None, Some, option_map, option_and_then, Result, Ok, Err, if◌then◌else◌}
use Rattle.std.specs.Str.{bytes_eq}
use Rattle.profile.specs.Firsts.{first_of}
use Rattle.profile.specs.Sums.{address_further}
use Rattle.profile.specs.Fault.{Fault}
use Rattle.debugger.specs.Bytes.{Bytes, word_loaded}
use Rattle.debugger.specs.Lookup.{shown_of_module}
use Rattle.debugger.specs.InstancesTableModules.{Module}
use Rattle.debugger.specs.ModuleInfo.{ModuleInfo}
use Rattle.debugger.specs.Strings.{ends, text_at}
use Rattle.debugger.specs.TextEnd.TheVariants as end

-- a text that isn't empty
abbrev pub if_some : List ℕ → Option (List ℕ)
if_some text = if length text == 0 then None else Some text

-- the text of a table at an address, if there is one
abbrev pub table_text : Bytes → ℕ → Option (List ℕ)
table_text b at = option_and_then if_some (text_at (ends end.Zero) 255 b at)

abbrev pub number_by : List ℕ → ℕ → (ℕ → Option ℕ) → Option (List ℕ) → Option ℕ
number_by name number others None = None
number_by name number others (Some text) = if bytes_eq text name then Some number else others
    (length text + 1)

-- the number of the first text of that name, of so many from an address on, of which the first has that number
unfoldable pub number_from : ℕ → Bytes → List ℕ → ℕ → ℕ → Option ℕ
number_from zero b name number at = None
number_from (suc more) b name number at =
    number_by name number (λ size. number_from more b name (number + 1) (at + size)) (table_text b at)

-- what stands in a name behind the chunk's and `_` (95)
abbrev pub own_name : List ℕ → List ℕ → Option (List ℕ)
own_name chunk name =
    if nat_lt (length chunk) (length name)
    && (bytes_eq (take (length chunk) name) chunk && (slice_index name (length chunk) == 95))
    then Some (drop (length chunk + 1) name) else None

-- a chunk has 64 SWIs
abbrev pub number_behind : Bytes → ℕ → Option (List ℕ) → Option ℕ
number_behind b at None = None
number_behind b at (Some own) = number_from 64 b own 0 at

abbrev pub number_of_chunk : Bytes → List ℕ → ℕ → Option (List ℕ) → Option ℕ
number_of_chunk b name at None = None
number_of_chunk b name at (Some chunk) = number_behind b (at + (length chunk + 1)) (own_name chunk name)

-- the number of a name in the table at an address
abbrev pub number_in_table : Bytes → List ℕ → ℕ → Option ℕ
number_in_table b name at = number_of_chunk b name at (table_text b at)

-- where a module's table is, by its offset: within the image
abbrev pub table_by : ModuleInfo → Result ℕ Fault → Option ℕ
table_by m (Err fault) = None
table_by m (Ok offset) =
    if nat_lt 0 offset && nat_lt offset m.len then Some (address_further m.image offset) else None

abbrev pub table_of : Bytes → ModuleInfo → Option ℕ
table_of b m = if nat_le 40 m.len then table_by m (word_loaded b (address_further m.image 36)) else None

-- the number of a SWI by its name, if the module has SWIs and one of that name
abbrev pub swi_of_module : Bytes → List ℕ → ModuleInfo → Option ℕ
swi_of_module b name m =
    if m.chunk == 0 then None else
    option_map (λ number. address_further m.chunk number)
    (option_and_then (number_in_table b name) (table_of b m))

-- by the oldest module that has it
abbrev pub swi_of_modules : Bytes → List Module → List ℕ → Option ℕ
swi_of_modules b modules name = first_of (λ m. swi_of_module b name (shown_of_module m)) modules

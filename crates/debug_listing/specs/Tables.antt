-- The commands that a loaded module has (RISC OS 3 Programmer's Reference Manual, volume 1, "Modules", "Help
-- and command keyword table"): the word at &18 of the module is the offset of a table, 0 where there is none.
-- An entry is a name with a zero byte behind it, up to the next whole word, and then four words: the offset of
-- the code, what the words behind the name may be, and the offsets of a text on the syntax and of one that
-- helps. A zero byte where a name would begin ends the table. That a table of more than 256 entries, or with a
-- name of more than 255 bytes, counts as one that leads outside its image is this project's own.
use Rattle.std.specs.Prelude.{ℕ, zero, suc, Bool, true, false, ◌+◌, ◌==◌, nat_le, nat_lt, List, [], ◌∷◌, length, Option, None, Some, Result, Ok, Err, if◌then◌else◌}
use Rattle.profile.specs.Sums.{address_further}
use Rattle.profile.specs.Fault.{Fault}
use Rattle.address_map.specs.Bytes.{Bytes, word_loaded}
use Rattle.instances_table.specs.declared.parts.ModuleInfo.{ModuleInfo}
use Rattle.debug_labels.specs.Strings.{ends, next_word, text_at}
use Rattle.debug_labels.specs.TextEnd.TheVariants as end
use Rattle.debug_listing.specs.declared.tables.CommandEntry.{CommandEntry}
use Rattle.debug_listing.specs.declared.tables.EntryRead.{EntryRead}
use Rattle.debug_listing.specs.declared.tables.EntryRead.TheVariants as read

-- the entries of a table, and whether it ends within its image
pub record CommandList : Type 0 where
  pub entries : List CommandEntry
  pub is_whole : Bool

-- a table of a sound kind or not, with no entry
abbrev pub no_commands : Bool → CommandList
no_commands is_whole = record { entries = []; is_whole = is_whole }

abbrev pub with_command : CommandEntry → CommandList → CommandList
with_command e t = record { entries = e ∷ t.entries; is_whole = t.is_whole }

-- the word at an address, 0 where no memory is mapped
abbrev pub word_or_zero : Result ℕ Fault → ℕ
word_or_zero (Ok word) = word
word_or_zero (Err fault) = 0

abbrev pub loaded_word : Bytes → ℕ → ℕ
loaded_word b at = word_or_zero (word_loaded b at)

-- an entry: where its name is, and its four words
abbrev pub entry_of_words : Bytes → ℕ → ℕ → CommandEntry
entry_of_words b name words = record {
  name = name;
  code = loaded_word b words;
  limits = loaded_word b (words + 4);
  syntax = loaded_word b (words + 8);
  help = loaded_word b (words + 12);
}

-- what stands at an address, of an image that ends at another: the table's end, an entry and where the next
-- one is, or nothing of either kind
abbrev pub entry_behind : Bytes → ℕ → ℕ → ℕ → EntryRead
entry_behind b limit at words =
    if nat_le (words + 16) limit then read.Entry (entry_of_words b at words) (words + 16) else read.Outside

abbrev pub entry_named : Bytes → ℕ → ℕ → Option (List ℕ) → EntryRead
entry_named b limit at None = read.Outside
entry_named b limit at (Some name) =
    if length name == 0 then read.End else entry_behind b limit at (next_word (at + (length name + 1)))

abbrev pub command_entry_at : Bytes → ℕ → ℕ → EntryRead
command_entry_at b limit at =
    if nat_lt at limit then entry_named b limit at (text_at (ends end.Zero) 255 b at) else read.Outside

-- the entries from an address on, so many at most
abbrev pub command_table_by : (ℕ → CommandList) → EntryRead → CommandList
command_table_by others read.End = no_commands true
command_table_by others read.Outside = no_commands false
command_table_by others (read.Entry e next) = with_command e (others next)

unfoldable pub table_from : ℕ → Bytes → ℕ → ℕ → CommandList
table_from zero b limit at = no_commands false
table_from (suc more) b limit at = command_table_by (λ next. table_from more b limit next) (command_entry_at b limit at)

-- a word of a module's header by its place, 0 where the image is too short for it
abbrev pub header_word : Bytes → ModuleInfo → ℕ → ℕ
header_word b m place = if nat_le (place + 4) m.len then loaded_word b (address_further m.image place) else 0

abbrev pub table_at : Bytes → ModuleInfo → ℕ → CommandList
table_at b m offset =
    if offset == 0 then no_commands true else (
    if nat_lt offset m.len
    then table_from 256 b (address_further m.image m.len) (address_further m.image offset)
    else no_commands false)

-- a module's commands
abbrev pub commands_of : Bytes → ModuleInfo → CommandList
commands_of b m = table_at b m (header_word b m 24)

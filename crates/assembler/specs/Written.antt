-- A program as it is written, item by item, and what the items of a line are refused for.
use Rattle.std.specs.Prelude.{ℕ, ◌-◌, ◌%◌, List, [], ◌∷◌, ◌++◌, length, replicate, nat_le, Option, None, Some, Result, Ok, Err, if◌then◌else◌}
use Rattle.std.specs.Int.{to_le_bytes, w32}
use Rattle.assembler_reading.specs.Reason.{Reason}
use Rattle.assembler_reading.specs.Reason.TheVariants.{UnknownLabel, BadImmediate}

-- bytes, and the first reason that their line is refused for; zeros stand where there is no value
pub record Written : Type 0 where
  pub bytes : List ℕ
  pub fault : Option Reason

-- Of the reasons of one line's items an unknown label counts before a value that is too large.
abbrev pub with_reason : Option Reason → Reason → Option Reason
with_reason (Some UnknownLabel) reason = Some UnknownLabel
with_reason first reason = Some reason

abbrev pub with_fault : Option Reason → Option Reason → Option Reason
with_fault first None = first
with_fault first (Some reason) = with_reason first reason

-- bytes that nothing is refused for
abbrev pub written_without_fault : List ℕ → Written
written_without_fault bytes = record { bytes = bytes; fault = None }

-- an item at the end of what stands written
abbrev pub with_item : Written → Written → Written
with_item written item = record {
  bytes = written.bytes ++ item.bytes;
  fault = with_fault written.fault item.fault;
}

-- a word: its value, or None where a label in it is unknown
abbrev pub word_item : Option ℕ → Written
word_item (Some value) = record { bytes = to_le_bytes w32 value; fault = None }
word_item None = record { bytes = to_le_bytes w32 0; fault = Some UnknownLabel }

-- a byte likewise; it holds 255 at most
abbrev pub byte_item : Option ℕ → Written
byte_item (Some value) =
    if nat_le value 255 then record { bytes = value ∷ []; fault = None }
    else record { bytes = 0 ∷ []; fault = Some BadImmediate }
byte_item None = record { bytes = 0 ∷ []; fault = Some UnknownLabel }

-- an instruction: its word, or what it is refused for
abbrev pub instruction_item : Result ℕ Reason → Written
instruction_item (Ok word) = record { bytes = to_le_bytes w32 word; fault = None }
instruction_item (Err reason) = record { bytes = to_le_bytes w32 0; fault = Some reason }

-- the program with zero bytes up to the next multiple of 4: five bytes get three more, four get
-- none
abbrev pub program_to_whole_words : List ℕ → List ℕ
program_to_whole_words program = program ++ replicate ((4 - length program % 4) % 4) 0

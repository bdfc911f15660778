-- What the record of an answer begins with: the line's number; behind it that the line asks for nothing;
-- or how many steps it took, and how they ended; or what it was answered, whether it was refused, and
-- whether what it expects is so.
use Rattle.std.specs.Prelude.{ℕ, ◌+◌, ◌-◌, ◌==◌, ◌&&◌, nat_le, nat_lt, Bool, true, false, List, [], ◌++◌, codes, length, take, drop, slice_index, Option, Some, None, if◌then◌else◌}
use Rattle.std.specs.Fmt.{decimal}
use Rattle.std.specs.List.{position}
use Rattle.trace_effects.specs.record_text.Spelling.{string_text}
use Rattle.debug_session.specs.DebugState.{DebugState}
use Rattle.debug_records.specs.declared.counts.LineCounts.{LineCounts}
use Rattle.debug_records.specs.declared.lines.LineUse.{LineUse}
use Rattle.debug_records.specs.declared.lines.LineUse.TheVariants.{Block, Remark, Reset, Steps}

-- what a session has counted
abbrev pub line_counts : DebugState → LineCounts
line_counts d = record { passed = d.tally.passed; failed = d.tally.failed; refused = d.tally.refused }

abbrev pub is_remark_use : LineUse → Bool
is_remark_use Remark = true
is_remark_use _ = false

abbrev pub is_stepping_use : LineUse → Bool
is_stepping_use Steps = true
is_stepping_use _ = false

abbrev pub is_reset_use : LineUse → Bool
is_reset_use Reset = true
is_reset_use _ = false

abbrev pub is_block_use : LineUse → Bool
is_block_use (Block name origin) = true
is_block_use _ = false

-- `,"steps":13`
abbrev pub steps_field : ℕ → List ℕ
steps_field taken = if nat_lt 0 taken then codes ",\"steps\":" ++ decimal taken else []

-- a text without the end of its line
abbrev pub without_end : List ℕ → List ℕ
without_end text = if slice_index text (length text - 1) == 10 then take (length text - 1) text else text

-- `,"text":"stop Exit"`
abbrev pub text_field : List ℕ → List ℕ
text_field text = if length (without_end text) == 0 then []
    else codes ",\"text\":" ++ string_text (without_end text)

-- `,"refused":true`
abbrev pub refused_field : LineCounts → LineCounts → List ℕ
refused_field before after = if nat_lt before.refused after.refused then codes ",\"refused\":true" else []

-- a space, a reason and the end of a line
abbrev pub reason_from : List ℕ → List ℕ
reason_from text = if nat_le 2 (length text)
    && (slice_index text 0 == 32 && slice_index text (length text - 1) == 10)
    then take (length text - 2) (drop 1 text) else []

abbrev pub reason_at : Option ℕ → List ℕ → List ℕ
reason_at (Some place) text = reason_from (drop (place + 1) text)
reason_at None text = []

-- what stands behind the first colon (58): `R0 is 00000004` of `fail line 9: R0 is 00000004`
abbrev pub reason_in : List ℕ → List ℕ
reason_in text = reason_at (position (λ b. b == 58) text) text

-- `,"expect":{"pass":false,"is":"R0 is 00000004"}`
abbrev pub expect_field : LineCounts → LineCounts → List ℕ → List ℕ
expect_field before after text =
    if nat_lt before.passed after.passed then codes ",\"expect\":{\"pass\":true}" else (
    if before.failed == after.failed then [] else
    codes ",\"expect\":{\"pass\":false,\"is\":" ++ (string_text (reason_in text) ++ codes "}"))

-- by whether the line asks for nothing, and else whether for steps
abbrev pub answer_fields : Bool → Bool → ℕ → LineCounts → DebugState → List ℕ → List ℕ
answer_fields true stepping taken before after text = codes ",\"remark\":true"
answer_fields false true taken before after text = steps_field taken ++ text_field after.answer
answer_fields false false taken before after text = text_field text
    ++ (refused_field before (line_counts after) ++ expect_field before (line_counts after) text)

-- `"answer":13,"steps":13,"text":"stop Exit"`
abbrev pub answer_head : ℕ → List ℕ → List ℕ
answer_head number fields = codes "\"answer\":" ++ (decimal number ++ fields)

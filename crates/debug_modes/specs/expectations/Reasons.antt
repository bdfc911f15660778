-- Why what should be so isn't, as the code holds it.
use Rattle.std.specs.Prelude.{ℕ, List, codes, ◌++◌, Option, Some, None}
use Rattle.profile.specs.Digits.{hex_word}
use Rattle.debug_labels.specs.Memory.{hex_byte}
use Rattle.debug_labels.specs.Banks.{banked_name}
use Rattle.debug_modes.specs.expectations.Checks.{Seen, no_line_reason, output_reason, place_reason, register_name, status_reason, steps_reason, value_reason}
use Rattle.debug_modes.specs.declared.expectations.checks.Mismatch.{Mismatch}
use Rattle.debug_modes.specs.declared.expectations.checks.Mismatch.TheVariants as reason
use Rattle.debug_modes.specs.declared.expectations.checks.SeenMachine.{SeenMachine}
use Rattle.command_shell.specs.GuestState.{state_of}

abbrev pub or_unmapped : (ℕ → List ℕ) → Option ℕ → List ℕ
or_unmapped text (Some value) = text value
or_unmapped text None = codes "unmapped"

abbrev pub reason_text : Mismatch → List ℕ
reason_text (reason.Register n v) = value_reason (register_name n) v
reason_text (reason.Pc v) = value_reason (codes "PC") v
reason_text (reason.Banked mode n v) = value_reason (banked_name mode n) v
reason_text (reason.Status p) = status_reason p
reason_text (reason.Word address found) = place_reason address (or_unmapped hex_word found)
reason_text (reason.Byte address found) = place_reason address (or_unmapped hex_byte found)
reason_text (reason.Answer line) = codes "the answer is " ++ line.now
reason_text reason.NoLine = no_line_reason
reason_text (reason.Output bytes) = output_reason bytes.now
reason_text (reason.Steps count) = steps_reason count

abbrev pub seen_on_machine : SeenMachine → Seen
seen_on_machine s = record {
  cpu = (state_of s.machine.now.guest).cpu;
  bytes = (state_of s.machine.now.guest).store.bytes;
  answer = s.answer.now;
  output = s.output.now;
  steps = s.steps;
}

-- What a trace keeps of a machine before a step, as the code holds it.
use Rattle.std.specs.Prelude.{Box, Option, Some, None}
use Rattle.trace_store_text.specs.Copies.{CopiedParts, KeptStore, kept_in}
use Rattle.trace_text.specs.declared.start.StepStart.{StepStart}
use Rattle.trace_text.specs.Step.{Known}

abbrev pub store_kept : {Z : Type 0} → Option (Box CopiedParts Z) → Option KeptStore
store_kept None = None
store_kept (Some copy) = Some (kept_in copy.value)

abbrev pub known_in : StepStart → Known
known_in start = record {
  cpu = start.cpu;
  taking = start.taking;
  expected = start.expected;
  is_skipped = start.is_skipped;
  text_length = start.text_length;
  stored_at = start.stored_at;
  old_words = start.old_words.items;
  loaded = start.loaded;
  target = start.target;
  frames = start.frames;
  innermost = start.innermost;
  areas = start.areas.items;
  before = store_kept start.before;
}

-- What lines show that only look.
use Rattle.std.specs.Prelude.{ℕ, ◌++◌, List, codes}
use Rattle.command_shell.specs.MachineState.{MachineState}
use Rattle.command_shell.specs.NamedBytes.{named_bytes, or_no_bytes}
use Rattle.debug_labels.specs.Labels.{ImageLabels}
use Rattle.debug_labels.specs.Views.{labels_text}
use Rattle.debug_labels.specs.place_views.Frames.{frames_text}
use Rattle.debug_labels.specs.place_views.Places.{naming_on, where_text}
use Rattle.debug_labels.specs.place_views.Stack.{stack_words_text}
use Rattle.debug_lines.specs.DebugRequests.{ViewRequest, Words, Where, Banks, Stack, Frames, Labels, Dump, Why, Help, Find, Form}
use Rattle.debug_modes.specs.declared.help.TheConstants.{HELP}
use Rattle.debug_modes.specs.expectations.Dump.{dump_text}
use Rattle.debug_modes.specs.expectations.Why.{why_text}
use Rattle.debug_tables.specs.byte_writes.Find.{find_text}
use Rattle.debug_labels.specs.Banks.{banks_text}
use Rattle.debug_labels.specs.DebuggerWords.{memory_words_text}

abbrev pub view_text : List ImageLabels → MachineState → ViewRequest → List ℕ
view_text labels s (Words address count) = memory_words_text s.store.bytes address count
view_text labels s Where = where_text labels s
view_text labels s Banks = banks_text s.cpu
view_text labels s (Stack count) = stack_words_text (naming_on labels s) s.cpu s.store.bytes count
view_text labels s Frames = frames_text labels s
view_text labels s Labels = labels_text (naming_on labels s)
view_text labels s (Dump address count) = dump_text s.store.bytes address count
view_text labels s Why = why_text s.cpu s.store.bytes
view_text labels s Help = HELP.now
view_text labels s (Find address count named) =
    find_text s.store.bytes address count (or_no_bytes (named_bytes named))
view_text labels s (Form form) = form ++ codes "\n"

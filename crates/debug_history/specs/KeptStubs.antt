-- Stubs as the code keeps them: none as nothing.
use Rattle.std.specs.Prelude.{Box, List, [], Option, Some, None}
use Rattle.command_shell_lines.specs.declared.debug_words.stubs.Stub.{Stub}

abbrev pub boxed_stubs : {Z : Type 0} → Option (Box (List Stub) Z) → List Stub
boxed_stubs (Some kept) = kept.value
boxed_stubs None = []

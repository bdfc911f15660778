-- What places are shown by on a machine, and where it stands: `at &8004 countdown:loop+4`.
use Rattle.std.specs.Prelude.{ℕ, List}
use Rattle.debug_labels.specs.Labels.{ImageLabels}
use Rattle.debug_labels.specs.Lines.{LineNaming}
use Rattle.debug_labels.specs.Views.{place_line}
use Rattle.debug_labels.specs.Words.{Naming}
use Rattle.debugger.specs.MachineState.{MachineState}

abbrev pub naming_on : List ImageLabels → MachineState → Naming
naming_on labels s = record { labels = labels; modules = s.tables.modules; cpu = s.cpu }

-- what lines are read by
abbrev pub line_naming_on : List ImageLabels → MachineState → LineNaming
line_naming_on labels s = record { names = naming_on labels s; bytes = s.store.bytes }

abbrev pub where_text : List ImageLabels → MachineState → List ℕ
where_text labels s = place_line (naming_on labels s) s.cpu.pc

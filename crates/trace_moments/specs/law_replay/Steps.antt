-- Which frames of module code a step keeps open, and that it opens one more at most.
use Rattle.std.specs.Prelude.{◌≡◌, ℕ, ◌-◌, ◌==◌, ◌&&◌, min, is_none, List, length, None, if◌then◌else◌}
use Rattle.profile.specs.MemoryMap.{return_gate}
use Rattle.profile.specs.images.Entries.{Entry}
use Rattle.trace_store_text.specs.MachineState.{MachineState}
use Rattle.trace_store_text.specs.Step.{machine_step, module_loaded, store_called}
use Rattle.trace_moments.specs.Frames.{AreKept, shown_frames}

-- As many as are open before and after are kept; but a step from the address that module code returns
-- to, after which the machine isn't halted, has closed the innermost.
abbrev pub count_open : MachineState → MachineState → ℕ
count_open s t = min (length s.tables.frames) (length t.tables.frames)

abbrev pub count_kept : MachineState → MachineState → ℕ
count_kept s t = if s.cpu.pc == return_gate && is_none t.halt then length s.tables.frames - 1 else
    count_open s t

-- So it is of each step, and of each call and each module from outside.
abbrev pub Keeps : MachineState → MachineState → ℕ → Type 0
Keeps s t count = AreKept (shown_frames s.tables.frames) (shown_frames t.tables.frames) count

pub record KeepsOpenFrames (images : List Entry) (s : MachineState) : Type 0 where
  pub step : Keeps s (machine_step images s).now (count_kept s (machine_step images s).now)
  pub call : (number : ℕ) → Keeps s (store_called images s number).now
      (count_open s (store_called images s number).now)
  pub load : (text : List ℕ) → Keeps s (module_loaded images s text).now
      (count_open s (module_loaded images s text).now)

abbrev pub StepsKeepFrames : Type 0
StepsKeepFrames = (images : List Entry) (s : MachineState) → s.halt ≡ None → KeepsOpenFrames images s

-- What the list of changes is good for.
use Rattle.std.specs.Prelude.{◌≡◌, ◌≢◌, ℕ, ◌<◌, Bool, List, [], ◌∷◌, Contains, Option, slice_index, slice_set, unwrap_or}
use Rattle.arm_core.specs.declared.psr.Mode.{Mode}
use Rattle.arm_core.specs.declared.psr.Psr.{Psr}
use Rattle.arm_core.specs.State.{IsCore, State, register_in, slot_of}
use Rattle.trace_effects.specs.declared.changes.registers.RegisterChange.{RegisterChange}
use Rattle.trace_effects.specs.declared.changes.status.Flag.{Flag}
use Rattle.trace_effects.specs.declared.changes.status.Flag.TheVariants.{Negative, Zero, Carry, Overflow, InterruptsOff, FastInterruptsOff}
use Rattle.trace_effects.specs.changes.Registers.{register_change, changes_of}
use Rattle.trace_effects.specs.changes.Status.{flag_change, jump, mode_change}

-- Complete: each register of each bank that differs is listed, with its old value and its new one.
abbrev pub AreComplete : Type 0
AreComplete = (s s' : State) (mode : Mode) (number : ℕ) → number < 15
    → register_in mode s number ≢ register_in mode s' number
    → Contains (changes_of s s') (register_change s.file s'.file (slot_of mode number))

-- True: each that is listed has these values, and they differ.
pub record IsChange (s s' : State) (c : RegisterChange) : Type 0 where
  pub inside : c.place < 26
  pub old : c.old ≡ slice_index s.file c.place
  pub new : c.new ≡ slice_index s'.file c.place
  pub differs : c.old ≢ c.new

abbrev pub AreTrue : Type 0
AreTrue = (s s' : State) (c : RegisterChange) → Contains (changes_of s s') c → IsChange s s' c

-- All that two cores differ in, the second of which was expected to go on at an address.
pub record CoreChanges : Type 0 where
  pub registers : List RegisterChange
  pub flags : Flag → Option Bool
  pub mode : Option Mode
  pub goes_to : Option ℕ

abbrev pub core_changes : ℕ → State → State → CoreChanges
core_changes expected s s' = record {
  registers = changes_of s s';
  flags = λ flag. flag_change flag s.psr s'.psr;
  mode = mode_change s.psr s'.psr;
  goes_to = jump expected s';
}

-- Replayed on a core: each register that is listed takes its new value, each flag and the mode
-- likewise, and the core goes on where it was expected to if nothing else is said.
abbrev pub registers_after : List ℕ → List RegisterChange → List ℕ
registers_after file [] = file
registers_after file (c ∷ changes) = registers_after (slice_set file c.place c.new) changes

abbrev pub psr_after : Psr → (Flag → Option Bool) → Option Mode → Psr
psr_after p flags mode = record {
  negative = unwrap_or (flags Negative) p.negative;
  zero = unwrap_or (flags Zero) p.zero;
  carry = unwrap_or (flags Carry) p.carry;
  overflow = unwrap_or (flags Overflow) p.overflow;
  interrupts_off = unwrap_or (flags InterruptsOff) p.interrupts_off;
  fast_interrupts_off = unwrap_or (flags FastInterruptsOff) p.fast_interrupts_off;
  mode = unwrap_or mode p.mode;
}

abbrev pub core_after : ℕ → State → CoreChanges → State
core_after expected s c = record {
  file = registers_after s.file c.registers;
  psr = psr_after s.psr c.flags c.mode;
  pc = unwrap_or c.goes_to expected;
}

-- So what is shown of a step determines the core after it.
abbrev pub Replays : Type 0
Replays = (expected : ℕ) (s s' : State) → IsCore s → IsCore s' →
    core_after expected s (core_changes expected s s') ≡ s'

-- What is kept of a line, by what it asks for and what it left.
use Rattle.std.specs.Prelude.{ℕ, zero, suc, ◌+◌, ◌==◌, Bool, true, false, not, ◌&&◌, ◌||◌, is_some, nat_lt, List, [], ◌∷◌, Option, Some, None, if◌then◌else◌}
use Rattle.command_shell_lines.specs.declared.debug_words.stubs.Stub.{Stub}
use Rattle.arm_core.specs.Psr.{psr_bits}
use Rattle.arm_core.specs.State.{register_of}
use Rattle.debug_tables.specs.MachineState.{MachineState}
use Rattle.debug_labels.specs.Halt.{Halt}
use Rattle.debug_labels.specs.Halt.TheVariants as halt
use Rattle.debug_lines.specs.SteppingRequests as stepping
use Rattle.command_shell_lines.specs.Requests.{Request, Asm, Boot, Call, Hex, Load, Poke, Run, Set, Step}
use Rattle.debug_history.specs.Past.{PastState, past_with_act, past_with_other_images}
use Rattle.debug_history.specs.declared.act.PastDeed.{PastDeed}
use Rattle.debug_history.specs.declared.noting.SteppingNote.{SteppingNote}
use Rattle.debug_history.specs.declared.noting.StepsBefore.{StepsBefore}
use Rattle.debug_history.specs.declared.act.PastDeed.TheVariants as deed

abbrev pub is_faulted : Option Halt → Bool
is_faulted (Some (halt.Fault fault)) = true
is_faulted _ = false

-- a deed of a line
abbrev pub past_with_deed : PastState → ℕ → PastDeed → PastState
past_with_deed p line done = past_with_act p (record { line = line; deed = done })

-- so many steps that were counted, with stubs, and where the machine is halted by a fault then, the step that
-- led there
abbrev pub past_with_stubbed : PastState → ℕ → List Stub → ℕ → Bool → PastState
past_with_stubbed p line stubs taken has_faulted = let q = past_with_deed p line (deed.Steps stubs taken) in
    if has_faulted then past_with_deed q line deed.FaultingStep else q

abbrev pub past_with_steps : PastState → ℕ → ℕ → Bool → PastState
past_with_steps p line taken has_faulted = past_with_stubbed p line [] taken has_faulted

-- A call from outside, whose first step is counted unless it ends in a fault: where no step was counted
-- and the machine isn't halted by a fault, the call wasn't made.
abbrev pub past_with_call : PastState → ℕ → PastDeed → List Stub → ℕ → Bool → PastState
past_with_call p line call stubs zero true = past_with_deed p line call
past_with_call p line call stubs zero false = p
past_with_call p line call stubs (suc taken) has_faulted =
    past_with_stubbed (past_with_deed p line call) line stubs taken has_faulted

-- A line of a script, by which so many steps were counted.
abbrev pub past_after_request : PastState → ℕ → Request → ℕ → Bool → PastState
past_after_request p line (Set register value) taken has_faulted =
    past_with_deed p line (deed.Register register value)
past_after_request p line (Poke address value) taken has_faulted =
    past_with_deed p line (deed.Word address value)
past_after_request p line (Boot name) taken has_faulted = past_with_deed p line (deed.Boot name)
past_after_request p line Run taken has_faulted = past_with_steps p line taken has_faulted
past_after_request p line (Step count) taken has_faulted = past_with_steps p line taken has_faulted
past_after_request p line (Call number) taken has_faulted =
    past_with_call p line (deed.Call number (nat_lt 0 taken)) [] taken has_faulted
past_after_request p line (Load text) taken has_faulted =
    past_with_call p line (deed.Load text (nat_lt 0 taken)) [] taken has_faulted
past_after_request p line (Hex name) taken has_faulted = past_with_other_images p
past_after_request p line (Asm name origin) taken has_faulted = past_with_other_images p
past_after_request p line _ taken has_faulted = p

-- LINES THAT TAKE STEPS IN MODES

-- how a machine stands before such a line
abbrev pub steps_before : MachineState → StepsBefore
steps_before s = record {
  is_halted = is_some s.halt;
  status = s.cpu.psr;
  link = register_of s.cpu 14;
  place = s.cpu.pc;
}

-- A halted machine takes no step, and else only a step that ends in a fault isn't counted.
abbrev pub is_idle : SteppingNote → Bool
is_idle n = n.before.is_halted || (n.taken == 0 && not n.has_faulted)

-- where a routine goes back to that a line calls: nothing is fetched there
abbrev pub routine_return : ℕ
routine_return = 0x3FFFFFC

-- A routine is called: R14 is where it goes back to, with the status. Once it has, R14 and the program counter
-- are as they were.
abbrev pub past_at_routine : PastState → ℕ → ℕ → StepsBefore → PastState
past_at_routine p line address before =
    past_with_deed p line (deed.Routine address (psr_bits before.status + routine_return))

abbrev pub past_with_return : PastState → ℕ → StepsBefore → PastState
past_with_return p line before =
    past_with_deed (past_with_deed p line (deed.Banked before.status.mode 14 before.link))
    line (deed.Place before.place)

abbrev pub past_with_gosub : PastState → ℕ → ℕ → List Stub → SteppingNote → PastState
past_with_gosub p line address stubs n =
    let q = past_with_stubbed (past_at_routine p line address n.before) line stubs n.taken n.has_faulted in
    if n.has_returned then past_with_return q line n.before else q

-- What stubs do is done again with them. A watch ends a run, but changes no step.
abbrev pub past_after_stepping : PastState → ℕ → List Stub → SteppingNote → stepping.SteppingRequest → PastState
past_after_stepping p line stubs n (stepping.Call number) =
    past_with_call p line (deed.Call number (nat_lt 0 n.taken)) stubs n.taken n.has_faulted
past_after_stepping p line stubs n (stepping.Load text) =
    past_with_call p line (deed.Load text (nat_lt 0 n.taken)) stubs n.taken n.has_faulted
past_after_stepping p line stubs n (stepping.Gosub address) = if is_idle n
    then past_with_stubbed p line stubs n.taken n.has_faulted else past_with_gosub p line address stubs n
past_after_stepping p line stubs n _ = past_with_stubbed p line stubs n.taken n.has_faulted

-- whether a routine has come back, by how the line's steps ended: `returned after 12 steps`, not `stop ..`
abbrev pub has_returned : List ℕ → Bool
has_returned [] = false
has_returned (byte ∷ rest) = byte == 114

-- Laws of sessions with GDB, over their definitions alone.
use Rattle.std.specs.Int.{from_le_bytes, w32}
use Rattle.std.specs.Prelude.{◌≡◌, ◌+◌, ◌<◌, ℕ, zero, suc, false, List, length, codes, Some, None, Ok}
use Rattle.profile.specs.declared.stop.Stop.TheVariants as stop
use Rattle.debug_session.specs.State.{ScriptState}
use Rattle.gdb_machine.specs.declared.stops.GdbStop.TheVariants as reason
use Rattle.gdb_machine.specs.Registers.{register_shown}
use Rattle.gdb_packets.specs.Requests.{ContinueBack, GdbRequest, HostAnswer, SetRegister, StoreBytes, StorePairs}
use Rattle.gdb_packets.specs.declared.requests.ByteRange.{ByteRange}
use Rattle.hex.specs.Hex.{decode_of, decode_sized}
use Rattle.address_map.specs.Bytes.{with_bytes_at}
use Rattle.arm_core.specs.State.{IsCore}
use Rattle.debug_session.specs.Put.{put_fault}
use Rattle.profile.specs.Fault.TheVariants.{OwnedWord}
use Rattle.gdb_server.specs.session.Back.{back_end, back_to_end, steps_back}
use Rattle.gdb_server.specs.session.Looks.{look_reply}
use Rattle.gdb_server.specs.session.Requests.{gdb_answered}
use Rattle.gdb_server.specs.session.Runs.{line_decoded}
use Rattle.gdb_server.specs.session.Steps.{StepLooks, is_other_list, looked_steps, printed_before}
use Rattle.gdb_server.specs.session.State.{GdbAnswered, GdbState, packet_reply}
use Rattle.command_shell_lines.specs.Requests.{request_of}
use Rattle.debug_session.specs.Naming.{meant_request, naming_of, repeated_now}
use Rattle.debug_session.specs.DebugRequests.{DebugRequest, Expect, View, ViewRequest, is_script_request}
use Rattle.debug_session.specs.Expectations.{ExpectRequest}
use Rattle.debug_session.specs.Tidy.{tidied_line}

-- Looking changes nothing.
abbrev pub GdbLookingChangesNothing : Type 0
GdbLookingChangesNothing = (g : GdbState) (asked : GdbRequest) (reply : List ℕ)
    → look_reply g asked ≡ Some reply → gdb_answered g asked ≡ packet_reply g reply

-- A line of the user's is none of a script, isn't repeated, and asks for this.
pub record LineAsks (g : GdbState) (line : List ℕ) (asked : DebugRequest) : Type 0 where
  pub own : is_script_request (request_of line) ≡ false
  pub once : repeated_now (naming_of g.debug) (tidied_line line) ≡ None
  pub meant : meant_request (naming_of g.debug) (tidied_line line) ≡ asked

-- The machine, the images, the breaks and the budget are as they were before a line of the user's.
abbrev pub LineLeavesTheMachine : GdbState → List ℕ → Type 0
LineLeavesTheMachine g line = (line_decoded g (Some line)).state.debug.script ≡ g.debug.script

-- A line of the debugger's own that looks, or that expects something, leaves them so.
pub record LookingLineLeavesTheMachine (g : GdbState) (line : List ℕ) : Type 0 where
  pub shown : (view : ViewRequest) → LineAsks g line (View view) → LineLeavesTheMachine g line
  pub expected : (e : ExpectRequest) → LineAsks g line (Expect e) → LineLeavesTheMachine g line

abbrev pub LookingLinesLeaveTheMachine : Type 0
LookingLinesLeaveTheMachine = (g : GdbState) (line : List ℕ)
    → LookingLineLeavesTheMachine g line

-- A session after a register was to be set: one that is set is read with its value, and where none is,
-- all is as it was.
pub record IsRegisterSet (g : GdbState) (n value : ℕ) (reported : GdbAnswered) : Type 0 where
  pub done : reported.reply ≡ Some (codes "OK")
      → register_shown reported.state.debug.script.machine.cpu n ≡ Some value
  pub refused : (reported.reply ≡ Some (codes "OK") → ⊥) → reported.state ≡ g

-- A register that is set by four bytes.
abbrev pub GdbRegistersAreRead : Type 0
GdbRegistersAreRead = (g : GdbState) (n : ℕ) (pairs bytes : List ℕ)
    → IsCore g.debug.script.machine.cpu → decode_sized pairs 4 ≡ Ok bytes
    → IsRegisterSet g n (from_le_bytes w32 bytes) (gdb_answered g (SetRegister n pairs))

-- A session after bytes were to be stored: each stands where it was sent, and all others as they were; or
-- all is as it was. Bytes of a word that is the SWIs' own are refused.
pub record AreBytesWhole (g : GdbState) (range : ByteRange) (bytes : List ℕ) (reported : GdbAnswered) : Type 0
  where
    pub done : reported.reply ≡ Some (codes "OK") → (address : ℕ)
        → reported.state.debug.script.machine.store.bytes.at address
        ≡ with_bytes_at g.debug.script.machine.store.bytes.at range.start bytes address
    pub refused : (reported.reply ≡ Some (codes "OK") → ⊥) → reported.state ≡ g
    pub owned : length bytes ≡ range.count → 0 < length bytes
        → put_fault g.debug.script.machine.store range.start (length bytes) ≡ Some OwnedWord
        → reported.reply ≡ Some (codes "E0d")

-- Bytes that come as they are, and as pairs of digits.
pub record GdbWriteIsWhole (g : GdbState) (range : ByteRange) (bytes : List ℕ) : Type 0 where
  pub plain : AreBytesWhole g range bytes (gdb_answered g (StoreBytes range bytes))
  pub in_pairs : (pairs : List ℕ) → decode_of pairs ≡ Ok bytes
      → AreBytesWhole g range bytes (gdb_answered g (StorePairs range pairs))

abbrev pub GdbWritesAreWhole : Type 0
GdbWritesAreWhole = (g : GdbState) (range : ByteRange) (bytes : List ℕ)
    → GdbWriteIsWhole g range bytes

-- A run in slices is one run: where some steps were taken and there may be another, those that come after them
-- are those that would have come without a halt.
abbrev pub GdbSlicesAreOneRun : Type 0
GdbSlicesAreOneRun = (l : StepLooks) (s : ScriptState) (first more : ℕ) → (looked_steps l first s).stop ≡
    reason.Ran stop.Budget
    → looked_steps l (first + more) s ≡ printed_before (looked_steps l first s).printed
    (looked_steps l more (looked_steps l first s).script)

-- after so many answers of the other side's that the user doesn't want it to stop
unfoldable pub after_answers : ℕ → GdbAnswered → GdbAnswered
after_answers zero a = a
after_answers (suc count) a = after_answers count (gdb_answered a.state (HostAnswer false))

-- A search back in pieces comes to what one search comes to: where the user doesn't stop it, the machine goes back
-- to that end of all which is met first on the way.
abbrev pub GdbSearchesAreOneSearch : Type 0
GdbSearchesAreOneSearch = (g : GdbState) (step : ℕ) → is_other_list g.libraries g.debug.script ≡ false
    → steps_back g.debug.past ≡ suc step
    → (count : ℕ) × (after_answers count (gdb_answered g ContinueBack) ≡ back_to_end g (back_end g))

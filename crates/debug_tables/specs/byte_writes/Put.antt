-- Bytes written from outside, at any address. Memory is stored to by whole words, as a guest's stores
-- would, each with what stands beside the bytes in it. Where one of the words can't be stored to, none
-- is.
use Rattle.std.specs.Prelude.{◌≡◌, ℕ, Bool, true, zero, suc, ◌+◌, ◌/◌, ◌%◌, List, [], ◌∷◌, length, Option, Some, None, is_none, Result, Ok}
use Rattle.profile.specs.Fault.{Fault}
use Rattle.address_map.specs.Bytes.{Bytes, ok_unless_fault, store_fault, with_bytes, word_start}
use Rattle.command_shell.specs.Memory.{script_with_machine}
use Rattle.command_shell.specs.State.{ScriptState}
use Rattle.command_shell.specs.Store.{Store, owned_in}
use Rattle.command_shell.specs.MachineState.{with_memory}

abbrev pub first_fault : Option Fault → Option Fault → Option Fault
first_fault (Some fault) other = Some fault
first_fault None other = other

-- the first fault that stores of so many words meet, one after another
unfoldable pub words_fault : (ℕ → Bool) → Bytes → ℕ → ℕ → Option Fault
words_fault owned b address zero = None
words_fault owned b address (suc count) =
    first_fault (store_fault owned b address) (words_fault owned b (address + 4) count)

-- how many words so many bytes from an address on lie in
abbrev pub word_count : ℕ → ℕ → ℕ
word_count at len = (at % 4 + len + 3) / 4

-- the fault that bytes meet: that of the first of their words which refuses
abbrev pub put_fault : Store → ℕ → ℕ → Option Fault
put_fault s at len = words_fault (owned_in s) s.bytes (word_start at) (word_count at len)

-- whether bytes can be written to an address
abbrev pub bytes_fit : Store → ℕ → List ℕ → Bool
bytes_fit store at [] = true
bytes_fit store at (byte ∷ bytes) = is_none (put_fault store at (length (byte ∷ bytes)))

-- the state with other bytes in memory, the first of them at an address
abbrev pub script_with_bytes : ScriptState → ℕ → List ℕ → ScriptState
script_with_bytes s at bytes = script_with_machine s
    (record s.machine { store = with_memory s.machine.store (with_bytes s.machine.store.bytes at bytes) })

-- the state after a write, or why there is none; a write of no byte is always one
abbrev pub script_after_put : ScriptState → ℕ → List ℕ → Result ScriptState Fault
script_after_put s at [] = Ok s
script_after_put s at (byte ∷ bytes) = ok_unless_fault
    (put_fault s.machine.store at (length (byte ∷ bytes))) (script_with_bytes s at (byte ∷ bytes))

-- the word that has the bytes of some memory at an address
pub record IsWordOf (bytes : ℕ → ℕ) (address word : ℕ) : Type 0 where
  pub first : word % 256 ≡ bytes address
  pub second : word / 256 % 256 ≡ bytes (address + 1)
  pub third : word / 65536 % 256 ≡ bytes (address + 2)
  pub fourth : word / 16777216 % 256 ≡ bytes (address + 3)

-- The last time that something was so: the last change of a word, a byte, a register or the status, the
-- last time that the machine stood at an address, or that a block of a heap was made or taken away.
use Rattle.std.specs.Prelude.{ℕ, zero, suc, Bool, true, false, is_some, not, ◌+◌, ◌-◌, ◌^◌, ◌==◌, ◌&&◌, nat_lt, List, [], ◌∷◌, take, drop, Option, Some, None, if◌then◌else◌}
use Rattle.std.specs.List.{flat_map}
use Rattle.std.specs.Option.{option_or}
use Rattle.std.specs.Result.{result_ok}
use Rattle.debug_labels.specs.Bytes.{byte_loaded, word_loaded}
use Rattle.arm_core.specs.Psr.{psr_bits}
use Rattle.arm_core.specs.State.{register_in}
use Rattle.profile.specs.images.Entries.{Entry}
use Rattle.command_shell_lines.specs.declared.debug_words.stubs.Stub.{Stub}
use Rattle.debug_labels.specs.Payloads.{payload_of}
use Rattle.debug_tables.specs.Store.{Store}
use Rattle.debug_labels.specs.Payload.{Payload}
use Rattle.debug_labels.specs.Payload.TheVariants.{Outside, Inside, Other}
use Rattle.profile.specs.Sizes.{Sizes}
use Rattle.debug_tables.specs.MachineState.{MachineState}
use Rattle.debug_history.specs.Acts.{PastMoment, fresh_moment, moment_after_acts, moment_after_deed, steps_act, steps_of_acts, steps_of_deed}
use Rattle.debug_history.specs.declared.act.Act.{Act}
use Rattle.debug_history.specs.declared.act.PastDeed.{PastDeed}
use Rattle.debug_history.specs.declared.act.PastDeed.TheVariants.{Steps}
use Rattle.debug_history.specs.declared.search.PastFound.{PastFound}
use Rattle.debug_history.specs.declared.search.Sought.{Sought}
use Rattle.debug_history.specs.declared.search.Sought.TheVariants as sought

-- where the live block of a heap stands that holds the byte at an address: at its length word
abbrev pub block_of_payload : Payload → Option ℕ
block_of_payload (Inside at len) = Some (at - 4)
block_of_payload Outside = None
block_of_payload Other = None

-- the same where the address is that of the length word
abbrev pub block_headed_at : ℕ → Payload → Option ℕ
block_headed_at address (Inside at len) = if at == address + 4 then Some address else None
block_headed_at address Outside = None
block_headed_at address Other = None

abbrev pub block_round : Store → ℕ → Option ℕ
block_round s address = option_or (block_of_payload (payload_of s.heaps address))
    (if nat_lt (address + 4) (2 ^ 32) then block_headed_at address (payload_of s.heaps (address + 4)) else None)

-- what is looked at: a word or a byte, where it is mapped, a register, the status, the place, or the live
-- block of a heap round an address
abbrev pub value_in : Sought → MachineState → Option ℕ
value_in (sought.Word address) s = result_ok (word_loaded s.store.bytes address)
value_in (sought.Byte address) s = result_ok (byte_loaded s.store.bytes address)
value_in (sought.Register mode number) s = Some (register_in mode s.cpu number)
value_in sought.Status s = Some (psr_bits s.cpu.psr)
value_in (sought.Banked mode number) s = Some (register_in mode s.cpu number)
value_in (sought.Stood address) s = Some s.cpu.pc
value_in (sought.Block address) s = block_round s.store address
value_in (sought.Claimed address) s = block_round s.store address
value_in (sought.Freed address) s = block_round s.store address

abbrev pub is_same_seen : Option ℕ → Option ℕ → Bool
is_same_seen None None = true
is_same_seen (Some x) (Some y) = x == y
is_same_seen _ _ = false

-- Whether something that counts so many steps, and before and after which these values are seen, is
-- what is sought: it changes what is looked at; or it is a step from the address; or it makes another
-- live block round the address than there was, if one was, or takes away that which was there.
abbrev pub passes : Sought → ℕ → Option ℕ → Option ℕ → Bool
passes (sought.Stood address) steps before after = nat_lt 0 steps && is_same_seen before (Some address)
passes (sought.Claimed address) steps before after = is_some after && not (is_same_seen before after)
passes (sought.Freed address) steps before after = is_some before && not (is_same_seen before after)
passes looked steps before after = if is_same_seen before after then false else true

-- so many steps one by one
unfoldable pub single_steps : ℕ → List Stub → ℕ → List Act
single_steps line stubs zero = []
single_steps line stubs (suc count) = steps_act line stubs 1 ∷ single_steps line stubs count

-- each step by itself, and all other deeds
abbrev pub units_of : ℕ → PastDeed → List Act
units_of line (Steps stubs count) = single_steps line stubs count
units_of line deed = record { line = line; deed = deed } ∷ []

abbrev pub units_of_act : Act → List Act
units_of_act act = units_of act.line act.deed

abbrev pub units : List Act → List Act
units acts = flat_map units_of_act acts

-- what is found where a unit is what is sought, before which so many steps were counted
abbrev pub found_if : Bool → ℕ → ℕ → ℕ → Option ℕ → Option ℕ → Option PastFound
found_if true line step steps before after =
    Some (record { step = step; line = line; is_step = nat_lt 0 steps; before = before; after = after })
found_if false line step steps before after = None

abbrev pub found_between : Sought → ℕ → ℕ → ℕ → Option ℕ → Option ℕ → Option PastFound
found_between x line step steps before after =
    found_if (passes x steps before after) line step steps before after

-- The last of some units that is what is sought: one of those that follow the first, or else the first.
unfoldable pub last_found : List Entry → Sizes → Sought → PastMoment → ℕ → List Act → Option PastFound
last_found images sizes x m step [] = None
last_found images sizes x m step (unit ∷ rest) =
    let after = moment_after_deed images sizes unit.deed m in
    let steps = steps_of_deed unit.deed in
    option_or (last_found images sizes x after (step + steps) rest)
    (found_between x unit.line step steps (value_in x m.machine) (value_in x after.machine))

-- The same among the acts of a past from one index up to another: those before them are done first.
abbrev pub last_among : List Entry → Sizes → List Act → Sought → ℕ → ℕ → Option PastFound
last_among images sizes acts x from until = let done = take until acts in
    last_found images sizes x (moment_after_acts images sizes (take from done) (fresh_moment sizes))
    (steps_of_acts (take from done)) (units (drop from done))

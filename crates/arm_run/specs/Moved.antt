-- What LDR and STR leave, but for the position of the core, where neither the base nor the register that is loaded or stored is R15, and the
-- base is changed by a sum.
use Rattle.std.specs.Prelude.{◌≡◌, ◌+◌, ◌%◌, ◌^◌, ℕ, Bool, true, false, Ok}
use Rattle.arm_step.specs.Bytes.{Bytes}
use Rattle.arm_core.specs.Refusals.{writes_base}
use Rattle.arm_core.specs.Indexing.{Indexing}
use Rattle.arm_core.specs.State.{State, register_in, with_register}
use Rattle.arm_step.specs.Transfers.{address_by, value_loaded, value_stored}
use Rattle.arm_predecode.specs.OpValue.{OpValue}

-- the base after the transfer
abbrev pub base_moved : State → OpValue → ℕ → ℕ
base_moved s r added = (register_in s.psr.mode s r.rn + added) % 2 ^ 32

abbrev pub address_reached : Indexing → State → OpValue → ℕ → ℕ
address_reached way s r added = address_by way (register_in s.psr.mode s r.rn) (base_moved s r added)

abbrev pub with_base_if : Bool → State → ℕ → ℕ → State
with_base_if true s rn moved = with_register s rn moved
with_base_if false s rn moved = s

abbrev pub with_moved_base : Indexing → State → OpValue → ℕ → State
with_moved_base way s r added = with_base_if (writes_base way) s r.rn (base_moved s r added)

-- LDR is done
pub record IsLoaded (b : Bytes) (s : State) (is_byte : Bool) (way : Indexing) (added : ℕ) (r : OpValue)
    (s' : State) : Type 0 where
  pub value : ℕ
  pub there : value_loaded b is_byte (address_reached way s r added) ≡ Ok value
  pub core : s' ≡ with_register (with_moved_base way s r added) r.rd value

-- STR is done
pub record IsStored (owned : ℕ → Bool) (b : Bytes) (s : State) (is_byte : Bool) (way : Indexing) (added : ℕ)
    (r : OpValue) (s' : State) (b' : Bytes) : Type 0 where
  pub bytes : value_stored owned b is_byte (address_reached way s r added) (register_in s.psr.mode s r.rd) ≡
      Ok b'
  pub core : s' ≡ with_moved_base way s r added

-- What a store of several registers finds in the base, where that is not the base as it was.
use Rattle.std.specs.Prelude.{ℕ, Bool, Option, Some, None, if◌then◌else◌}
use Rattle.arm_decode.specs.declared.action.BlockTransfer.{BlockTransfer}
use Rattle.arm_step.specs.Blocks.{stores_new_base, block_base}
use Rattle.arm_core.specs.State.{State}

abbrev pub changed_base : State → BlockTransfer → Option ℕ
changed_base s t = if stores_new_base t then Some (block_base s t) else None

abbrev pub value_by : Option ℕ → Bool → ℕ → ℕ
value_by None is_base value = value
value_by (Some base) is_base value = if is_base then base else value

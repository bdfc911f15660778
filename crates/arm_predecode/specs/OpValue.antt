-- A word with its parts.
use Rattle.std.specs.Prelude.{ℕ, Bool}
use Rattle.arm_core.specs.Shift.{Shift}
use Rattle.arm_predecode.specs.declared.kind.OpKind.{OpKind}

pub record OpValue : Type 0 where
  pub word : ℕ
  pub value : ℕ
  pub kind : OpKind
  pub rd : ℕ
  pub rn : ℕ
  pub rm : ℕ
  pub rs : ℕ
  pub shift : Shift
  pub is_rotated : Bool

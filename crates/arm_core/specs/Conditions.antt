-- When an instruction is carried out, by the flags (ARM2 data sheet, "The condition field").
use Rattle.std.specs.Prelude.{Bool, true, false, not, ◌&&◌, ◌||◌}
use Rattle.arm_decode.specs.declared.condition.Condition.{Condition}
use Rattle.arm_decode.specs.declared.condition.Condition.TheVariants as condition
use Rattle.arm_core.specs.declared.psr.Psr.{Psr}

abbrev pub are_alike : Bool → Bool → Bool
are_alike true b = b
are_alike false b = not b

abbrev pub condition_holds : Condition → Psr → Bool
condition_holds condition.Equal p = p.zero
condition_holds condition.NotEqual p = not p.zero
condition_holds condition.CarrySet p = p.carry
condition_holds condition.CarryClear p = not p.carry
condition_holds condition.Minus p = p.negative
condition_holds condition.Plus p = not p.negative
condition_holds condition.OverflowSet p = p.overflow
condition_holds condition.OverflowClear p = not p.overflow
condition_holds condition.Higher p = p.carry && not p.zero
condition_holds condition.LowerOrSame p = not p.carry || p.zero
condition_holds condition.GreaterOrEqual p = are_alike p.negative p.overflow
condition_holds condition.LessThan p = not (are_alike p.negative p.overflow)
condition_holds condition.GreaterThan p = not p.zero && are_alike p.negative p.overflow
condition_holds condition.LessOrEqual p = p.zero || not (are_alike p.negative p.overflow)
condition_holds condition.Always p = true
condition_holds condition.Never p = false

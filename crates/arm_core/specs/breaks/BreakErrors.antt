-- The names of the refusals of a break.
use Rattle.std.specs.Prelude.{ℕ, List, codes}
use Rattle.arm_core.specs.declared.breaks.breaks.BreakError.{BreakError}
use Rattle.arm_core.specs.declared.breaks.breaks.BreakError.TheVariants.{Unaligned, BreakTableFull, NoBreak}

abbrev pub break_error_name : BreakError → List ℕ
break_error_name Unaligned = codes "Unaligned"
break_error_name BreakTableFull = codes "BreakTableFull"
break_error_name NoBreak = codes "NoBreak"

-- What a step asks for outside of the core: nothing, where its word is no instruction that is carried out, or
-- one of a form that does all in the core (ARM2 data sheet, "Instruction set summary").
use Rattle.std.specs.Prelude.{Bool, true, false, None, Result, Ok}
use Rattle.profile.specs.Fault.{Fault}
use Rattle.arm_decode.specs.declared.form.Form.{Form}
use Rattle.arm_decode.specs.declared.form.Form.TheVariants as form
use Rattle.trace_effects.specs.Stored.{no_words}
use Rattle.trace_effects.specs.declared.effects.Effects.{Effects}

abbrev pub no_effects : Effects
no_effects = record { swi = None; stored = no_words; loaded = no_words; target = None }

-- data processing, multiplication and branches
abbrev pub stays_inside : Result Form Fault → Bool
stays_inside (Ok form.Multiply) = true
stays_inside (Ok form.ShiftByNumber) = true
stays_inside (Ok form.ShiftByRegister) = true
stays_inside (Ok form.Immediate) = true
stays_inside (Ok form.Branch) = true
stays_inside row = false

-- How a step's call and its definition agree: it leaves what the definition says, or answers the turn that the definition says and leaves
-- everything as it was.
use Rattle.std.specs.Prelude.{◌≡◌, Result, Ok, Err}
use Rattle.arm_core.specs.declared.turn.StepEnd.{StepEnd}
use Rattle.arm_core.specs.declared.turn.StepEnd.TheVariants.{Done}

abbrev pub Turns : {W : Type 0} → W → Result W StepEnd → StepEnd → W → Type 0
Turns old (Ok w) turn new = (turn ≡ Done) × (new ≡ w)
Turns old (Err t) turn new = (turn ≡ t) × (new ≡ old)

-- What becomes of the records of ranges, the first recorded first, while a module call goes on. A
-- module state has the heaps and the other ranges as two lists; this says how they stand among each other
-- (this project's own).
use Rattle.std.specs.Prelude.{◌≡◌, ◌⊎◌, Option, Some, None, List, [], ◌∷◌}
use Rattle.rma.specs.BlockMove.{BlockMove}
use Rattle.rma.specs.Region.{Region}
use Rattle.rma.specs.Moves.{moved_regions}
use Rattle.instances_table.specs.declared.plans.action.PlanAction.{PlanAction}
use Rattle.instances_table.specs.declared.plans.action.PlanAction.TheVariants.{Slide}

-- Of the records some may be gone, and each other one stands where it stood.
abbrev pub LosesRecords : List Region → List Region → Type 0
LosesRecords [] new = new ≡ []
LosesRecords (r ∷ rs) new = LosesRecords rs new ⊎ ((left : List Region) ×
    ((new ≡ r ∷ left) × LosesRecords rs left))

-- An action's own part may lose records, of an image or of heaps; a slide loses none, and those of
-- images get the places where their blocks went.
abbrev pub TurnsRecords : PlanAction → List Region → List Region → Type 0
TurnsRecords Slide old new = (moves : List BlockMove) × (new ≡ moved_regions moves old)
TurnsRecords other old new = LosesRecords old new

-- the same of a turn that does an action, if it does one
abbrev pub MayTurnRecords : Option PlanAction → List Region → List Region → Type 0
MayTurnRecords None old new = new ≡ old
MayTurnRecords (Some action) old new = TurnsRecords action old new

-- the same of turns that do actions in order, up to some action
abbrev pub CarriesRecords : List PlanAction → List Region → List Region → Type 0
CarriesRecords [] old new = new ≡ old
CarriesRecords (action ∷ others) old new = (new ≡ old) ⊎
    ((mid : List Region) × (TurnsRecords action old mid × CarriesRecords others mid new))

use Rattle.arm_decode.proofs.Placed.{fields_have_places}
use Rattle.arm_decode.proofs.laws.fields_have_places.Goals as goal

pub returns : goal.returns
returns c = fields_have_places

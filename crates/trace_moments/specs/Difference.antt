-- What is said of a value that may differ from what it was: the new one, where it differs, and nothing
-- else.
use Rattle.std.specs.Prelude.{◌≡◌, ◌≢◌, Option, unwrap_or, IfSome}

-- Whoever has the old value, and puts what is said in its place, has the new one; and what is said isn't
-- the old one.
pub record IsDifference {X : Type 0} (old new : X) (reported : Option X) : Type 0 where
  pub replays : unwrap_or reported old ≡ new
  pub differs : IfSome reported (λ x. old ≢ x)

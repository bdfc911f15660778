use Rattle.law_machine.proofs.LiveBytesLemmas.Runs.{runs_are_steps, stay_over}
use Rattle.law_machine.proofs.live_bytes.laws.live_bytes_stay_over.Goals as goal

pub returns : goal.returns
returns c = record { moves = stay_over; runs = runs_are_steps }

use Rattle.swi_dispatch_guest.proofs.LawFramesLemmas.Keeping.{only_the_gate_closes}
use Rattle.swi_dispatch_guest.proofs.law_frames.laws.only_the_gate_closes_frames.Goals as goal

pub returns : goal.returns
returns c = only_the_gate_closes

use Rattle.law_machine.proofs.HeapFrameLemmas.AreaForgetting.{area_calls_forget}
use Rattle.law_machine.proofs.HeapFrameLemmas.AreaReleases.{releases_keep, removals_forget}
use Rattle.law_machine.proofs.HeapFrameLemmas.PlanForgetting.{acts_forget_none}
use Rattle.law_machine.proofs.heap_frame.laws.area_calls_forget_heaps.Goals as goal

pub returns : goal.returns
returns c = record { calls = area_calls_forget; removals = removals_forget; acts = acts_forget_none; bytes = releases_keep }

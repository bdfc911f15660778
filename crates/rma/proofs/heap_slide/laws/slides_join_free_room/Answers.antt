use Rattle.rma.proofs.HeapSlideLemmas.LawLemmas.{slide_describes}
use Rattle.rma.proofs.heap_slide.laws.slides_join_free_room.Goals as goal

pub returns : goal.returns
returns c = slide_describes

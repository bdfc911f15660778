use Rattle.rma.proofs.HeapSlideLemmas.KeptBlocks.{slide_keeps_blocks}
use Rattle.rma.proofs.heap_slide.laws.slides_keep_blocks.Goals as goal

pub returns : goal.returns
returns c = slide_keeps_blocks

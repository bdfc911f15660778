use Rattle.std.proofs.Common.{◌∙◌, ℕ, ap}
use Rattle.os_heap.proofs.Bytes.{byte_at-unmapped}
use Rattle.os_heap.specs.Class.{Class}
use Rattle.dynamic_areas.proofs.start.bare_memory.Goals as goal

pub returns-clause-bytes : goal.returns-clause-bytes
returns-clause-bytes c = λ b.
    c.map_pages-3.ensures.bytes b ∙ c.map_pages-2.ensures.bytes b ∙ c.map_pages.ensures.bytes b
    ∙ byte_at-unmapped c.in_ok-memory.memory b (c.in_ok-memory.ensures.mapping b)

pub returns-clause-marks : goal.returns-clause-marks
returns-clause-marks c = λ a.
    ap (λ (f : ℕ → Class). f a) (c.map_pages-3.ensures.marks ∙ c.map_pages-2.ensures.marks ∙ c.map_pages.ensures.marks)
    ∙ c.in_ok-memory.ensures.marks a

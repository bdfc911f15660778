-- The module area's blocks where the area grows: they stay what they are.
use Rattle.std.proofs.Common.{◌∙◌}
use Rattle.os_heap.specs.Store.{Store}
use Rattle.law_machine.proofs.HeapFrameLemmas.Blocks.{AreSame}
use Rattle.law_machine.specs.live_bytes.AreaLaws.{KeepsBoth}

pub same_kept : (s t : Store) → AreSame s t → KeepsBoth s t
same_kept s t same block total new_total a live live' here there = same.bytes block total live a here

pub same_then : (s t u : Store) → AreSame s t → KeepsBoth t u → KeepsBoth s u
same_then s t u same kept block total new_total a live live' here there =
    kept block total new_total a (same.totals block ∙ live) live' here there ∙ same.bytes block total live a here

use Rattle.std.proofs.Common.{◌≢◌, ◌*◌, ◌<◌, ◌≤◌, ℕ}
use Rattle.address_map.specs.declared.class.Class.TheVariants.{Anchor}
use Rattle.address_map.specs.Marks.{class_at}
use Rattle.address_map.proofs.marks.Marks.are_plain_or_heap.Given as goal

abbrev pub invariant-loop-byte : goal.invariant-loop-byte
invariant-loop-byte l = (k : ℕ) → 4 * l.first ≤ k → k < 4 * l.byte → class_at l.self k ≢ Anchor

use Rattle.std.proofs.Common.{ℕ, ◌≡◌, ◌≤◌, ◌-◌, ◌%◌}
use Rattle.address_map.specs.Memory.{byte_at, layout, class_of}
use Rattle.os_heap_words.specs.Marks.{with_no_heads}
use Rattle.os_heap_words.proofs.marks.unmark_heads.Given as goal

abbrev pub invariant-loop-place : goal.invariant-loop-place
invariant-loop-place l = record {
  from : l.at ≤ l.place;
  to : l.place ≤ l.end;
  aligned : l.place % 4 ≡ 0;
  marks : (a : ℕ) → class_of l.map a ≡ with_no_heads l.at (l.place - l.at) (class_of l.fn.map) a;
  bytes : byte_at l.map ≡ byte_at l.fn.map;
  layout : layout l.map ≡ layout l.fn.map;
}

abbrev pub decreases-loop-place : goal.decreases-loop-place
decreases-loop-place l = l.end - l.place

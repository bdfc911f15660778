use Rattle.std.proofs.Common.{◌≡◌, ◌*◌, ℕ, cond, length}
use Rattle.address_map.specs.declared.class.Class.TheVariants.{Plain}
use Rattle.address_map.specs.Bytes.{in_range}
use Rattle.address_map.specs.Marks.{class_at}
use Rattle.address_map.proofs.marks.Marks.clear.Given as goal

abbrev pub invariant-loop-done : goal.invariant-loop-done
invariant-loop-done l = record {
  classes : (k : ℕ) → class_at l.self k ≡ cond (in_range (4 * l.first) (4 * l.done) k) Plain (class_at l.fn.self k);
  len : length l.self.bytes ≡ length l.fn.self.bytes;
}

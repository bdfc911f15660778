use Rattle.std.proofs.Common.{◌+◌, ◌∙◌, arith, ℕ}
use Rattle.std.proofs.lemmas.List.{length-set}
use Rattle.address_map.specs.Marks.{class_at}
use Rattle.address_map.proofs.Lanes.{class_cleared, cleared_more}
use Rattle.address_map.proofs.marks.Marks.clear.Goals as goal

pub loop-done-preserved : goal.loop-done-preserved
unfolding class_at
loop-done-preserved c = record {
  classes = λ k. rw c.set.ensures (class_cleared c.loop-done.self.bytes (c.args.first + c.loop-done.done) k (omega arith)
      ∙ cleared_more c.args.first c.loop-done.done k _ _ (c.loop-done.invariant.classes k));
  len = rw c.set.ensures (length-set {A = ℕ} c.loop-done.self.bytes (c.args.first + c.loop-done.done) 0 ∙ c.loop-done.invariant.len);
}

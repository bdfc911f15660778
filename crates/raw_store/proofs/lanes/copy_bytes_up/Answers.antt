use Rattle.std.proofs.Common.{◌+◌, ◌-◌, ◌∙◌, ap, arith}
use Rattle.raw_store.specs.Region.{bytes_after_copy}
use Rattle.raw_store.proofs.Pieces.{copied_up}
use Rattle.raw_store.proofs.lanes.copy_bytes_up.Goals as goal

pub loop-place-preserved : goal.loop-place-preserved
loop-place-preserved c =
    c.copy_byte.ensures ∙ ap (λ b. bytes_after_copy b (c.args.from + (c.loop-place.place - 1)) (c.args.to + (c.loop-place.place - 1)) 1) c.loop-place.invariant
    ∙ copied_up c.args.bytes.now (c.args.from + (c.loop-place.place - 1)) (c.args.to + (c.loop-place.place - 1)) (c.args.len - c.loop-place.place) 1 _ _ (c.args.len - (c.loop-place.place - 1)) (omega arith) (omega arith) (omega arith) (omega arith) (omega arith)

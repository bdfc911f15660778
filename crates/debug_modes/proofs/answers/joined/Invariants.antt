use Rattle.std.proofs.Common.{◌≡◌, ◌++◌, drop}
use Rattle.std.specs.List.{flat_map}
use Rattle.debug_modes.proofs.answers.joined.Given as goal

-- what stands written, and the parts that are left, is all
abbrev pub invariant-loop-part : goal.invariant-loop-part
invariant-loop-part l = l.text.items ++ flat_map (λ part. part.now) (drop l.part-index l.parts)
    ≡ flat_map (λ part. part.now) l.parts

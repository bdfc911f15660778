use Rattle.std.proofs.Common.{◌<◌, ◌^◌, take}
use Rattle.std.specs.List.{All}
use Rattle.arm_core.proofs.cpu.are_words.Given as goal

-- the registers read so far
abbrev pub invariant-loop-number : goal.invariant-loop-number
invariant-loop-number l = All (λ w. w < 2 ^ 32) (take l.number l.fn.file)

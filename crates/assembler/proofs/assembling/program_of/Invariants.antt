use Rattle.std.proofs.Common.{◌≡◌, ◌+◌, ◌-◌, ◌≤◌, length, take, []}
use Rattle.assembler_reading.specs.Labels.{address_of}
use Rattle.assembler.specs.Passes.{second_pass}
use Rattle.assembler.proofs.assembling.program_of.Given as goal

-- the pass over the lines that are left, after those that stand written
abbrev pub invariant-loop-index : goal.invariant-loop-index
invariant-loop-index l = record {
  program : second_pass (address_of l.labels) l.origin (l.index + 1) l.output.bytes (take (l.count - l.index) l.lines.left)
      ≡ second_pass (address_of l.labels) l.origin 1 [] (take l.count l.source.left);
  room : length l.output.bytes ≤ 1048576;
}

use Rattle.std.proofs.Common.{◌≡◌, ◌+◌, ◌-◌, ◌≤◌, length, take, []}
use Rattle.assembler.specs.Passes.{first_pass}
use Rattle.assembler.proofs.assembling.labels_of.Given as goal

-- the pass over the lines that are left, after those that are measured
abbrev pub invariant-loop-index : goal.invariant-loop-index
invariant-loop-index l = record {
  labels : first_pass l.origin (l.index + 1) (record { entries = l.labels; program = l.output.bytes }) (take (l.count - l.index) l.lines.left)
      ≡ first_pass l.origin 1 (record { entries = []; program = [] }) (take l.count l.source.left);
  room : length l.output.bytes ≤ 1048576;
}

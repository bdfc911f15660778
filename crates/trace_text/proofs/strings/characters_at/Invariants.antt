use Rattle.std.proofs.Common.{◌≡◌, ◌-◌, ◌++◌, length}
use Rattle.trace_effects.specs.Memory.{bytes_of}
use Rattle.trace_text.specs.Strings.{characters_at}
use Rattle.trace_text.proofs.strings.characters_at.Given as goal

-- the characters that are there, and those that are left, are all
abbrev pub invariant-loop-count : goal.invariant-loop-count
invariant-loop-count l = record {
  characters : l.characters.items ++ characters_at (bytes_of l.memory) l.at (40 - l._count)
      ≡ characters_at (bytes_of l.memory) l.first 40;
  few : length l.characters.items ≡ l._count;
}

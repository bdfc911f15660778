use Rattle.std.proofs.Common.{◌≡◌, ◌++◌, ◌-◌, take}
use Rattle.debug_records.specs.LineRecords.{strings_text}
use Rattle.debug_records.proofs.lines.push_lines.Given as goal

-- what was written, and the lines that are left, are all
abbrev pub invariant-loop-count : goal.invariant-loop-count
invariant-loop-count l = l.text.bytes.items ++ strings_text l.text.follows (take (l.last - l._count) l.rest.left)
    ≡ l.fn.text.bytes.items ++ strings_text l.fn.text.follows (take (l.last - l.script.number) l.script.left)

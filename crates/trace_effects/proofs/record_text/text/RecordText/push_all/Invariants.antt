use Rattle.std.proofs.Common.{◌≡◌, ◌++◌, take}
use Rattle.std.specs.List.{flat_map}
use Rattle.trace_effects.specs.record_text.Spelling.{json_byte}
use Rattle.trace_effects.proofs.record_text.text.RecordText.push_all.Given as goal

-- the bytes so far are spelt
abbrev pub invariant-loop-byte : goal.invariant-loop-byte
invariant-loop-byte l =
    (l.self.bytes.items ≡ l.fn.self.bytes.items ++ flat_map json_byte (take l.byte-index l.bytes))
    × (l.self.follows ≡ l.fn.self.follows)

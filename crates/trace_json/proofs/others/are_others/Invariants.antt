use Rattle.std.proofs.Common.{◌≡◌, drop}
use Rattle.trace_json.specs.OtherFields.{are_others, are_others_from}
use Rattle.trace_json.proofs.others.are_others.Given as goal

-- what is left says what all of it does
abbrev pub invariant-loop-index : goal.invariant-loop-index
invariant-loop-index l = are_others_from l.place (drop l.index l.fields) ≡ are_others l.fields

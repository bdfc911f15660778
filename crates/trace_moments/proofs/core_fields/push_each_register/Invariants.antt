use Rattle.std.proofs.Common.{map, take}
use Rattle.trace_moments.specs.CoreFields.{register_field}
use Rattle.trace_moments.specs.Fields.{HasMore}
use Rattle.trace_moments.proofs.core_fields.push_each_register.Given as goal

-- those so far were written
abbrev pub invariant-loop-register : goal.invariant-loop-register
invariant-loop-register l = HasMore l.fn.text l.text (map register_field (take l.register-index l.reported))

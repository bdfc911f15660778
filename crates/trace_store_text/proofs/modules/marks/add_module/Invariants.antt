use Rattle.std.proofs.Common.{◌≡◌, ◌++◌}
use Rattle.std.specs.Prelude.{slice_get}
use Rattle.trace_store_text.specs.modules.Marks.{marks_at}
use Rattle.trace_store_text.proofs.ModulesLemmas.MarkLemmas.{marks_from}
use Rattle.trace_store_text.proofs.modules.marks.add_module.Given as goal

abbrev pub invariant-loop-instance : goal.invariant-loop-instance
invariant-loop-instance l = l.fn.marks.items ++ marks_at (slice_get l.modules l.number)
    ≡ l.marks.items ++ marks_from l.instance (slice_get l.modules l.number)

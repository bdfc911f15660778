-- Where there are no modules there are no lines.
use Rattle.std.proofs.Common.{rules, ◌≡◌, ◌∙◌, List, [], ◌∷◌, length, refl, sym, arith}
use Rattle.instances_table.specs.Modules.{Module}
use Rattle.trace_store_text.specs.ModuleLines.{module_lines}
use Rattle.trace_store_text.specs.modules.Marks.{instance_marks}
use Rattle.trace_store_text.proofs.module_lines.push_modules.Goals as goal

no_lines : (ms ns : List Module) → length ms ≡ 0 → length ns ≡ 0 → module_lines ms ns ≡ []
unfolding module_lines instance_marks
no_lines [] [] e f = refl
no_lines [] (n ∷ ns) e f = absurd (omega (arith, f))
no_lines (m ∷ ms) ns e f = absurd (omega (arith, e))

pub returns-then-count-eq0-2 : goal.returns-then-count-eq0-2
returns-then-count-eq0-2 g c =
    rw (no_lines c.args.before.now c.args.after.now (sym c.count.ensures.value ∙ c.if-count-eq0.true)
    (sym c.count-then-count-eq0.ensures.value ∙ c.if-count-eq0-2.true)) (search rules)

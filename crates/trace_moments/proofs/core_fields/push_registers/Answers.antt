-- The field, where there are some registers.
use Rattle.std.proofs.Common.{◌∙◌, map, sym}
use Rattle.std.specs.Prelude.{codes}
use Rattle.trace_effects.specs.record_text.Spelling.{name_text}
use Rattle.trace_moments.specs.CoreFields.{register_field}
use Rattle.trace_moments.specs.Fields.{field_text, object_text}
use Rattle.trace_moments.proofs.FieldLemmas.{enclosed, none_mapped, some_mapped}
use Rattle.trace_moments.proofs.core_fields.push_registers.Goals as goal

pub returns-then-is_empty : goal.returns-then-is_empty
returns-then-is_empty c =
    none_mapped register_field c.args.text.now c.args.reported.now (field_text (codes "regs") (object_text (map register_field c.args.reported.now)))
    (sym c.is_empty.ensures ∙ c.if-is_empty.true)

pub returns : goal.returns
returns c =
    let fields = map register_field c.args.reported.now in
    some_mapped register_field c.args.text.now c.close.new.self c.args.reported.now (field_text (codes "regs") (object_text fields))
    (sym c.is_empty.ensures ∙ c.if-is_empty.false)
    (enclosed c.args.text.now c.open_field.new.self c.push_each_register.new.text c.close.new.self (name_text (codes "regs")) (codes "{") (codes "}")
    fields c.in_ok-open_field.ensures.text c.in_ok-open_field.ensures.follows c.in_ok-push_each_register.ensures c.in_ok-close.ensures.text
    c.in_ok-close.ensures.follows)

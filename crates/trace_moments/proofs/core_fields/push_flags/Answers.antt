-- The field, where some flags differ.
use Rattle.std.proofs.Common.{Bool, subst}
use Rattle.std.specs.Prelude.{codes}
use Rattle.trace_effects.specs.changes.Status.{flag_change}
use Rattle.trace_effects.specs.record_text.Spelling.{name_text}
use Rattle.trace_moments.specs.CoreFields.{flags_that_differ}
use Rattle.trace_moments.specs.Fields.{IsWhether, field_text, object_text}
use Rattle.trace_moments.proofs.FieldLemmas.{enclosed, none_there, some_there}
use Rattle.trace_moments.proofs.core_fields.push_flags.Goals as goal

pub returns-then-not-has_flag_changed : goal.returns-then-not-has_flag_changed
returns-then-not-has_flag_changed c =
    let fields = flags_that_differ (λ flag. flag_change flag c.args.before c.args.after) in
    none_there c.args.text.now fields (field_text (codes "flags") (object_text fields))
    (subst (λ (b : Bool). IsWhether b fields) c.if-not-has_flag_changed.true c.has_flag_changed.ensures)

pub returns : goal.returns
returns c =
    let fields = flags_that_differ (λ flag. flag_change flag c.args.before c.args.after) in
    some_there c.args.text.now c.close.new.self fields (field_text (codes "flags") (object_text fields))
    (subst (λ (b : Bool). IsWhether b fields) c.if-not-has_flag_changed.false c.has_flag_changed.ensures)
    (enclosed c.args.text.now c.open_field.new.self c.push_each_flag.new.text c.close.new.self (name_text (codes "flags")) (codes "{") (codes "}")
    fields c.in_ok-open_field.ensures.text c.in_ok-open_field.ensures.follows c.in_ok-push_each_flag.ensures c.in_ok-close.ensures.text
    c.in_ok-close.ensures.follows)

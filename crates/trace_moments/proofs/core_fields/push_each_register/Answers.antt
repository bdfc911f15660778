-- One register more.
use Rattle.std.proofs.Common.{◌≡◌, ◌++◌, List, ℕ, get_or, subst, arith}
use Rattle.std.specs.Fmt.{decimal}
use Rattle.trace_effects.specs.declared.changes.registers.RegisterChange.{RegisterChange}
use Rattle.trace_effects.specs.record_text.Spelling.{comma_before, name_text}
use Rattle.trace_moments.specs.CoreFields.{register_field, register_name}
use Rattle.trace_moments.proofs.FieldLemmas.{mapped_more, one_more}
use Rattle.trace_moments.proofs.core_fields.push_each_register.Goals as goal

pub loop-register-preserved : goal.loop-register-preserved
loop-register-preserved c =
    let none : RegisterChange = record { place = 0; old = 0; new = 0 } in
    let x : RegisterChange = get_or c.args.reported.now c.loop-register.register-index none in
    let old = c.loop-register.text in
    let new = c.number_field.new.self in
    let named = subst (λ (name : List ℕ). new.bytes.items ≡ old.bytes.items ++ (comma_before old.follows ++ (name_text name ++ decimal c.from.result)))
    c.register_name.ensures c.in_ok-number_field.ensures.text in
    let valued = subst (λ (n : ℕ). new.bytes.items ≡ old.bytes.items ++ (comma_before old.follows ++ (name_text (register_name x.place) ++ decimal n)))
    c.from.ensures named in
    mapped_more register_field c.args.text.now old new c.args.reported.now c.loop-register.register-index none
    (omega (arith, c.loop-register-test.true)) c.loop-register.invariant
    (one_more old new (register_field x) valued c.in_ok-number_field.ensures.follows)

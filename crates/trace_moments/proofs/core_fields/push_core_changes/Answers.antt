-- What was written, one field behind another.
use Rattle.std.proofs.Common.{◌∙◌, ◌++◌, List, ap, refl}
use Rattle.trace_effects.specs.changes.Laws.{registers_after}
use Rattle.trace_effects.specs.changes.Status.{flag_change}
use Rattle.trace_effects.specs.declared.changes.registers.RegisterChange.{RegisterChange}
use Rattle.trace_effects.specs.declared.changes.status.Flag.{Flag}
use Rattle.trace_moments.specs.CoreFields.{flag_fields, jump_fields, mode_fields, register_fields}
use Rattle.trace_moments.proofs.FieldLemmas.{then_more}
use Rattle.trace_moments.proofs.core_fields.push_core_changes.Goals as goal

pub returns : goal.returns
returns c =
    let first = c.args.text.now in
    let second = c.push_registers.new.text in
    let third = c.push_flags.new.text in
    let fourth = c.push_mode.new.text in
    let last = c.push_jump.new.text in
    let registers = register_fields c.as_slice.result.now in
    let flags = flag_fields (λ flag. flag_change flag c.psr.result c.psr-2.result) in
    let mode = mode_fields c.changed_mode.result in
    let jump = jump_fields c.args.name.now c.jump_of.result in
    record {
      changes = record {
        registers = c.as_slice.result.now;
        flags = λ (flag : Flag). flag_change flag c.psr.result c.psr-2.result;
        mode = c.changed_mode.result;
        goes_to = c.jump_of.result;
      };
      are = record {
        registers = ap (λ (cs : List RegisterChange). registers_after c.args.before.now.file cs) c.as_slice.ensures.value
            ∙ c.shown_registers-reported.ensures.replays;
        flags = λ flag. rw (c.psr.ensures, c.psr-2.ensures) refl;
        mode = c.changed_mode.ensures.value ∙ rw (c.psr-3.ensures, c.psr-4.ensures) refl;
        goes_to = c.jump_of.ensures.value;
      };
      written = then_more first second last registers (flags ++ (mode ++ jump)) c.in_ok-push_registers.ensures
          (then_more second third last flags (mode ++ jump) c.in_ok-push_flags.ensures
          (then_more third fourth last mode jump c.in_ok-push_mode.ensures c.in_ok-push_jump.ensures));
    }

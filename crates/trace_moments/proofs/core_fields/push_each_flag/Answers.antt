-- Each flag, one behind another.
use Rattle.std.proofs.Common.{◌++◌, List, ℕ}
use Rattle.trace_effects.specs.changes.Status.{flag_change}
use Rattle.trace_effects.specs.declared.changes.status.Flag.{Flag}
use Rattle.trace_effects.specs.declared.changes.status.Flag.TheVariants.{Negative, Zero, Carry, Overflow, InterruptsOff, FastInterruptsOff}
use Rattle.trace_moments.specs.CoreFields.{flag_field}
use Rattle.trace_moments.proofs.FieldLemmas.{then_more}
use Rattle.trace_moments.proofs.core_fields.push_each_flag.Goals as goal

pub returns : goal.returns
returns c =
    let of : Flag → List (List ℕ) = λ (flag : Flag). flag_field flag (flag_change flag c.args.before c.args.after) in
    let last = c.push_flag-6.new.text in
    let behind_fourth = of InterruptsOff ++ of FastInterruptsOff in
    let behind_third = of Overflow ++ behind_fourth in
    let behind_second = of Carry ++ behind_third in
    let behind_first = of Zero ++ behind_second in
    then_more c.args.text.now c.push_flag.new.text last (of Negative) behind_first c.in_ok-push_flag.ensures
    (then_more c.push_flag.new.text c.push_flag-2.new.text last (of Zero) behind_second c.in_ok-push_flag-2.ensures
    (then_more c.push_flag-2.new.text c.push_flag-3.new.text last (of Carry) behind_third c.in_ok-push_flag-3.ensures
    (then_more c.push_flag-3.new.text c.push_flag-4.new.text last (of Overflow) behind_fourth c.in_ok-push_flag-4.ensures
    (then_more c.push_flag-4.new.text c.push_flag-5.new.text last (of InterruptsOff) (of FastInterruptsOff) c.in_ok-push_flag-5.ensures
    c.in_ok-push_flag-6.ensures))))

use Rattle.std.proofs.Common.{◌≡◌, ◌*◌, ℕ, List, ap, sym, subst, slice_set}
use Rattle.arm_core.specs.register_file.Exchanging.{setting}
use Rattle.arm_core.specs.Banks.{exchanged_file, first_own, own_ahead, own_bank}
use Rattle.arm_core.specs.State.{State, slot_of, with_register}
use Rattle.arm_core.proofs.Exchanging.{slot_below, present_place}
use Rattle.arm_core.proofs.cpu.Cpu.set_current.Goals as goal

pub returns : goal.returns
returns c =
    let m = c.self.inside.psr.mode in
    let with_file : List ℕ → State = λ (file : List ℕ). record { file = file; psr = c.self.inside.psr; pc = 4 * c.self.inside.at } in
    let after : State = with_file (exchanged_file m (slice_set c.self.inside.file c.args.number c.args.value)) in
    subst (λ (s : State). after ≡ with_register s c.args.number c.args.value) c.self.view_is
    (ap with_file (setting (first_own m) (own_ahead m) c.self.inside.file (slot_of m c.args.number) c.args.value c.args.number (own_bank m)
    (slot_below m c.args.number c.requires) (sym (present_place m c.args.number c.requires)) c.self.invariant.1))

use Rattle.std.proofs.Common.{◌∙◌, ap, sym, slice_index}
use Rattle.arm_core.specs.register_file.Exchanging.{reading}
use Rattle.arm_core.specs.Banks.{first_own, own_ahead}
use Rattle.arm_core.specs.State.{State, slot_of}
use Rattle.arm_core.proofs.Exchanging.{slot_below, present_place}
use Rattle.arm_core.proofs.cpu.Cpu.current.Goals as goal

pub returns : goal.returns
returns c =
    let m = c.self.inside.psr.mode in
    reading (first_own m) (own_ahead m) c.self.inside.file (slot_of m c.args.number) c.args.number
    (slot_below m c.args.number c.requires) (sym (present_place m c.args.number c.requires))
    ∙ ap (λ (s : State). slice_index s.file (slot_of s.psr.mode c.args.number)) c.self.view_is

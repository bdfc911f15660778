use Rattle.std.proofs.Common.{◌∙◌, ap, slice_index}
use Rattle.arm_core.specs.register_file.Exchanging.{reading}
use Rattle.arm_core.specs.Banks.{first_own, own_ahead}
use Rattle.arm_core.specs.State.{State, slot_of}
use Rattle.arm_core.proofs.Exchanging.{slot_below}
use Rattle.arm_core.proofs.cpu.Cpu.register_in.Goals as goal

pub returns : goal.returns
returns c =
    let m = c.self.inside.psr.mode in
    reading (first_own m) (own_ahead m) c.self.inside.file (slot_of c.args.mode c.args.number) c.place_of.result
    (slot_below c.args.mode c.args.number c.requires) c.place_of.ensures.place
    ∙ ap (λ (s : State). slice_index s.file (slot_of c.args.mode c.args.number)) c.self.view_is

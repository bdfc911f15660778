use Rattle.std.proofs.Common.{subst, arith}
use Rattle.arm_core.specs.register_file.Exchanging.{size, words_exchanged}
use Rattle.arm_core.specs.Banks.{first_own, own_ahead}
use Rattle.arm_core.specs.State.{IsCore}
use Rattle.arm_core.proofs.cpu.Cpu.known.Goals as goal

pub returns : goal.returns
returns c =
    let m = c.self.inside.psr.mode in
    subst IsCore c.self.view_is (record {
      size = size (first_own m) (own_ahead m) c.self.inside.file;
      words = words_exchanged (first_own m) (own_ahead m) c.self.inside.file c.are_words.ensures;
      inside = omega (arith, c.self.invariant.0);
      aligned = omega arith;
    })

use Rattle.std.proofs.Common.{◌≤◌, ◌<◌, ◌^◌, length, arith, subst}
use Rattle.std.proofs.lemmas.List.{take_all}
use Rattle.std.specs.List.{All}
use Rattle.arm_core.proofs.RegisterWords.{word_at}
use Rattle.arm_core.proofs.cpu.are_words.Goals as goal

pub returns : goal.returns
returns c =
    let whole : length c.args.file.now ≤ c.loop-number.number = grind (arith, c.told-file, c.loop-number-test.false) in
    word_at c.args.file.now (subst (All (λ w. w < 2 ^ 32)) (take_all c.loop-number.number c.args.file.now whole) c.loop-number.invariant)

use Rattle.std.proofs.Common.{◌≡◌, ◌+◌, ◌∙◌, ℕ, sym, ap, length}
use Rattle.arm_step.specs.Memory.{bytes_of}
use Rattle.arm_core.specs.Listed.{registers_of_list}
use Rattle.arm_core.specs.State.{with_register}
use Rattle.arm_predecode.specs.OpValue.{OpValue}
use Rattle.arm_step.specs.PageWords.{words_in}
use Rattle.arm_step.specs.Words.{words_loaded}
use Rattle.arm_run.specs.Blocked.{with_block_base_after}
use Rattle.arm_run.proofs.Blocked.{is_block_loaded, base_written, base_left, placed_so}
use Rattle.arm_run.proofs.blocks.load_registers.Goals as goal
use Rattle.arm_run.proofs.blocks.load_registers.Goals.{then-writes_back, else-writes_back}

pub returns-after-writes_back-clause-done : goal.returns-after-writes_back-clause-done
returns-after-writes_back-clause-done c is =
    let s = c.args.cpu.now in
    let r = c.args.op.now in
    let n = c.count_of-count.result in
    let based : c.if-writes_back.cpu ≡ with_block_base_after c.args.is_up c.args.writes_back s r = elim c.if-writes_back.branch [
      | then-writes_back w ↦ base_written s c.if-writes_back.cpu c.args.is_up c.args.writes_back r c.reach-first.result.1 w.if-writes_back.true c.reach-first.ensures.base
          (w.cpu-is ∙ w.set_current.ensures ∙ ap (λ (x : OpValue). with_register s x.rn c.reach-first.result.1) c.op.view_is)
      | else-writes_back w ↦ base_left s c.if-writes_back.cpu c.args.is_up c.args.writes_back r w.if-writes_back.false w.cpu-is
    ] in
    is_block_loaded (bytes_of c.args.memory.now) s c.place_words.new.cpu c.args.at (c.args.at + 1) c.args.is_up c.args.writes_back r (words_in c.in-Some.bytes.now 0 n)
    c.reach-first.ensures.small
    (ap (λ (x : ℕ). words_loaded (bytes_of c.args.memory.now) x (length (registers_of_list r.value))) (sym c.reach-first.ensures.first)
    ∙ ap (λ (k : ℕ). words_loaded (bytes_of c.args.memory.now) c.reach-first.result.0 k) (sym c.count_of-count.ensures.count) ∙ c.in-Some.ensures.0)
    (placed_so s c.place_words.new.cpu c.if-writes_back.cpu (c.args.at + 1) c.args.is_up c.args.writes_back r c.op.inside.value n c.in-Some.bytes.now based
    (ap (λ (x : OpValue). x.value) c.op.view_is) c.count_of-count.ensures.count (c.place_words.ensures (c.args.at + 1)))

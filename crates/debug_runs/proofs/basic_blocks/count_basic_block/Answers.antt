-- By the lemmas that are named.
use Rattle.std.proofs.Common.{◌≡◌, ◌<◌, ◌+◌, ◌-◌, ℕ, suc, ap, sym, ◌∙◌, arith}
use Rattle.debug_tables.proofs.CountsLemmas.CountLemmas.{uncounted}
use Rattle.debug_tables.specs.counts.Counts.{steps_counted}
use Rattle.debug_runs.specs.BasicBlocks.{block_places, next_word_of}
use Rattle.debug_runs.proofs.BasicBlockLemmas.{count_none, count_on, next_if_inner, next_if_last}
use Rattle.debug_runs.proofs.basic_blocks.count_basic_block.Goals.{then-word-block, else-word-block}
use Rattle.debug_runs.proofs.basic_blocks.count_basic_block.Goals as goal

pub returns-then-not-is_on : goal.returns-then-not-is_on
returns-then-not-is_on c =
    sym (uncounted (block_places c.args.block 0 c.args.taken) c.args.counts.now (sym c.is_on.ensures ∙ c.if-not-is_on.true))

pub loop-step-preserved : goal.loop-step-preserved
loop-step-preserved c =
    let block = c.args.block in
    let word = c.loop-step.word in
    let some = c.requires.some in
    let within = c.loop-step.invariant.within in
    let next : c.if-word-block.word ≡ next_word_of block word = elim c.if-word-block.branch [
      | then-word-block w ↦ next_if_last block word c.if-word-block.word w.if-word-block.true w.word-is
      | else-word-block w ↦ next_if_inner block word c.if-word-block.word w.if-word-block.false w.word-is
    ] in
    let below : c.if-word-block.word < block.count = elim c.if-word-block.branch [
      | then-word-block w ↦ (let is = w.word-is in omega (arith, is, some))
      | else-word-block w ↦ (let is = w.word-is in let other = w.if-word-block.false in omega (arith, is, other, within))
    ] in
    let test = c.loop-step-test.true in
    let rest = c.args.taken - (c.loop-step._step + 1) in
    let one : c.args.taken - c.loop-step._step ≡ suc (c.args.taken - (c.loop-step._step + 1)) = omega (arith, test) in
    record {
      within = below;
      counted = ap (λ (j : ℕ). steps_counted (block_places block j rest) c.count_at.new.counts) next
          ∙ count_on block word rest (c.args.taken - c.loop-step._step) c.loop-step.counts c.count_at.new.counts c.in_ok-count_at.ensures one
          ∙ c.loop-step.invariant.counted;
    }

pub returns : goal.returns
returns c =
    let test = c.loop-step-test.false in
    let none : c.args.taken - c.loop-step._step ≡ 0 = omega (arith, test) in
    count_none c.args.block c.loop-step.word (c.args.taken - c.loop-step._step) c.loop-step.counts none ∙ c.loop-step.invariant.counted

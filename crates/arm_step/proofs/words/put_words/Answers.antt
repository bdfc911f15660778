use Rattle.std.proofs.Common.{◌+◌, ◌*◌, ◌∙◌, ap, sym, length, get_or, is_some, drop}
use Rattle.address_map.specs.Memory.{bytes_of}
use Rattle.arm_step.specs.Words.{with_words}
use Rattle.arm_step.proofs.SeveralWords.{mapped_head, mapped_tail, words_put, with_words_step, with_words_end}
use Rattle.arm_step.proofs.words.put_words.Goals as goal

pub put_word-requires-clause-mapped : goal.put_word-requires-clause-mapped
put_word-requires-clause-mapped c =
    let at = c.args.first + 4 * c.loop-index.index in
    let there = mapped_head (bytes_of c.args.memory.now) at (length c.args.words.now) c.loop-index.index c.loop-index-test.true c.loop-index.invariant.mapped in
    ap (λ l. is_some (l.place at)) c.loop-index.invariant.layout ∙ there

pub loop-index-preserved : goal.loop-index-preserved
loop-index-preserved c =
    let at = c.args.first + 4 * c.loop-index.index in
    let one = words_put c.loop-index.memory c.put_word.new.self at (get_or c.args.words.now c.loop-index.index 0) c.put_word.ensures.layout c.put_word.ensures.bytes in
    record {
      bytes = c.loop-index.invariant.bytes ∙ with_words_step (bytes_of c.loop-index.memory) c.args.first c.loop-index.index c.args.words.now c.loop-index-test.true
          ∙ ap (λ b. with_words b (c.args.first + 4 * (c.loop-index.index + 1)) (drop (c.loop-index.index + 1) c.args.words.now)) (sym one);
      layout = c.put_word.ensures.layout ∙ c.loop-index.invariant.layout;
      marks = c.put_word.ensures.marks ∙ c.loop-index.invariant.marks;
      mapped = mapped_tail (bytes_of c.args.memory.now) c.args.first (length c.args.words.now) c.loop-index.index c.loop-index-test.true c.loop-index.invariant.mapped;
    }

pub returns-clause-bytes : goal.returns-clause-bytes
returns-clause-bytes c =
    sym (c.loop-index.invariant.bytes ∙ with_words_end (bytes_of c.loop-index.memory) (c.args.first + 4 * c.loop-index.index) c.loop-index.index c.args.words.now c.loop-index-test.false)

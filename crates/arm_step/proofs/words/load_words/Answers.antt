use Rattle.std.proofs.Common.{◌≡◌, ◌+◌, ◌*◌, ◌<◌, ◌≤◌, ◌^◌, ◌%◌, ◌∙◌, ap, arith, append-nil, ◌++◌}
use Rattle.arm_step.proofs.SeveralWords.{load_gave, load_refused, mapped_step, mapped_stop, words_step, grown, mapped_end, words_end, words_all, words_missing}
use Rattle.address_map.specs.Memory.{bytes_of}
use Rattle.arm_step.proofs.words.load_words.Goals as goal

pub loop-index-preserved : goal.loop-index-preserved
loop-index-preserved c =
    let b = bytes_of c.args.memory.now in
    let at = c.args.first + 4 * c.loop-index.index in
    let aligned : (c.args.first + 4 * c.loop-index.index) % 4 ≡ 0 = omega arith in
    let one = load_gave b at c.in-Ok.word aligned c.in-Ok.ensures in
    record {
      mapped = c.loop-index.invariant.mapped ∙ mapped_step b c.args.first c.args.count c.loop-index.index c.loop-index-test.true one.mapped;
      words = c.loop-index.invariant.words ∙ ap (λ xs. c.loop-index.words.items ++ xs) (words_step b c.args.first c.args.count c.loop-index.index c.loop-index-test.true)
          ∙ grown c.loop-index.words.items c.push.new.self.items _ _ _ one.word c.push.ensures.items;
      len = omega (arith, c.push.ensures.len, c.loop-index.invariant.len);
    }

pub returns-in-Err : goal.returns-in-Err
returns-in-Err c =
    let b = bytes_of c.args.memory.now in
    let at = c.args.first + 4 * c.loop-index.index in
    let aligned : (c.args.first + 4 * c.loop-index.index) % 4 ≡ 0 = omega arith in
    let inside : c.args.first + 4 * c.args.count ≤ 2 ^ 26 = omega arith in
    let near : c.args.first + 4 * c.loop-index.index < 2 ^ 26 = omega arith in
    let gone = load_refused b at c.in-Err.field-0 aligned near c.in-Err.ensures in
    record {
      words = words_missing b c.args.first c.args.count inside
          (c.loop-index.invariant.mapped ∙ mapped_stop b c.args.first c.args.count c.loop-index.index c.loop-index-test.true gone);
      size = tt;
    }

pub returns : goal.returns
returns c =
    let b = bytes_of c.args.memory.now in
    let inside : c.args.first + 4 * c.args.count ≤ 2 ^ 26 = omega arith in
    let at = c.args.first + 4 * c.loop-index.index in
    record {
      words = words_all b c.args.first c.args.count c.loop-index.words.items inside
          (c.loop-index.invariant.mapped ∙ mapped_end b at c.args.count c.loop-index.index c.loop-index-test.false)
          (c.loop-index.invariant.words ∙ ap (λ xs. c.loop-index.words.items ++ xs) (words_end b at c.args.count c.loop-index.index c.loop-index-test.false) ∙ append-nil _);
      size = omega (arith, c.loop-index.invariant.len);
    }

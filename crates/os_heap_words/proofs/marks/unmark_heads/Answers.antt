use Rattle.std.proofs.Common.{ℕ, arith, ap, ◌∙◌}
use Rattle.address_map.specs.Memory.{class_of}
use Rattle.address_map.specs.declared.class.Class.{Class}
use Rattle.os_heap_words.specs.Marks.{with_no_heads}
use Rattle.os_heap_words.proofs.Marking.{unheaded_more}
use Rattle.os_heap_words.proofs.marks.unmark_heads.Goals as goal

pub loop-place-preserved : goal.loop-place-preserved
loop-place-preserved c =
    let i = c.loop-place.invariant in
    record {
      from = omega (arith, i.from);
      to = omega (arith, i.from, i.to, i.aligned, c.requires.aligned, c.requires.whole, c.loop-place-test.true);
      aligned = omega (arith, i.aligned);
      marks = λ a. c.unmark_head.ensures.marks a ∙ ap (λ (f : ℕ → Class). with_no_heads c.loop-place.place 4 f a) (λ j p. i.marks p j)
          ∙ unheaded_more (class_of c.args.map.now) c.args.at c.loop-place.place a i.from;
      bytes = c.unmark_head.ensures.bytes ∙ i.bytes;
      layout = c.unmark_head.ensures.layout ∙ i.layout;
    }

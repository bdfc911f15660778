-- The lemmas of the lines of a block, at each way out and at the next line.
use Rattle.std.proofs.Common.{◌∙◌, ◌++◌, [], ◌∷◌, List, ℕ, ap, append_assoc, arith, refl, sym}
use Rattle.debug_listing.proofs.BlockErrorLemmas.{source_ends, source_goes_on, source_stops}
use Rattle.debug_listing.proofs.source_listing.text_of_block.Goals as goal

pub returns-then-is_block_end : goal.returns-then-is_block_end
returns-then-is_block_end c =
    source_ends _ _ [] _ _ _ _ c.in-Some.ensures.line (grind arith) c.loop-line.invariant.text

pub loop-line-preserved : goal.loop-line-preserved
loop-line-preserved c = record {
  text = source_goes_on c.loop-line.text.items (c.loop-line.text.items ++ c.in-Some.line.now) _ _ c.in-Some.line.now [] _ _ _ _ _
      c.in-Some.ensures.line (grind arith) (grind arith) refl
      refl (c.in_ok-push_texts.ensures
      ∙ ap (λ (end : List ℕ). c.loop-line.text.items ++ (c.in-Some.line.now ++ (end ++ []))) c.as_slice.ensures
      ∙ sym (append_assoc c.loop-line.text.items c.in-Some.line.now (13 ∷ 10 ∷ []))) c.loop-line.invariant.text;
  later = grind arith;
}

pub returns : goal.returns
returns c = source_stops _ _ [] _ _ c.in_default.ensures.line c.loop-line.invariant.text

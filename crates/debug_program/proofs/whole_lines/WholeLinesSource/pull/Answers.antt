-- By the lemmas of WholeLinesLemmas.
use Rattle.std.proofs.Common.{arith, take}
use Rattle.debug_program.proofs.WholeLinesLemmas.{consumes_line_feed, consumes_piece}
use Rattle.debug_program.proofs.whole_lines.WholeLinesSource.pull.Goals as goal

pub returns-then-count-gt0-clause-bytes : goal.returns-then-count-gt0-clause-bytes
returns-then-count-gt0-clause-bytes g c = (
  consumes_piece _ _ _ _ (take c.in_ok-count.count c.pull.new.buffer) c.is_open_behind-self.ensures
      c.in_ok-count.ensures.bytes.0,
  λ none. absurd (omega (arith, none, c.if-count-gt0.true)),
)

pub returns-then-self-clause-bytes : goal.returns-then-self-clause-bytes
returns-then-self-clause-bytes g c = (
  consumes_line_feed _ _ _ c.in_ok-count.count _ c.if-self.true (omega (arith, c.if-count-gt0.false))
      (omega (arith, c.requires, c.pull.auto.buffer)) c.in_ok-count.ensures.bytes.0 c.in_ok-count.ensures.bytes.1,
  λ is. absurd (omega (arith, is)),
)

use Rattle.std.proofs.Common.{◌≡◌, ℕ, List, subst, sym, ◌∙◌}
use Rattle.std.specs.Prelude.{IfOk}
use Rattle.profile.specs.text_lines.WholeLines.{whole_lines}
use Rattle.debug_lines.proofs.BlockEndLemmas.{ends_all_read, ends_read_on}
use Rattle.debug_lines.proofs.block_ends.missing_ends.Goals as goal

pub loop-line-preserved : goal.loop-line-preserved
loop-line-preserved c =
    let l = c.loop-line in
    record {
      lines = ends_read_on l.reading c.read_line.new.self c.in-Some.line.now (whole_lines l.rest.now)
          (whole_lines c.in-Some.after.now) _ c.in-Some.ensures.lines c.in_ok-read_line.ensures l.invariant.lines;
      unended = sym c.in-Some.ensures.unended ∙ l.invariant.unended;
    }

pub returns : goal.returns
returns c =
    let l = c.loop-line in
    subst (λ (xs : List ℕ). IfOk c.ended.result (λ begins. begins.items ≡ xs))
    (ends_all_read l.reading c.args.text.now l.rest.now c.args.number c.args.is_all c.in_default.ensures.lines
    c.in_default.ensures.unended l.invariant.lines l.invariant.unended)
    c.ended.ensures

use Rattle.std.proofs.Common.{◌∙◌}
use Rattle.debug_modes.proofs.ExpectationsLemmas.ReportsLemmas.RemarkLemmas.{remark_more}
use Rattle.debug_modes.proofs.expectations.reports.reports.push_remarks.Goals as goal

pub loop-line-preserved : goal.loop-line-preserved
loop-line-preserved g c = record {
  text = remark_more _ _ _ _ _ _ _ c.loop-line.invariant.text c.in_ok-push_remark.ensures.text c.in-Some.ensures.line;
  same_flag = c.in_ok-push_remark.ensures.same_flag ∙ c.loop-line.invariant.same_flag;
}

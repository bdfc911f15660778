-- By the lemmas that are named.
use Rattle.std.proofs.Common.{ℕ, ◌-◌, [], ap, subst, ◌∙◌}
use Rattle.debug_tables.specs.Session.{script_state}
use Rattle.debug_runs.specs.Endings.{line_end_answer}
use Rattle.debug_runs.specs.TraceWriter.{more_text}
use Rattle.debug_runs.specs.Reported.{IsAnswerOn}
use Rattle.debug_runs.proofs.LineLemmas.{with_ending}
use Rattle.debug_runs.proofs.lines.print_run_end.Goals as goal

pub returns : goal.returns
returns c images =
    let s = script_state c.args.session.now images in
    let old = c.args.writer.now in
    let new = c.push_more.new.self in
    let taken = c.saturating_sub.ensures ∙ ap (λ (n : ℕ). c.args.left - n) (c.left.ensures images) in
    with_ending c.print_line_end.result (more_text c.args.reported (c.args.left - s.left)) (line_end_answer c.args.kind s c.args.end)
    (script_state c.print_line_end.new.session images) old new c.args.ending.now c.print_line_end.new.sink
    (subst (λ (n : ℕ). IsAnswerOn old new (more_text c.args.reported n) []) taken c.in_ok-push_more.ensures) (c.print_line_end.ensures images)

use Rattle.std.proofs.Common.{refl, ap, sym, ◌∙◌}
use Rattle.std.specs.Prelude.{is_err}
use Rattle.std.specs.Io.KnownBytes.{Appends}
use Rattle.profile.specs.Output.{AddsFront}
use Rattle.command_shell.specs.Error.{reading_end}
use Rattle.command_shell.specs.Fronts.{HasSome}
use Rattle.command_shell.specs.Session.{script_state}
use Rattle.command_shell.specs.State.{Answered, ScriptState}
use Rattle.command_shell.proofs.ImageLemmas.{at_err, none_added, none_written}
use Rattle.command_shell.proofs.ScriptLemmas.{part_answer, answer_of}
use Rattle.command_shell.proofs.WholeLemmas.{as_read_fault, is_error, line_not_read_fault, line_not_too_long, long_or_not, never_long, no_write_fault, not_ok, read_fault_of, same_error, too_long_of}
use Rattle.command_shell.proofs.script.run_script.Goals as goal

pub returns-clause-answers : goal.returns-clause-answers
returns-clause-answers g c = record {
  text = (let images = c.args.images.now in let start = script_state c.in-Ok.session images in answer_of (λ (t : Answered). Appends (g.W.Sink.contents c.args.writer.now) (g.W.Sink.contents c.answer_lines.new.sink) t.text) (g.R.Source.remaining c.args.reader.now) c.args.config images c.args.budget c.in_ok-script.script.items c.as_slice.result.now start c.new-lines.result c.in_ok-script.ensures.bytes c.as_slice.ensures.value (c.in-Ok.ensures images) c.new-lines.ensures c.in_ok-answer_lines.ensures.reported.text);
  all_images = (let images = c.args.images.now in let start = script_state c.in-Ok.session images in part_answer (λ (s : ScriptState). s.images) c.answer_lines.new.images (script_state c.answer_lines.new.self c.answer_lines.new.images) (g.R.Source.remaining c.args.reader.now) c.args.config images c.args.budget c.in_ok-script.script.items c.as_slice.result.now start c.new-lines.result c.in_ok-script.ensures.bytes c.as_slice.ensures.value (c.in-Ok.ensures images) c.new-lines.ensures c.in_ok-answer_lines.ensures.reported.state refl);
  same_flag = c.in_ok-answer_lines.ensures.same_flag;
  added = tt;
  memory = λ is. absurd (cc);
  read_answer = λ fails. absurd (let at = c.in_ok-script.ensures.reported fails in cc);
  read_fault = λ is. absurd (cc);
  write_answer = λ before after. absurd (let at = sym after ∙ c.in_ok-answer_lines.ensures.same_flag ∙ before in cc);
  write_fault = λ is. absurd (cc);
  too_long = λ is. absurd (cc);
  never_long = never_long (g.R.Source.remaining c.args.reader.now) c.in_ok-script.script.items _ c.in_ok-script.ensures.bytes c.in_ok-script.ensures.in_limit;
  few_pulls = c.in_ok-script.ensures.pulls;
}

pub returns-clause-last : goal.returns-clause-last
returns-clause-last g c =
    let images = c.args.images.now in
    let start = script_state c.in-Ok.session images in
    part_answer (λ (s : ScriptState). s.last) c.last.result (script_state c.answer_lines.new.self c.answer_lines.new.images)
    (g.R.Source.remaining c.args.reader.now) c.args.config images c.args.budget c.in_ok-script.script.items
    c.as_slice.result.now start c.new-lines.result c.in_ok-script.ensures.bytes c.as_slice.ensures.value
    (c.in-Ok.ensures images) c.new-lines.ensures
    c.in_ok-answer_lines.ensures.reported.state (c.last.ensures c.answer_lines.new.images)

pub returns-clause-left : goal.returns-clause-left
returns-clause-left g c =
    let images = c.args.images.now in
    let start = script_state c.in-Ok.session images in
    part_answer (λ (s : ScriptState). s.left) c.left.result (script_state c.answer_lines.new.self c.answer_lines.new.images)
    (g.R.Source.remaining c.args.reader.now) c.args.config images c.args.budget c.in_ok-script.script.items
    c.as_slice.result.now start c.new-lines.result c.in_ok-script.ensures.bytes c.as_slice.ensures.value
    (c.in-Ok.ensures images) c.new-lines.ensures
    c.in_ok-answer_lines.ensures.reported.state (c.left.ensures c.answer_lines.new.images)

pub returns-in_err-script-clause-answers : goal.returns-in_err-script-clause-answers
returns-in_err-script-clause-answers g c =
    let r = c.from_residual.result in
    let fails = c.from_residual.ensures.1 in
    let ends = is_error r (reading_end c.in_err-script.field-0.0) fails in
    record {
      text = not_ok r _ _ ends;
      all_images = not_ok r _ _ ends;
      same_flag = not_ok r _ _ ends;
      added = (at_err _ _ (none_added (g.R.Source.remaining c.args.reader.now) c.args.config c.args.images.now c.args.budget));
      memory = λ is. none_written (g.W.Sink.contents c.args.writer.now) (g.R.Source.remaining c.args.reader.now) c.args.config c.args.images.now c.args.budget;
      read_answer = λ failed. as_read_fault r c.read_script.result c.in_err-script.field-0.0 ends c.in_err-script.was (c.read_script.ensures.reported failed);
      read_fault = λ is. (c.read_script.ensures.read_fault (read_fault_of r c.read_script.result c.in_err-script.field-0.0 ends c.in_err-script.was is), refl, refl);
      write_answer = λ before after. absurd (let at = sym after ∙ before in cc);
      write_fault = λ is. absurd (no_write_fault r c.in_err-script.field-0.0 ends is);
      too_long = λ is. (refl, refl, c.read_script.ensures.too_long (too_long_of r c.read_script.result c.in_err-script.field-0.0 ends c.in_err-script.was is));
      never_long = long_or_not (g.R.Source.remaining c.args.reader.now) _ (ap is_err ends);
      few_pulls = c.in_err-script.ensures.pulls;
    }

pub returns-in_default-clause-answers : goal.returns-in_default-clause-answers
returns-in_default-clause-answers g c = record {
  text = tt;
  all_images = tt;
  same_flag = tt;
  added = (none_added (g.R.Source.remaining c.args.reader.now) c.args.config c.args.images.now c.args.budget);
  memory = λ is. none_written (g.W.Sink.contents c.args.writer.now) (g.R.Source.remaining c.args.reader.now) c.args.config c.args.images.now c.args.budget;
  read_answer = λ fails. absurd (let at = c.in_ok-script.ensures.reported fails in cc);
  read_fault = λ is. absurd (cc);
  write_answer = λ before after. absurd (let at = sym after ∙ before in cc);
  write_fault = λ is. absurd (cc);
  too_long = λ is. absurd (cc);
  never_long = long_or_not (g.R.Source.remaining c.args.reader.now) _ refl;
  few_pulls = c.in_ok-script.ensures.pulls;
}

pub returns-in_err-answer_lines-clause-answers : goal.returns-in_err-answer_lines-clause-answers
returns-in_err-answer_lines-clause-answers g c =
    let r = c.from_residual-in_err-answer_lines.result in
    let fails = c.from_residual-in_err-answer_lines.ensures.1 in
    let ends = is_error r c.in_err-answer_lines.field-0.0 fails in
    let lines = c.in_err-answer_lines.ensures in
    record {
      text = not_ok r _ _ ends;
      all_images = not_ok r _ _ ends;
      same_flag = not_ok r _ _ ends;
      added = (let images = c.args.images.now in let start = script_state c.in-Ok.session images in at_err _ _ (answer_of (λ (t : Answered). HasSome images t.state.images c.answer_lines.new.images) (g.R.Source.remaining c.args.reader.now) c.args.config images c.args.budget c.in_ok-script.script.items c.as_slice.result.now start c.new-lines.result c.in_ok-script.ensures.bytes c.as_slice.ensures.value (c.in-Ok.ensures images) c.new-lines.ensures c.in_err-answer_lines.ensures.added));
      memory = (let images = c.args.images.now in let start = script_state c.in-Ok.session images in λ is. answer_of (λ (t : Answered). AddsFront (g.W.Sink.contents c.args.writer.now) (g.W.Sink.contents c.answer_lines.new.sink) t.text) (g.R.Source.remaining c.args.reader.now) c.args.config images c.args.budget c.in_ok-script.script.items c.as_slice.result.now start c.new-lines.result c.in_ok-script.ensures.bytes c.as_slice.ensures.value (c.in-Ok.ensures images) c.new-lines.ensures (c.answer_lines.ensures.memory (same_error r c.answer_lines.result c.in_err-answer_lines.field-0.0 _ ends c.in_err-answer_lines.was is)));
      read_answer = λ fails. absurd (let at = c.in_ok-script.ensures.reported fails in cc);
      read_fault = λ is. absurd (line_not_read_fault r c.in_err-answer_lines.field-0.0 lines.errors ends is);
      write_answer = λ before after. same_error c.answer_lines.result r c.in_err-answer_lines.field-0.0 _ c.in_err-answer_lines.was ends (c.answer_lines.ensures.write_answer before after);
      write_fault = λ is. c.answer_lines.ensures.write_fault (same_error r c.answer_lines.result c.in_err-answer_lines.field-0.0 _ ends c.in_err-answer_lines.was is);
      too_long = λ is. absurd (line_not_too_long r c.in_err-answer_lines.field-0.0 lines.errors ends is);
      never_long = long_or_not (g.R.Source.remaining c.args.reader.now) _ (ap is_err ends);
      few_pulls = c.in_ok-script.ensures.pulls;
    }

-- The answer to a block that was assembled is that of its bytes, or of the line at fault.
use Rattle.std.proofs.Common.{◌≡◌, List, ℕ, Ok, ap, inl, refl, subst, sym, ◌∙◌}
use Rattle.std.specs.Prelude.{OnErr, OnOk, codes}
use Rattle.command_shell.specs.Answers.{line_refused_text}
use Rattle.command_shell.specs.Fronts.{AreOldOrAnswer}
use Rattle.command_shell.specs.Images.{asm_block}
use Rattle.command_shell.specs.Session.{script_state}
use Rattle.command_shell.specs.State.{Answered, IsAnswered, answer}
use Rattle.command_shell.proofs.FaultLemmas.{if_err_at, if_err_at_ok, never_memory, same_reason, written_answer, written_error, written_fault, written_so}
use Rattle.command_shell.proofs.ImageLemmas.{at_err}
use Rattle.command_shell.proofs.session.Session.asm_block.Goals as goal

pub returns-in-Ok : goal.returns-in-Ok
returns-in-Ok g c =
    let added = c.add_image.ensures in
    let is : c.args.answer.now ≡ Ok c.bytes.result.now = c.in-Ok.is ∙ ap (λ (bytes : List ℕ). Ok bytes) (sym c.bytes.ensures) in
    let same = sym (ap (asm_block (script_state c.args.self.now c.args.images.now) c.args.name.now) is) in
    record {
      reported = subst (λ (t : Answered). OnOk c.add_image.result (IsAnswered (g.W.Sink.contents c.args.sink.now)
          (g.W.Sink.contents c.add_image.new.sink) (script_state c.args.self.now c.add_image.new.images) t)) same added.reported;
      no_memory = λ at. absurd (let both = sym is ∙ at in cc);
      taking = if_err_at_ok c.args.answer.now c.bytes.result.now _ is;
      memory = added.memory;
      write_fault = added.write_fault;
      images = subst (λ (t : Answered). OnErr c.add_image.result (AreOldOrAnswer c.args.images.now c.add_image.new.images t)) same
          added.images;
      errors = added.errors;
      same_flag = added.same_flag;
    }

pub returns-in_default : goal.returns-in_default
returns-in_default g c =
    let s = script_state c.args.self.now c.args.images.now in
    let printed = c.print_line_refused.ensures in
    let done = c.print_line_refused.result in
    let r = c.written.result in
    let ends = c.written.ensures in
    let error = c.in-Err.error in
    let reason = c.as_bytes-reason.ensures.value ∙ c.reason_name.ensures in
    record {
      reported = written_answer done r (g.W.Sink.contents c.args.sink.now) (g.W.Sink.contents c.print_line_refused.new.sink) s
          (line_refused_text (codes "asm ") c.args.name.now error.line c.as_bytes-reason.result.now) _ ends
          (ap (asm_block s c.args.name.now) c.in-Err.is
          ∙ ap (λ (name : List ℕ). answer s (line_refused_text (codes "asm ") c.args.name.now error.line name)) (sym reason))
          printed.text;
      no_memory = λ at. absurd (c.in_default.not-Memory (same_reason c.args.answer.now error _ c.in-Err.is at));
      taking = if_err_at c.args.answer.now error _ c.in-Err.is (λ is. absurd (never_memory done r ends is));
      memory = λ is. absurd (never_memory done r ends is);
      write_fault = written_fault done r _ ends printed.flag;
      images = at_err _ _ (inl refl);
      errors = written_error done r ends;
      same_flag = written_so done r _ ends printed.same_flag;
    }

-- The answer to a block that was read is that of its bytes, or of the line at fault.
use Rattle.std.proofs.Common.{◌≡◌, List, ℕ, Ok, ap, inl, refl, subst, sym, ◌∙◌}
use Rattle.std.specs.Prelude.{OnErr, OnOk, codes, is_ok}
use Rattle.command_shell_lines.specs.Blocks.{result_of_block}
use Rattle.command_shell.specs.Answers.{line_refused_text}
use Rattle.command_shell.specs.Fronts.{AreOldOrAnswer}
use Rattle.command_shell.specs.Images.{hex_block}
use Rattle.command_shell.specs.Session.{script_state}
use Rattle.command_shell.specs.State.{Answered, IsAnswered}
use Rattle.command_shell.proofs.FaultLemmas.{never_memory, written_answer, written_error, written_fault, written_so}
use Rattle.command_shell.proofs.ImageLemmas.{at_err}
use Rattle.command_shell.proofs.session.Session.hex_block.Goals as goal

pub returns-in-Bytes : goal.returns-in-Bytes
returns-in-Bytes g c =
    let added = c.add_image.ensures in
    let read : result_of_block c.args.block.now ≡ Ok c.as_slice.result.now =
    ap result_of_block c.in-Bytes.is ∙ ap (λ (bytes : List ℕ). Ok bytes) (sym c.as_slice.ensures.value) in
    let same = sym (ap (hex_block (script_state c.args.self.now c.args.images.now) c.args.name.now) read) in
    record {
      reported = subst (λ (t : Answered). OnOk c.add_image.result (IsAnswered (g.W.Sink.contents c.args.sink.now)
          (g.W.Sink.contents c.add_image.new.sink) (script_state c.args.self.now c.add_image.new.images) t)) same added.reported;
      taking = λ _. ap is_ok read;
      memory = added.memory;
      write_fault = added.write_fault;
      images = subst (λ (t : Answered). OnErr c.add_image.result (AreOldOrAnswer c.args.images.now c.add_image.new.images t)) same
          added.images;
      errors = added.errors;
      same_flag = added.same_flag;
    }

pub returns-in-BadLine : goal.returns-in-BadLine
returns-in-BadLine g c =
    let s = script_state c.args.self.now c.args.images.now in
    let printed = c.print_line_refused.ensures in
    let done = c.print_line_refused.result in
    let r = c.written.result in
    let ends = c.written.ensures in
    record {
      reported = written_answer done r (g.W.Sink.contents c.args.sink.now) (g.W.Sink.contents c.print_line_refused.new.sink) s
          (line_refused_text (codes "hex ") c.args.name.now c.in-BadLine.line (codes "Syntax")) _ ends
          (ap (hex_block s c.args.name.now) (ap result_of_block c.in-BadLine.is)) printed.text;
      taking = λ is. absurd (never_memory done r ends is);
      memory = λ is. absurd (never_memory done r ends is);
      write_fault = written_fault done r _ ends printed.flag;
      images = at_err _ _ (inl refl);
      errors = written_error done r ends;
      same_flag = written_so done r _ ends printed.same_flag;
    }

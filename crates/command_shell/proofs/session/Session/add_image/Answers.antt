-- An image is added, or its refusal is shown.
use Rattle.std.proofs.Common.{◌≡◌, List, ℕ, ap, inl, inr, sym, length, ◌∙◌}
use Rattle.profile.specs.images.Entries.{Entry, refusal_for}
use Rattle.command_shell.specs.Answers.{image_refused_text, image_text}
use Rattle.command_shell.specs.Images.{image_added, image_sized}
use Rattle.command_shell.specs.Session.{script_state}
use Rattle.command_shell.specs.State.{Answered, answer}
use Rattle.command_shell.proofs.FaultLemmas.{never_memory, written_answer, written_error, written_fault, written_so}
use Rattle.command_shell.proofs.ImageLemmas.{at_err, is_refused, none_refused}
use Rattle.command_shell.proofs.session.Session.add_image.Goals as goal

pub returns-in-Ok : goal.returns-in-Ok
returns-in-Ok g c =
    let s = script_state c.args.self.now c.args.images.now in
    let word = c.args.word.now in
    let name = c.args.name.now in
    let bytes = c.args.bytes.now in
    let printed = c.print_image.ensures in
    let done = c.print_image.result in
    let r = c.written.result in
    let ends = c.written.ensures in
    let text = image_text word name (length bytes) in
    let added : image_sized s word name bytes
    ≡ answer (script_state c.args.self.now c.add.new.self) text =
    ap (image_added s word name bytes) (none_refused (refusal_for c.args.images.now name (length bytes)) c.add.result c.add.ensures.refused c.in-Ok.is)
    ∙ ap (λ (images : List Entry). answer (script_state c.args.self.now images) text) (sym c.in-Ok.ensures.ok) in
    record {
      reported = written_answer done r (g.W.Sink.contents c.args.sink.now) (g.W.Sink.contents c.print_image.new.sink)
          (script_state c.args.self.now c.add.new.self) text (image_sized s word name bytes) ends added printed.text;
      memory = λ is. absurd (never_memory done r ends is);
      write_fault = written_fault done r _ ends printed.flag;
      images = at_err _ _ (inr (ap (λ (t : Answered). t.state.images) (sym added)));
      errors = written_error done r ends;
      same_flag = written_so done r _ ends printed.same_flag;
    }

pub returns-in_default : goal.returns-in_default
returns-in_default g c =
    let s = script_state c.args.self.now c.args.images.now in
    let word = c.args.word.now in
    let name = c.args.name.now in
    let bytes = c.args.bytes.now in
    let printed = c.print_image_refused.ensures in
    let done = c.print_image_refused.result in
    let r = c.written-in_default.result in
    let ends = c.written-in_default.ensures in
    let text = image_refused_text word name c.as_bytes-reason.result.now in
    let refused : image_sized s word name bytes
    ≡ answer (script_state c.args.self.now c.add.new.self) text =
    ap (image_added s word name bytes) (is_refused (refusal_for c.args.images.now name (length bytes)) c.add.result c.in-Err.error c.add.ensures.refused c.in-Err.is c.in_default.not-Memory)
    ∙ ap (λ (reason : List ℕ). answer s (image_refused_text word name reason)) (sym (c.as_bytes-reason.ensures.value ∙ c.name.ensures))
    ∙ ap (λ (images : List Entry). answer (script_state c.args.self.now images) text) (sym c.in-Err.ensures.err) in
    record {
      reported = written_answer done r (g.W.Sink.contents c.args.sink.now) (g.W.Sink.contents c.print_image_refused.new.sink)
          (script_state c.args.self.now c.add.new.self) text (image_sized s word name bytes) ends refused printed.text;
      memory = λ is. absurd (never_memory done r ends is);
      write_fault = written_fault done r _ ends printed.flag;
      images = at_err _ _ (inl c.in-Err.ensures.err);
      errors = written_error done r ends;
      same_flag = written_so done r _ ends printed.same_flag;
    }

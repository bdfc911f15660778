-- The answer to an ASM line is a refusal by the name and the table, or that of its block.
use Rattle.std.proofs.Common.{◌≡◌, List, ℕ, None, Err, ap, inl, refl, subst, sym, take, ◌∙◌}
use Rattle.std.specs.Prelude.{OnErr, OnOk, codes}
use Rattle.profile.specs.images.Entries.{refusal_for}
use Rattle.profile.specs.text_lines.Lines.{ReadingPlace}
use Rattle.assembler.specs.Passes.{means_lines}
use Rattle.command_shell_lines.specs.Blocks.{block_lines}
use Rattle.command_shell.specs.Answers.{image_refused_text}
use Rattle.command_shell.specs.Fronts.{AreOldOrAnswer}
use Rattle.command_shell.specs.Images.{asm_answer, asm_block, image_opened}
use Rattle.command_shell.specs.Session.{script_state}
use Rattle.command_shell.specs.State.{Answered, IsAnswered, answer}
use Rattle.command_shell.proofs.FaultLemmas.{at_ok, never_memory, written_answer, written_error, written_fault, written_so}
use Rattle.command_shell.proofs.ImageLemmas.{assembled_answer, assembled_images, at_err, no_room}
use Rattle.command_shell.proofs.session.Session.asm.Goals as goal

pub returns-in-Some : goal.returns-in-Some
returns-in-Some g c =
    let s = script_state c.args.self.now c.args.images.now in
    let name = c.args.name.now in
    let lines = block_lines c.args.script.now.left in
    let printed = c.print_image_refused.ensures in
    let done = c.print_image_refused.result in
    let r = c.written.result in
    let ends = c.written.ensures in
    let reason = c.as_bytes-reason.ensures.value ∙ c.name.ensures in
    record {
      reported = written_answer done r (g.W.Sink.contents c.args.sink.now) (g.W.Sink.contents c.print_image_refused.new.sink) s
          (image_refused_text (codes "asm ") name c.as_bytes-reason.result.now) (asm_answer s name c.args.origin lines) ends
          (ap (image_opened s (codes "asm ") name (asm_block s name (means_lines lines c.args.origin)))
          (sym c.refusal.ensures ∙ c.in-Some.is)
          ∙ ap (λ (text : List ℕ). answer s (image_refused_text (codes "asm ") name text)) (sym reason))
          printed.text;
      taking = λ is. absurd (never_memory done r ends is);
      left = at_ok r _ c.skip_block-count.ensures.left;
      number = at_ok r _ c.skip_block-count.ensures.number;
      memory = λ is. absurd (never_memory done r ends is);
      write_fault = written_fault done r _ ends printed.flag;
      images = at_err _ _ (inl refl);
      errors = written_error done r ends;
      same_flag = written_so done r _ ends printed.same_flag;
    }

pub returns : goal.returns
returns g c =
    let s = script_state c.args.self.now c.args.images.now in
    let name = c.args.name.now in
    let origin = c.args.origin in
    let lines = block_lines c.args.script.now.left in
    let answered = c.asm_block.ensures in
    let r = c.asm_block.result in
    let a = c.assemble_lines-answer.result in
    let allowed : refusal_for c.args.images.now name 0 ≡ None = sym c.refusal.ensures ∙ c.in_default.is in
    let opened : asm_answer s name origin lines ≡ asm_block s name (means_lines lines origin) =
    ap (image_opened s (codes "asm ") name (asm_block s name (means_lines lines origin))) allowed in
    let read : take c.skip_block-count.result c.again-block.result.left ≡ lines =
    ap (λ (place : ReadingPlace). take c.skip_block-count.result place.left) c.again-block.ensures
    ∙ c.skip_block-count.ensures.front in
    let turns : (a ≡ Err no_room → ⊥) → a ≡ means_lines lines origin = λ other. c.assemble_lines-answer.ensures.below c.address.ensures.below other
    ∙ ap (λ (texts : List (List ℕ)). means_lines texts c.address.result) read ∙ ap (means_lines lines) c.address.ensures.value in
    record {
      reported = subst (λ (t : Answered). OnOk r (IsAnswered (g.W.Sink.contents c.args.sink.now)
          (g.W.Sink.contents c.asm_block.new.sink) (script_state c.args.self.now c.asm_block.new.images) t)) (sym opened)
          (assembled_answer r _ _ _ s name a (means_lines lines origin) turns answered.no_memory answered.reported);
      taking = λ _. allowed;
      left = at_ok r _ c.skip_block-count.ensures.left;
      number = at_ok r _ c.skip_block-count.ensures.number;
      memory = answered.memory;
      write_fault = answered.write_fault;
      images = subst (λ (t : Answered). OnErr r (AreOldOrAnswer c.args.images.now c.asm_block.new.images t)) (sym opened)
          (assembled_images r c.asm_block.new.images s name a (means_lines lines origin) turns answered.images);
      errors = answered.errors;
      same_flag = answered.same_flag;
    }

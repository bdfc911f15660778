-- The answer to a HEX line is a refusal by the name and the table, or that of its block.
use Rattle.std.proofs.Common.{◌≡◌, List, ℕ, None, ap, inl, refl, subst, sym, ◌∙◌}
use Rattle.std.specs.Prelude.{OnErr, OnOk, codes}
use Rattle.profile.specs.images.Entries.{refusal_for}
use Rattle.command_shell_lines.specs.Blocks.{block_bytes, block_lines, result_of_block}
use Rattle.command_shell.specs.Answers.{image_refused_text}
use Rattle.command_shell.specs.Fronts.{AreOldOrAnswer}
use Rattle.command_shell.specs.Images.{hex_answer, hex_block, image_opened}
use Rattle.command_shell.specs.Session.{script_state}
use Rattle.command_shell.specs.State.{Answered, IsAnswered, answer}
use Rattle.command_shell.proofs.FaultLemmas.{at_ok, never_memory, written_answer, written_error, written_fault, written_so}
use Rattle.command_shell.proofs.ImageLemmas.{at_err}
use Rattle.command_shell.proofs.session.Session.hex.Goals as goal

pub returns-in-Some : goal.returns-in-Some
returns-in-Some g c =
    let s = script_state c.args.self.now c.args.images.now in
    let name = c.args.name.now in
    let block = block_bytes 0 (block_lines c.args.script.now.left) in
    let printed = c.print_image_refused.ensures in
    let done = c.print_image_refused.result in
    let r = c.written.result in
    let ends = c.written.ensures in
    let reason = c.as_bytes-reason.ensures.value ∙ c.name.ensures in
    record {
      reported = written_answer done r (g.W.Sink.contents c.args.sink.now) (g.W.Sink.contents c.print_image_refused.new.sink) s
          (image_refused_text (codes "hex ") name c.as_bytes-reason.result.now) (hex_answer s name (block_lines c.args.script.now.left)) ends
          (ap (image_opened s (codes "hex ") name (hex_block s name block)) (sym c.refusal.ensures ∙ c.in-Some.is)
          ∙ ap (λ (text : List ℕ). answer s (image_refused_text (codes "hex ") name text)) (sym reason))
          printed.text;
      taking = λ is. absurd (never_memory done r ends is);
      left = at_ok r _ c.skip_block.ensures.left;
      number = at_ok r _ c.skip_block.ensures.number;
      memory = λ is. absurd (never_memory done r ends is);
      write_fault = written_fault done r _ ends printed.flag;
      images = at_err _ _ (inl refl);
      errors = written_error done r ends;
      same_flag = written_so done r _ ends printed.same_flag;
    }

pub returns-in-Ok : goal.returns-in-Ok
returns-in-Ok g c =
    let s = script_state c.args.self.now c.args.images.now in
    let name = c.args.name.now in
    let lines = block_lines c.args.script.now.left in
    let answered = c.hex_block.ensures in
    let r = c.hex_block.result in
    let allowed : refusal_for c.args.images.now name 0 ≡ None = sym c.refusal.ensures ∙ c.in_default.is in
    let same : hex_block s name (result_of_block c.in-Ok.block) ≡ hex_answer s name lines =
    ap (hex_block s name) c.in-Ok.ensures.block
    ∙ sym (ap (image_opened s (codes "hex ") name (hex_block s name (block_bytes 0 lines))) allowed) in
    record {
      reported = subst (λ (t : Answered). OnOk r (IsAnswered (g.W.Sink.contents c.args.sink.now)
          (g.W.Sink.contents c.hex_block.new.sink) (script_state c.args.self.now c.hex_block.new.images) t)) same answered.reported;
      taking = λ _. allowed;
      left = at_ok r _ c.in-Ok.ensures.left;
      number = at_ok r _ c.in-Ok.ensures.number;
      memory = answered.memory;
      write_fault = answered.write_fault;
      images = subst (λ (t : Answered). OnErr r (AreOldOrAnswer c.args.images.now c.hex_block.new.images t)) same answered.images;
      errors = answered.errors;
      same_flag = answered.same_flag;
    }

pub returns-in-Err : goal.returns-in-Err
returns-in-Err g c = record {
  reported = tt;
  taking = λ _. sym c.refusal.ensures ∙ c.in_default.is;
  left = tt;
  number = tt;
  memory = λ _. refl;
  write_fault = λ is. absurd (cc);
  images = inl refl;
  errors = tt;
  same_flag = tt;
}

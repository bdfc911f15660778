-- A line that opens no block is answered at once, whatever lines follow.
use Rattle.std.proofs.Common.{ℕ, ap, inl, refl, sym}
use Rattle.std.specs.Prelude.{is_none}
use Rattle.profile.proofs.OutputLemmas.{Appends-nothing}
use Rattle.command_shell_lines.specs.Blocks.{block_lines}
use Rattle.command_shell_lines.specs.Requests.{opens_block, request_of_command}
use Rattle.command_shell.specs.Answers.{unknown_text}
use Rattle.command_shell.specs.Session.{script_state}
use Rattle.command_shell.specs.State.{answer}
use Rattle.command_shell.proofs.AnswerLemmas.{shows_same, shows_text}
use Rattle.command_shell.proofs.AtOnceLemmas.{IsAtOnce, left_at_once, line_is, number_at_once}
use Rattle.command_shell.proofs.FaultLemmas.{at_ok, never_memory, written_error, written_fault, written_so}
use Rattle.command_shell.proofs.ImageLemmas.{at_err}
use Rattle.command_shell.proofs.session.Session.answer.Goals as goal
use Rattle.command_shell.proofs.session.Session.answer.Goals.{in-Nothing, in-Boot, in-Run, in-Regs, in-Poke, in-Call, in-Load, in-Step, in-Break, in-Unbreak, in-Mem, in-Code, in-Heap, in-Areas, in-Modules, in-Flex, in-Set, in-Unknown}

pub returns-in-Hex : goal.returns-in-Hex
returns-in-Hex g c =
    let done = c.hex.ensures in
    rw c.in-Hex.is (record {
      reported = done.reported;
      left = done.left;
      number = done.number;
      memory = done.memory;
      taking = λ is. ap is_none (done.taking is);
      write_fault = done.write_fault;
      images = done.images;
      errors = done.errors;
      same_flag = done.same_flag;
    })

pub returns-in-Asm : goal.returns-in-Asm
returns-in-Asm g c =
    let done = c.asm.ensures in
    rw c.in-Asm.is (record {
      reported = done.reported;
      left = done.left;
      number = done.number;
      memory = done.memory;
      taking = λ is. ap is_none (done.taking is);
      write_fault = done.write_fault;
      images = done.images;
      errors = done.errors;
      same_flag = done.same_flag;
    })

pub returns : goal.returns
returns g c =
    let images = c.args.images.now in
    let s = script_state c.args.self.now images in
    let number = c.args.script.now.number in
    let left = c.args.script.now.left in
    let opens = opens_block (request_of_command c.args.command) in
    let done = c.match-command.done in
    let r = c.written.result in
    let ends = c.written.ensures in
    let line : IsAtOnce g.W.Sink.contents g.W.Sink.has_failed c.args.sink.now s images number (block_lines left) done
    c.match-command.sink c.match-command.self c.args.command = elim c.match-command.branch [
      | in-Nothing w ↦ line_is _ _ _ _ _ _ _ _ _ _ _ _ _ _ _ w.done-is w.sink-is w.self-is w.in-Nothing.is (record {
        plain = refl;
        reported = record { text = Appends-nothing (g.W.Sink.contents c.args.sink.now); state = refl };
        flag = tt;
        same_flag = refl;
      })
      | in-Boot w ↦ line_is _ _ _ _ _ _ _ _ _ _ _ _ _ _ _ w.done-is w.sink-is w.self-is w.in-Boot.is
          (record { plain = refl; reported = w.boot-done.ensures.reported; flag = w.boot-done.ensures.flag; same_flag = w.boot-done.ensures.same_flag })
      | in-Run w ↦ line_is _ _ _ _ _ _ _ _ _ _ _ _ _ _ _ w.done-is w.sink-is w.self-is w.in-Run.is
          (record { plain = refl; reported = w.run-done.ensures.reported; flag = w.run-done.ensures.flag; same_flag = w.run-done.ensures.same_flag })
      | in-Regs w ↦ line_is _ _ _ _ _ _ _ _ _ _ _ _ _ _ _ w.done-is w.sink-is w.self-is w.in-Regs.is
          (record { plain = refl; reported = w.regs-done.ensures.reported images; flag = w.regs-done.ensures.flag; same_flag = w.regs-done.ensures.same_flag })
      | in-Poke w ↦ line_is _ _ _ _ _ _ _ _ _ _ _ _ _ _ _ w.done-is w.sink-is w.self-is w.in-Poke.is
          (record { plain = refl; reported = w.poke-done.ensures.reported images; flag = w.poke-done.ensures.flag; same_flag = w.poke-done.ensures.same_flag })
      | in-Call w ↦ line_is _ _ _ _ _ _ _ _ _ _ _ _ _ _ _ w.done-is w.sink-is w.self-is w.in-Call.is
          (record { plain = refl; reported = w.call-done.ensures.reported; flag = w.call-done.ensures.flag; same_flag = w.call-done.ensures.same_flag })
      | in-Load w ↦ line_is _ _ _ _ _ _ _ _ _ _ _ _ _ _ _ w.done-is w.sink-is w.self-is w.in-Load.is
          (record { plain = refl; reported = w.call-done-in-Load.ensures.reported; flag = w.call-done-in-Load.ensures.flag; same_flag = w.call-done-in-Load.ensures.same_flag })
      | in-Step w ↦ line_is _ _ _ _ _ _ _ _ _ _ _ _ _ _ _ w.done-is w.sink-is w.self-is w.in-Step.is
          (record { plain = refl; reported = w.step-done.ensures.reported; flag = w.step-done.ensures.flag; same_flag = w.step-done.ensures.same_flag })
      | in-Break w ↦ line_is _ _ _ _ _ _ _ _ _ _ _ _ _ _ _ w.done-is w.sink-is w.self-is w.in-Break.is
          (record { plain = refl; reported = w.break_at-done.ensures.reported images; flag = w.break_at-done.ensures.flag; same_flag = w.break_at-done.ensures.same_flag })
      | in-Unbreak w ↦ line_is _ _ _ _ _ _ _ _ _ _ _ _ _ _ _ w.done-is w.sink-is w.self-is w.in-Unbreak.is
          (record { plain = refl; reported = w.unbreak_at-done.ensures.reported images; flag = w.unbreak_at-done.ensures.flag; same_flag = w.unbreak_at-done.ensures.same_flag })
      | in-Mem w ↦ line_is _ _ _ _ _ _ _ _ _ _ _ _ _ _ _ w.done-is w.sink-is w.self-is w.in-Mem.is
          (record { plain = refl; reported = w.mem-done.ensures.reported images; flag = w.mem-done.ensures.flag; same_flag = w.mem-done.ensures.same_flag })
      | in-Code w ↦ line_is _ _ _ _ _ _ _ _ _ _ _ _ _ _ _ w.done-is w.sink-is w.self-is w.in-Code.is
          (record { plain = refl; reported = w.code-done.ensures.reported images; flag = w.code-done.ensures.flag; same_flag = w.code-done.ensures.same_flag })
      | in-Heap w ↦ line_is _ _ _ _ _ _ _ _ _ _ _ _ _ _ _ w.done-is w.sink-is w.self-is w.in-Heap.is
          (record { plain = refl; reported = w.heap-done.ensures.reported images; flag = w.heap-done.ensures.flag; same_flag = w.heap-done.ensures.same_flag })
      | in-Areas w ↦ line_is _ _ _ _ _ _ _ _ _ _ _ _ _ _ _ w.done-is w.sink-is w.self-is w.in-Areas.is
          (record { plain = refl; reported = w.areas-done.ensures.reported images; flag = w.areas-done.ensures.flag; same_flag = w.areas-done.ensures.same_flag })
      | in-Modules w ↦ line_is _ _ _ _ _ _ _ _ _ _ _ _ _ _ _ w.done-is w.sink-is w.self-is w.in-Modules.is
          (record { plain = refl; reported = w.modules-done.ensures.reported images; flag = w.modules-done.ensures.flag; same_flag = w.modules-done.ensures.same_flag })
      | in-Flex w ↦ line_is _ _ _ _ _ _ _ _ _ _ _ _ _ _ _ w.done-is w.sink-is w.self-is w.in-Flex.is
          (record { plain = refl; reported = w.flex-done.ensures.reported images; flag = w.flex-done.ensures.flag; same_flag = w.flex-done.ensures.same_flag })
      | in-Set w ↦ line_is _ _ _ _ _ _ _ _ _ _ _ _ _ _ _ w.done-is w.sink-is w.self-is w.in-Set.is (record {
        plain = refl;
        reported = record { text = Appends-nothing (g.W.Sink.contents c.args.sink.now); state = w.set.ensures images };
        flag = tt;
        same_flag = refl;
      })
      | in-Unknown w ↦ line_is _ _ _ _ _ _ _ _ _ _ _ _ _ _ _ w.done-is w.sink-is w.self-is w.in-Unknown.is (record {
        plain = refl;
        reported = shows_same w.print_unknown-done.result (g.W.Sink.contents c.args.sink.now)
            (g.W.Sink.contents w.print_unknown-done.new.sink) s (answer s (unknown_text w.number.result)) (answer s (unknown_text number))
            (ap (λ (n : ℕ). answer s (unknown_text n)) (sym w.number.ensures))
            (shows_text w.print_unknown-done.result (g.W.Sink.contents c.args.sink.now)
            (g.W.Sink.contents w.print_unknown-done.new.sink) s (unknown_text w.number.result) w.print_unknown-done.ensures.text);
        flag = w.print_unknown-done.ensures.flag;
        same_flag = w.print_unknown-done.ensures.same_flag;
      })
    ] in
    record {
      reported = written_so done r _ ends line.reported;
      left = at_ok r _ (left_at_once opens left line.plain);
      number = at_ok r _ (number_at_once opens number left line.plain);
      memory = λ is. absurd (never_memory done r ends is);
      taking = λ is. absurd (never_memory done r ends is);
      write_fault = written_fault done r _ ends line.flag;
      images = at_err _ _ (inl refl);
      errors = written_error done r ends;
      same_flag = written_so done r _ ends line.same_flag;
    }

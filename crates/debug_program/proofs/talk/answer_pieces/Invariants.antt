use Rattle.std.proofs.Common.{◌≡◌, false}
use Rattle.profile.specs.Devices.{device_failed, device_inner}
use Rattle.debug_program.specs.Talking.{HasTalked}
use Rattle.debug_program.proofs.talk.answer_pieces.Given as goal

-- All that was read is answered, as far as it is whole.
abbrev pub invariant-loop-pulls : goal.invariant-loop-pulls
invariant-loop-pulls g l = record {
  talked : HasTalked l.fn.typing l.typing l.fn.images l.images
      (g.R.Source.remaining l.fn.reader) (g.R.Source.remaining l.reader)
      (g.W.Write.contents (device_inner l.fn.writer)) (g.W.Write.contents (device_inner l.writer)) l.fn.is_terminal;
  read_flag : g.R.Source.has_failed l.fn.reader ≡ false → g.R.Source.has_failed l.reader ≡ false;
  same_flag : device_failed l.writer ≡ device_failed l.fn.writer;
}

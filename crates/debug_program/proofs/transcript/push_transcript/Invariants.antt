use Rattle.std.proofs.Common.{◌≡◌, length}
use Rattle.std.specs.Str.Lines.{lines}
use Rattle.debug_program.proofs.TranscriptLemmas.{TranscriptSoFar}
use Rattle.debug_program.proofs.transcript.push_transcript.Given as goal

-- the lines that were answered are a transcript, which stands written
abbrev pub invariant-script_lines : goal.invariant-script_lines
invariant-script_lines g l = record {
  transcript : TranscriptSoFar l.fn.setting l.fn.images l.script l.answering (g.W.Sink.contents l.fn.sink) (g.W.Sink.contents l.sink);
  rest : lines l.answering.rest.now ≡ l.answering.place.left;
  setting : l.answering.session.setting ≡ l.fn.setting;
  same_flag : g.W.Sink.has_failed l.sink ≡ g.W.Sink.has_failed l.fn.sink;
}

abbrev pub decreases-script_lines : goal.decreases-script_lines
decreases-script_lines g l = length l.answering.place.left

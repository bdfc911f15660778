use Rattle.std.proofs.Common.{◌≡◌, ℕ, inl, refl}
use Rattle.std.proofs.lemmas.Result.{IfOk-weaker, on_ok_weaker}
use Rattle.debug_session.specs.ExitStatus.{debug_status}
use Rattle.debug_program.specs.Transcript.{BeginsTranscript, debug_shown_in, WritesTranscript}
use Rattle.debug_program.proofs.ReadLemmas.{of_read, of_read_or}
use Rattle.debug_program.proofs.transcript.show_transcript.Goals as goal

pub returns-clause-text : goal.returns-clause-text
returns-clause-text g c =
    on_ok_weaker c.push_transcript.result
    (of_read (λ script. WritesTranscript c.args.setting c.args.images script _ _) _ c.in_ok-script.script.items
    c.as_slice.result.now c.as_slice.ensures.value c.in_ok-script.ensures.bytes) c.push_transcript.ensures.text

pub returns-clause-status : goal.returns-clause-status
returns-clause-status g c =
    IfOk-weaker c.push_transcript.result _ _
    (λ (status : ℕ). of_read (λ script. status ≡ debug_status (debug_shown_in c.args.setting c.args.images script).state) _
    c.in_ok-script.script.items c.as_slice.result.now c.as_slice.ensures.value c.in_ok-script.ensures.bytes)
    c.push_transcript.ensures.status

pub returns-in_err-script-clause-memory : goal.returns-in_err-script-clause-memory
returns-in_err-script-clause-memory g c = λ is. inl refl

pub returns-clause-memory : goal.returns-clause-memory
returns-clause-memory g c = λ is.
    of_read_or (λ script. BeginsTranscript c.args.setting c.args.images script _ _) _ _ c.in_ok-script.script.items
    c.as_slice.result.now c.as_slice.ensures.value c.in_ok-script.ensures.bytes (c.push_transcript.ensures.memory is)

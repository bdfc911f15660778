-- A line that means nothing is answered as by a script, and then why.
use Rattle.std.proofs.Common.{◌≡◌, ℕ, Bool, true, false, List, [], ◌++◌, append_assoc, ap, refl, sym, ◌∙◌}
use Rattle.std.proofs.lemmas.List.{append-nil}
use Rattle.std.specs.Prelude.{codes}
use Rattle.std.specs.Fmt.{decimal}
use Rattle.debug_modules.specs.ReportForm.{ReportForm}
use Rattle.debug_modules.specs.Reports.{report_of_refusal}
use Rattle.debug_modules.specs.ReportForm.TheVariants.{Answers}
use Rattle.debug_session.specs.AsBefore.{BlockAnsweredAsBefore, LineRefusedAsBefore, RefusedAsBefore}
use Rattle.debug_lines.specs.LineKinds.{is_refused_block}
use Rattle.debug_session.specs.DebugScript.{state_after_line, answer_or_refused}
use Rattle.debug_session.specs.DebugState.{DebugState}
use Rattle.debug_session.specs.Naming.{naming_of}
use Rattle.debug_modules.specs.OwnAnswers.{reasoned_text}
use Rattle.debug_session.specs.Refusals.{GoesOnBehind}
use Rattle.debug_session.specs.declared.session.DebugSettings.{DebugSettings}
use Rattle.debug_modules.specs.Reasons.{refusal_reason}
use Rattle.debug_modules.specs.BlockErrorTexts.{block_errors_text, text_with_errors}
use Rattle.command_shell_lines.specs.Requests.{Request}

line_refused : LineRefusedAsBefore
line_refused c d number words form =
    let reason = refusal_reason (naming_of d) words in
    record {
      reason = reason;
      script = sym (append_assoc (codes "? line ") (decimal number) (codes "\n"));
      debugging = ap (λ (f : ReportForm). report_of_refusal f d.tally number (reasoned_text number reason)) form
          ∙ sym (append_assoc (codes "? line ") (decimal number) (codes ": " ++ (reason ++ codes "\n")));
    }

-- an answer, refused or not, and what stands behind it
answer_by : (c : DebugSettings) (d after : DebugState) (number : ℕ) (r : Request) (block : List (List ℕ)) (text : List ℕ)
    (refused : Bool) → c.form ≡ Answers
    → GoesOnBehind text (answer_or_refused c d number refused after (text_with_errors refused number r block text)).text
answer_by c d after number r block text true form = record {
  more = block_errors_text number r block;
  debugging = rw form refl;
}
answer_by c d after number r block text false form = record { more = []; debugging = rw form (sym (append-nil text)) }

block_answered : BlockAnsweredAsBefore
block_answered c d number r reported block form =
    answer_by c d (state_after_line c d number r reported block) number r block reported.text
    (is_refused_block d.script.images reported.state.images r) form

pub refused_as_before : RefusedAsBefore
refused_as_before = (line_refused, block_answered)

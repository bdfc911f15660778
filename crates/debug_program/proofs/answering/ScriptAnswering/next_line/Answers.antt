use Rattle.std.proofs.Common.{◌≡◌, ◌+◌, ◌-◌, ℕ, List, ap, sym, refl, inl, inr, ◌∙◌, take, drop, arith}
use Rattle.command_shell_lines.specs.Blocks.{block_lines, lines_taken}
use Rattle.debug_session.specs.DebugScript.{debug_line_answer, line_opens}
use Rattle.debug_session.specs.DebugState.{DebugAnswered}
use Rattle.debug_session.specs.Session.{debug_state}
use Rattle.profile.specs.text_lines.Lines.{ReadingPlace}
use Rattle.debug_program.proofs.AnsweringLemmas.{debug_gathered, left_behind_line, place_is, with_block}
use Rattle.debug_program.specs.Answering.{place_after_line, place_of_answering, shown_with_block}
use Rattle.debug_program.specs.declared.answering.ScriptAnswering.{ScriptAnswering}
use Rattle.debug_program.proofs.answering.ScriptAnswering.next_line.Goals as goal

pub returns-clause-some : goal.returns-clause-some
returns-clause-some c =
    let before : ScriptAnswering = c.args.self.now in
    let line : List ℕ = c.in-Some.line.now in
    let behind : List (List ℕ) = c.next_line.new.self.left in
    let answered = c.in-Ok.ensures in
    let taken : ℕ = lines_taken (line_opens line) behind in
    let number : ℕ = c.next_line.new.self.number in
    let at : number ≡ before.place.number + 1 = c.in-Some.ensures.number in
    let shown_at : ℕ → DebugAnswered =
    λ n. shown_with_block before.session.setting (debug_state before.session before.images) n line behind in
    let first : DebugAnswered = shown_at (before.place.number + 1) in
    let same : shown_at number ≡ first = ap shown_at at in
    let reported = debug_gathered c.new-answer.result.bytes.items c.answer_line.new.sink.bytes.items c.into_bytes-answer.result.items
    (debug_state c.answer_line.new.self c.answer_line.new.images)
    (debug_line_answer before.session.setting (debug_state before.session before.images) number line (block_lines behind))
    (shown_at number) c.new-answer.ensures c.into_bytes-answer.ensures
    (with_block before.session.setting (debug_state before.session before.images) number line behind) answered.reported in
    let counted : c.answer_line.new.script.number ≡ before.place.number + 1 + taken =
    answered.number ∙ ap (λ (n : ℕ). n + taken) at in
    let passed : c.number.result - c.number-number.result ≡ 1 + taken =
    omega (arith, counted, c.number.ensures, c.number-number.ensures) in
    record {
      line = line;
      behind = behind;
      going = sym (c.has_quit.ensures before.images) ∙ c.if-has_quit.false;
      first = c.in-Some.ensures.line;
      own = c.cut_lines.ensures.first ∙ (λ i. take (passed i) (c.requires i));
      place = place_is _ (place_after_line (place_of_answering before) line behind first) counted
          (reported.state ∙ ap (λ (t : DebugAnswered). t.state) same) answered.left;
      answer = reported.text ∙ ap (λ (t : DebugAnswered). t.text) same;
    }

pub returns-clause-rest : goal.returns-clause-rest
returns-clause-rest c =
    let before : ScriptAnswering = c.args.self.now in
    let line : List ℕ = c.in-Some.line.now in
    let behind : List (List ℕ) = c.next_line.new.self.left in
    let answered = c.in-Ok.ensures in
    let taken : ℕ = lines_taken (line_opens line) behind in
    let counted : c.answer_line.new.script.number ≡ before.place.number + 1 + taken =
    answered.number ∙ ap (λ (n : ℕ). n + taken) c.in-Some.ensures.number in
    let passed : c.number.result - c.number-number.result ≡ 1 + taken =
    omega (arith, counted, c.number.ensures, c.number-number.ensures) in
    c.cut_lines.ensures.rest
    ∙ ap (drop (c.number.result - c.number-number.result)) c.requires
    ∙ left_behind_line before.place.left behind line (line_opens line) (c.number.result - c.number-number.result) c.in-Some.ensures.line passed
    ∙ sym answered.left

pub returns-then-has_quit-clause-none : goal.returns-then-has_quit-clause-none
returns-then-has_quit-clause-none c =
    (refl, inr (sym (c.has_quit.ensures c.args.self.now.images) ∙ c.if-has_quit.true))

pub returns-in_default-clause-none : goal.returns-in_default-clause-none
returns-in_default-clause-none c =
    (ap (λ (p : ReadingPlace). record c.args.self.now { place = p }) c.in_default.ensures.end, inl c.in_default.ensures.line)

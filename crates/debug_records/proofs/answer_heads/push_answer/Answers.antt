-- How steps ended is the answer that the session keeps.
use Rattle.std.proofs.Common.{◌≡◌, ◌++◌, List, ℕ, subst}
use Rattle.std.specs.Prelude.{OnOk}
use Rattle.debug_records.specs.AnswerHeads.{steps_field, text_field}
use Rattle.debug_records.proofs.answer_heads.push_answer.Goals as goal

pub returns-in-Steps : goal.returns-in-Steps
returns-in-Steps c = λ held.
    rw c.in-Steps.is
    (subst (λ (t : List ℕ). OnOk c.push_stepped.result (c.push_stepped.new.head.bytes.items
    ≡ c.args.head.now.bytes.items ++ (steps_field c.args.line.now.taken ++ text_field t))) (c.answer.ensures held)
    c.push_stepped.ensures)

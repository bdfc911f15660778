-- Part by part, as the definition says.
use Rattle.std.proofs.Common.{◌≡◌, ℕ, List, ◌++◌, [], subst, refl}
use Rattle.std.specs.Prelude.{OnOk, codes}
use Rattle.std.specs.Io.KnownBytes.{Appends}
use Rattle.std.proofs.lemmas.List.{append-nil}
use Rattle.gdb_machine.specs.StepEnds.{halted_line}
use Rattle.gdb_machine.proofs.step_ends.push_halted_by.Goals as goal

words_around_two : (a digits c name e a' c' e' : List ℕ) → a ≡ a' → c ≡ c' → e ≡ e'
    → a ++ (digits ++ (c ++ (name ++ (e ++ [])))) ≡ a' ++ (digits ++ (c' ++ (name ++ e')))
words_around_two a digits c name e a' c' e' first third last = rw (first, third, last, append-nil e') refl

pub returns : goal.returns
returns g c =
    let is : c.as_slice.result.now ++ (c.args.digits.now ++ (c.as_slice-2.result.now ++ (c.args.name.now ++ (c.as_slice-3.result.now ++ []))))
    ≡ halted_line c.args.digits.now c.args.name.now =
    words_around_two c.as_slice.result.now c.args.digits.now c.as_slice-2.result.now c.args.name.now c.as_slice-3.result.now
    (codes "rosm: halted at &") (codes " by ") (codes "; BACK, RESET, load or another pc wakes it\n")
    c.as_slice.ensures c.as_slice-2.ensures c.as_slice-3.ensures in
    record {
      text = subst (λ (t : List ℕ). OnOk c.push_parts.result (Appends (g.W.Sink.contents c.args.sink.now) (g.W.Sink.contents c.push_parts.new.sink) t)) is
          c.push_parts.ensures.text;
      flag = c.push_parts.ensures.flag;
      same_flag = c.push_parts.ensures.same_flag;
    }

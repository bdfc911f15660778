-- By the lemmas of `whole_line_steps`.
use Rattle.std.proofs.Common.{◌≡◌, ◌+◌, ◌-◌, ◌<◌, ℕ, List, length, take, drop, arith, sym, ◌∙◌, length-take, length-drop}
use Rattle.std.proofs.lemmas.List.Quantifiers.{position-Some}
use Rattle.std.specs.Prelude.{◌==◌}
use Rattle.profile.proofs.TextLinesLemmas.WholeLineLemmas.{whole_line_steps, one_at_place, ends_at_place}
use Rattle.profile.proofs.text_lines.lines.cut_line.Goals as goal

pub returns-in-Some-clause-lines : goal.returns-in-Some-clause-lines
returns-in-Some-clause-lines c = grind (arith, whole_line_steps)

pub returns-in-Some-clause-unended : goal.returns-in-Some-clause-unended
returns-in-Some-clause-unended c = grind (arith, whole_line_steps)

-- how long the line is, with its end
cut_off : (text : List ℕ) (place : ℕ) → place < length text
    → length text - length (take (length text - (place + 1)) (drop (place + 1) text)) ≡ place + 1
cut_off text place within =
    omega (arith, length-take (length text - (place + 1)) (drop (place + 1) text), length-drop (place + 1) text)

pub returns-in-Some-clause-one : goal.returns-in-Some-clause-one
returns-in-Some-clause-one c =
    let found = sym c.place_of.ensures ∙ c.in-Some.is in
    let within = position-Some (λ b. b == 10) c.args.text.now c.in-Some.place 0 found in
    let e = one_at_place c.args.text.now c.in-Some.place _ found (cut_off c.args.text.now c.in-Some.place within.0) in
    grind (arith, e)

pub returns-in-Some-clause-ends : goal.returns-in-Some-clause-ends
returns-in-Some-clause-ends c =
    let found = sym c.place_of.ensures ∙ c.in-Some.is in
    let within = position-Some (λ b. b == 10) c.args.text.now c.in-Some.place 0 found in
    ends_at_place c.args.text.now c.in-Some.place _ found (cut_off c.args.text.now c.in-Some.place within.0)

pub returns-in-None-clause-lines : goal.returns-in-None-clause-lines
returns-in-None-clause-lines c = grind (arith, whole_line_steps)

pub returns-in-None-clause-unended : goal.returns-in-None-clause-unended
returns-in-None-clause-unended c = grind (arith, whole_line_steps)

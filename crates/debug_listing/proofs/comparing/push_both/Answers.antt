-- Part by part.
use Rattle.std.proofs.Common.{◌++◌, ◌∙◌, ℕ, List, subst}
use Rattle.std.specs.Prelude.{codes}
use Rattle.profile.specs.Output.{Writes}
use Rattle.debug_listing.specs.Comparing.{compared_word}
use Rattle.debug_listing.proofs.ComparingLemmas.{written_on}
use Rattle.debug_listing.proofs.comparing.push_both.Goals as goal

pub returns : goal.returns
returns g c =
    let contents = g.W.Sink.contents in
    let failed = g.W.Sink.has_failed in
    let second : List ℕ = codes " | " ++ compared_word c.args.at c.args.second in
    let first : List ℕ = codes " " ++ compared_word c.args.at c.args.first in
    subst (λ (digits : List ℕ). Writes contents failed c.args.sink.now c.push_all-2.new.sink c.push_all-2.result
    (digits ++ (first ++ (second ++ codes "\n")))) (c.as_slice.ensures ∙ c.word.ensures)
    (written_on contents failed c.args.sink.now c.push_all.new.sink c.push_all-2.new.sink c.push_all-2.result
    c.as_slice.result.now (first ++ (second ++ codes "\n")) c.in_ok-push_all.ensures.text c.in_ok-push_all.ensures.same_flag
    (written_on contents failed c.push_all.new.sink c.push_word.new.sink c.push_all-2.new.sink c.push_all-2.result
    first (second ++ codes "\n") c.in_ok-push_word.ensures.text c.in_ok-push_word.ensures.same_flag
    (written_on contents failed c.push_word.new.sink c.push_word-2.new.sink c.push_all-2.new.sink c.push_all-2.result
    second (codes "\n") c.in_ok-push_word-2.ensures.text c.in_ok-push_word-2.ensures.same_flag
    (record {
      text = c.push_all-2.ensures.text;
      flag = c.push_all-2.ensures.flag;
      same_flag = c.push_all-2.ensures.same_flag;
    }))))

-- How many words differ is what was counted.
use Rattle.std.proofs.Common.{◌++◌, ◌/◌, ◌∙◌, ℕ, subst, take}
use Rattle.std.specs.List.{flat_map}
use Rattle.profile.specs.Output.{Writes}
use Rattle.debug_listing.specs.Comparing.{differences_counted, lengths_compared, line_of_word, words_of_both, words_that_differ}
use Rattle.debug_listing.proofs.ComparingLemmas.{written}
use Rattle.debug_listing.proofs.comparing.push_comparison.Goals as goal

pub returns : goal.returns
returns g c =
    let one = c.args.one.now in
    let other = c.args.other.now in
    let lines = flat_map (line_of_word one other) (take 16 (words_that_differ one other)) in
    subst (λ (n : ℕ). Writes g.W.Sink.contents g.W.Sink.has_failed c.args.sink.now c.push_lengths.new.sink c.push_lengths.result
    (lines ++ (differences_counted n (words_of_both one other) ++ lengths_compared one other))) c.in_ok-found.ensures.count
    (subst (λ (m : ℕ). Writes g.W.Sink.contents g.W.Sink.has_failed c.args.sink.now c.push_lengths.new.sink c.push_lengths.result
    (lines ++ (differences_counted c.in_ok-found.found (m / 4) ++ lengths_compared one other))) c.min-words.ensures
    (written g.W.Sink.contents g.W.Sink.has_failed c.args.sink.now c.push_differences.new.sink c.push_two.new.sink
    c.push_lengths.new.sink c.push_lengths.result lines (differences_counted c.in_ok-found.found (c.min-words.result / 4))
    (lengths_compared one other) c.in_ok-found.ensures.lines.text c.in_ok-push_two.ensures.text
    (c.in_ok-push_two.ensures.same_flag ∙ c.in_ok-found.ensures.lines.same_flag) c.push_lengths.ensures))

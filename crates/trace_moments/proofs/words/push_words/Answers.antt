-- The words, and how many there are more.
use Rattle.std.proofs.Common.{List, take, length, subst}
use Rattle.trace_effects.specs.declared.shown_words.words.ShownWord.{ShownWord}
use Rattle.trace_moments.specs.Fields.{HasMore}
use Rattle.trace_moments.specs.WordFields.{more_words, some_words}
use Rattle.trace_moments.proofs.FieldLemmas.{most_taken, then_more}
use Rattle.trace_moments.proofs.words.push_words.Goals as goal

pub returns : goal.returns
returns c =
    let ws = c.args.words.now in
    then_more c.args.text.now c.push_some_words.new.text c.push_more.new.text (some_words (take 4096 ws)) (more_words (length ws))
    (subst (λ (xs : List ShownWord). HasMore c.args.text.now c.push_some_words.new.text (some_words xs)) (most_taken ws c.min-reported.result c.min-reported.ensures)
    c.in_ok-push_some_words.ensures)
    c.in_ok-push_more.ensures

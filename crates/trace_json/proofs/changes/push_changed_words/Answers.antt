-- The words that differ, replayed, are those after.
use Rattle.trace_json.proofs.MomentLemmas.{words_between}
use Rattle.trace_json.proofs.changes.push_changed_words.Goals as goal

pub returns : goal.returns
returns c =
    words_between _ _ _ _ c.as_slice.result.now c.in_ok-words.words.items c.args.text.now c.push_words.new.text
    c.memory.ensures.bytes c.memory-2.ensures.bytes c.as_slice.ensures.value c.in_ok-words.ensures.replays c.in_ok-push_words.ensures

use Rattle.arm_step.specs.Memory.{bytes_of}
use Rattle.trace_effects.proofs.ShownWordsLemmas.WordLemmas.{is_unmapped, no_word, word_is_loaded}
use Rattle.trace_effects.proofs.shown_words.words.word_in.Goals as goal

pub returns-in-Ok : goal.returns-in-Ok
returns-in-Ok c = word_is_loaded (bytes_of c.args.memory.now) c.args.at c.in-Ok.word c.requires c.in-Ok.ensures

pub returns-in-Err : goal.returns-in-Err
returns-in-Err c = no_word c.args.memory.now c.args.at c.requires (is_unmapped c.args.memory.now c.args.at c.in-Err.field-0 c.requires c.in-Err.ensures)

use Rattle.std.proofs.Common.{refl, sym, ◌∙◌}
use Rattle.os_heap_words.proofs.Writing.{word_mapped}
use Rattle.os_heap_words.proofs.words.word.Goals as goal

pub unwrap-requires : goal.unwrap-requires
unwrap-requires c =
    let e = c.load_word.ensures ∙ word_mapped c.args.map.now c.args.at c.requires.aligned c.requires.mapped in
    rw e refl

pub returns : goal.returns
returns c =
    let e = sym c.unwrap.ensures ∙ c.load_word.ensures ∙ word_mapped c.args.map.now c.args.at c.requires.aligned c.requires.mapped in
    cc

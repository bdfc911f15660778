-- By the lemmas that are named.
use Rattle.std.proofs.Common.{arith, refl, sym, ◌∙◌}
use Rattle.std.proofs.lemmas.Grind.{common_steps}
use Rattle.trace_effects.specs.Memory.{bytes_of}
use Rattle.profile.specs.Sums.{address_further}
use Rattle.trace_text.specs.Strings.{characters_at}
use Rattle.trace_text.proofs.StringLemmas.{character_ends, character_more, characters_done}
use Rattle.trace_text.proofs.strings.characters_at.Goals as goal

pub loop-count-preserved : goal.loop-count-preserved
loop-count-preserved c =
    let b = bytes_of c.args.memory.now in
    record {
      characters = rw c.push.ensures.items
          (character_more b c.loop-count.at (address_further c.loop-count.at 1) 40 c.loop-count._count c.in-Some.byte
          c.loop-count.characters.items (characters_at b c.args.first 40) c.loop-count-test.true
          (sym c.character_at.ensures ∙ c.in-Some.is) refl c.loop-count.invariant.characters);
      few = grind (arith, common_steps);
    }

pub returns : goal.returns
returns c =
    let b = bytes_of c.args.memory.now in
    characters_done b c.loop-count.at 40 c.loop-count._count c.loop-count.characters.items (characters_at b c.args.first 40)
    c.loop-count-test.false c.loop-count.invariant.characters

pub returns-in-None : goal.returns-in-None
returns-in-None c =
    let b = bytes_of c.args.memory.now in
    character_ends b c.loop-count.at 40 c.loop-count._count c.loop-count.characters.items (characters_at b c.args.first 40)
    c.loop-count-test.true (sym c.character_at.ensures ∙ c.in-None.is) c.loop-count.invariant.characters

use Rattle.std.proofs.Common.{◌∙◌, sym}
use Rattle.instances.proofs.TidyingLemmas.FoundBlocks.{are_found, found_few, found_movable, none_movable}
use Rattle.instances.proofs.tidying.movable.movable_blocks.Goals as goal

pub choose-requires-clause-below : goal.choose-requires-clause-below
choose-requires-clause-below c =
    (are_found c.args.map.now c.in-Some.blocks c.requires.sound (sym c.blocks-2.ensures ∙ c.in-Some.is)).below

pub choose-requires-clause-few : goal.choose-requires-clause-few
choose-requires-clause-few c =
    found_few c.args.map.now c.args.table.now c.args.words.now c.args.return_address c.in-Some.blocks
    (are_found c.args.map.now c.in-Some.blocks c.requires.sound (sym c.blocks-2.ensures ∙ c.in-Some.is)) c.requires.modules c.requires.few

pub returns-in-Some : goal.returns-in-Some
returns-in-Some c =
    c.choose.ensures ∙ sym (found_movable c.args.map.now c.args.table.now c.args.words.now c.args.return_address c.in-Some.blocks
    (are_found c.args.map.now c.in-Some.blocks c.requires.sound (sym c.blocks-2.ensures ∙ c.in-Some.is)))

pub returns-in-None : goal.returns-in-None
returns-in-None c =
    c.new-in-None.ensures
    ∙ sym (none_movable c.args.map.now c.args.table.now c.args.words.now c.args.return_address (sym c.blocks-2.ensures ∙ c.in-None.is))

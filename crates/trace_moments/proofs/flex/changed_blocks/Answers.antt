-- What is listed at the end is all.
use Rattle.std.proofs.Common.{◌≡◌, ◌++◌, List, [], sym, subst, ◌∙◌, arith, rules}
use Rattle.std.specs.List.{flat_map}
use Rattle.std.proofs.lemmas.List.{append-nil}
use Rattle.flex_store.specs.Listed.{all_listed}
use Rattle.flex_store.specs.State.{flex_in}
use Rattle.flex_store.specs.declared.blocks.FlexBlock.{FlexBlock}
use Rattle.trace_moments.specs.Flex.{AreFlexChanges, blocks_by_anchor}
use Rattle.trace_moments.specs.declared.flex.FlexChange.{FlexChange}
use Rattle.trace_moments.proofs.FlexLemmas.{flex_listed, kept, listed}
use Rattle.trace_moments.proofs.flex.changed_blocks.Goals as goal

pub returns : goal.returns
returns c =
    let olds = all_listed (flex_in c.args.before.now c.args.old.now.extent) in
    let news = all_listed (flex_in c.args.after.now c.args.new.now.extent) in
    let none : c.loop-block.news ≡ [] = search rules in
    let all : c.loop-block.changes.items ≡ listed olds news =
    sym (append-nil c.loop-block.changes.items)
    ∙ subst (λ (rest : List FlexBlock). c.loop-block.changes.items ++ flat_map (kept olds) rest ≡ listed olds news) none c.loop-block.invariant in
    subst (λ (cs : List FlexChange). AreFlexChanges (blocks_by_anchor c.args.before.now c.args.old.now) (blocks_by_anchor c.args.after.now c.args.new.now) cs)
    (sym all) (flex_listed c.args.before.now c.args.after.now c.args.old.now c.args.new.now c.requires.old c.requires.new)

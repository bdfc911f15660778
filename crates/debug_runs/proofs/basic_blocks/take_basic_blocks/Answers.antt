-- By the lemmas that are named.
use Rattle.std.proofs.Common.{◌≡◌, ◌⊎◌, inl, inr, ◌-◌, ◌+◌, ◌<◌, ◌≤◌, ℕ, true, false, not, [], None, Some, refl, sym, ap, subst, ◌∙◌, arith}
use Rattle.debug_tables.specs.GuestState.{state_of}
use Rattle.debug_tables.specs.Session.{script_state}
use Rattle.debug_tables.specs.State.{ScriptState}
use Rattle.debug_runs.specs.BasicBlocks.{RunsOnBehind}
use Rattle.debug_runs.proofs.BasicBlockLemmas.{block_more, block_there, calm_if_empty, none_more}
use Rattle.debug_runs.proofs.BlockRunLemmas.{none_behind}
use Rattle.debug_runs.proofs.basic_blocks.take_basic_blocks.Goals as goal

pub loop-left-init : goal.loop-left-init
loop-left-init c = record {
  so_far = λ images labels reported untold.
      (let s = script_state c.args.session.now images in
      let none : 0 ≡ c.args.most - c.args.most = omega arith in
      subst (λ (n : ℕ). RunsOnBehind c.args.modes.now labels c.args.goal reported c.args.most s c.args.counts.now n None s c.args.counts.now) none
      (none_behind c.args.modes.now labels c.args.goal reported c.args.most s c.args.counts.now));
  few = omega arith;
  enough = c.requires.enough;
  unhalted = c.requires.unhalted;
}

pub loop-left-preserved : goal.loop-left-preserved
loop-left-preserved c = record {
  so_far = λ images labels reported untold.
      (let s = script_state c.args.session.now images in
      let mid = script_state c.loop-left.session images in
      let now = script_state c.take_basic_block-taken.new.session images in
      block_more c.args.modes.now labels c.args.goal reported (not c.is_empty.result) c.basic_block_ahead-block.result c.args.most c.loop-left.left c.take_basic_block-taken.result s mid now
      c.args.counts.now c.loop-left.counts c.count_basic_block.new.counts None untold c.take_basic_block-taken.ensures.count c.loop-left.invariant.few c.loop-left.invariant.unhalted
      (calm_if_empty c.is_empty.result c.args.modes.now.watches (λ is. c.is_empty.ensures.0 is)) (block_there c.is_empty.result _ _ c.basic_block_ahead-block.result c.machine.ensures c.basic_block_ahead-block.ensures) (c.take_basic_block-taken.ensures.taken images) c.in_ok-count_basic_block.ensures
      (sym c.in_default.is ∙ c.end_of_unseen.ensures images) (c.loop-left.invariant.so_far images labels reported untold));
  few = omega arith;
  enough = (let after = c.take_basic_block-taken.ensures.taken [] in
      let left = ap (λ (w : ScriptState). w.left) after.state in
      let enough = c.loop-left.invariant.enough in
      omega (arith, left, enough));
  unhalted = (let after = c.take_basic_block-taken.ensures.taken [] in after.unhalted);
}

pub take_basic_block-taken-requires-clause-inside : goal.take_basic_block-taken-requires-clause-inside
take_basic_block-taken-requires-clause-inside c = c.basic_block_ahead-block.ensures.inside

pub count_basic_block-requires-clause-some : goal.count_basic_block-requires-clause-some
count_basic_block-requires-clause-some c =
    let after = c.take_basic_block-taken.ensures.taken [] in after.some (omega (arith, c.if-taken-eq0.false))

pub returns-then-taken-eq0 : goal.returns-then-taken-eq0
returns-then-taken-eq0 c images labels reported untold =
    let s = script_state c.args.session.now images in
    let mid = script_state c.loop-left.session images in
    let now = script_state c.take_basic_block-taken.new.session images in
    none_more c.args.modes.now labels c.args.goal reported (not c.is_empty.result) c.basic_block_ahead-block.result c.args.most c.loop-left.left c.take_basic_block-taken.result s mid now
    c.args.counts.now c.loop-left.counts c.if-taken-eq0.true untold c.loop-left.invariant.few c.loop-left.invariant.unhalted
    (calm_if_empty c.is_empty.result c.args.modes.now.watches (λ is. c.is_empty.ensures.0 is)) (block_there c.is_empty.result _ _ c.basic_block_ahead-block.result c.machine.ensures c.basic_block_ahead-block.ensures)
    (c.take_basic_block-taken.ensures.taken images) (c.loop-left.invariant.so_far images labels reported untold)

pub returns-in-Some : goal.returns-in-Some
returns-in-Some c images labels reported untold =
    let s = script_state c.args.session.now images in
    let mid = script_state c.loop-left.session images in
    let now = script_state c.take_basic_block-taken.new.session images in
    block_more c.args.modes.now labels c.args.goal reported (not c.is_empty.result) c.basic_block_ahead-block.result c.args.most c.loop-left.left c.take_basic_block-taken.result s mid now
    c.args.counts.now c.loop-left.counts c.count_basic_block.new.counts (Some c.in-Some.end) untold c.take_basic_block-taken.ensures.count c.loop-left.invariant.few c.loop-left.invariant.unhalted
    (calm_if_empty c.is_empty.result c.args.modes.now.watches (λ is. c.is_empty.ensures.0 is)) (block_there c.is_empty.result _ _ c.basic_block_ahead-block.result c.machine.ensures c.basic_block_ahead-block.ensures)
    (c.take_basic_block-taken.ensures.taken images) c.in_ok-count_basic_block.ensures (sym c.in-Some.is ∙ c.end_of_unseen.ensures images)
    (c.loop-left.invariant.so_far images labels reported untold)

use Rattle.std.proofs.Common.{refl, ◌∙◌, ap}
use Rattle.std.proofs.lemmas.Result.{err_from_is_err_and}
use Rattle.address_map.specs.Memory.{bytes_of, is_owned}
use Rattle.arm_step.specs.Blocks.{with_block_base}
use Rattle.arm_step.proofs.PageBlocks.{block_refused, block_done}
use Rattle.arm_step.proofs.page_block.store_to_page.Goals as goal

pub returns-in_err-at-clause-state : goal.returns-in_err-at-clause-state
returns-in_err-at-clause-state c =
    let p = err_from_is_err_and c.from_residual.result c.from_residual.ensures.1 in
    let m = c.args.memory.now in
    let count = c.size_of.ensures.size in
    let fault = rw count at c.in_err-at.ensures in
    rw (p.1, p.2, block_refused (is_owned m) c.args.cpu.now (bytes_of m) c.args.block.now c.args.first _ c.requires.first fault) (refl, refl)

pub returns-clause-state : goal.returns-clause-state
returns-clause-state c =
    let m = c.args.memory.now in
    let free = rw c.size_of.ensures.size at c.in_ok-at.ensures in
    let base = c.write_block_base.ensures ∙ ap (λ s. with_block_base s c.args.block.now c.args.base) c.advance.ensures in
    rw (block_done (is_owned m) c.args.cpu.now (bytes_of m) c.args.block.now c.args.first c.args.base c.requires.first c.requires.base free.0)
    (λ i. (base i, c.put_registers.ensures.bytes i))

-- By the lemmas that are named.
use Rattle.std.proofs.Common.{◌≡◌, ◌<◌, ◌≤◌, ◌+◌, ◌*◌, true, sym, ap, ◌∙◌, arith}
use Rattle.debug_tables.specs.Session.{script_state}
use Rattle.law_machine.specs.Value.{MachineValue}
use Rattle.debug_tables.specs.GuestState.{state_of}
use Rattle.debug_runs.specs.BasicBlocks.{stays_short}
use Rattle.debug_runs.proofs.BasicBlockLemmas.{loop_taken, none_taken, row_taken}
use Rattle.debug_runs.proofs.basic_blocks.take_basic_block.Goals as goal

pub returns-then-block-eq0-clause-taken : goal.returns-then-block-eq0-clause-taken
returns-then-block-eq0-clause-taken c images =
    none_taken c.args.goal c.args.block (script_state c.args.session.now images) c.requires.unhalted

pub returns-then-block-clause-taken : goal.returns-then-block-clause-taken
returns-then-block-clause-taken c images =
    let s = script_state c.args.session.now images in
    let some : 0 < c.args.block.count = omega (arith, c.if-block-eq0.false) in
    let short : stays_short c.args.goal (c.args.block.start + 4 * c.args.block.count) s.machine ≡ true =
    ap (λ (m : MachineValue). stays_short c.args.goal (c.args.block.start + 4 * c.args.block.count) (state_of m.guest)) (sym c.machine.ensures)
    ∙ (sym c.stays_short.ensures ∙ c.if-not-stays_short.false) in
    loop_taken c.args.goal c.args.block s (script_state c.take_up_to.new.session images) c.take_up_to.result
    (c.take_up_to.ensures.taken images) some short c.if-block.true

pub returns-clause-taken : goal.returns-clause-taken
returns-clause-taken c images =
    let s = script_state c.args.session.now images in
    let some : 0 < c.args.block.count = omega (arith, c.if-block-eq0.false) in
    let short : stays_short c.args.goal (c.args.block.start + 4 * c.args.block.count) s.machine ≡ true =
    ap (λ (m : MachineValue). stays_short c.args.goal (c.args.block.start + 4 * c.args.block.count) (state_of m.guest)) (sym c.machine.ensures)
    ∙ (sym c.stays_short.ensures ∙ c.if-not-stays_short.false) in
    let count = c.take_silent_steps.ensures.count in
    let few : c.take_silent_steps.result.taken ≤ c.args.block.count = omega (arith, count, c.min.ensures, c.from.ensures) in
    row_taken c.args.goal c.args.block s (script_state c.take_silent_steps.new.self images) c.take_silent_steps.result.taken c.take_silent_steps.result.stop
    (c.take_silent_steps.ensures.taken images) few some short c.if-block.false

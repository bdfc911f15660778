-- By the lemmas that are named.
use Rattle.std.proofs.Common.{◌≡◌, ◌≢◌, ◌<◌, ◌≤◌, ◌+◌, ◌*◌, ◌%◌, ◌^◌, ◌∙◌, Ok, sym, ap, subst, refl, true, false, arith}
use Rattle.address_map.specs.Bytes.{Bytes, word_loaded}
use Rattle.address_map.specs.Memory.{bytes_of}
use Rattle.debug_tables.specs.declared.step_words.WordFlow.TheVariants.{Branches, Anywhere, Stores}
use Rattle.debug_runs.specs.BasicBlocks.{IsBasicBlock}
use Rattle.debug_runs.proofs.BasicBlockLemmas.{loaded_below, one_more, whole_block}
use Rattle.debug_runs.proofs.basic_blocks.basic_block_ahead.Goals.{in_default-word_flow-via-in-Stores+else-stays, in_default-word_flow-via-in-Branches+then-to-row+else-at-lt-ADDRESS_LIMIT, in_default-word_flow-via-in-Branches+else-to-row, in_default-word_flow-via-in_default-word_flow}
use Rattle.debug_runs.proofs.basic_blocks.basic_block_ahead.Goals as goal

pub loop-row-preserved : goal.loop-row-preserved
loop-row-preserved c =
    let b = bytes_of c.memory-memory.result.now in
    let n = c.loop-row.row.count in
    let start = c.loop-row.row.start in
    let aligned = c.loop-row.invariant.aligned in
    let four : (start + 4 * n) % 4 ≡ 0 = omega (arith, aligned) in
    let there : word_loaded b (start + 4 * n) ≡ Ok c.in-Ok.word = sym c.load_word.ensures ∙ c.in-Ok.is in
    let below = loaded_below b (start + 4 * n) c.in-Ok.word four there in
    record {
      start = c.loop-row.invariant.start;
      aligned = aligned;
      below = c.loop-row.invariant.below;
      few = omega arith;
      forward = c.loop-row.invariant.forward;
      inside = omega (arith, below);
      straight = one_more b start n c.in-Ok.word there (sym c.word_flow.ensures ∙ c.in-Straight.is) c.loop-row.invariant.straight;
    }

pub returns-in-Branches : goal.returns-in-Branches
returns-in-Branches c =
    let b = bytes_of c.memory-memory.result.now in
    let n = c.loop-row.row.count in
    let start = c.loop-row.row.start in
    let aligned = c.loop-row.invariant.aligned in
    let four : (start + 4 * n) % 4 ≡ 0 = omega (arith, aligned) in
    let there : word_loaded b (start + 4 * n) ≡ Ok c.in-Ok.word = sym c.load_word.ensures ∙ c.in-Ok.is in
    let below = loaded_below b (start + 4 * n) c.in-Ok.word four there in
    let near = c.if-at-lt-ADDRESS_LIMIT.true in
    subst (λ (x : Bytes). IsBasicBlock c.args.stays x c.args.machine.now.guest.cpu.pc (record { start = start; count = n + 1; is_loop = true }))
    c.memory-memory.ensures.bytes
    (whole_block c.args.stays b c.args.machine.now.guest.cpu.pc n (record { start = start; count = n + 1; is_loop = true }) c.in-Ok.word (Branches c.in-Branches.to)
    c.loop-row.invariant.start aligned refl (omega (arith, below)) there (sym c.word_flow.ensures ∙ c.in-Branches.is) (λ is same. absurd (cc))
    (λ loop. (ap Branches c.if-to-row.true, omega (arith, near))) c.loop-row.invariant.straight)

pub returns-in_default-word_flow : goal.returns-in_default-word_flow
returns-in_default-word_flow c =
    let b = bytes_of c.memory-memory.result.now in
    let n = c.loop-row.row.count in
    let start = c.loop-row.row.start in
    let aligned = c.loop-row.invariant.aligned in
    let four : (start + 4 * n) % 4 ≡ 0 = omega (arith, aligned) in
    let there : word_loaded b (start + 4 * n) ≡ Ok c.in-Ok.word = sym c.load_word.ensures ∙ c.in-Ok.is in
    let below = loaded_below b (start + 4 * n) c.in-Ok.word four there in
    let quiet : c.args.stays ≡ true → c.word_flow.result ≢ Stores = elim c.in_default-word_flow.branch [
      | in_default-word_flow-via-in-Stores+else-stays w ↦ λ is same. (let no : true ≡ false = sym is ∙ w.if-stays.false in absurd (cc))
      | in_default-word_flow-via-in-Branches+then-to-row+else-at-lt-ADDRESS_LIMIT w ↦ λ is same. (let no : Branches w.in-Branches.to ≡ Stores = sym w.in-Branches.is ∙ same in absurd (cc))
      | in_default-word_flow-via-in-Branches+else-to-row w ↦ λ is same. (let no : Branches w.in-Branches.to ≡ Stores = sym w.in-Branches.is ∙ same in absurd (cc))
      | in_default-word_flow-via-in_default-word_flow w ↦ λ is same. w.in_default-word_flow.not-Stores same
    ] in
    subst (λ (x : Bytes). IsBasicBlock c.args.stays x c.args.machine.now.guest.cpu.pc (record { start = start; count = n + 1; is_loop = c.loop-row.row.is_loop }))
    c.memory-memory.ensures.bytes
    (whole_block c.args.stays b c.args.machine.now.guest.cpu.pc n (record { start = start; count = n + 1; is_loop = c.loop-row.row.is_loop }) c.in-Ok.word c.word_flow.result
    c.loop-row.invariant.start aligned refl (omega (arith, below)) there (sym c.word_flow.ensures) quiet
    (λ loop. (let no : true ≡ false = sym loop ∙ c.loop-row.invariant.forward in absurd (cc))) c.loop-row.invariant.straight)

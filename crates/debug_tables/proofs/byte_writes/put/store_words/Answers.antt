use Rattle.std.proofs.Common.{◌<◌, ◌^◌, ℕ, ap, subst, ◌∙◌, arith}
use Rattle.address_map.specs.Bytes.{Bytes, with_bytes_at}
use Rattle.command_shell.specs.Session.{script_state}
use Rattle.command_shell.specs.Value.{MachineValue}
use Rattle.command_shell.specs.Store.{Store, owned_in}
use Rattle.command_shell.specs.GuestState.{state_of}
use Rattle.debug_tables.specs.byte_writes.Put.{IsWordOf}
use Rattle.debug_tables.proofs.ByteWritesLemmas.PutLemmas.{free_inside, free_next, puts_end, puts_more}
use Rattle.debug_tables.proofs.byte_writes.put.store_words.Goals as goal

pub mixed_word-word-requires : goal.mixed_word-word-requires
mixed_word-word-requires c =
    let store : Store = (state_of c.args.session.now.machine.guest).store in
    let free = free_next (owned_in store) store.bytes c.loop-left.address c.loop-left.left (omega (arith, c.loop-left-test.true))
    c.loop-left.invariant.free in
    let inside : c.loop-left.address < 2 ^ 26 = free_inside (owned_in store) store.bytes c.loop-left.address free.0 in
    omega (arith, c.loop-left.invariant.aligned)

pub overflow_add-address : goal.overflow_add-address
overflow_add-address c =
    let store : Store = (state_of c.args.session.now.machine.guest).store in
    let free = free_next (owned_in store) store.bytes c.loop-left.address c.loop-left.left (omega (arith, c.loop-left-test.true))
    c.loop-left.invariant.free in
    let inside : c.loop-left.address < 2 ^ 26 = free_inside (owned_in store) store.bytes c.loop-left.address free.0 in
    omega arith

pub loop-left-preserved : goal.loop-left-preserved
loop-left-preserved c =
    let store : Store = (state_of c.args.session.now.machine.guest).store in
    let l = c.loop-left in
    let i = c.loop-left.invariant in
    let at = c.args.at in
    let bytes = c.args.bytes.now in
    let word = c.mixed_word-word.result in
    let free = free_next (owned_in store) store.bytes l.address l.left (omega (arith, c.loop-left-test.true)) i.free in
    let there = ap (λ (b : Bytes). b.at) c.memory.ensures.bytes
    ∙ ap (λ (m : MachineValue). (state_of m.guest).store.bytes.at) c.machine.ensures in
    let own = subst (λ (g : ℕ → ℕ). IsWordOf (with_bytes_at g at bytes) l.address word) there c.mixed_word-word.ensures in
    record {
      aligned = omega (arith, i.aligned);
      high = omega (arith, i.high);
      reach = omega (arith, i.reach, c.loop-left-test.true);
      free = free.1;
      state = λ images. puts_more (script_state c.args.session.now images) (script_state l.session images)
          (script_state c.store_word-stored.new.self images) at l.address word bytes c.store_word-stored.result
          i.aligned i.high free.0 (i.state images) own (c.store_word-stored.ensures images);
    }

pub returns : goal.returns
returns c images =
    c.loop-left.invariant.state images
    ∙ puts_end (script_state c.args.session.now images) c.args.at c.loop-left.address c.args.bytes.now c.requires.some
    (omega (arith, c.loop-left.invariant.reach, c.loop-left-test.false))

use Rattle.std.proofs.Common.{◌≡◌, ◌≤◌, ◌<◌, ◌+◌, ◌∙◌, None, length, refl, sym, arith}
use Rattle.swi_dispatch_guest.proofs.RunLoop.{halt-none}
use Rattle.law_machine.proofs.HeapRunsLemmas.Ends.{fresh_after, fresh_before, ends_full, ends_halted, ends_whole, goes_on, last_of, under_first, under_last}
use Rattle.law_machine.specs.heap_runs.Moves.{written_all}
use Rattle.law_machine.proofs.heap_runs.making.make_events.Goals as goal
use Rattle.swi_dispatch_guest.specs.GuestState.{state_of}

pub loop-count-init : goal.loop-count-init
loop-count-init g c =
    let goes : (state_of c.args.machine.now.guest).halt ≡ None = halt-none _ _ c.stop.ensures.halt c.in_default.is in
    record {
      under = under_first _ _ _ (written_all c.args.moves.now.list.now) _ c.new-answers.ensures;
      begins = goes_on c.args.machine.now c.known.ensures goes;
      machine = c.known.ensures;
      goes = goes;
      fresh = fresh_before _;
      sizes = refl;
    }

pub returns-in-Some-stop-clause-made : goal.returns-in-Some-stop-clause-made
returns-in-Some-stop-clause-made g c =
    let last = last_of c.args.moves.now.images.now c.args.moves.now.start (state_of c.args.machine.now.guest) (state_of c.loop-count.machine.guest)
    (state_of c.make_event-is_own.new.machine.guest) c.args.moves.now.list.now c.loop-count.count _ c.loop-count.answers.items
    c.loop-count.invariant.begins c.loop-count.invariant.under c.loop-count-test.true c.make_event-is_own.ensures.state in
    ends_halted _ _ _ _ _ _ _ _ _ _ last c.in-Some-stop.stop (sym c.stop-in-loop-count.ensures.halt ∙ c.in-Some-stop.is)

pub returns-then-not-note-clause-made : goal.returns-then-not-note-clause-made
returns-then-not-note-clause-made g c =
    let last = last_of c.args.moves.now.images.now c.args.moves.now.start (state_of c.args.machine.now.guest) (state_of c.loop-count.machine.guest)
    (state_of c.make_event-is_own.new.machine.guest) c.args.moves.now.list.now c.loop-count.count _ c.loop-count.answers.items
    c.loop-count.invariant.begins c.loop-count.invariant.under c.loop-count-test.true c.make_event-is_own.ensures.state in
    ends_full _ _ _ _ _ _ _ _ _ _ last (sym c.make_event-is_own.ensures.own ∙ c.note.ensures.own c.if-not-note.true)
    (c.note.ensures.full c.if-not-note.true) (halt-none _ _ c.stop-in-loop-count.ensures.halt c.in_default-stop.is)
    c.note.new.answers.items (c.note.ensures.same c.if-not-note.true)

pub loop-count-preserved : goal.loop-count-preserved
loop-count-preserved g c =
    let last = last_of c.args.moves.now.images.now c.args.moves.now.start (state_of c.args.machine.now.guest) (state_of c.loop-count.machine.guest)
    (state_of c.make_event-is_own.new.machine.guest) c.args.moves.now.list.now c.loop-count.count _ c.loop-count.answers.items
    c.loop-count.invariant.begins c.loop-count.invariant.under c.loop-count-test.true c.make_event-is_own.ensures.state in
    let goes : (state_of c.make_event-is_own.new.machine.guest).halt ≡ None = halt-none _ _ c.stop-in-loop-count.ensures.halt c.in_default-stop.is in
    record {
      under = under_last _ _ _ _ _ _ g.row.MOST _ _ _ last c.make_event-is_own.result c.make_event-is_own.ensures.own
          (goes_on c.make_event-is_own.new.machine c.make_event-is_own.ensures.known goes) c.note.new.answers.items
          (c.note.ensures.noted c.if-not-note.false);
      begins = c.loop-count.invariant.begins;
      machine = c.make_event-is_own.ensures.known;
      goes = goes;
      fresh = fresh_after c.args.machine.now.is_fresh c.make_event-is_own.new.machine.is_fresh (c.loop-count.count + 1)
          c.make_event-is_own.ensures.fresh (omega arith);
      sizes = c.make_event-is_own.ensures.sizes ∙ c.loop-count.invariant.sizes;
    }

pub returns-clause-made : goal.returns-clause-made
returns-clause-made g c =
    let before = c.loop-count-test.false in
    let within = c.loop-count.auto.count-end in
    let all : c.loop-count.count ≡ length c.args.moves.now.list.now = omega (arith, before, within) in
    ends_whole c.args.moves.now.images.now c.args.moves.now.start (state_of c.args.machine.now.guest) (state_of c.loop-count.machine.guest)
    c.args.moves.now.list.now g.row.MOST c.loop-count.count c.loop-count.answers.items c.loop-count.invariant.begins
    c.loop-count.invariant.under all c.loop-count.invariant.goes

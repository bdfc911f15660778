use Rattle.std.proofs.Common.{◌≡◌, ◌≢◌, ◌&&◌, ◌==◌, ℕ, true, false, IsTrue, None, ◌≤◌, ◌<◌, ◌+◌, Result, Ok, Err, ap, refl, subst, sym, ◌∙◌, arith}
use Rattle.std.proofs.lemmas.Result.{err_from_is_err_and}
use Rattle.profile.specs.declared.stop.Stop.TheVariants as stop
use Rattle.profile.proofs.OutputLemmas.{Appends-nothing}
use Rattle.profile.specs.declared.sink.WriteFault.{WriteFault}
use Rattle.swi_dispatch_guest.specs.declared.running.Ran.{Ran}
use Rattle.swi_dispatch_guest.specs.Ending.{Ends}
use Rattle.swi_dispatch_guest.specs.GuestState.{GuestState, state_of}
use Rattle.swi_dispatch_guest.specs.MachineState.{machine_start}
use Rattle.swi_dispatch_guest.specs.Run.{ran}
use Rattle.swi_dispatch_guest.specs.Value.{MachineValue}
use Rattle.swi_dispatch_guest.proofs.Fresh.{start_stays}
use Rattle.swi_dispatch_guest.proofs.RunEnds.{ends_stopped, ends_start, ends_silent, ends_more, ends_on, ends_early, ends_all, stands_more, one_taken}
use Rattle.swi_dispatch_guest.proofs.RunLoop.{halt-none}
use Rattle.swi_dispatch_guest.proofs.SilentSteps.{IsStretch, stretch}
use Rattle.swi_dispatch_guest.proofs.machine.Machine.run.Goals as goal

pub returns-in-Some-clause-ends : goal.returns-in-Some-clause-ends
returns-in-Some-clause-ends g c = rw (← c.self.view_is) (ends_stopped _ _ _ _ _ _ _ _ refl (sym c.in-Some.is ∙ c.stop.ensures) (Appends-nothing _))

pub loop-taken-init : goal.loop-taken-init
loop-taken-init g c =
    let unhalted = halt-none _ _ c.stop.ensures c.in_default.is in
    record {
      ends = rw (← c.self.view_is) (ends_start _ _ _ _ _ unhalted (Appends-nothing _));
      within = omega arith;
      unhalted = unhalted;
      same_flag = refl;
      known = c.known.ensures;
    }

-- the guest is well-formed after the silent steps
pub invariant_of-guest : goal.invariant_of-guest
invariant_of-guest g c =
    let here = c.guest.inside in
    let before : GuestState = record {
      cpu = here.cpu;
      map = here.memory;
      tables = record { area_table = here.areas; modules = here.instances; frames = here.frames; plan = here.plan; flex = here.flex };
      halt = here.halt;
      sizes = here.scratch;
    } in
    let unhalted : here.halt ≡ None = ap (λ (p : GuestState). (state_of p).halt) c.guest.view_is ∙ c.loop-taken.invariant.unhalted in
    let ends = c.run-silent.ensures in
    let after : GuestState = record before { cpu = c.run-silent.new.cpu; map = c.run-silent.new.memory } in
    let steps : IsStretch c.args.breaks.now c.run-silent.result.0 c.run-silent.result.1 c.loop-taken.guest after =
    subst (λ (p : GuestState). IsStretch c.args.breaks.now c.run-silent.result.0 c.run-silent.result.1 p after) c.guest.view_is
    (stretch before c.run-silent.new.memory c.run-silent.new.cpu c.args.breaks.now c.run-silent.result.0 c.run-silent.result.1
    c.guest.invariant unhalted ends.done ends.ends ends.next ends.layout ends.marks) in
    steps.well

-- and the other step comes next
pub run_one-requires-clause-unhalted : goal.run_one-requires-clause-unhalted
run_one-requires-clause-unhalted g c =
    let here = c.guest.inside in
    let before : GuestState = record {
      cpu = here.cpu;
      map = here.memory;
      tables = record { area_table = here.areas; modules = here.instances; frames = here.frames; plan = here.plan; flex = here.flex };
      halt = here.halt;
      sizes = here.scratch;
    } in
    let unhalted : here.halt ≡ None = ap (λ (p : GuestState). (state_of p).halt) c.guest.view_is ∙ c.loop-taken.invariant.unhalted in
    let ends = c.run-silent.ensures in
    let after : GuestState = record before { cpu = c.run-silent.new.cpu; map = c.run-silent.new.memory } in
    let steps : IsStretch c.args.breaks.now c.run-silent.result.0 c.run-silent.result.1 c.loop-taken.guest after =
    subst (λ (p : GuestState). IsStretch c.args.breaks.now c.run-silent.result.0 c.run-silent.result.1 p after) c.guest.view_is
    (stretch before c.run-silent.new.memory c.run-silent.new.cpu c.args.breaks.now c.run-silent.result.0 c.run-silent.result.1
    c.guest.invariant unhalted ends.done ends.ends ends.next ends.layout ends.marks) in
    unhalted

pub run_one-requires-clause-next : goal.run_one-requires-clause-next
run_one-requires-clause-next g c =
    let here = c.guest.inside in
    let before : GuestState = record {
      cpu = here.cpu;
      map = here.memory;
      tables = record { area_table = here.areas; modules = here.instances; frames = here.frames; plan = here.plan; flex = here.flex };
      halt = here.halt;
      sizes = here.scratch;
    } in
    let unhalted : here.halt ≡ None = ap (λ (p : GuestState). (state_of p).halt) c.guest.view_is ∙ c.loop-taken.invariant.unhalted in
    let ends = c.run-silent.ensures in
    let after : GuestState = record before { cpu = c.run-silent.new.cpu; map = c.run-silent.new.memory } in
    let steps : IsStretch c.args.breaks.now c.run-silent.result.0 c.run-silent.result.1 c.loop-taken.guest after =
    subst (λ (p : GuestState). IsStretch c.args.breaks.now c.run-silent.result.0 c.run-silent.result.1 p after) c.guest.view_is
    (stretch before c.run-silent.new.memory c.run-silent.new.cpu c.args.breaks.now c.run-silent.result.0 c.run-silent.result.1
    c.guest.invariant unhalted ends.done ends.ends ends.next ends.layout ends.marks) in
    rw c.in-Ok.is at steps.next

-- the steps so far and the silent ones after them
pub returns-in-Err-clause-ends : goal.returns-in-Err-clause-ends
returns-in-Err-clause-ends g c =
    let here = c.guest.inside in
    let before : GuestState = record {
      cpu = here.cpu;
      map = here.memory;
      tables = record { area_table = here.areas; modules = here.instances; frames = here.frames; plan = here.plan; flex = here.flex };
      halt = here.halt;
      sizes = here.scratch;
    } in
    let unhalted : here.halt ≡ None = ap (λ (p : GuestState). (state_of p).halt) c.guest.view_is ∙ c.loop-taken.invariant.unhalted in
    let ends = c.run-silent.ensures in
    let after : GuestState = record before { cpu = c.run-silent.new.cpu; map = c.run-silent.new.memory } in
    let steps : IsStretch c.args.breaks.now c.run-silent.result.0 c.run-silent.result.1 c.loop-taken.guest after =
    subst (λ (p : GuestState). IsStretch c.args.breaks.now c.run-silent.result.0 c.run-silent.result.1 p after) c.guest.view_is
    (stretch before c.run-silent.new.memory c.run-silent.new.cpu c.args.breaks.now c.run-silent.result.0 c.run-silent.result.1
    c.guest.invariant unhalted ends.done ends.ends ends.next ends.layout ends.marks) in
    let before : c.loop-taken.taken < c.args.budget = c.loop-taken-test.true in
    let ran = rw c.in-Err.is at steps.runs c.args.images.now in
    let all : c.in-Err.stop ≡ stop.Budget → c.loop-taken.taken + c.run-silent.result.0 ≡ c.args.budget =
    λ e. (let k = ends.all (c.in-Err.is ∙ ap Err e) in omega (arith, k, before)) in
    ends_all _ _ _ _ _ _ _ _ _ _ _ (omega (arith, ends.most, before)) all
    (ends_silent c.args.images.now c.args.breaks.now (state_of c.args.self.now.guest) (state_of c.loop-taken.guest) (state_of after)
    c.loop-taken.taken c.run-silent.result.0 c.in-Err.stop c.args.self.now.printed c.loop-taken.output.items c.clear_after.new.output.items
    (g.W.Sink.contents c.args.sink.now) (g.W.Sink.contents c.loop-taken.sink) (Appends-nothing _) c.loop-taken.invariant.ends ran c.clear_after.ensures)

pub returns-in_err-one-clause-stands : goal.returns-in_err-one-clause-stands
returns-in_err-one-clause-stands g c =
    let here = c.guest.inside in
    let before : GuestState = record {
      cpu = here.cpu;
      map = here.memory;
      tables = record { area_table = here.areas; modules = here.instances; frames = here.frames; plan = here.plan; flex = here.flex };
      halt = here.halt;
      sizes = here.scratch;
    } in
    let unhalted : here.halt ≡ None = ap (λ (p : GuestState). (state_of p).halt) c.guest.view_is ∙ c.loop-taken.invariant.unhalted in
    let ends = c.run-silent.ensures in
    let after : GuestState = record before { cpu = c.run-silent.new.cpu; map = c.run-silent.new.memory } in
    let steps : IsStretch c.args.breaks.now c.run-silent.result.0 c.run-silent.result.1 c.loop-taken.guest after =
    subst (λ (p : GuestState). IsStretch c.args.breaks.now c.run-silent.result.0 c.run-silent.result.1 p after) c.guest.view_is
    (stretch before c.run-silent.new.memory c.run-silent.new.cpu c.args.breaks.now c.run-silent.result.0 c.run-silent.result.1
    c.guest.invariant unhalted ends.done ends.ends ends.next ends.layout ends.marks) in
    let ran = rw c.in-Ok.is at steps.runs c.args.images.now in
    let fewer = rw c.in-Ok.is at ends.fewer in
    let done = ends_silent c.args.images.now c.args.breaks.now (state_of c.args.self.now.guest) (state_of c.loop-taken.guest)
    (state_of after) c.loop-taken.taken c.run-silent.result.0 stop.Budget c.args.self.now.printed c.loop-taken.output.items
    c.clear_after.new.output.items (g.W.Sink.contents c.args.sink.now) (g.W.Sink.contents c.loop-taken.sink) (Appends-nothing _)
    c.loop-taken.invariant.ends ran c.clear_after.ensures in
    let one = c.in_err-one.ensures in
    let p = err_from_is_err_and c.from_residual.result c.from_residual.ensures.1 in
    let within : c.loop-taken.taken + c.run-silent.result.0 < c.args.budget = omega (arith, fewer) in
    rw p.1 (stands_more _ _ _ _ _ _ _ _ _ _ _ _ _ within done one.stands one.output one.part)

pub returns-then-not-goes_on-clause-ends : goal.returns-then-not-goes_on-clause-ends
returns-then-not-goes_on-clause-ends g c =
    let here = c.guest.inside in
    let before : GuestState = record {
      cpu = here.cpu;
      map = here.memory;
      tables = record { area_table = here.areas; modules = here.instances; frames = here.frames; plan = here.plan; flex = here.flex };
      halt = here.halt;
      sizes = here.scratch;
    } in
    let unhalted : here.halt ≡ None = ap (λ (p : GuestState). (state_of p).halt) c.guest.view_is ∙ c.loop-taken.invariant.unhalted in
    let ends = c.run-silent.ensures in
    let after : GuestState = record before { cpu = c.run-silent.new.cpu; map = c.run-silent.new.memory } in
    let steps : IsStretch c.args.breaks.now c.run-silent.result.0 c.run-silent.result.1 c.loop-taken.guest after =
    subst (λ (p : GuestState). IsStretch c.args.breaks.now c.run-silent.result.0 c.run-silent.result.1 p after) c.guest.view_is
    (stretch before c.run-silent.new.memory c.run-silent.new.cpu c.args.breaks.now c.run-silent.result.0 c.run-silent.result.1
    c.guest.invariant unhalted ends.done ends.ends ends.next ends.layout ends.marks) in
    let ran = rw c.in-Ok.is at steps.runs c.args.images.now in
    let fewer = rw c.in-Ok.is at ends.fewer in
    let done = ends_silent c.args.images.now c.args.breaks.now (state_of c.args.self.now.guest) (state_of c.loop-taken.guest)
    (state_of after) c.loop-taken.taken c.run-silent.result.0 stop.Budget c.args.self.now.printed c.loop-taken.output.items
    c.clear_after.new.output.items (g.W.Sink.contents c.args.sink.now) (g.W.Sink.contents c.loop-taken.sink) (Appends-nothing _)
    c.loop-taken.invariant.ends ran c.clear_after.ensures in
    let within : c.loop-taken.taken + c.run-silent.result.0 + 1 ≤ c.args.budget = omega (arith, fewer) in
    let other : c.in_ok-one.one.stop ≢ stop.Budget = λ e. (let t : IsTrue false = c.if-not-goes_on.ensures.1 e in cc) in
    ends_early _ _ _ _ _ _ _ _ _ _ _ _ within other (ends_more _ _ _ _ _ _ _ _ _ _ _ _ _ _ _ done c.in_ok-one.ensures.ends)

pub loop-taken-smaller : goal.loop-taken-smaller
loop-taken-smaller g c =
    let here = c.guest.inside in
    let before : GuestState = record {
      cpu = here.cpu;
      map = here.memory;
      tables = record { area_table = here.areas; modules = here.instances; frames = here.frames; plan = here.plan; flex = here.flex };
      halt = here.halt;
      sizes = here.scratch;
    } in
    let unhalted : here.halt ≡ None = ap (λ (p : GuestState). (state_of p).halt) c.guest.view_is ∙ c.loop-taken.invariant.unhalted in
    let ends = c.run-silent.ensures in
    let after : GuestState = record before { cpu = c.run-silent.new.cpu; map = c.run-silent.new.memory } in
    let steps : IsStretch c.args.breaks.now c.run-silent.result.0 c.run-silent.result.1 c.loop-taken.guest after =
    subst (λ (p : GuestState). IsStretch c.args.breaks.now c.run-silent.result.0 c.run-silent.result.1 p after) c.guest.view_is
    (stretch before c.run-silent.new.memory c.run-silent.new.cpu c.args.breaks.now c.run-silent.result.0 c.run-silent.result.1
    c.guest.invariant unhalted ends.done ends.ends ends.next ends.layout ends.marks) in
    let budget : c.in_ok-one.one.stop ≡ stop.Budget = c.if-not-goes_on.ensures.0 refl in
    let count : c.in_ok-one.one.taken ≡ 1 = one_taken _ _ _ _ _ _ _ _ _ _ unhalted c.in_ok-one.ensures.ends budget in
    let fewer = rw c.in-Ok.is at ends.fewer in
    omega (arith, count, fewer)

pub loop-taken-preserved : goal.loop-taken-preserved
loop-taken-preserved g c =
    let here = c.guest.inside in
    let before : GuestState = record {
      cpu = here.cpu;
      map = here.memory;
      tables = record { area_table = here.areas; modules = here.instances; frames = here.frames; plan = here.plan; flex = here.flex };
      halt = here.halt;
      sizes = here.scratch;
    } in
    let unhalted : here.halt ≡ None = ap (λ (p : GuestState). (state_of p).halt) c.guest.view_is ∙ c.loop-taken.invariant.unhalted in
    let ends = c.run-silent.ensures in
    let after : GuestState = record before { cpu = c.run-silent.new.cpu; map = c.run-silent.new.memory } in
    let steps : IsStretch c.args.breaks.now c.run-silent.result.0 c.run-silent.result.1 c.loop-taken.guest after =
    subst (λ (p : GuestState). IsStretch c.args.breaks.now c.run-silent.result.0 c.run-silent.result.1 p after) c.guest.view_is
    (stretch before c.run-silent.new.memory c.run-silent.new.cpu c.args.breaks.now c.run-silent.result.0 c.run-silent.result.1
    c.guest.invariant unhalted ends.done ends.ends ends.next ends.layout ends.marks) in
    let ran = rw c.in-Ok.is at steps.runs c.args.images.now in
    let fewer = rw c.in-Ok.is at ends.fewer in
    let done = ends_silent c.args.images.now c.args.breaks.now (state_of c.args.self.now.guest) (state_of c.loop-taken.guest)
    (state_of after) c.loop-taken.taken c.run-silent.result.0 stop.Budget c.args.self.now.printed c.loop-taken.output.items
    c.clear_after.new.output.items (g.W.Sink.contents c.args.sink.now) (g.W.Sink.contents c.loop-taken.sink) (Appends-nothing _)
    c.loop-taken.invariant.ends ran c.clear_after.ensures in
    let one = c.in_ok-one.ensures in
    let budget : c.in_ok-one.one.stop ≡ stop.Budget = c.if-not-goes_on.ensures.0 refl in
    let count : c.in_ok-one.one.taken ≡ 1 = one_taken _ _ _ _ _ _ _ _ _ _ unhalted one.ends budget in
    record {
      ends = ends_on _ _ _ _ _ _ _ _ _ _ _ _ _ _ unhalted done one.ends budget;
      within = omega (arith, count, fewer);
      unhalted = one.unhalted budget;
      same_flag = one.same_flag ∙ c.loop-taken.invariant.same_flag;
      known = one.known;
    }

-- a run of no step leaves it as it stood
pub invariant_of-self-2 : goal.invariant_of-self-2
invariant_of-self-2 g c =
    let within = c.loop-taken.invariant.within in
    let all : c.loop-taken.taken ≡ c.args.budget = grind (arith, within, c.loop-taken-test.false) in
    let ends = subst (λ (n : ℕ). Ends (ran c.args.images.now c.args.breaks.now n (state_of c.args.self.now.guest)) (state_of c.loop-taken.guest)
    c.args.self.now.printed c.loop-taken.output.items (g.W.Sink.contents c.args.sink.now) (g.W.Sink.contents c.loop-taken.sink) c.loop-taken.taken stop.Budget)
    all c.loop-taken.invariant.ends in
    let whole = subst (λ (m : MachineValue). Ends (ran c.args.images.now c.args.breaks.now c.args.budget (state_of m.guest)) (state_of c.loop-taken.guest)
    m.printed c.loop-taken.output.items (g.W.Sink.contents c.args.sink.now) (g.W.Sink.contents c.loop-taken.sink) c.loop-taken.taken stop.Budget)
    (sym c.self.view_is) ends in
    let ran_all : Result Ran WriteFault = Ok (record { stop = stop.Budget; taken = c.loop-taken.taken }) in
    let stays : (c.self.inside.is_fresh && (c.args.budget == 0)) ≡ true → state_of c.loop-taken.guest ≡ machine_start c.self.inside.config =
    start_stays c.args.images.now c.args.breaks.now c.args.budget (state_of c.self.inside.guest) (state_of c.loop-taken.guest) _ c.self.inside.is_fresh
    _ _ _ _ ran_all c.self.invariant whole tt in
    stays

pub returns-clause-kept : goal.returns-clause-kept
returns-clause-kept g c =
    let within = c.loop-taken.invariant.within in
    let all : c.loop-taken.taken ≡ c.args.budget = grind (arith, within, c.loop-taken-test.false) in
    let ends = subst (λ (n : ℕ). Ends (ran c.args.images.now c.args.breaks.now n (state_of c.args.self.now.guest)) (state_of c.loop-taken.guest)
    c.args.self.now.printed c.loop-taken.output.items (g.W.Sink.contents c.args.sink.now) (g.W.Sink.contents c.loop-taken.sink) c.loop-taken.taken stop.Budget)
    all c.loop-taken.invariant.ends in
    let whole = subst (λ (m : MachineValue). Ends (ran c.args.images.now c.args.breaks.now c.args.budget (state_of m.guest)) (state_of c.loop-taken.guest)
    m.printed c.loop-taken.output.items (g.W.Sink.contents c.args.sink.now) (g.W.Sink.contents c.loop-taken.sink) c.loop-taken.taken stop.Budget)
    (sym c.self.view_is) ends in
    let ran_all : Result Ran WriteFault = Ok (record { stop = stop.Budget; taken = c.loop-taken.taken }) in
    let stays : (c.self.inside.is_fresh && (c.args.budget == 0)) ≡ true → state_of c.loop-taken.guest ≡ machine_start c.self.inside.config =
    start_stays c.args.images.now c.args.breaks.now c.args.budget (state_of c.self.inside.guest) (state_of c.loop-taken.guest) _ c.self.inside.is_fresh
    _ _ _ _ ran_all c.self.invariant whole tt in
    record { guest = c.loop-taken.invariant.known; fresh = stays }

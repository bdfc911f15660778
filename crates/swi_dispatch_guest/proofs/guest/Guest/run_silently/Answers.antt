use Rattle.std.proofs.Common.{◌≡◌, ℕ, Bool, None, ap, refl, subst, sym, ◌∙◌}
use Rattle.os_heap.specs.Memory.{bytes_of, is_owned}
use Rattle.arm_run.specs.Runs.{AreDone}
use Rattle.os_heap.proofs.Owned.{owned_marks}
use Rattle.os_heap.specs.Store.{store_of, owned_in}
use Rattle.arm_run.specs.Step.{result_of_step}
use Rattle.arm_run.specs.Turns.{Turns}
use Rattle.swi_dispatch_guest.specs.MachineState.{MachineState, Tables}
use Rattle.swi_dispatch_guest.specs.GuestState.{AreCoreSteps, GuestState, TakesTurn, state_of}
use Rattle.swi_dispatch_guest.specs.Run.{ran, silent_run, silent_stop}
use Rattle.swi_dispatch_guest.proofs.Kept.{by_words, flex_after, over, well_kept}
use Rattle.swi_dispatch_guest.proofs.SilentSteps.{core_steps, moved, next_by, ran_by, settled, steps_keep, turn_taken}
use Rattle.swi_dispatch_guest.proofs.guest.Guest.run_silently.Goals as goal

pub invariant_of-self : goal.invariant_of-self
invariant_of-self c =
    let well = c.self.invariant in
    let done = subst (λ (owned : ℕ → Bool). AreDone owned c.args.breaks.now c.run-silent.result.0 (c.self.inside.cpu, bytes_of c.self.inside.memory) (c.run-silent.new.cpu, bytes_of c.run-silent.new.memory))
    (owned_marks c.self.inside.memory well.classes) c.run-silent.ensures.done in
    let kept = settled c.self.inside.memory c.run-silent.new.memory c.self.inside.cpu c.run-silent.new.cpu
    (record { area_table = c.self.inside.areas; modules = c.self.inside.instances; frames = c.self.inside.frames; plan = c.self.inside.plan; flex = c.self.inside.flex }) c.self.inside.halt
    c.run-silent.ensures.layout c.run-silent.ensures.marks well.areas.ground.sound (steps_keep _ _ _ _ _ (by_words (store_of c.self.inside.memory)) done) in
    well_kept _ _ well kept.0.kept c.run-silent.ensures.layout c.run-silent.ensures.marks refl (flex_after _ _ _ well.flex c.run-silent.ensures.layout c.run-silent.ensures.marks kept.0) refl

pub returns-clause-ran : goal.returns-clause-ran
returns-clause-ran c images =
    let well = c.self.invariant in
    let m = c.self.inside.memory in
    let n = c.run-silent.new.memory in
    let cpu = c.self.inside.cpu in
    let tables : Tables = record { area_table = c.self.inside.areas; modules = c.self.inside.instances; frames = c.self.inside.frames; plan = c.self.inside.plan; flex = c.self.inside.flex } in
    let done = subst (λ (owned : ℕ → Bool). AreDone owned c.args.breaks.now c.run-silent.result.0 (cpu, bytes_of m) (c.run-silent.new.cpu, bytes_of n)) (owned_marks m well.classes) c.run-silent.ensures.done in
    let kept = settled m n cpu c.run-silent.new.cpu tables c.self.inside.halt
    c.run-silent.ensures.layout c.run-silent.ensures.marks well.areas.ground.sound (steps_keep _ _ _ _ _ (by_words (store_of m)) done) in
    let start = settled m m cpu cpu tables c.self.inside.halt refl refl well.areas.ground.sound (record { mapped = refl; bytes = λ a o. refl }) in
    let s = over m cpu tables c.self.inside.halt in
    let unhalted : c.self.inside.halt ≡ None = ap (λ (p : GuestState). (state_of p).halt) c.self.view_is ∙ c.requires.unhalted in
    rw (← c.self.view_is) (ap (λ (x : MachineState). ran images c.args.breaks.now c.run-silent.result.0 x) start.1
    ∙ ran_by images c.args.breaks.now s c.run-silent.result.0 (cpu, bytes_of m) (c.run-silent.new.cpu, bytes_of n) c.run-silent.result.1 unhalted done c.run-silent.ensures.ends
    ∙ ap (λ (x : MachineState). silent_run x c.run-silent.result.0 (silent_stop c.run-silent.result.1)) (sym kept.1))

pub returns-clause-next : goal.returns-clause-next
returns-clause-next c =
    let well = c.self.invariant in
    let m = c.self.inside.memory in
    let n = c.run-silent.new.memory in
    let cpu = c.self.inside.cpu in
    let tables : Tables = record { area_table = c.self.inside.areas; modules = c.self.inside.instances; frames = c.self.inside.frames; plan = c.self.inside.plan; flex = c.self.inside.flex } in
    let done = subst (λ (owned : ℕ → Bool). AreDone owned c.args.breaks.now c.run-silent.result.0 (cpu, bytes_of m) (c.run-silent.new.cpu, bytes_of n)) (owned_marks m well.classes) c.run-silent.ensures.done in
    let kept = settled m n cpu c.run-silent.new.cpu tables c.self.inside.halt
    c.run-silent.ensures.layout c.run-silent.ensures.marks well.areas.ground.sound (steps_keep _ _ _ _ _ (by_words (store_of m)) done) in
    let s = over m cpu tables c.self.inside.halt in
    next_by c.run-silent.result.1 _ _ (λ t h. subst (λ (x : MachineState). TakesTurn x t x) (sym kept.1)
    (turn_taken s t (c.run-silent.new.cpu, bytes_of n) (c.run-silent.new.cpu, bytes_of n)
    (subst (λ (owned : ℕ → Bool). Turns (c.run-silent.new.cpu, bytes_of n) (result_of_step owned c.run-silent.new.cpu (bytes_of n)) t (c.run-silent.new.cpu, bytes_of n)) (owned_marks m well.classes) h)))
    c.run-silent.ensures.next

pub returns-clause-steps : goal.returns-clause-steps
returns-clause-steps c =
    let well = c.self.invariant in
    let m = c.self.inside.memory in
    let n = c.run-silent.new.memory in
    let cpu = c.self.inside.cpu in
    let tables : Tables = record { area_table = c.self.inside.areas; modules = c.self.inside.instances; frames = c.self.inside.frames; plan = c.self.inside.plan; flex = c.self.inside.flex } in
    let done = subst (λ (owned : ℕ → Bool). AreDone owned c.args.breaks.now c.run-silent.result.0 (cpu, bytes_of m) (c.run-silent.new.cpu, bytes_of n)) (owned_marks m well.classes) c.run-silent.ensures.done in
    let kept = settled m n cpu c.run-silent.new.cpu tables c.self.inside.halt
    c.run-silent.ensures.layout c.run-silent.ensures.marks well.areas.ground.sound (steps_keep _ _ _ _ _ (by_words (store_of m)) done) in
    let start = settled m m cpu cpu tables c.self.inside.halt refl refl well.areas.ground.sound (record { mapped = refl; bytes = λ a o. refl }) in
    let s = over m cpu tables c.self.inside.halt in
    rw (← c.self.view_is) (subst (λ (x : MachineState). AreCoreSteps c.run-silent.result.0 s x) (sym kept.1)
    (subst (λ (x : MachineState). AreCoreSteps c.run-silent.result.0 x (moved s (c.run-silent.new.cpu, bytes_of n))) (sym start.1)
    (core_steps c.args.breaks.now s c.run-silent.result.0 (cpu, bytes_of m) (c.run-silent.new.cpu, bytes_of n) done)))

use Rattle.std.proofs.Common.{◌≡◌, ap, ◌∙◌, Err}
use Rattle.profile.specs.declared.stop.Stop.TheVariants as stop
use Rattle.swi_dispatch_guest.specs.MachineState.{outcome_with}
use Rattle.swi_dispatch_guest.specs.GuestState.{state_of}
use Rattle.swi_dispatch_guest.proofs.NextTurn.{turn_left, nothing_left}
use Rattle.swi_dispatch_guest.proofs.Silent.{none_shown}
use Rattle.swi_dispatch_guest.proofs.guest.Guest.step.Goals as goal

pub returns-in-Ok : goal.returns-in-Ok
returns-in-Ok c =
    let one = c.run_silently-next.ensures in
    let images = c.args.images.now in
    let ran = rw (c.new.ensures, c.in-Ok.is) at one.ran images in
    let fewer = rw c.in-Ok.is at one.fewer in
    let next = rw c.in-Ok.is at one.next in
    c.after_turn.ensures
    ∙ turn_left images (state_of c.args.self.now) (state_of c.run_silently-next.new.self) _ c.in-Ok.turn c.requires.unhalted one.unhalted ran fewer next

pub returns-in-Err : goal.returns-in-Err
returns-in-Err c =
    let one = c.run_silently-next.ensures in
    let images = c.args.images.now in
    let ran = rw (c.new.ensures, c.in-Err.is) at one.ran images in
    let all = λ (e : c.in-Err.field-0 ≡ stop.Budget). one.all (c.in-Err.is ∙ ap Err e) in
    ap (outcome_with (state_of c.run_silently-next.new.self)) (none_shown _ _ _ c.requires.unprinted one.output)
    ∙ nothing_left images (state_of c.args.self.now) (state_of c.run_silently-next.new.self) _ c.in-Err.field-0 c.requires.unhalted ran one.most all

pub after_turn-requires : goal.after_turn-requires
after_turn-requires c = record { unprinted = none_shown _ _ _ c.requires.unprinted c.run_silently-next.ensures.output }

-- A run in slices is one run.
use Rattle.std.proofs.Common.{◌≡◌, ◌+◌, ℕ, zero, suc, Bool, true, false, ◌&&◌, List, append_assoc, refl, ap, sym, ◌∙◌, arith}
use Rattle.std.specs.Prelude.{Option, Some, None, if◌then◌else◌}
use Rattle.std.proofs.lemmas.Bool.{both_ways}
use Rattle.debug_session.specs.State.{ScriptState}
use Rattle.gdb_machine.specs.StepEnds.{steps_further, struck_after}
use Rattle.gdb_machine.specs.Watches.{first_changed}
use Rattle.gdb_machine.specs.declared.stops.GdbStop.{GdbStop}
use Rattle.gdb_machine.specs.declared.stops.GdbStop.TheVariants as reason
use Rattle.profile.specs.declared.stop.Stop.TheVariants as stop
use Rattle.gdb_machine.specs.declared.watches.WatchedPlace.{WatchedPlace}
use Rattle.gdb_packets.specs.declared.going.Going.{Going}
use Rattle.gdb_machine.specs.declared.step_ends.StepAhead.{StepAhead}
use Rattle.gdb_server.specs.session.Laws.{GdbSlicesAreOneRun}
use Rattle.gdb_machine.specs.GdbBreaks.{is_among}
use Rattle.gdb_packets.specs.Going.{has_left}
use Rattle.gdb_server.specs.session.Steps.{StepLooks, StepsTaken, end_beside, end_of_step, is_other_list, looked_further, looked_steps, machine_end, ahead_of, printed_before, script_steps, stays_here, watched_or}
use Rattle.gdb_server.proofs.SessionLemmas.StepLemmas.{no_step, one_more}

-- what ends steps is no end of a budget
abbrev Ends : Option GdbStop → Type 0
Ends (Some why) = steps_further why ≡ false
Ends None = Unit {0}

if_ends : (b : Bool) (x y : Option GdbStop) → Ends x → Ends y → Ends (if b then x else y)
if_ends true x y first second = first
if_ends false x y first second = second

beside_ends : (goes : Going) (stays : Bool) (breaks reported : List ℕ) (may : Bool) (s : ScriptState)
    → Ends (end_beside goes stays breaks reported may s)
beside_ends goes stays breaks reported may s =
    if_ends (is_among breaks s.machine.cpu.pc) (Some (reason.Ran (stop.Break s.machine.cpu.pc))) _ refl
    (if_ends (stays_here stays s) (Some reason.End) _ refl
    (if_ends (has_left goes s.machine.cpu.pc) (Some reason.Stepped) _ refl
    (if_ends (may && is_other_list reported s) (Some reason.Library) None refl tt)))

machine_ends : (l : StepLooks) (why : GdbStop) (may : Bool) (s : ScriptState) → Ends (machine_end l why may s)
machine_ends l why may s = by (steps_further why) refl
  where
    by : (b : Bool) → steps_further why ≡ b → Ends (if b then end_beside l.going l.stays l.breaks l.libraries may s else Some why)
    by true e = beside_ends l.going l.stays l.breaks l.libraries may s
    by false e = e

watched_ends : (o : Option WatchedPlace) (other : Option GdbStop) → Ends other → Ends (watched_or o other)
watched_ends (Some place) other ends = refl
watched_ends None other ends = ends

step_ends_so : (l : StepLooks) (ahead : StepAhead) (why : GdbStop) (s : ScriptState) → Ends (end_of_step l ahead why s)
step_ends_so l ahead why s =
    watched_ends (first_changed s.machine.store.bytes l.seen) _
    (watched_ends (struck_after why ahead.struck) _ (machine_ends l why ahead.may_change s))

pub slices_are_one_run : GdbSlicesAreOneRun
slices_are_one_run l s zero more goes =
    let all : 0 + more ≡ more = omega arith in
    ap (λ (n : ℕ). looked_steps l n s) all
    ∙ sym (ap (λ (t : StepsTaken). printed_before t.printed (looked_steps l more t.script)) (no_step l 0 s refl))
slices_are_one_run l s (suc n) more goes =
    by (end_of_step l (ahead_of l.going l.watches s) r.stop r.script) refl
    (step_ends_so l (ahead_of l.going l.watches s) r.stop r.script) (slices_are_one_run l r.script n more)
  where
    r : StepsTaken
    r = script_steps s 1

    by : (o : Option GdbStop) → end_of_step l (ahead_of l.going l.watches s) r.stop r.script ≡ o → Ends o
        → ((looked_steps l n r.script).stop ≡ reason.Ran stop.Budget → looked_steps l (n + more) r.script
        ≡ printed_before (looked_steps l n r.script).printed (looked_steps l more (looked_steps l n r.script).script))
        → looked_steps l (suc n + more) s ≡ printed_before (looked_steps l (suc n) s).printed (looked_steps l more (looked_steps l (suc n) s).script)
    by (Some why) e ends rest_too =
        let is = one_more l n s ∙ ap (λ (o : Option GdbStop). looked_further r o (looked_steps l n)) e in
        let budget : why ≡ reason.Ran stop.Budget = sym (ap (λ (t : StepsTaken). t.stop) is) ∙ goes in
        absurd (both_ways (steps_further why) ends (ap steps_further budget))
    by None e ends rest_too =
        let is = one_more l n s ∙ ap (λ (o : Option GdbStop). looked_further r o (looked_steps l n)) e in
        let rest : StepsTaken = looked_steps l n r.script in
        let further = rest_too (sym (ap (λ (t : StepsTaken). t.stop) is) ∙ goes) in
        let count : suc n + more ≡ suc (n + more) = omega arith in
        let last : StepsTaken = looked_steps l more rest.script in
        ap (λ (k : ℕ). looked_steps l k s) count ∙ one_more l (n + more) s
        ∙ ap (λ (o : Option GdbStop). looked_further r o (looked_steps l (n + more))) e
        ∙ ap (λ (t : StepsTaken). printed_before r.printed t) further
        ∙ ap (λ (x : List ℕ). record last { printed = x }) (sym (append_assoc r.printed rest.printed last.printed))
        ∙ sym (ap (λ (t : StepsTaken). printed_before t.printed (looked_steps l more t.script)) is)

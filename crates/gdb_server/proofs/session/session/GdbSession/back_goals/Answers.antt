use Rattle.std.proofs.Common.{◌≡◌, ℕ, List, ap, subst, ◌∙◌}
use Rattle.std.specs.Prelude.{IfOk}
use Rattle.address_map.specs.Bytes.{Bytes}
use Rattle.gdb_machine.specs.GuestState.{state_of}
use Rattle.gdb_machine.specs.Value.{MachineValue}
use Rattle.profile.specs.images.Entries.{Entry}
use Rattle.gdb_machine.specs.BackEnds.{all_goals}
use Rattle.gdb_machine.specs.Watches.{watched_bytes}
use Rattle.gdb_machine.specs.declared.back_ends.BackGoal.{BackGoal}
use Rattle.gdb_machine.specs.declared.watches.SeenByte.{SeenByte}
use Rattle.gdb_server.specs.session.Session.{gdb_state}
use Rattle.gdb_server.specs.session.State.{GdbState}
use Rattle.gdb_server.proofs.session.session.GdbSession.back_goals.Goals as goal

pub returns : goal.returns
returns c = λ (images : List Entry).
    let g : GdbState = gdb_state c.args.self.now images in
    let seen : c.as_slice.result.now ≡ watched_bytes g.debug.script.machine.store.bytes g.watches =
    c.as_slice.ensures.value ∙ c.in_ok-seen.ensures
    ∙ ap (λ (b : Bytes). watched_bytes b g.watches)
    (c.memory-map.ensures.bytes ∙ ap (λ (m : MachineValue). (state_of m.guest).store.bytes) c.machine.ensures) in
    subst (λ (goals : List BackGoal). IfOk c.all_goals.result (λ items. items.items ≡ goals))
    (ap (λ (xs : List SeenByte). all_goals xs c.places.result.now) seen
    ∙ ap (λ (xs : List ℕ). all_goals (watched_bytes g.debug.script.machine.store.bytes g.watches) xs) c.places.ensures)
    c.all_goals.ensures

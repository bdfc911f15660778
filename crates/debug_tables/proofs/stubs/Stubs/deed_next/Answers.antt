use Rattle.std.proofs.Common.{◌≡◌, ℕ, Some, None, ap, sym, ◌∙◌}
use Rattle.std.specs.Prelude.{option_map}
use Rattle.std.specs.Option.{option_copied}
use Rattle.command_shell.specs.ArmCoreState.{State}
use Rattle.command_shell.specs.GuestState.{state_of}
use Rattle.command_shell.specs.Step.{without_x}
use Rattle.command_shell.specs.Stub.{Stub}
use Rattle.debug_tables.specs.Stubs.{deed_of_stub, stub_end, stub_unless_known, swi_next}
use Rattle.debug_tables.proofs.StubLemmas.{next_by_swi, none_known, numbered_unless_known}
use Rattle.debug_tables.proofs.stubs.Stubs.deed_next.Goals as goal

pub returns-in_err-swi : goal.returns-in_err-swi
returns-in_err-swi c =
    let s = state_of c.args.machine.now.guest in
    let at = c.pc.ensures.value ∙ ap (λ (x : State). x.pc) c.cpu-cpu.ensures in
    let other : s.cpu.pc ≡ stub_end → ⊥ = λ is. c.if-pc-eq-STUB_END.false (at ∙ is) in
    let swi = sym c.in_err-swi.was ∙ c.swi_next.ensures ∙ (λ i. swi_next (c.cpu-cpu.ensures i) (c.memory-memory.ensures.bytes i)) in
    c.from_residual.ensures ∙ next_by_swi c.args.self.now s None other swi

pub returns-then-is_known_swi : goal.returns-then-is_known_swi
returns-then-is_known_swi c =
    let s = state_of c.args.machine.now.guest in
    let stubs = c.args.self.now in
    let at = c.pc.ensures.value ∙ ap (λ (x : State). x.pc) c.cpu-cpu.ensures in
    let other : s.cpu.pc ≡ stub_end → ⊥ = λ is. c.if-pc-eq-STUB_END.false (at ∙ is) in
    let swi = sym c.in_ok-swi.was ∙ c.swi_next.ensures ∙ (λ i. swi_next (c.cpu-cpu.ensures i) (c.memory-memory.ensures.bytes i)) in
    let none : stub_unless_known stubs s (without_x c.in_ok-swi.swi) ≡ None =
    ap (stub_unless_known stubs s) (sym c.without_x_bit-number.ensures)
    ∙ none_known stubs s c.without_x_bit-number.result (sym c.is_known_swi.ensures ∙ c.if-is_known_swi.true) in
    sym (ap (option_map (λ (stub : Stub). deed_of_stub stub s.cpu c.in_ok-swi.swi)) none)
    ∙ next_by_swi stubs s (Some c.in_ok-swi.swi) other swi

pub returns-in_err-stub : goal.returns-in_err-stub
returns-in_err-stub c =
    let s = state_of c.args.machine.now.guest in
    let stubs = c.args.self.now in
    let at = c.pc.ensures.value ∙ ap (λ (x : State). x.pc) c.cpu-cpu.ensures in
    let other : s.cpu.pc ≡ stub_end → ⊥ = λ is. c.if-pc-eq-STUB_END.false (at ∙ is) in
    let swi = sym c.in_ok-swi.was ∙ c.swi_next.ensures ∙ (λ i. swi_next (c.cpu-cpu.ensures i) (c.memory-memory.ensures.bytes i)) in
    let number : ℕ = c.without_x_bit-number.result in
    let none : stub_unless_known stubs s (without_x c.in_ok-swi.swi) ≡ None =
    ap (stub_unless_known stubs s) (sym c.without_x_bit-number.ensures)
    ∙ numbered_unless_known stubs s number (sym c.is_known_swi.ensures ∙ c.if-is_known_swi.false)
    ∙ sym c.numbered.ensures ∙ ap option_copied c.in_err-stub.was in
    c.from_residual-in_err-stub.ensures
    ∙ sym (ap (option_map (λ (stub : Stub). deed_of_stub stub s.cpu c.in_ok-swi.swi)) none)
    ∙ next_by_swi stubs s (Some c.in_ok-swi.swi) other swi

pub returns : goal.returns
returns c =
    let s = state_of c.args.machine.now.guest in
    let stubs = c.args.self.now in
    let at = c.pc.ensures.value ∙ ap (λ (x : State). x.pc) c.cpu-cpu.ensures in
    let other : s.cpu.pc ≡ stub_end → ⊥ = λ is. c.if-pc-eq-STUB_END.false (at ∙ is) in
    let swi = sym c.in_ok-swi.was ∙ c.swi_next.ensures ∙ (λ i. swi_next (c.cpu-cpu.ensures i) (c.memory-memory.ensures.bytes i)) in
    let number : ℕ = c.without_x_bit-number.result in
    let some : stub_unless_known stubs s (without_x c.in_ok-swi.swi) ≡ Some c.in_ok-stub.stub.now =
    ap (stub_unless_known stubs s) (sym c.without_x_bit-number.ensures)
    ∙ numbered_unless_known stubs s number (sym c.is_known_swi.ensures ∙ c.if-is_known_swi.false)
    ∙ sym c.numbered.ensures ∙ ap option_copied c.in_ok-stub.was in
    ap Some (c.deed_of_stub.ensures ∙ ap (λ (x : State). deed_of_stub c.in_ok-stub.stub.now x c.in_ok-swi.swi) c.cpu-cpu.ensures)
    ∙ sym (ap (option_map (λ (stub : Stub). deed_of_stub stub s.cpu c.in_ok-swi.swi)) some)
    ∙ next_by_swi stubs s (Some c.in_ok-swi.swi) other swi

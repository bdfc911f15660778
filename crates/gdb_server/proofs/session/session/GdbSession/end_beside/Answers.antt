use Rattle.std.proofs.Common.{◌≡◌, Bool, false, true, ap, subst, sym, ◌∙◌, arith, ℕ}
use Rattle.arm_core.specs.State.{State}
use Rattle.gdb_machine.specs.GuestState.{state_of}
use Rattle.debug_session.specs.State.{ScriptState}
use Rattle.gdb_machine.specs.Value.{MachineValue}
use Rattle.gdb_machine.specs.GdbBreaks.{is_among}
use Rattle.gdb_server.specs.session.Session.{gdb_state}
use Rattle.gdb_packets.specs.Going.{has_left}
use Rattle.gdb_server.proofs.SessionLemmas.StepLemmas.{beside_end, beside_left, beside_list, beside_nothing, beside_same}
use Rattle.gdb_server.proofs.session.session.GdbSession.end_beside.Goals as goal

pub returns-then-is_other : goal.returns-then-is_other
returns-then-is_other c images =
    let s : ScriptState = (gdb_state c.args.self.now images).debug.script in
    let at : c.pc-at.result ≡ s.machine.cpu.pc =
    c.pc-at.ensures.value ∙ ap (λ (x : State). x.pc) c.cpu.ensures ∙ ap (λ (m : MachineValue). (state_of m.guest).cpu.pc) c.machine.ensures in
    let no_break = subst (λ (n : ℕ). is_among c.args.self.now.breaks n ≡ false) at (sym c.has.ensures ∙ c.if-has.false) in
    let goes_on = sym (c.stays_here.ensures images) ∙ c.if-stays_here.false in
    let within = subst (λ (n : ℕ). has_left c.args.going n ≡ false) at (sym c.has_left.ensures ∙ c.if-has_left.false) in
    let may : c.args.may_change ≡ true = grind arith in
    beside_list c.args.going c.args.self.now.stays c.args.self.now.breaks c.args.self.now.libraries.items c.args.may_change s no_break goes_on within may
    (sym (c.in_ok-is_other.ensures images) ∙ c.if-is_other.true)

pub returns-else-is_other : goal.returns-else-is_other
returns-else-is_other c images =
    let s : ScriptState = (gdb_state c.args.self.now images).debug.script in
    let at : c.pc-at.result ≡ s.machine.cpu.pc =
    c.pc-at.ensures.value ∙ ap (λ (x : State). x.pc) c.cpu.ensures ∙ ap (λ (m : MachineValue). (state_of m.guest).cpu.pc) c.machine.ensures in
    let no_break = subst (λ (n : ℕ). is_among c.args.self.now.breaks n ≡ false) at (sym c.has.ensures ∙ c.if-has.false) in
    let goes_on = sym (c.stays_here.ensures images) ∙ c.if-stays_here.false in
    let within = subst (λ (n : ℕ). has_left c.args.going n ≡ false) at (sym c.has_left.ensures ∙ c.if-has_left.false) in
    let may : c.args.may_change ≡ true = grind arith in
    beside_nothing c.args.going c.args.self.now.stays c.args.self.now.breaks c.args.self.now.libraries.items c.args.may_change s no_break goes_on within may
    (sym (c.in_ok-is_other.ensures images) ∙ c.if-is_other.false)

pub returns-then-stays_here : goal.returns-then-stays_here
returns-then-stays_here c images =
    let s : ScriptState = (gdb_state c.args.self.now images).debug.script in
    let at : c.pc-at.result ≡ s.machine.cpu.pc =
    c.pc-at.ensures.value ∙ ap (λ (x : State). x.pc) c.cpu.ensures ∙ ap (λ (m : MachineValue). (state_of m.guest).cpu.pc) c.machine.ensures in
    let no_break = subst (λ (n : ℕ). is_among c.args.self.now.breaks n ≡ false) at (sym c.has.ensures ∙ c.if-has.false) in
    beside_end c.args.going c.args.self.now.stays c.args.self.now.breaks c.args.self.now.libraries.items c.args.may_change s no_break (sym (c.stays_here.ensures images) ∙ c.if-stays_here.true)

pub returns-then-has_left : goal.returns-then-has_left
returns-then-has_left c images =
    let s : ScriptState = (gdb_state c.args.self.now images).debug.script in
    let at : c.pc-at.result ≡ s.machine.cpu.pc =
    c.pc-at.ensures.value ∙ ap (λ (x : State). x.pc) c.cpu.ensures ∙ ap (λ (m : MachineValue). (state_of m.guest).cpu.pc) c.machine.ensures in
    let no_break = subst (λ (n : ℕ). is_among c.args.self.now.breaks n ≡ false) at (sym c.has.ensures ∙ c.if-has.false) in
    let goes_on = sym (c.stays_here.ensures images) ∙ c.if-stays_here.false in
    beside_left c.args.going c.args.self.now.stays c.args.self.now.breaks c.args.self.now.libraries.items c.args.may_change s no_break goes_on
    (subst (λ (n : ℕ). has_left c.args.going n ≡ true) at (sym c.has_left.ensures ∙ c.if-has_left.true))

pub returns-then-not-may_change : goal.returns-then-not-may_change
returns-then-not-may_change c images =
    let s : ScriptState = (gdb_state c.args.self.now images).debug.script in
    let at : c.pc-at.result ≡ s.machine.cpu.pc =
    c.pc-at.ensures.value ∙ ap (λ (x : State). x.pc) c.cpu.ensures ∙ ap (λ (m : MachineValue). (state_of m.guest).cpu.pc) c.machine.ensures in
    let no_break = subst (λ (n : ℕ). is_among c.args.self.now.breaks n ≡ false) at (sym c.has.ensures ∙ c.if-has.false) in
    let goes_on = sym (c.stays_here.ensures images) ∙ c.if-stays_here.false in
    let within = subst (λ (n : ℕ). has_left c.args.going n ≡ false) at (sym c.has_left.ensures ∙ c.if-has_left.false) in
    let same : c.args.may_change ≡ false = grind arith in
    beside_same c.args.going c.args.self.now.stays c.args.self.now.breaks c.args.self.now.libraries.items c.args.may_change s no_break goes_on within same

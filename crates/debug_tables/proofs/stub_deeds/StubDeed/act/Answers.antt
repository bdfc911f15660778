use Rattle.std.proofs.Common.{ℕ, ◌-◌, [], ap, ◌∙◌, arith}
use Rattle.command_shell.specs.Memory.{script_at, script_with_budget, script_with_status}
use Rattle.command_shell.specs.Session.{script_state}
use Rattle.command_shell.specs.State.{ScriptState}
use Rattle.debug_tables.specs.byte_writes.Put.{script_after_put}
use Rattle.debug_tables.specs.Stubs.{StubDeedState, script_after_deed, script_or, script_with_settings}
use Rattle.debug_tables.proofs.StubLemmas.{put_left}
use Rattle.debug_tables.proofs.stub_deeds.StubDeed.act.Goals as goal

pub overflow_sub-left : goal.overflow_sub-left
overflow_sub-left c = omega (arith, c.left-left.ensures [], c.requires.left [])

pub returns : goal.returns
returns c images =
    let s = script_state c.args.session.now images in
    let deed = c.self.inside in
    let budget = c.set_budget.ensures images ∙ ap (λ (n : ℕ). script_with_budget s (n - 1)) (c.left-left.ensures images) in
    let put = put_left _ _ _ _ (c.put_bytes-written.ensures images)
    ∙ (λ i. script_or (budget i) (script_after_put (budget i) deed.at (c.as_slice.ensures.value i))) in
    c.set_pc.ensures images
    ∙ ap (λ (w : ScriptState). script_at w deed.next) (c.set_psr.ensures images
    ∙ ap (λ (w : ScriptState). script_with_status w deed.status) (c.set_registers.ensures images
    ∙ (λ i. script_with_settings (c.as_slice-2.ensures.value i) (put i))))
    ∙ ap (λ (d : StubDeedState). script_after_deed d s) c.self.view_is

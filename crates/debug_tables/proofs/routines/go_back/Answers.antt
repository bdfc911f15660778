-- By the fields that the caller's value stands for.
use Rattle.std.proofs.Common.{◌≡◌, ap, ◌∙◌}
use Rattle.command_shell.specs.Memory.{script_at}
use Rattle.command_shell.specs.Session.{script_state}
use Rattle.command_shell.specs.State.{ScriptState}
use Rattle.debug_tables.specs.Routines.{CallerState, script_back}
use Rattle.debug_tables.proofs.routines.go_back.Goals as goal

pub returns : goal.returns
returns c images =
    let s = script_state c.args.session.now images in
    let x : CallerState = record {
      mode = c.caller.inside.mode;
      link = c.caller.inside.link;
      at = c.caller.inside.at;
      left = c.caller.inside.left;
    } in
    let same : x ≡ c.args.caller = cc c.caller.view_is in
    c.set_pc.ensures images ∙ ap (λ (w : ScriptState). script_at w c.caller.inside.at) (c.set_register_in.ensures images)
    ∙ ap (λ (k : CallerState). script_back k s) same

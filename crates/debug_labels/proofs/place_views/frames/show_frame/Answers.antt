use Rattle.std.proofs.Common.{◌≡◌, List, ℕ, ap, subst, sym, ◌∙◌}
use Rattle.profile.specs.Output.{Writes}
use Rattle.debugger.specs.AddressMapMemory.{bytes_of}
use Rattle.debugger.specs.Modules.{one_text}
use Rattle.debug_labels.specs.place_views.Frames.{frame_line, open_frame_numbered, frame_text}
use Rattle.debug_labels.proofs.place_views.frames.show_frame.Goals as goal
use Rattle.debugger.specs.GuestState.{state_of}

pub returns-in-Some : goal.returns-in-Some
returns-in-Some g c =
    let s = state_of c.args.machine.now.guest in
    let number = c.args.number in
    let names = c.args.names.now in
    let frame = c.in-Some.frame in
    let here : frame_line names c.instances.result.now (bytes_of c.memory.result.now) number frame
    ≡ frame_line names s.tables.modules s.store.bytes number frame =
    λ i. frame_line names (c.instances.ensures i) (c.memory.ensures.bytes i) number frame in
    let same : frame_line names c.instances.result.now (bytes_of c.memory.result.now) number frame ≡ frame_text names s number =
    here ∙ ap (one_text (frame_line names s.tables.modules s.store.bytes number))
    (sym c.in-Some.is ∙ c.open_frame_numbered.ensures ∙ ap (open_frame_numbered number) c.open_frames.ensures) in
    record {
      writes = subst (λ (text : List ℕ). Writes g.W.Sink.contents g.W.Sink.has_failed c.args.sink.now c.show_line.new.sink
          c.show_line.result text) same c.show_line.ensures;
    }

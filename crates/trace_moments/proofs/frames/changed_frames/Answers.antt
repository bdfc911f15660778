-- The frames that are kept, and then the one that is entered.
use Rattle.std.proofs.Common.{◌≡◌, ◌+◌, ◌≤◌, ◌<◌, ◌++◌, List, length, take, Option, ap, ◌∙◌, arith}
use Rattle.std.specs.Prelude.{option_to_list}
use Rattle.trace_moments.specs.Frames.{frames_still_open, shown_frames}
use Rattle.trace_moments.specs.declared.frames.ShownFrame.{ShownFrame}
use Rattle.trace_moments.proofs.FrameLemmas.{kept_all, kept_left, none_entered, one_entered}
use Rattle.trace_moments.proofs.frames.changed_frames.Goals as goal
use Rattle.trace_moments.proofs.frames.changed_frames.Goals.{then-kept-count, else-kept-count}

pub returns-then-kept-frames-clause-replays : goal.returns-then-kept-frames-clause-replays
returns-then-kept-frames-clause-replays c = λ old count are.
    let few : length (shown_frames c.args.frames.now) ≤ c.args.kept + 1 = are.few in
    let more : c.args.kept < length c.args.frames.now = omega arith in
    let kept : frames_still_open c.if-kept-count.result old ≡ take c.args.kept (shown_frames c.args.frames.now) =
    elim c.if-kept-count.branch [
      | then-kept-count w ↦ rw w.result-is (kept_left c.args.kept old (shown_frames c.args.frames.now) are)
      | else-kept-count w ↦ rw w.result-is (kept_all c.args.kept old (shown_frames c.args.frames.now) (omega arith) are)
    ] in
    ap (λ (xs : List ShownFrame). xs ++ option_to_list c.shown.result) kept
    ∙ rw c.shown.ensures (one_entered c.args.kept c.args.frames.now c.innermost.result more few c.innermost.ensures.value)

-- The frames of module code as records show them: what each was entered for, and the slot of the
-- instance whose code it is (frames are this project's own).
use Rattle.std.specs.Prelude.{◌≡◌, ◌≤◌, ℕ, ◌+◌, List, map, take, length, ◌++◌, Option, Some, None, option_to_list}
use Rattle.swi_dispatch_answers.specs.declared.frames.frame.Frame.{Frame}
use Rattle.trace_moments.specs.declared.frames.FrameChanges.{FrameChanges}
use Rattle.trace_moments.specs.declared.frames.ShownFrame.{ShownFrame}

abbrev pub shown_frame : Frame → ShownFrame
shown_frame f = record { kind = f.kind; slot = f.slot }

abbrev pub shown_frames : List Frame → List ShownFrame
shown_frames frames = map shown_frame frames

-- Replayed: the frames but for the first ones are closed, where that is said, and then one is opened.
abbrev pub frames_still_open : Option ℕ → List ShownFrame → List ShownFrame
frames_still_open None frames = frames
frames_still_open (Some count) frames = take count frames

abbrev pub frames_after : FrameChanges → List ShownFrame → List ShownFrame
frames_after c frames = frames_still_open c.kept frames ++ option_to_list c.entered

-- Of the frames so many are those of before, and one more is open at most.
pub record AreKept {F : Type 0} (old new : List F) (count : ℕ) : Type 0 where
  pub same : take count new ≡ take count old
  pub there : count ≤ length new
  pub few : length new ≤ count + 1

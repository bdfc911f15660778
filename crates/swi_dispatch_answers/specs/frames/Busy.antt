-- Which open frames forbid a call on modules (this project's own).
use Rattle.std.specs.Prelude.{ℕ, Bool, true, false, ◌==◌, ◌&&◌, List}
use Rattle.std.specs.List.{list_any}
use Rattle.swi_dispatch_answers.specs.declared.frames.frame.Frame.{Frame}
use Rattle.swi_dispatch_answers.specs.declared.frames.frame.FrameKind.{FrameKind}
use Rattle.swi_dispatch_answers.specs.declared.frames.frame.FrameKind.TheVariants.{Swi, Entry}

abbrev pub is_swi : FrameKind → Bool
is_swi (Swi number) = true
is_swi (Entry kind) = false

-- a SWI of an instance in one of these slots is under way
abbrev pub has_swi_of : List ℕ → List Frame → Bool
has_swi_of slots frames = list_any (λ (f : Frame). is_swi f.kind
    && list_any (λ slot. slot == f.slot) slots) frames

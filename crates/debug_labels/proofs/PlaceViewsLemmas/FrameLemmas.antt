-- How the names of instances and the lines of frames go on.
use Rattle.std.proofs.Common.{◌≡◌, ℕ, suc, ◌+◌, ◌-◌, ◌<◌, ◌≤◌, List, [], ◌++◌, drop, Option, Some, None, refl, sym, ap, ◌∙◌, arith}
use Rattle.std.specs.List.{flat_map}
use Rattle.profile.proofs.OutputLemmas.{AddsAllBut-start, AddsAllBut-more, AddsAllBut-same, Appends-from_all_but}
use Rattle.debug_labels.specs.Words.{Naming}
use Rattle.debugger.specs.Modules.{one_text}
use Rattle.debugger.specs.Lookup.{instance_count}
use Rattle.debugger.specs.InstancesTableModules.{Module}
use Rattle.debugger.proofs.ModuleLemmas.{all_shown, next_shown}
use Rattle.debug_labels.specs.place_views.Frames.{frame_lines, frame_text, full_name_at, full_name_if, full_name_within}
use Rattle.debugger.specs.MachineState.{MachineState}

-- what the instances that are left report a slot
abbrev pub names_from : ℕ → ℕ → Option Module → List ℕ
names_from slot n None = []
names_from slot n (Some m) = flat_map (full_name_if slot m) (drop n m.instances)

pub next_name : (slot n : ℕ) (o : Option Module) → n < instance_count o
    → names_from slot n o ≡ full_name_at slot n o ++ names_from slot (n + 1) o
next_name slot n None below = absurd (omega (arith, below))
next_name slot n (Some m) below = next_shown (full_name_if slot m) m.instances n below

pub no_name_more : (slot n : ℕ) (o : Option Module) → instance_count o ≤ n → names_from slot n o ≡ []
no_name_more slot n None past = refl
no_name_more slot n (Some m) past = all_shown (full_name_if slot m) m.instances n past

pub first_name : (slot : ℕ) (o : Option Module) → one_text (full_name_within slot) o ≡ names_from slot 0 o
first_name slot None = refl
first_name slot (Some m) = refl

pub no_frames : (n : Naming) (s : MachineState) (left : ℕ) → left ≡ 0 → frame_lines n s left ≡ []
unfolding frame_lines
no_frames n s left none = rw none refl

one_frame : (n : Naming) (s : MachineState) (left : ℕ)
    → frame_lines n s (suc left) ≡ frame_text n s (suc left) ++ frame_lines n s left
unfolding frame_lines
one_frame n s left = refl

pub next_frame : (n : Naming) (s : MachineState) (left : ℕ) → 0 < left
    → frame_lines n s left ≡ frame_text n s left ++ frame_lines n s (left - 1)
next_frame n s left some =
    let split : left ≡ suc (left - 1) = omega (arith, some) in
    ap (frame_lines n s) split ∙ one_frame n s (left - 1)
    ∙ ap (λ (k : ℕ). frame_text n s k ++ frame_lines n s (left - 1)) (sym split)

pub ruleset name_steps = (AddsAllBut-start, AddsAllBut-more, AddsAllBut-same, Appends-from_all_but, next_name, no_name_more, first_name)

pub ruleset frame_steps = (AddsAllBut-start, AddsAllBut-more, AddsAllBut-same, Appends-from_all_but, no_frames, next_frame)

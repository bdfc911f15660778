-- What holds of the frames of module code that is under way: that it is kept.
use Rattle.std.proofs.Common.{◌≡◌, ◌+◌, ◌-◌, ◌==◌, ◌&&◌, length, take, drop, ℕ, zero, suc, Bool, true, false, Option, Some, None, List, [], ◌∷◌, ◌++◌, refl, sym, ◌∙◌, ap, inl, inr, append_assoc, length-append, arith}
use Rattle.std.specs.Prelude.{◌⊎◌, is_some, slice_get, if◌then◌else◌}
use Rattle.std.specs.List.{All, list_any}
use Rattle.std.proofs.lemmas.Bool.{false≢true, or_parts}
use Rattle.std.proofs.lemmas.List.{take-append-drop}
use Rattle.std.proofs.lemmas.List.Elements.{All-cons, All-head, All-nil, All-push, All-tail, All-take}
use Rattle.swi_dispatch_plans.specs.Naming.{slots_of_kept, slots_of_plan}
use Rattle.swi_dispatch_plans.specs.CodeKind.{CodeKind}
use Rattle.swi_dispatch_plans.specs.Plans.{Plan, first_action}
use Rattle.swi_dispatch_plans.specs.Doable.{is_used}
use Rattle.swi_dispatch_plans.specs.InstancesTableModules.{Module, slots_of}
use Rattle.swi_dispatch_plans.specs.Frame.{Frame}
use Rattle.swi_dispatch_plans.specs.FrameKind.{FrameKind}
use Rattle.swi_dispatch_plans.specs.FrameKind.TheVariants.{Swi, Entry}
use Rattle.swi_dispatch_plans.specs.Busy.{has_swi_of, is_swi}
use Rattle.swi_dispatch_plans.specs.Frames.{frames_after_close, innermost_frame}
use Rattle.swi_dispatch_plans.proofs.Sparing.{among, none_of}
use Rattle.swi_dispatch_guest.specs.MachineState.{Tables}
use Rattle.swi_dispatch_guest.specs.OpenFrames.{AreCalled, AreFrames, AreHeld, AreSpared, IsFrameOfCode, entries, entry_called, entry_kept}

-- the same frames and the same plan, of modules with the same slots
pub frames_kept : (old new : Tables) → AreFrames old → new.frames ≡ old.frames → new.plan ≡ old.plan
    → slots_of new.modules ≡ slots_of old.modules
    → AreFrames new
frames_kept old new are frames plan slots = record {
  kept = rw (frames, plan) are.kept;
  called = rw (frames, plan) are.called;
  held = rw (frames, slots) are.held;
  spared = rw (frames, plan) are.spared;
}

-- how many entries there are
more : (swi : Bool) (m n k : ℕ) → m ≡ n + k → (if swi then m else 1 + m) ≡ (if swi then n else 1 + n) + k
more true m n k e = e
more false m n k e = omega (arith, e)

entries-append : (xs ys : List Frame) → entries (xs ++ ys) ≡ entries xs + entries ys
entries-append [] ys = omega arith
entries-append (x ∷ xs) ys = more (is_swi x.kind) _ _ _ (entries-append xs ys)

-- where there is none, a list has no entry in it
idle_parts : (swi : Bool) (n : ℕ) → (if swi then n else 1 + n) ≡ 0 → (swi ≡ true) × (n ≡ 0)
idle_parts true n none = (refl, none)
idle_parts false n none = absurd (omega (arith, none))

no_entry : (below above : List Frame) (f : Frame) → entries (below ++ f ∷ above) ≡ 0 → is_swi f.kind ≡ false → ⊥
no_entry below above f idle entry =
    let counted : entries (f ∷ above) ≡ 1 + entries above = rw entry refl in
    omega (arith, entries-append below (f ∷ above), counted, idle)

pub idle_spared : (slots : List ℕ) (fs : List Frame) → entries fs ≡ 0 → AreSpared slots fs
idle_spared slots fs idle below above f is entry = absurd (no_entry below above f (ap entries (sym is) ∙ idle) entry)

-- nor any of another entry than a plan's first action calls
swi_called : (entry : Option (CodeKind × ℕ)) (kind : FrameKind) (slot : ℕ) → is_swi kind ≡ true → IsFrameOfCode entry kind slot
swi_called entry (Swi number) slot swi = tt
swi_called entry (Entry kind) slot swi = absurd (false≢true swi)

idle_called : (plan : Option Plan) (fs : List Frame) → entries fs ≡ 0 → AreCalled plan fs
idle_called plan [] idle = All-nil (λ (f : Frame). IsFrameOfCode (entry_kept plan) f.kind f.slot)
idle_called plan (f ∷ fs) idle =
    let swi = idle_parts (is_swi f.kind) (entries fs) idle in
    All-cons (λ (g : Frame). IsFrameOfCode (entry_kept plan) g.kind g.slot) f fs (swi_called (entry_kept plan) f.kind f.slot swi.0)
    (idle_called plan fs swi.1)

-- no entry, and no plan that is kept
pub frames_idle : (t : Tables) → t.plan ≡ None → entries t.frames ≡ 0 → AreHeld t.modules t.frames → AreFrames t
frames_idle t plan none held = record {
  kept = rw plan none;
  called = idle_called t.plan t.frames none;
  held = held;
  spared = idle_spared (slots_of_kept t.plan) t.frames none;
}

-- no frame at all
pub frames_none : (t : Tables) → t.plan ≡ None → t.frames ≡ [] → AreFrames t
frames_none t plan none = frames_idle t plan (ap entries none) (rw none
    (All-nil (λ (f : Frame). is_used f.slot (slots_of t.modules) ≡ true)))

-- where slots change that no SWI under way is of, the frames' instances are there still
stays_held : (old new slots : List ℕ) (f : Frame) → is_swi f.kind ≡ true
    → (is_swi f.kind && list_any (λ (slot : ℕ). slot == f.slot) slots) ≡ false
    → ((s : ℕ) → is_used s slots ≡ false → is_used s new ≡ is_used s old) → is_used f.slot old ≡ true
    → is_used f.slot new ≡ true
stays_held old new slots f swi none same there =
    let unnamed : list_any (λ (slot : ℕ). slot == f.slot) slots ≡ false = rw swi at none in
    same f.slot (sym (among f.slot slots) ∙ unnamed) ∙ there

pub held_still : (old new slots : List ℕ) (fs : List Frame) → entries fs ≡ 0 → has_swi_of slots fs ≡ false
    → ((s : ℕ) → is_used s slots ≡ false → is_used s new ≡ is_used s old)
    → All (λ (f : Frame). is_used f.slot old ≡ true) fs
    → All (λ (f : Frame). is_used f.slot new ≡ true) fs
held_still old new slots [] idle none same held = All-nil (λ (f : Frame). is_used f.slot new ≡ true)
held_still old new slots (f ∷ fs) idle none same held =
    let swi = idle_parts (is_swi f.kind) (entries fs) idle in
    let parts = or_parts (is_swi f.kind && list_any (λ (slot : ℕ). slot == f.slot) slots) (has_swi_of slots fs) none in
    All-cons (λ (g : Frame). is_used g.slot new ≡ true) f fs
    (stays_held old new slots f swi.0 parts.0 same (All-head (λ (g : Frame). is_used g.slot old ≡ true) f fs held))
    (held_still old new slots fs swi.1 parts.1 same (All-tail (λ (g : Frame). is_used g.slot old ≡ true) f fs held))

-- A list with one frame more, parted at a frame: that is the last, or stands before it.
head_of : (f : Frame) (fs : List Frame) → Frame
head_of f [] = f
head_of f (g ∷ gs) = g

tail_of : (fs : List Frame) → List Frame
tail_of [] = []
tail_of (g ∷ gs) = gs

parted : (fs below above : List Frame) (f g : Frame) → fs ++ f ∷ [] ≡ below ++ g ∷ above
    → ((fs ≡ below) × (f ≡ g)) ⊎ ((before : List Frame) × (fs ≡ below ++ g ∷ before))
unfolding head_of tail_of
parted [] [] above f g is = inl (refl, ap (head_of f) is)
parted [] (b ∷ bs) above f g is =
    absurd (omega (arith, ap length (ap tail_of is), length-append bs (g ∷ above)))
parted (x ∷ xs) [] above f g is = inr (xs, ap (λ (y : Frame). y ∷ xs) (ap (head_of f) is))
parted (x ∷ xs) (b ∷ bs) above f g is =
    let head : x ≡ b = ap (head_of f) is in
    elim (parted xs bs above f g (ap tail_of is)) [
      | inl last ↦ inl ((λ i. head i ∷ last.0 i), last.1)
      | inr before ↦ inr (before.0, λ i. head i ∷ before.1 i)
    ]

-- a frame of a SWI is opened
swi_spared : (slots : List ℕ) (fs : List Frame) (f : Frame) → is_swi f.kind ≡ true → AreSpared slots fs
    → AreSpared slots (fs ++ f ∷ [])
swi_spared slots fs f swi spared below above g is entry = elim (parted fs below above f g is) [
  | inl last ↦ absurd (false≢true (sym entry ∙ ap (λ (x : Frame). is_swi x.kind) (sym last.1) ∙ swi))
  | inr before ↦ spared below before.0 g before.1 entry
]

pub swi_opened : (old new : Tables) (f : Frame) → AreFrames old → new.plan ≡ old.plan → new.modules ≡ old.modules
    → new.frames ≡ old.frames ++ f ∷ []
    → is_swi f.kind ≡ true → is_used f.slot (slots_of old.modules) ≡ true → AreFrames new
swi_opened old new f are plan modules opened swi there =
    let same : entries new.frames ≡ entries old.frames = ap entries opened ∙ entries-append old.frames (f ∷ [])
    ∙ rw swi (omega arith) in
    record {
      kept = rw (same, plan) are.kept;
      called = rw (plan, opened) (All-push (λ (g : Frame). IsFrameOfCode (entry_kept old.plan) g.kind g.slot) old.frames f
          are.called (swi_called (entry_kept old.plan) f.kind f.slot swi));
      held = rw (modules, opened) (All-push (λ (g : Frame). is_used g.slot (slots_of old.modules) ≡ true) old.frames f
          are.held there);
      spared = rw (plan, opened) (swi_spared (slots_of_kept old.plan) old.frames f swi are.spared);
    }

-- a frame of an entry is opened where there is none yet, and its code may be entered
entry_spared : (slots : List ℕ) (fs : List Frame) (f : Frame) → entries fs ≡ 0 → has_swi_of (f.slot ∷ slots) fs ≡ false
    → AreSpared slots (fs ++ f ∷ [])
entry_spared slots fs f idle none below above g is entry = elim (parted fs below above f g is) [
  | inl last ↦ (λ i. has_swi_of ((sym last.1 i).slot ∷ slots) (sym last.0 i)) ∙ none
  | inr before ↦ absurd (no_entry below before.0 g (ap entries (sym before.1) ∙ idle) entry)
]

pub entry_opened : (t : Tables) (fs : List Frame) (f : Frame) (p : Plan) → entries fs ≡ 0
    → IsFrameOfCode (entry_called (first_action p.actions)) f.kind f.slot → AreHeld t.modules fs
    → is_used f.slot (slots_of t.modules) ≡ true → has_swi_of (f.slot ∷ slots_of_plan p) fs ≡ false
    → is_swi f.kind ≡ false → t.plan ≡ Some p → t.frames ≡ fs ++ f ∷ [] → AreFrames t
entry_opened t fs f p idle called held there none entry plan opened =
    let counted : entries (f ∷ []) ≡ 1 = rw entry refl in
    let one : entries t.frames ≡ 1 = omega (arith, ap entries opened, entries-append fs (f ∷ []), counted, idle) in
    record {
      kept = rw plan one;
      called = rw (plan, opened) (All-push (λ (g : Frame). IsFrameOfCode (entry_called (first_action p.actions)) g.kind g.slot) fs f
          (idle_called (Some p) fs idle) called);
      held = rw opened (All-push (λ (g : Frame). is_used g.slot (slots_of t.modules) ≡ true) fs f held there);
      spared = rw (plan, opened) (entry_spared (slots_of_plan p) fs f idle none);
    }

-- the innermost frame is the last
last_of : (n : ℕ) (xs : List Frame) (f : Frame) → slice_get xs n ≡ Some f → n + 1 ≡ length xs → xs ≡ take n xs ++ f ∷ []
last_of n [] f there len = absurd (omega (arith, len))
last_of zero (x ∷ []) f there len = let same : x ≡ f = cc in ap (λ (g : Frame). g ∷ []) same
last_of zero (x ∷ y ∷ ys) f there len = absurd (omega (arith, len))
last_of (suc n) (x ∷ xs) f there len = ap (λ (ys : List Frame). x ∷ ys) (last_of n xs f there (omega (arith, len)))

innermost_last : (xs : List Frame) (f : Frame) → innermost_frame xs ≡ Some f → xs ≡ frames_after_close xs ++ f ∷ []
innermost_last [] f there = cc
innermost_last (x ∷ xs) f there = last_of (length (x ∷ xs) - 1) (x ∷ xs) f there (omega arith)

-- a frame is closed
closed_spared : (slots : List ℕ) (n : ℕ) (fs : List Frame) → AreSpared slots fs → AreSpared slots (take n fs)
closed_spared slots n fs spared below above f is entry =
    let whole : fs ≡ below ++ f ∷ (above ++ drop n fs) =
    sym (take-append-drop n fs) ∙ ap (λ (xs : List Frame). xs ++ drop n fs) is
    ∙ append_assoc below (f ∷ above) (drop n fs) in
    spared below (above ++ drop n fs) f whole entry

pub swi_closes : (old new : Tables) (f : Frame) → AreFrames old → innermost_frame old.frames ≡ Some f → is_swi f.kind ≡ true
    → new.plan ≡ old.plan → new.modules ≡ old.modules → new.frames ≡ frames_after_close old.frames → AreFrames new
swi_closes old new f are last swi plan modules closes =
    let none : entries (f ∷ []) ≡ 0 = rw swi refl in
    let same : entries (frames_after_close old.frames) ≡ entries old.frames =
    omega (arith, ap entries (innermost_last old.frames f last), entries-append (frames_after_close old.frames) (f ∷ []), none) in
    record {
      kept = ap entries closes ∙ same ∙ are.kept ∙ ap (λ (p : Option Plan). if is_some p then 1 else 0) (sym plan);
      called = rw (plan, closes) (All-take (λ (g : Frame). IsFrameOfCode (entry_kept old.plan) g.kind g.slot)
          (length old.frames - 1) old.frames are.called);
      held = rw (modules, closes) (All-take (λ (f : Frame). is_used f.slot (slots_of old.modules) ≡ true)
          (length old.frames - 1) old.frames are.held);
      spared = rw (plan, closes) (closed_spared (slots_of_kept old.plan) (length old.frames - 1) old.frames are.spared);
    }

-- While an entry's frame is open, a plan is kept.
pub plan_there : (t : Tables) (f : Frame) → AreFrames t → t.plan ≡ None → innermost_frame t.frames ≡ Some f
    → is_swi f.kind ≡ false → ⊥
plan_there t f are none last entry =
    let idle : entries t.frames ≡ 0 = are.kept ∙ ap (λ (p : Option Plan). if is_some p then 1 else 0) none in
    no_entry (frames_after_close t.frames) [] f (ap entries (sym (innermost_last t.frames f last)) ∙ idle) entry

-- An entry's frame is closed: none is left, and no SWI under way is of an instance that its plan
-- names.
pub entry_closes : (xs : List Frame) (f : Frame) → entries xs ≡ 1 → innermost_frame xs ≡ Some f → is_swi f.kind ≡ false
    → entries (frames_after_close xs) ≡ 0
entry_closes xs f one there entry =
    let counted : entries (f ∷ []) ≡ 1 = rw entry refl in
    omega (arith, ap entries (innermost_last xs f there), entries-append (frames_after_close xs) (f ∷ []), counted, one)

pub closed_held : (ms : List Module) (xs : List Frame) → AreHeld ms xs → AreHeld ms (frames_after_close xs)
closed_held ms xs held = All-take (λ (f : Frame). is_used f.slot (slots_of ms) ≡ true) (length xs - 1) xs held

pub entry_spares : (used slots : List ℕ) (xs : List Frame) (f : Frame)
    → All (λ (g : Frame). is_used g.slot used ≡ true) (frames_after_close xs)
    → AreSpared slots xs → innermost_frame xs ≡ Some f → is_swi f.kind ≡ false → has_swi_of slots (frames_after_close xs) ≡ false
entry_spares used slots xs f held spared there entry =
    none_of used (f.slot ∷ slots) slots (frames_after_close xs) held (λ s used none.
    (or_parts (f.slot == s) (is_used s slots) none).1)
    (spared (frames_after_close xs) [] f (innermost_last xs f there) entry)

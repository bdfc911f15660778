-- Records replayed one after another, by induction over them.
use Rattle.std.proofs.Common.{◌≡◌, ℕ, zero, suc, List, [], ◌∷◌, ◌++◌, Option, refl, ◌∙◌, ap}
use Rattle.std.specs.Prelude.{unwrap_or}
use Rattle.arrayvec.specs.ArrayVec.{ArrayVec}
use Rattle.address_map.specs.declared.item.Item.{Item}
use Rattle.arm_core.specs.State.{State}
use Rattle.flex_store.specs.declared.blocks.FlexBlock.{FlexBlock}
use Rattle.trace_effects.specs.changes.Laws.{core_after}
use Rattle.trace_effects.specs.declared.changes.status.Flag.TheVariants.{Negative, Zero, Carry, Overflow, InterruptsOff, FastInterruptsOff}
use Rattle.trace_effects.specs.declared.shown_words.words.ShownWord.{ShownWord}
use Rattle.trace_effects.specs.shown_words.Replay.{word_after, words_after}
use Rattle.trace_effects.proofs.ChangesLemmas.ReplayLemmas.{bools, modes, places}
use Rattle.trace_store_text.specs.declared.items.changes.ItemChange.{ItemChange}
use Rattle.trace_store_text.specs.declared.modules.marks.InstanceMark.{InstanceMark}
use Rattle.trace_store_text.specs.items.Laws.{with_item_change, with_item_changes}
use Rattle.trace_moments.specs.Flex.{flex_block_after, flex_blocks_after}
use Rattle.trace_moments.specs.Frames.{frames_after}
use Rattle.trace_moments.specs.declared.areas.ShownAreas.{ShownAreas}
use Rattle.trace_moments.specs.declared.flex.FlexChange.{FlexChange}
use Rattle.trace_moments.specs.declared.flex.FlexRange.{FlexRange}
use Rattle.trace_moments.specs.declared.frames.ShownFrame.{ShownFrame}
use Rattle.trace_moments.specs.law_replay.Laws.{IsSameMachine, IsRecordOf, PrefixesReplay, MachineSeen, MomentRecord, records_of, first_of_all, last_seen, seen_after, seen_after_all}

-- what a list of words leaves at an address depends on what stood there alone
word_alike : (c : ShownWord) (f g : ℕ → ℕ) (a : ℕ) → f a ≡ g a → word_after c f a ≡ word_after c g a
word_alike c f g a h = rw h refl

pub words_alike : (cs : List ShownWord) (f g : ℕ → ℕ) (a : ℕ) → f a ≡ g a → words_after cs f a ≡ words_after cs g a
words_alike [] f g a h = h
words_alike (c ∷ cs) f g a h = words_alike cs (word_after c f) (word_after c g) a (word_alike c f g a h)

item_alike : (c : ItemChange) (f g : ℕ → Option Item) (a : ℕ) → f a ≡ g a → with_item_change c f a ≡ with_item_change c g a
item_alike c f g a h = rw h refl

items_alike : (cs : List ItemChange) (f g : ℕ → Option Item) (a : ℕ) → f a ≡ g a → with_item_changes cs f a ≡ with_item_changes cs g a
items_alike [] f g a h = h
items_alike (c ∷ cs) f g a h = items_alike cs (with_item_change c f) (with_item_change c g) a (item_alike c f g a h)

block_alike : (c : FlexChange) (f g : ℕ → Option FlexBlock) (a : ℕ) → f a ≡ g a → flex_block_after c f a ≡ flex_block_after c g a
block_alike c f g a h = rw h refl

blocks_alike : (cs : List FlexChange) (f g : ℕ → Option FlexBlock) (a : ℕ) → f a ≡ g a → flex_blocks_after cs f a ≡ flex_blocks_after cs g a
blocks_alike [] f g a h = h
blocks_alike (c ∷ cs) f g a h = blocks_alike cs (flex_block_after c f) (flex_block_after c g) a (block_alike c f g a h)

-- the same record leaves the same of what is the same
alike : (t : MomentRecord) (v w : MachineSeen) → IsSameMachine v w → IsSameMachine (seen_after t v) (seen_after t w)
alike t v w h = record {
  core = ap (λ (s : State). core_after t.expected s t.core) h.core;
  words = λ a at. words_alike t.words v.words w.words a (h.words a at);
  items = λ heap a below. items_alike (t.items heap) (v.items heap) (w.items heap) a (h.items heap a below);
  areas = ap (λ (x : ShownAreas). unwrap_or t.areas x) h.areas;
  modules = ap (λ (x : ArrayVec InstanceMark). unwrap_or t.modules x) h.modules;
  flex = λ anchor. blocks_alike t.flex v.flex w.flex anchor (h.flex anchor);
  flex_range = ap (λ (x : Option FlexRange). unwrap_or t.flex_range x) h.flex_range;
  frames = ap (λ (x : List ShownFrame). frames_after t.frames x) h.frames;
  output = ap (λ (x : List ℕ). x ++ t.printed) h.output;
}

all_alike : (ts : List MomentRecord) (v w : MachineSeen) → IsSameMachine v w → IsSameMachine (seen_after_all ts v) (seen_after_all ts w)
all_alike [] v w h = h
all_alike (t ∷ ts) v w h = all_alike ts (seen_after t v) (seen_after t w) (alike t v w h)

same_then : (u v w : MachineSeen) → IsSameMachine u v → IsSameMachine v w → IsSameMachine u w
same_then u v w h k = record {
  core = h.core ∙ k.core;
  words = λ a at. h.words a at ∙ k.words a at;
  items = λ heap a below. h.items heap a below ∙ k.items heap a below;
  areas = h.areas ∙ k.areas;
  modules = h.modules ∙ k.modules;
  flex = λ anchor. h.flex anchor ∙ k.flex anchor;
  flex_range = h.flex_range ∙ k.flex_range;
  frames = h.frames ∙ k.frames;
  output = h.output ∙ k.output;
}

same_self : (v : MachineSeen) → IsSameMachine v v
same_self v = record {
  core = refl;
  words = λ a at. refl;
  items = λ heap a below. refl;
  areas = refl;
  modules = refl;
  flex = λ anchor. refl;
  flex_range = refl;
  frames = refl;
  output = refl;
}

-- one record leads to the machine behind it
one : (v w : MachineSeen) (t : MomentRecord) → IsRecordOf v w t → IsSameMachine (seen_after t v) w
one v w t h = record {
  core = rw (
    h.registers,
    h.flags Negative,
    h.flags Zero,
    h.flags Carry,
    h.flags Overflow,
    h.flags InterruptsOff,
    h.flags FastInterruptsOff,
    h.mode,
    h.goes_to,
    places t.expected w.core,
    modes v.core.psr.mode w.core.psr.mode,
    bools v.core.psr.negative w.core.psr.negative,
    bools v.core.psr.zero w.core.psr.zero,
    bools v.core.psr.carry w.core.psr.carry,
    bools v.core.psr.overflow w.core.psr.overflow,
    bools v.core.psr.interrupts_off w.core.psr.interrupts_off,
    bools v.core.psr.fast_interrupts_off w.core.psr.fast_interrupts_off,
  ) refl;
  words = h.words;
  items = h.items;
  areas = h.areas;
  modules = h.modules;
  flex = h.flex;
  flex_range = h.flex_range;
  frames = h.frames;
  output = h.output;
}

pub prefixes : PrefixesReplay
prefixes start ms zero h = same_self start
prefixes start [] (suc k) h = same_self start
prefixes start (m ∷ ms) (suc k) h =
    let rest = records_of (first_of_all k ms) in
    same_then (seen_after_all rest (seen_after m.changes start)) (seen_after_all rest m.seen) (last_seen m.seen (first_of_all k ms))
    (all_alike rest (seen_after m.changes start) m.seen (one start m.seen m.changes h.0))
    (prefixes m.seen ms k h.1)

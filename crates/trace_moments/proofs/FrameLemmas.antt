-- Frames that are left and entered, replayed, and which of them are kept.
use Rattle.std.proofs.Common.{◌≡◌, ℕ, zero, suc, ◌+◌, ◌-◌, ◌≤◌, ◌<◌, List, [], ◌∷◌, ◌++◌, length, map, take, Option, Some, None, refl, sym, ap, subst, ◌∙◌, arith}
use Rattle.std.specs.Prelude.{option_map, option_to_list, slice_get}
use Rattle.std.proofs.Math.Seq.{take-append_seam, take-length, take-nil}
use Rattle.std.proofs.lemmas.List.{append-nil, length-append, length-take-le}
use Rattle.swi_dispatch_answers.specs.declared.frames.frame.Frame.{Frame}
use Rattle.trace_moments.specs.Frames.{AreKept, frames_after, frames_still_open, shown_frame, shown_frames}
use Rattle.trace_moments.specs.declared.frames.ShownFrame.{ShownFrame}

all_taken : (count : ℕ) (xs : List ShownFrame) → length xs ≤ count → take count xs ≡ xs
all_taken count [] few = take-nil count
all_taken zero (x ∷ xs) few = absurd (omega arith)
all_taken (suc count) (x ∷ xs) few = ap (λ (ys : List ShownFrame). x ∷ ys) (all_taken count xs (omega arith))

length_shown : (xs : List Frame) → length (shown_frames xs) ≡ length xs
length_shown [] = refl
length_shown (x ∷ xs) = ap suc (length_shown xs)

last_taken : (count : ℕ) (xs : List Frame) → length xs ≡ suc count
    → take count (shown_frames xs) ++ option_to_list (option_map shown_frame (slice_get xs count)) ≡ shown_frames xs
last_taken count [] one = absurd (omega arith)
last_taken zero (x ∷ []) one = refl
last_taken zero (x ∷ (y ∷ ys)) one = absurd (omega arith)
last_taken (suc count) (x ∷ xs) one = ap (λ (ys : List ShownFrame). shown_frame x ∷ ys) (last_taken count xs (omega arith))

-- those that are kept, where some are left and where none is
pub kept_left : (kept : ℕ) (old new : List ShownFrame) → AreKept old new kept → frames_still_open (Some kept) old ≡ take kept new
kept_left kept old new are = sym are.same

pub kept_all : (kept : ℕ) (old new : List ShownFrame) → length old ≤ kept → AreKept old new kept → frames_still_open None old ≡ take kept new
kept_all kept old new few are = sym (all_taken kept old few) ∙ sym are.same

-- and with one that is entered, or none
pub one_entered : (kept : ℕ) (frames : List Frame) (o : Option Frame) → kept < length frames → length (shown_frames frames) ≤ kept + 1
    → o ≡ slice_get frames (length frames - 1) → take kept (shown_frames frames) ++ option_to_list (option_map shown_frame o) ≡ shown_frames frames
one_entered kept frames o more few is =
    let count : length frames ≡ suc kept = omega (arith, length_shown frames) in
    let last : length frames - 1 ≡ kept = omega arith in
    rw (is, last) (last_taken kept frames count)

pub none_entered : (kept : ℕ) (frames : List Frame) → length frames ≤ kept → take kept (shown_frames frames) ++ [] ≡ shown_frames frames
none_entered kept frames few = append-nil (take kept (shown_frames frames)) ∙ all_taken kept (shown_frames frames) (omega (arith, length_shown frames))

-- Which of some frames are kept where they are left as they are, where one more is open, and where the
-- innermost was closed.
pub kept_if_left : (old new : List Frame) (count : ℕ) → new ≡ old → count ≤ length old → length old ≤ count + 1 → AreKept old new count
kept_if_left old new count same there few = record {
  same = ap (λ (fs : List Frame). take count fs) same;
  there = omega (arith, ap (λ (fs : List Frame). length fs) same);
  few = omega (arith, ap (λ (fs : List Frame). length fs) same);
}

pub kept_if_opened : (old opened new : List Frame) (count : ℕ) → new ≡ old ++ opened → length opened ≤ 1 → count ≡ length old → AreKept old new count
kept_if_opened old opened new count are few is =
    let long : length new ≡ length old + length opened = ap (λ (fs : List Frame). length fs) are ∙ length-append old opened in
    record {
      same = rw (are, is) (take-append_seam old opened ∙ sym (take-length old));
      there = omega arith;
      few = omega arith;
    }

pub kept_if_closed : (old opened new : List Frame) → new ≡ take (length old - 1) old ++ opened → length opened ≤ 1 → AreKept old new (length old - 1)
kept_if_closed old opened new are few =
    let count : ℕ = length old - 1 in
    let short : length (take count old) ≡ count = length-take-le count old (omega arith) in
    let long : length new ≡ length (take count old) + length opened = ap (λ (fs : List Frame). length fs) are ∙ length-append (take count old) opened in
    record {
      same = rw are (subst (λ (n : ℕ). take n (take count old ++ opened) ≡ take count old) short (take-append_seam (take count old) opened));
      there = omega arith;
      few = omega arith;
    }

take_map : (count : ℕ) (xs : List Frame) → take count (shown_frames xs) ≡ shown_frames (take count xs)
take_map zero xs = refl
take_map (suc count) [] = refl
take_map (suc count) (x ∷ xs) = ap (λ (ys : List ShownFrame). shown_frame x ∷ ys) (take_map count xs)

pub kept_shown : (old new : List Frame) (count : ℕ) → AreKept old new count → AreKept (shown_frames old) (shown_frames new) count
kept_shown old new count are = record {
  same = take_map count new ∙ (ap shown_frames are.same ∙ sym (take_map count old));
  there = omega (arith, length_shown new, are.there);
  few = omega (arith, length_shown new, are.few);
}

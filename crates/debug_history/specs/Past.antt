-- The past of a machine since it was made: what was done to it. The machine at a moment of it is made
-- anew by doing the same again, since a machine's steps are a function of it.
use Rattle.std.specs.Prelude.{ℕ, zero, suc, Bool, true, false, ◌&&◌, ◌+◌, ◌-◌, ◌^◌, ◌==◌, length, nat_le, nat_lt, map, List, [], ◌∷◌, ◌++◌, Option, None, if◌then◌else◌}
use Rattle.std.specs.List.{last_or}
use Rattle.profile.specs.images.Entries.{Entry}
use Rattle.profile.specs.Sizes.{Sizes}
use Rattle.command_shell_lines.specs.declared.debug_words.stubs.Stub.{Stub}
use Rattle.debug_history.specs.Acts.{PastMoment, fresh_moment, is_anew, moment_after_acts, steps_act, steps_of_acts, steps_of_deed, stubs_of_deed}
use Rattle.debug_history.specs.declared.act.Act.{Act}

-- what was done, where it is known, and what lies ahead: what was gone back by since something was done last
pub record PastState : Type 0 where
  pub is_kept : Bool
  pub acts : List Act
  pub ahead : List Act

-- that of a machine as it was made, where it is to be kept; and one that is not known
abbrev pub past_from_start : Bool → PastState
past_from_start is_kept = record { is_kept = is_kept; acts = []; ahead = [] }

abbrev pub unknown_past : PastState
unknown_past = past_from_start false

-- one act more, and none ahead; the steps in all are counted below 2^64
abbrev pub past_with_act : PastState → Act → PastState
past_with_act p act = if p.is_kept then (
    if nat_lt (steps_of_acts p.acts + steps_of_deed act.deed) (2 ^ 64)
    then record p { acts = p.acts ++ act ∷ []; ahead = [] } else unknown_past) else p

-- whether the machine stands as it was made: nothing was done to it, or the last that was done is that it was
-- made anew
unfoldable pub ends_anew : Bool → List Act → Bool
ends_anew is_new [] = is_new
ends_anew is_new (act ∷ rest) = ends_anew (is_anew act.deed) rest

-- Steps load modules from images by their names, so that with other images the past is not known any
-- more, unless the machine stands as it was made: then it begins.
abbrev pub past_with_other_images : PastState → PastState
past_with_other_images p = past_from_start (p.is_kept && ends_anew true p.acts)

-- where they may be others
abbrev pub past_with_images : Bool → PastState → PastState
past_with_images are_others p = if are_others then past_with_other_images p else p

-- The acts up to a moment, which is named by how many steps were counted before it. Where the user
-- changed the machine at that number, it is the moment after all these changes.
abbrev pub first_steps : ℕ → List Stub → ℕ → List Act
first_steps line stubs zero = []
first_steps line stubs (suc count) = steps_act line stubs (suc count) ∷ []

unfoldable pub acts_until : ℕ → List Act → List Act
acts_until step [] = []
acts_until step (act ∷ rest) = if nat_le (steps_of_deed act.deed) step
    then act ∷ acts_until (step - steps_of_deed act.deed) rest
    else first_steps act.line (stubs_of_deed act.deed) step

-- And the acts behind it: of steps in which it lies there are those that are left.
abbrev pub act_behind : ℕ → Act → Act
act_behind zero act = act
act_behind (suc count) act =
    steps_act act.line (stubs_of_deed act.deed) (steps_of_deed act.deed - suc count)

unfoldable pub acts_from : ℕ → List Act → List Act
acts_from step [] = []
acts_from step (act ∷ rest) = if nat_le (steps_of_deed act.deed) step
    then acts_from (step - steps_of_deed act.deed) rest else act_behind step act ∷ rest

-- at a moment that was before, or that lies ahead
abbrev pub past_until : ℕ → PastState → PastState
past_until step p = record p {
  acts = acts_until step (p.acts ++ p.ahead);
  ahead = acts_from step (p.acts ++ p.ahead);
}

-- The acts before those at the end that are all of one line.
unfoldable pub acts_before_line : ℕ → List Act → List Act
acts_before_line line [] = []
acts_before_line line (act ∷ rest) = let before = acts_before_line line rest in
    if (length before == 0) && (act.line == line) then [] else act ∷ before

-- the past without what its last line did
abbrev pub past_before_line : ℕ → PastState → PastState
past_before_line line p = record p { acts = acts_before_line line p.acts; ahead = [] }

-- the line of the last act
abbrev pub line_of_last_act : List Act → Option ℕ
line_of_last_act acts = last_or None (map (λ act. act.line) acts)

-- the machine after a past
abbrev pub moment_after_past : List Entry → Sizes → PastState → PastMoment
moment_after_past images sizes p = moment_after_acts images sizes p.acts (fresh_moment sizes)

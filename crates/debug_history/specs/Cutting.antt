-- Acts that are cut by a moment within them.
use Rattle.std.specs.Prelude.{ℕ, take, drop, List, [], ◌∷◌, ◌++◌, Option, Some, None}
use Rattle.debug_history.specs.Acts.{stubs_of_deed}
use Rattle.debug_history.specs.Past.{act_behind, first_steps}
use Rattle.debug_history.specs.declared.act.Act.{Act}
use Rattle.debug_history.specs.declared.past.Cut.{Cut}

-- so many steps of the first of some acts
abbrev pub first_cut : List Act → ℕ → List Act
first_cut [] left = []
first_cut (act ∷ rest) left = first_steps act.line (stubs_of_deed act.deed) left

-- what is left of them, and those that follow
abbrev pub behind_cut : List Act → ℕ → List Act
behind_cut [] left = []
behind_cut (act ∷ rest) left = act_behind left act ∷ rest

-- so many acts stay, and so many steps of the next one; or all stay
abbrev pub acts_cut : List Act → Option Cut → List Act
acts_cut acts (Some cut) = take cut.index acts ++ first_cut (drop cut.index acts) cut.left
acts_cut acts None = acts

abbrev pub acts_behind : List Act → Option Cut → List Act
acts_behind acts (Some cut) = behind_cut (drop cut.index acts) cut.left
acts_behind acts None = []

-- Which of the images that a script adds are there where it ends before its last line.
use Rattle.std.specs.Prelude.{◌≡◌, ◌++◌, ◌⊎◌, List}
use Rattle.profile.specs.images.Entries.{Entry}
use Rattle.command_shell.specs.State.{Answered}

-- A list begins with a front of it.
pub record IsFront (front all : List Entry) : Type 0 where
  pub rest : List Entry
  pub whole : all ≡ front ++ rest

-- `new` are the images of before, and then some of those that `all` has more, in order.
pub record HasSome (old all new : List Entry) : Type 0 where
  pub keeps : IsFront old new
  pub in_order : IsFront new all

-- The images are those of before, or those that the answer leaves.
abbrev pub AreOldOrAnswer : List Entry → List Entry → Answered → Type 0
AreOldOrAnswer old new reported = (new ≡ old) ⊎ (new ≡ reported.state.images)

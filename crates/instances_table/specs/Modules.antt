-- The modules of a machine as a list, oldest first, each with its instances, oldest first (RISC OS
-- 3 Programmer's Reference Manual, "Modules", "Module instantiation"). A slot is the place of an
-- instance's private word; that there are 64 of them is this project's own.
use Rattle.std.specs.Prelude.{ℕ, ◌≡◌, ◌≤◌, ◌+◌, ◌==◌, Bool, true, List, [], ◌∷◌, zero, suc, cond, nat_lt, ◌++◌, map}
use Rattle.std.specs.List.{list_any}
use Rattle.std.specs.Str.{str_eq_ignore_ascii_case}
use Rattle.profile.specs.declared.images.module_header.header.Header.{Header}
use Rattle.instances_table.specs.declared.parts.Image.{Image}

pub record Instance : Type 0 where
  pub name : List ℕ
  pub slot : ℕ

-- `preferred` is the slot of the preferred instance
pub record Module : Type 0 where
  pub header : Header
  pub image : Image
  pub instances : List Instance
  pub preferred : ℕ

-- names compare without the case of ASCII letters
abbrev pub has_title : List ℕ → Module → Bool
has_title title m = str_eq_ignore_ascii_case m.header.title.items title

abbrev pub has_name : List ℕ → Instance → Bool
has_name name i = str_eq_ignore_ascii_case i.name name

abbrev pub has_slot : ℕ → Instance → Bool
has_slot slot i = i.slot == slot

abbrev pub has_instance : ℕ → Module → Bool
has_instance slot m = list_any (has_slot slot) m.instances

-- how many items pass a test
abbrev pub number_passing : {X : Type 0} → (X → Bool) → List X → ℕ
number_passing test [] = 0
number_passing test (x ∷ xs) = cond (test x) 1 0 + number_passing test xs

-- how many instances of all modules have a slot
abbrev pub slot_count : ℕ → List Module → ℕ
slot_count slot [] = 0
slot_count slot (m ∷ ms) = number_passing (has_slot slot) m.instances + slot_count slot ms

-- the slots of all instances, module by module
abbrev pub slots_of : List Module → List ℕ
slots_of [] = []
slots_of (m ∷ ms) = map (λ (i : Instance). i.slot) m.instances ++ slots_of ms

-- the instances of a module have different names, and one of them is preferred, so there is one
pub record IsModule (m : Module) : Type 0 where
  pub names : (name : List ℕ) → number_passing (has_name name) m.instances ≤ 1
  pub preferred : has_instance m.preferred m ≡ true

abbrev pub EachIsModule : List Module → Type 0
EachIsModule [] = Unit {0}
EachIsModule (m ∷ ms) = IsModule m × EachIsModule ms

-- What holds of every list of modules: each module has a title of its own, each instance a slot of
-- its own below 64.
pub record AreModules (modules : List Module) : Type 0 where
  pub titles : (title : List ℕ) → number_passing (has_title title) modules ≤ 1
  pub slots : (slot : ℕ) → slot_count slot modules ≤ cond (nat_lt slot 64) 1 0
  pub each : EachIsModule modules

-- a list with its item of a number changed, if there is one
abbrev pub changed_at : {X : Type 0} → ℕ → (X → X) → List X → List X
changed_at number change [] = []
changed_at zero change (x ∷ xs) = change x ∷ xs
changed_at (suc number) change (x ∷ xs) = x ∷ changed_at number change xs

-- What definitions that go step by step mean: how many words a tail has (Plans), and which code a service call enters
-- (Services).
use Rattle.std.specs.Prelude.{◌≡◌, ◌<◌, ◌≤◌, ◌⊎◌, ℕ, ◌+◌, ◌-◌, ◌%◌, ◌/◌, Bool, true, false, not, ◌==◌, ◌&&◌, ◌||◌, List, [], ◌∷◌, length, take, slice_index, Option, Some, None}
use Rattle.std.specs.List.{count_by, range_with_len}
use Rattle.debug_modes.specs.State.{ScriptState}
use Rattle.debug_history.specs.Past.{PastState}
use Rattle.debug_runs.specs.Labels.{ImageLabels}
use Rattle.debug_modes.specs.declared.modes.DebugModes.{DebugModes}
use Rattle.debug_listing.specs.Tails.{tail_words}
use Rattle.debug_modules.specs.Services.{ServiceState, served_by, service_begun, service_called, service_code}
use Rattle.debug_modules.specs.declared.services.ServiceCode.{ServiceCode}

-- THE WORDS OF A TAIL

abbrev pub quotes_before : List ℕ → ℕ → ℕ
quotes_before tail k = count_by (λ b. b == 34) (take k tail)

-- a space (32) parts words where an even number of double quotes (34) stand before it
abbrev pub blank_parts_at : List ℕ → ℕ → Bool
blank_parts_at tail k = slice_index tail k == 32 && (quotes_before tail k % 2 == 0)

-- a word begins at a byte that parts none, which is the first or stands behind one that does
abbrev pub begins_at : List ℕ → ℕ → Bool
begins_at tail k = not (blank_parts_at tail k) && (k == 0 || blank_parts_at tail (k - 1))

abbrev pub TailWordsAreWords : Type 0
TailWordsAreWords = (tail : List ℕ)
    → tail_words false false tail ≡ count_by (begins_at tail) (range_with_len 0 (length tail))

-- SERVICE CALLS

-- The code that an instance has for service calls, where it stands in the list of modules then and is meant by a
-- title. Its place is 64 times the number of its module, and its own number behind that.
abbrev pub service_code_at : ServiceState → List ℕ → ℕ → Option ServiceCode
service_code_at v title place = service_code v.taken.script.machine title (place / 64) (place % 64)

-- from one place up to another none has such code
abbrev pub NoneBetween : ServiceState → List ℕ → ℕ → ℕ → Type 0
NoneBetween v title from end = (place : ℕ) → from ≤ place → place < end → service_code_at v title place ≡ None

-- a turn: the place of an instance, its code, and how far the call was before and after it
pub record Turn : Type 0 where
  pub place : ℕ
  pub code : ServiceCode
  pub before : ServiceState
  pub after : ServiceState

-- A turn is the next from a place on: none before it has claimed the call, and all have gone back; no instance that
-- has code is left out; this one has that code, which is entered.
pub record IsNextTurn (labels : List ImageLabels) (number : ℕ) (title : List ℕ) (from : ℕ) (v : ServiceState) (t : Turn) : Type 0 where
  pub before : t.before ≡ v
  pub unclaimed : v.is_over ≡ false
  pub further : from ≤ t.place
  pub within : t.place < 4096
  pub none_between : NoneBetween v title from t.place
  pub stands : service_code_at v title t.place ≡ Some t.code
  pub after : t.after ≡ served_by labels number t.code v

-- turns one after another, each at a later place than the one before it, until the call is over or no instance is left
abbrev pub AreServiceTurns : List ImageLabels → ℕ → List ℕ → ℕ → ServiceState → List Turn → Type 0
AreServiceTurns labels number title from v [] = (v.is_over ≡ true) ⊎ NoneBetween v title from 4096
AreServiceTurns labels number title from v (t ∷ ts) =
    IsNextTurn labels number title from v t × AreServiceTurns labels number title (t.place + 1) t.after ts

-- how far the call is behind them
abbrev pub behind_turns : ServiceState → List Turn → ServiceState
behind_turns v [] = v
behind_turns v (t ∷ ts) = behind_turns t.after ts

-- each service call is such turns
abbrev pub ServiceCallsInTurn : Type 0
ServiceCallsInTurn = (m : DebugModes) (labels : List ImageLabels) (budget : ℕ) (s : ScriptState) (p : PastState)
    (number service : ℕ) (title : List ℕ) → (let begun = service_begun m budget s p service in
    (ts : List Turn) × (AreServiceTurns labels number title 0 begun ts
    × (service_called m labels budget s p number service title ≡ (behind_turns begun ts).taken)))

-- The record of the ranges that the store calls use, and the marks of the words that only store
-- calls may write: descriptors, lengths and links of heaps, headers of flex blocks, and anchors.
use Rattle.std.specs.Prelude.{ℕ, zero, suc, ◌≡◌, ◌≢◌, ◌≤◌, ◌<◌, Bool, true, false, not, ◌||◌, ◌+◌, ◌%◌, ◌^◌, ◌&&◌, List, [], ◌∷◌, ◌++◌, if◌then◌else◌, ◌==◌, Option, Some, None, is_some}
use Rattle.std.specs.List.{filter, list_any}
use Rattle.address_map.specs.declared.class.Class.{Class}
use Rattle.address_map.specs.declared.class.Class.TheVariants as class
use Rattle.address_map.specs.declared.region.Kind.{Kind}
use Rattle.address_map.specs.declared.region.Kind.TheVariants as kind
use Rattle.address_map.specs.declared.region.Region.{Region}
use Rattle.address_map.specs.Bytes.{in_range, shares_address, word_start}

abbrev pub is_heap_kind : Kind → Bool
is_heap_kind kind.Heap = true
is_heap_kind kind.Rma = true
is_heap_kind other = false

-- The class that a kind gives to the one word at its address. The other kinds are those of recorded
-- ranges.
abbrev pub class_of_kind : Kind → Option Class
class_of_kind kind.HeadWord = Some class.Heap
class_of_kind kind.FlexHeader = Some class.FlexHeader
class_of_kind kind.Anchor = Some class.Anchor
class_of_kind other = None

abbrev pub is_word_kind : Kind → Bool
is_word_kind kind = is_some (class_of_kind kind)

-- the classes after the word at `at` got one
abbrev pub with_class : (ℕ → Class) → ℕ → Class → ℕ → Class
with_class classes at mark a = if word_start a == at then mark else classes a

abbrev pub with_class_of : Option Class → ℕ → (ℕ → Class) → ℕ → Class
with_class_of None at classes a = classes a
with_class_of (Some mark) at classes a = with_class classes at mark a

-- the classes after a word, or a range, is owned
abbrev pub with_mark : Kind → ℕ → (ℕ → Class) → ℕ → Class
with_mark kind at classes a = with_class_of (class_of_kind kind) at classes a

abbrev pub plain_if_some : Option Class → Option Class
plain_if_some None = None
plain_if_some (Some mark) = Some class.Plain

-- the classes after a word, or a range, is owned no more
abbrev pub without_mark : Kind → ℕ → (ℕ → Class) → ℕ → Class
without_mark kind at classes a = with_class_of (plain_if_some (class_of_kind kind)) at classes a

-- the classes after the `len` bytes from `at` on became plain
abbrev pub with_plain_at : (ℕ → Class) → ℕ → ℕ → ℕ → Class
with_plain_at classes at len a = if in_range at len a then class.Plain else classes a

-- A range that may be recorded: it begins at a whole word and ends in the 26-bit address space.
pub record IsRegion (region : Region) : Type 0 where
  pub aligned : region.at % 4 ≡ 0
  pub end : region.at + region.len ≤ 2 ^ 26

-- does a recorded range share an address with the `len` bytes from `at` on?
abbrev pub meets_record : List Region → ℕ → ℕ → Bool
meets_record regions at len = list_any (λ region. shares_address at len region.at region.len) regions

-- the record after a range more, which goes to its end; a word is marked, and needs no record
abbrev pub with_region : List Region → Region → List Region
with_region regions region = if is_word_kind region.kind then regions else regions ++ region ∷ []

-- are two kinds the same one, of those that are recorded? A word is no record.
abbrev pub are_same : Kind → Kind → Bool
are_same kind.Heap kind.Heap = true
are_same kind.Rma kind.Rma = true
are_same kind.FlexStore kind.FlexStore = true
are_same kind.Image kind.Image = true
are_same kind.SystemPage kind.SystemPage = true
are_same kind other = false

-- is a record that of a range of this kind that starts at `at`?
abbrev pub is_record : Kind → ℕ → Region → Bool
is_record kind at region = are_same kind region.kind && region.at == at

-- the record without the first range of that kind that starts at `at`, or all of it where there is
-- none
abbrev pub without_region : List Region → Kind → ℕ → List Region
without_region [] kind at = []
without_region (region ∷ regions) kind at = if is_record kind at region then regions
    else region ∷ without_region regions kind at

-- the record after the first range of that kind that starts at `at` got another length
abbrev pub with_len : List Region → Kind → ℕ → ℕ → List Region
with_len [] kind at len = []
with_len (region ∷ regions) kind at len = if is_record kind at region
    then record { kind = region.kind; at = region.at; len = len } ∷ regions
    else region ∷ with_len regions kind at len

-- is a record that of a heap which a guest has made, and which starts among the `len` bytes from
-- `at` on?
abbrev pub is_guest_heap : Kind → Bool
is_guest_heap kind.Heap = true
is_guest_heap other = false

abbrev pub starts_heap : ℕ → ℕ → Region → Bool
starts_heap at len region = is_guest_heap region.kind && in_range at len region.at

-- the record without these
abbrev pub without_heaps : ℕ → ℕ → List Region → List Region
without_heaps at len regions = filter (λ region. not (starts_heap at len region)) regions

-- Is one of the `len` bytes from `at` on an anchor's? `anchor` says of each byte whether it is.
unfoldable pub anchor_among : (ℕ → Bool) → ℕ → ℕ → Bool
anchor_among anchor at zero = false
anchor_among anchor at (suc n) = anchor at || anchor_among anchor (at + 1) n

-- none of these bytes is an anchor's
abbrev pub HasNoAnchor : (ℕ → Class) → ℕ → ℕ → Type 0
HasNoAnchor classes at len = (a : ℕ) → at ≤ a → a < at + len → classes a ≢ class.Anchor

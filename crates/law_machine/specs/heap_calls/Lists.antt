-- Calls of OS_Heap one after another, on any heaps of a store: what they leave, and what those on
-- one heap are given and answer.
use Rattle.std.specs.Prelude.{ℕ, ◌==◌, ◌&&◌, Bool, true, false, Option, Some, None, Result, Ok, Err, List, [], ◌∷◌, ◌++◌, if◌then◌else◌}
use Rattle.profile.specs.ErrorNumber.{ErrorNumber}
use Rattle.profile.specs.declared.reason.HeapReason.{HeapReason}
use Rattle.profile.specs.declared.reason.HeapReason.TheVariants as reason
use Rattle.os_heap_words.specs.lists.Heap.{HeapList}
use Rattle.os_heap.specs.Store.{Store, IsSound, find_heap}
use Rattle.law_machine.specs.heap_calls.Alone.{HeapCall, call_given}
use Rattle.law_machine.specs.heap_calls.Turns.{Reply, call_on, reply_of}

-- a call: its reason in R0, a heap in R1, a block in R2, a size or a change of one in R3
pub record StoreCall : Type 0 where
  pub why : HeapReason
  pub heap : ℕ
  pub block : ℕ
  pub size : ℕ

abbrev pub outcome : Store → StoreCall → Result (Store × (ℕ × ℕ)) ErrorNumber
outcome s c = call_on s c.heap c.why c.block c.size

-- the store after it: an error changes nothing
abbrev pub store_or : Store → Result (Store × (ℕ × ℕ)) ErrorNumber → Store
store_or s (Ok r) = r.0
store_or s (Err e) = s

abbrev pub after : Store → StoreCall → Store
after s c = store_or s (outcome s c)

abbrev pub after_all : Store → List StoreCall → Store
after_all s [] = s
after_all s (c ∷ cs) = after_all (after s c) cs

-- each of these stores is sound
abbrev pub AreSound : Store → List StoreCall → Type 0
AreSound s [] = Unit {0}
AreSound s (c ∷ cs) = IsSound (after s c) × AreSound (after s c) cs

-- Is it a call on a heap that is there? All are but the one that makes a heap. And is it one on the
-- heap at `start`?
abbrev pub is_on_heap : HeapReason → Bool
is_on_heap reason.Initialise = false
is_on_heap other = true

abbrev pub is_call_to : ℕ → ℕ → HeapReason → Bool
is_call_to start heap why = is_on_heap why && heap == start

-- The calls on the heap that starts at an address, each with what it is given in the store in which
-- it is made.
abbrev pub given_in : Store → StoreCall → Option HeapList → List HeapCall
given_in s c None = []
given_in s c (Some h) = call_given s h c.why c.block c.size ∷ []

abbrev pub calls_on : Store → ℕ → List StoreCall → List HeapCall
calls_on s start [] = []
calls_on s start (c ∷ cs) =
    (if is_call_to start c.heap c.why then given_in s c (find_heap start s.heaps) else [])
    ++ calls_on (after s c) start cs

-- and their replies
abbrev pub replies_on : Store → ℕ → List StoreCall → List Reply
replies_on s start [] = []
replies_on s start (c ∷ cs) =
    (if is_call_to start c.heap c.why then reply_of (outcome s c) ∷ [] else [])
    ++ replies_on (after s c) start cs

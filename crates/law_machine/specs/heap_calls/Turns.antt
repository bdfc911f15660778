-- A list of calls on a heap by itself, in turns. A turn is the call as it stands in a store that
-- has this heap and nothing else.
use Rattle.std.specs.Prelude.{ℕ, ◌+◌, Bool, true, false, ◌||◌, Option, Some, None, Result, Ok, Err, List, [], ◌∷◌, if◌then◌else◌}
use Rattle.profile.specs.ErrorNames.{error_code}
use Rattle.profile.specs.Outcome.{bind}
use Rattle.profile.specs.ErrorNumber.{ErrorNumber}
use Rattle.profile.specs.declared.reason.HeapReason.{HeapReason}
use Rattle.profile.specs.declared.reason.HeapReason.TheVariants as reason
use Rattle.address_map.specs.Bytes.{in_range}
use Rattle.address_map.specs.declared.region.Kind.TheVariants as kind
use Rattle.address_map.specs.declared.region.Region.{Region}
use Rattle.os_heap_words.specs.lists.Heap.{HeapList}
use Rattle.os_heap.specs.Calls.{store_after_init, block_sized, store_after_change, heap_description, gave_back, store_after_get, store_after_resize}
use Rattle.os_heap.specs.Store.{Store, find_heap}
use Rattle.law_machine.specs.heap_calls.Alone.{Alone, Growth, HeapCall, alone_in}

-- OS_Heap in any store: the store, and R2 and R3, as the call leaves them. A register in which
-- nothing is answered stays.
abbrev pub call_on : Store → ℕ → HeapReason → ℕ → ℕ → Result (Store × (ℕ × ℕ)) ErrorNumber
call_on s heap reason.Initialise block size = bind (store_after_init s heap size)
    (λ r. Ok (r.0, (block, size)))
call_on s heap reason.Describe block size = bind (heap_description s heap) (λ r. Ok (s, r))
call_on s heap reason.Get block size = bind (store_after_get s heap size) (λ r. Ok (r.0, (r.1, size)))
call_on s heap reason.Free block size = bind (gave_back s heap block) (λ r. Ok (r.0, (block, size)))
call_on s heap reason.Resize block size = bind (store_after_resize s heap block size)
    (λ r. Ok (r.0, (r.1, size)))
call_on s heap reason.ChangeSize block size = bind (store_after_change s heap size)
    (λ r. Ok (r.0, (block, size)))
call_on s heap reason.BlockSize block size = bind (block_sized s heap block) (λ n. Ok (s, (block, n)))

-- The store that has the heap alone, with what is given for a growth. Where it may not grow, a byte
-- after the heap's end is taken.
abbrev pub no_growth : Growth
no_growth = record { mapped = false; meets = false; bytes = λ a. 0 }

abbrev pub growth_or_none : Option Growth → Growth
growth_or_none None = no_growth
growth_or_none (Some g) = g

abbrev pub others_met : HeapList → Bool → List Region
others_met h true = record { kind = kind.SystemPage; at = h.start + h.end; len = 1 } ∷ []
others_met h false = []

abbrev pub store_with : Alone → Growth → Store
store_with w g = record {
  bytes = record {
    mapped = λ a. in_range w.heap.start w.heap.end a || g.mapped;
    at = λ a. if in_range w.heap.start w.heap.end a then w.bytes a else g.bytes a;
  };
  heaps = w.heap ∷ [];
  others = others_met w.heap g.meets;
  anchor = λ a. false;
  header = λ a. false;
}

-- what a call answers: R2 and R3 as it leaves them, or the error's number
pub data Reply : Type 0 where
  Answered : ℕ → ℕ → Reply
  Refused : ℕ → Reply

abbrev pub reply_of : Result (Store × (ℕ × ℕ)) ErrorNumber → Reply
reply_of (Ok r) = Answered r.1.0 r.1.1
reply_of (Err e) = Refused (error_code e)

-- the heap alone as a call leaves it: on an error as it was
abbrev pub alone_or : Alone → Store → Option HeapList → Alone
alone_or w s None = w
alone_or w s (Some h) = alone_in s h

abbrev pub alone_then : Alone → Result (Store × (ℕ × ℕ)) ErrorNumber → Alone
alone_then w (Ok r) = alone_or w r.0 (find_heap w.heap.start r.0.heaps)
alone_then w (Err e) = w

-- one turn: the reply, and the heap then
pub record HeapTurn : Type 0 where
  pub reply : Reply
  pub now : Alone

abbrev pub heap_turn_of_result : Alone → Result (Store × (ℕ × ℕ)) ErrorNumber → HeapTurn
heap_turn_of_result w r = record { reply = reply_of r; now = alone_then w r }

abbrev pub turn_of_call : Alone → HeapCall → HeapTurn
turn_of_call w c = heap_turn_of_result w (call_on (store_with w
    (growth_or_none c.growth)) w.heap.start c.reason c.block c.size)

-- the replies to a list of calls, and the heap after them
abbrev pub replies : Alone → List HeapCall → List Reply
replies w [] = []
replies w (c ∷ cs) = (turn_of_call w c).reply ∷ replies (turn_of_call w c).now cs

abbrev pub heap_after_calls : Alone → List HeapCall → Alone
heap_after_calls w [] = w
heap_after_calls w (c ∷ cs) = heap_after_calls (turn_of_call w c).now cs

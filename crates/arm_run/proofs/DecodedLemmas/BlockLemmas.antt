-- LDM and STM.
use Rattle.std.proofs.Common.{◌≡◌, ◌<◌, ◌≤◌, ◌&&◌, ◌+◌, ◌-◌, ◌*◌, ◌%◌, ◌^◌, ℕ, zero, suc, Bool, true, false, cond, not, nat_eq, List, [], ◌∷◌, ◌++◌, length, map, slice_get, Result, Ok, inl, inr, refl, sym, ◌∙◌, ap, subst, arith, if◌then◌else◌}
use Rattle.std.proofs.lemmas.Bool.{cases_lt}
use Rattle.std.proofs.lemmas.Bool.Decides.{nat_tests}
use Rattle.std.proofs.lemmas.List.{map-append}
use Rattle.arm_core.specs.Outcome.{bind}
use Rattle.arm_core.specs.Word.{bit_of, field}
use Rattle.arm_core.specs.Fault.{Fault}
use Rattle.arm_step.specs.Bytes.{Bytes, word_start}
use Rattle.arm_core.specs.Fields.{block_transfer_in}
use Rattle.arm_core.specs.Names.{block_mode_of}
use Rattle.arm_core.specs.Action.TheVariants as action
use Rattle.arm_core.specs.BlockTransfer.{BlockTransfer}
use Rattle.arm_core.specs.BlockMode.{BlockMode}
use Rattle.arm_core.specs.BlockMode.TheVariants.{DecrementAfter, IncrementAfter, DecrementBefore, IncrementBefore}
use Rattle.arm_core.specs.Condition.TheVariants as condition
use Rattle.arm_core.specs.Effect.{status_operand, with_next_pc, with_result}
use Rattle.arm_core.specs.Listed.{listed_below, registers_of_list}
use Rattle.arm_core.specs.State.{IsCore, State, register_in, slot_of}
use Rattle.arm_core.specs.declared.psr.Mode.{Mode}
use Rattle.arm_core.specs.declared.psr.Mode.TheVariants.{User}
use Rattle.arm_core.specs.declared.turn.StepEnd.{StepEnd}
use Rattle.arm_core.proofs.Listing.{few_of_all}
use Rattle.arm_step.specs.Blocks.{lowest, stepped_base, transferred_count, block_start, block_base, loads_status, bank_of, with_block_base, with_loaded, with_block_status, with_status_if, block_loaded, stores_new_base, block_value, block_values, block_stored, result_of_block_transfer}
use Rattle.arm_step.specs.Step.{or_fault, result_of_action}
use Rattle.arm_step.specs.Words.{words_loaded, words_stored}
use Rattle.arm_predecode.specs.Kinds.{goes_up, gap_below, MovesBlock}
use Rattle.arm_predecode.specs.OpValue.{OpValue}
use Rattle.arm_run.specs.Blocked.{block_base_after, first_word, block_first, with_block_base_after}
use Rattle.arm_run.specs.Moved.{with_base_if}
use Rattle.arm_run.specs.Standing.{core_at}
use Rattle.arm_run.proofs.Carried.{carried}
use Rattle.arm_run.proofs.OperandsRead.{other_below, status_read}
use Rattle.arm_run.proofs.Positions.{next_position}
use Rattle.arm_run.proofs.Transferred.{based_by}
use Rattle.arm_run.specs.decoded.Laws.{BlocksLoad, BlocksStore}
use Rattle.arm_run.proofs.DecodedLemmas.TransferLemmas.{base_read, bound_alike}

-- where the words lie, and the base after them, by whether the base goes up and how far above the lower end they begin
begins_at : (mode : BlockMode) (base n : ℕ) → base < 2 ^ 32 → n ≤ 16 → word_start (lowest mode base n) ≡ first_word (goes_up mode) base (4 * n) (gap_below mode)
begins_at IncrementAfter base n h few = ap word_start (omega arith)
begins_at IncrementBefore base n h few = refl
begins_at DecrementAfter base n h few = ap word_start (omega arith)
begins_at DecrementBefore base n h few = ap word_start (omega arith)

ends_at : (n base : ℕ) (mode : BlockMode) → stepped_base mode base n ≡ block_base_after (goes_up mode) base (4 * n)
ends_at n base IncrementAfter = refl
ends_at n base IncrementBefore = refl
ends_at n base DecrementAfter = refl
ends_at n base DecrementBefore = refl

counted_so : (r : OpValue) (l u w p : Bool) → MovesBlock l u w p r → transferred_count (block_transfer_in r.word) ≡ length (registers_of_list r.value)
counted_so r l u w p h = ap (λ (x : ℕ). length (registers_of_list x)) (sym h.list)

-- the base that the word reads, with the count of the words
first_so : (at : ℕ) (s : State) (l u w p : Bool) (r : OpValue) → IsCore s → MovesBlock l u w p r → block_start (core_at s at) (block_transfer_in r.word) ≡ block_first u s r
first_so at s l u w p r core h =
    let mode : BlockMode = block_mode_of (field r.word 23 2) in
    let base : ℕ = register_in s.psr.mode s r.rn in
    let n : ℕ = length (registers_of_list r.value) in
    ap (λ (x : ℕ). word_start (lowest mode x (transferred_count (block_transfer_in r.word)))) (base_read at (field r.word 16 4) r.rn s h.rn_below h.rn)
    ∙ ap (λ (k : ℕ). word_start (lowest mode base k)) (counted_so r l u w p h)
    ∙ begins_at mode base n (core.words (slot_of s.psr.mode r.rn)) (few_of_all r.value)
    ∙ ap (λ (b : Bool). first_word b base (4 * n) (gap_below mode)) h.up
    ∙ ap (λ (k : ℕ). first_word u base k (gap_below mode)) (sym h.size)
    ∙ ap (λ (k : ℕ). first_word u base r.rs k) (sym h.gap)

base_so : (at : ℕ) (s : State) (l u w p : Bool) (r : OpValue) → MovesBlock l u w p r
    → with_block_base (with_next_pc (core_at s at)) (block_transfer_in r.word) (block_base (core_at s at) (block_transfer_in r.word)) ≡ core_at (with_block_base_after u w s r) (at + 1)
base_so at s l u w p r h =
    let mode : BlockMode = block_mode_of (field r.word 23 2) in
    let base : ℕ = register_in s.psr.mode s r.rn in
    let n : ℕ = length (registers_of_list r.value) in
    let rn : field r.word 16 4 < 15 = subst (λ (k : ℕ). k < 15) h.rn h.rn_below in
    let after : block_base (core_at s at) (block_transfer_in r.word) ≡ block_base_after u base r.rs =
    ap (λ (x : ℕ). stepped_base mode x (transferred_count (block_transfer_in r.word))) (base_read at (field r.word 16 4) r.rn s h.rn_below h.rn)
    ∙ ap (λ (k : ℕ). stepped_base mode base k) (counted_so r l u w p h)
    ∙ ends_at n base mode
    ∙ ap (λ (b : Bool). block_base_after b base (4 * n)) h.up
    ∙ ap (λ (k : ℕ). block_base_after u base k) (sym h.size) in
    ap (λ (x : ℕ). with_block_base (with_next_pc (core_at s at)) (block_transfer_in r.word) x) after
    ∙ ap (λ (t : State). with_block_base t (block_transfer_in r.word) (block_base_after u base r.rs)) (next_position s at)
    ∙ ap (λ (b : Bool). if b then with_result (core_at s (at + 1)) (field r.word 16 4) (block_base_after u base r.rs) else core_at s (at + 1)) h.back
    ∙ based_by s (at + 1) (field r.word 16 4) (block_base_after u base r.rs) w (other_below (field r.word 16 4) 15 rn)
    ∙ ap (λ (k : ℕ). core_at (with_base_if w s k (block_base_after u base r.rs)) (at + 1)) (sym h.rn)

-- without S no status is loaded, and the registers are those of the present mode
present_bank : (t : State) (r : OpValue) (l u w p : Bool) → MovesBlock l u w p r → bank_of t (block_transfer_in r.word) ≡ t.psr.mode
present_bank t r l u w p h =
    let tr : BlockTransfer = block_transfer_in r.word in
    ap (λ (b : Bool). if b && not (b && (tr.loads && bit_of tr.list 15)) then User else t.psr.mode) h.plain

status_left : (t : State) (ws : List ℕ) (r : OpValue) (l u w p : Bool) → MovesBlock l u w p r → with_block_status t (block_transfer_in r.word) ws ≡ t
status_left t ws r l u w p h =
    let tr : BlockTransfer = block_transfer_in r.word in
    let none : loads_status tr ≡ false = ap (λ (b : Bool). b && (tr.loads && bit_of tr.list 15)) h.plain in
    ap (λ (b : Bool). if b then with_status_if t (slice_get ws (length ws - 1)) else t) none

pub blocks_load : BlocksLoad
unfolding result_of_action result_of_block_transfer
blocks_load u w p r h owned s at b inside =
    let t : State = core_at s at in
    let tr : BlockTransfer = block_transfer_in r.word in
    let regs : List ℕ = registers_of_list tr.list in
    let f : List ℕ → Result (State × Bytes) Fault = λ ws. Ok (
      with_block_status (with_loaded (bank_of t tr) (with_block_base (with_next_pc t) tr (block_base t tr)) regs ws) tr ws,
      b,
    ) in
    let g : List ℕ → Result (State × Bytes) Fault = λ ws. Ok (with_loaded s.psr.mode (core_at (with_block_base_after u w s r) (at + 1)) (registers_of_list r.value) ws, b) in
    let there : words_loaded b (block_start t tr) (transferred_count tr) ≡ words_loaded b (block_first u s r) (length (registers_of_list r.value)) =
    ap (λ (x : ℕ). words_loaded b x (transferred_count tr)) (first_so at s true u w p r inside h)
    ∙ ap (λ (n : ℕ). words_loaded b (block_first u s r) n) (counted_so r true u w p h) in
    let core : (ws : List ℕ) → f ws ≡ g ws = λ ws. ap (λ (x : State). let o : Result (State × Bytes) Fault = Ok (x, b) in o)
    (status_left (with_loaded (bank_of t tr) (with_block_base (with_next_pc t) tr (block_base t tr)) regs ws) ws r true u w p h
    ∙ ap (λ (m : Mode). with_loaded m (with_block_base (with_next_pc t) tr (block_base t tr)) regs ws) (present_bank t r true u w p h)
    ∙ ap (λ (x : State). with_loaded s.psr.mode x regs ws) (base_so at s true u w p r h)
    ∙ ap (λ (x : ℕ). with_loaded s.psr.mode (core_at (with_block_base_after u w s r) (at + 1)) (registers_of_list x) ws) (sym h.list)) in
    carried owned t b condition.Always (action.BlockTransfer tr) r h.does refl
    ∙ ap (λ (l : Bool). let o : Result (State × Bytes) StepEnd = or_fault (if l then block_loaded t b tr else block_stored owned t b tr) in o) h.loads
    ∙ ap (λ (x : Result (List ℕ) Fault). let o : Result (State × Bytes) StepEnd = or_fault (bind x f) in o) there
    ∙ ap (λ (x : Result (State × Bytes) Fault). let o : Result (State × Bytes) StepEnd = or_fault x in o)
    (bound_alike (words_loaded b (block_first u s r) (length (registers_of_list r.value))) f g core)

-- the values that are stored, register by register
one_alike : (n : ℕ) (f g : ℕ → ℕ) (b : Bool) → (b ≡ true → f n ≡ g n) → map f (cond b (n ∷ []) []) ≡ map g (cond b (n ∷ []) [])
one_alike n f g true h = ap (λ (x : ℕ). x ∷ []) (h refl)
one_alike n f g false h = refl

listed_alike : (list n : ℕ) (f g : ℕ → ℕ) → ((k : ℕ) → bit_of list k ≡ true → k < n → f k ≡ g k) → map f (listed_below n list) ≡ map g (listed_below n list)
unfolding listed_below
listed_alike list zero f g h = refl
listed_alike list (suc n) f g h =
    let last : List ℕ = cond (bit_of list n) (n ∷ []) [] in
    map-append f (listed_below n list) last
    ∙ ap (λ (xs : List ℕ). xs ++ map f last) (listed_alike list n f g (λ k listed below. h k listed (omega arith)))
    ∙ ap (λ (xs : List ℕ). map g (listed_below n list) ++ xs) (one_alike n f g (bit_of list n) (λ listed. h n listed (omega arith)))
    ∙ sym (map-append g (listed_below n list) last)

-- a register of the list is no base that is written back, and none is R15
base_unlisted : (list rn k : ℕ) (w has is : Bool) → bit_of list k ≡ true → (w && bit_of list rn) ≡ false → nat_eq k rn ≡ is → ((w && has) && is) ≡ false
base_unlisted list rn k true true true listed apart e =
    let same : k ≡ rn = grind (arith, nat_tests) in
    let no : true ≡ false = sym listed ∙ ap (bit_of list) same ∙ apart in
    absurd (cc)
base_unlisted list rn k true true false listed apart e = refl
base_unlisted list rn k true false is listed apart e = refl
base_unlisted list rn k false has is listed apart e = refl

pc_unlisted : (k list : ℕ) → bit_of list k ≡ true → bit_of list 15 ≡ false → k < 16 → k < 15
pc_unlisted k list listed low h = elim (cases_lt k 15) [
  | inl below ↦ below
  | inr past ↦
      let same : k ≡ 15 = omega (arith, past, h) in
      let no : true ≡ false = sym listed ∙ ap (bit_of list) same ∙ low in
      absurd (cc)
]

value_so : (at k : ℕ) (s : State) (u w : Bool) (r : OpValue) → MovesBlock false u w false r → bit_of r.value k ≡ true → k < 16
    → block_value (core_at s at) (block_transfer_in r.word) k ≡ register_in s.psr.mode s k
value_so at k s u w r h listed below =
    let t : State = core_at s at in
    let tr : BlockTransfer = block_transfer_in r.word in
    let has : Bool = not (nat_eq (tr.list % 2 ^ tr.rn) 0) in
    let same : (stores_new_base tr && nat_eq k tr.rn) ≡ false =
    ap (λ (b : Bool). (b && has) && nat_eq k tr.rn) h.back
    ∙ base_unlisted r.value tr.rn k w has (nat_eq k tr.rn) listed (ap (λ (n : ℕ). w && bit_of r.value n) (sym h.rn) ∙ h.apart) refl in
    ap (λ (b : Bool). if b then block_base t tr else status_operand (bank_of t tr) t k 3) same
    ∙ ap (λ (m : Mode). status_operand m t k 3) (present_bank t r false u w false h)
    ∙ status_read s at k 3 (pc_unlisted k r.value listed h.pc below)

values_so : (at : ℕ) (s : State) (u w : Bool) (r : OpValue) → MovesBlock false u w false r
    → block_values (core_at s at) (block_transfer_in r.word) ≡ map (register_in s.psr.mode s) (registers_of_list r.value)
unfolding registers_of_list
values_so at s u w r h =
    let f : ℕ → ℕ = block_value (core_at s at) (block_transfer_in r.word) in
    ap (λ (x : ℕ). map f (listed_below 16 x)) (sym h.list)
    ∙ listed_alike r.value 16 f (register_in s.psr.mode s) (λ k listed below. value_so at k s u w r h listed below)

pub blocks_store : BlocksStore
unfolding result_of_action result_of_block_transfer
blocks_store u w r h owned s at b inside =
    let t : State = core_at s at in
    let tr : BlockTransfer = block_transfer_in r.word in
    let values : List ℕ = map (register_in s.psr.mode s) (registers_of_list r.value) in
    let after : Bytes → State → Result (State × Bytes) Fault = λ c x. Ok (x, c) in
    let there : words_stored owned b (block_start t tr) (block_values t tr) ≡ words_stored owned b (block_first u s r) values =
    ap (λ (x : ℕ). words_stored owned b x (block_values t tr)) (first_so at s false u w false r inside h)
    ∙ ap (λ (vs : List ℕ). words_stored owned b (block_first u s r) vs) (values_so at s u w r h) in
    carried owned t b condition.Always (action.BlockTransfer tr) r h.does refl
    ∙ ap (λ (l : Bool). let o : Result (State × Bytes) StepEnd = or_fault (if l then block_loaded t b tr else block_stored owned t b tr) in o) h.loads
    ∙ ap (λ (x : Result Bytes Fault). let o : Result (State × Bytes) StepEnd = or_fault (bind x (λ c. after c (with_block_base (with_next_pc t) tr (block_base t tr)))) in o) there
    ∙ ap (λ (x : Result (State × Bytes) Fault). let o : Result (State × Bytes) StepEnd = or_fault x in o)
    (bound_alike (words_stored owned b (block_first u s r) values) (λ c. after c (with_block_base (with_next_pc t) tr (block_base t tr)))
    (λ c. after c (core_at (with_block_base_after u w s r) (at + 1))) (λ c. ap (after c) (base_so at s false u w false r h)))

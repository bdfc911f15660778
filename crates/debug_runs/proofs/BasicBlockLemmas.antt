-- Which words make a basic block, what is taken of it, and how its steps are counted.
use Rattle.std.proofs.Common.{◌≡◌, ◌≢◌, inl, inr, ◌<◌, ◌≤◌, ℕ, suc, ◌+◌, ◌-◌, ◌*◌, ◌%◌, ◌^◌, ◌==◌, ◌&&◌, Bool, true, false, not, List, [], Option, Some, None, Ok, if◌then◌else◌, refl, sym, ap, subst, ◌∙◌, arith}
use Rattle.std.proofs.lemmas.Bool.{ltb-true}
use Rattle.std.proofs.lemmas.Bool.Decides.{nat_tests}
use Rattle.std.specs.Prelude.{nat_le, nat_lt}
use Rattle.profile.specs.declared.stop.Stop.{Stop}
use Rattle.profile.specs.declared.stop.Stop.TheVariants as stop
use Rattle.profile.specs.Fault.TheVariants.{AddressException, DataUnmapped}
use Rattle.address_map.specs.Bytes.{Bytes, ok_unless_fault, word_at, word_loaded, word_start}
use Rattle.debug_labels.specs.Labels.{ImageLabels}
use Rattle.debug_tables.specs.GuestState.{AreCoreSteps, state_of}
use Rattle.law_machine.specs.Value.{MachineValue}
use Rattle.debug_tables.specs.State.{ScriptState}
use Rattle.debug_tables.specs.Stepping.{IsAfterSilentSteps}
use Rattle.debug_tables.specs.counts.Counts.{CountTable, step_counted, steps_counted}
use Rattle.debug_tables.specs.WordFlows.{word_flow}
use Rattle.debug_tables.specs.declared.modes.StepModes.{StepModes}
use Rattle.debug_tables.specs.declared.step_words.WordFlow.{WordFlow}
use Rattle.debug_tables.specs.declared.step_words.WordFlow.TheVariants.{Straight, Branches, Stores}
use Rattle.debug_runs.specs.BasicBlocks.{RunsOnBehind, HasFlow, IsAfterBlock, IsBasicBlock, block_places, stays_short, next_word_of}
use Rattle.debug_runs.specs.Silent.{IsAfterSilentUpTo}
use Rattle.law_machine.proofs.RunLoop.{ran-none}
use Rattle.debug_runs.specs.Runs.{end_of_unseen}
use Rattle.debug_runs.specs.TraceWriter.{is_step_shown}
use Rattle.debug_runs.specs.declared.basic_blocks.BasicBlock.{BasicBlock}
use Rattle.debug_runs.specs.declared.running.RunEnd.{RunEnd}
use Rattle.debug_runs.specs.declared.running.RunGoal.{RunGoal}
use Rattle.std.proofs.Math.Bool.{and-true}
use Rattle.debug_runs.proofs.BlockStepLemmas.{behind_inner, behind_last}
use Rattle.debug_runs.proofs.BlockRunLemmas.{IsCalmFor, behind_behind, block_behind}

-- THE WORDS OF A BLOCK

pub straight_block : (stays : Bool) (b : Bytes) (pc : ℕ) (c : BasicBlock) → c.start ≡ pc → c.start % 4 ≡ 0 → c.start + 4 * c.count ≤ 2 ^ 26 → c.is_loop ≡ false
    → ((j : ℕ) → j < c.count → HasFlow b (c.start + 4 * j) Straight) → IsBasicBlock stays b pc c
straight_block stays b pc c start aligned inside forward all = record {
  start = start;
  aligned = aligned;
  inside = inside;
  straight = λ j inner. all j (omega (arith, inner));
  last = λ is j last. record { flow = Straight; there = all j (omega (arith, last)); quiet = λ same. absurd (cc) };
  back = λ loop j last. (let no : true ≡ false = sym loop ∙ forward in absurd (cc));
  exit = λ loop. (let no : true ≡ false = sym loop ∙ forward in absurd (cc));
}

-- with a last word that goes elsewhere
pub whole_block : (stays : Bool) (b : Bytes) (pc n : ℕ) (c : BasicBlock) (word : ℕ) (flow : WordFlow) → c.start ≡ pc → c.start % 4 ≡ 0 → c.count ≡ n + 1
    → c.start + 4 * c.count ≤ 2 ^ 26 → word_loaded b (c.start + 4 * n) ≡ Ok word → word_flow (c.start + 4 * n) word ≡ flow
    → (stays ≡ true → flow ≢ Stores) → (c.is_loop ≡ true → (flow ≡ Branches c.start) × (c.start + 4 * c.count < 2 ^ 26))
    → ((j : ℕ) → j < n → HasFlow b (c.start + 4 * j) Straight) → IsBasicBlock stays b pc c
whole_block stays b pc n c word flow start aligned count inside loaded is quiet loop all = record {
  start = start;
  aligned = aligned;
  inside = inside;
  straight = λ j inner. all j (omega (arith, inner, count));
  last = λ stay j last.
      (let here : n ≡ j = omega (arith, last, count) in
      record { flow = flow; there = subst (λ (k : ℕ). HasFlow b (c.start + 4 * k) flow) here (record { word = word; loaded = loaded; is = is }); quiet = quiet stay });
  back = λ loops j last.
      (let here : n ≡ j = omega (arith, last, count) in
      subst (λ (k : ℕ). HasFlow b (c.start + 4 * k) (Branches c.start)) here (record { word = word; loaded = loaded; is = is ∙ (loop loops).0 }));
  exit = λ loops. (loop loops).1;
}

one_more_by : (inner : Bool) (b : Bytes) (start n word : ℕ) → word_loaded b (start + 4 * n) ≡ Ok word → word_flow (start + 4 * n) word ≡ Straight
    → ((j : ℕ) → j < n → HasFlow b (start + 4 * j) Straight) → (j : ℕ) → nat_lt j n ≡ inner → j < n + 1 → HasFlow b (start + 4 * j) Straight
one_more_by true b start n word loaded is all j at below = all j (ltb-true j n at)
one_more_by false b start n word loaded is all j at below =
    let here : n ≡ j = grind (arith, nat_tests, at, below) in
    subst (λ (k : ℕ). HasFlow b (start + 4 * k) Straight) here (record { word = word; loaded = loaded; is = is })

pub one_more : (b : Bytes) (start n word : ℕ) → word_loaded b (start + 4 * n) ≡ Ok word → word_flow (start + 4 * n) word ≡ Straight
    → ((j : ℕ) → j < n → HasFlow b (start + 4 * j) Straight) → (j : ℕ) → j < n + 1 → HasFlow b (start + 4 * j) Straight
one_more b start n word loaded is all j below = one_more_by (nat_lt j n) b start n word loaded is all j refl below

pub calm_if_empty : (empty : Bool) (watches : List ℕ) → (empty ≡ true → watches ≡ []) → IsCalmFor (not empty) watches
calm_if_empty true watches none = inr (none refl)
calm_if_empty false watches none = inl refl

-- one block more
pub block_more : (modes : StepModes) (labels : List ImageLabels) (g : RunGoal) (reported : Option ℕ) (stays : Bool) (c : BasicBlock) (most left n : ℕ) (s mid now : ScriptState)
    (t u v : CountTable) (e : Option RunEnd) → is_step_shown reported ≡ false → n ≤ left → left ≤ most → mid.machine.halt ≡ None → IsCalmFor stays modes.watches
    → IsBasicBlock stays mid.machine.store.bytes mid.machine.cpu.pc c → IsAfterBlock g c mid now n → v ≡ steps_counted (block_places c 0 n) u
    → e ≡ end_of_unseen g now n → RunsOnBehind modes labels g reported most s t (most - left) None mid u
    → RunsOnBehind modes labels g reported most s t (most - (left - n)) e now v
block_more modes labels g reported stays c most left n s mid now t u v e untold few below unhalted calm block after counted is before =
    let back : left ≡ most - (most - left) = omega (arith, below) in
    let all : most - left + n ≡ most - (left - n) = omega (arith, few, below) in
    let one = subst (λ (x : Option RunEnd). RunsOnBehind modes labels g reported left mid u n x now v) (sym is)
    (block_behind modes labels g reported stays c left n mid now u v untold few unhalted calm block after counted) in
    subst (λ (k : ℕ). RunsOnBehind modes labels g reported most s t k e now v) all
    (behind_behind modes labels g reported most (most - left) n e s mid now t u v before
    (subst (λ (k : ℕ). RunsOnBehind modes labels g reported k mid u n e now v) back one))

-- none of it
pub none_more : (modes : StepModes) (labels : List ImageLabels) (g : RunGoal) (reported : Option ℕ) (stays : Bool) (c : BasicBlock) (most left n : ℕ) (s mid now : ScriptState)
    (t u : CountTable) → n ≡ 0 → is_step_shown reported ≡ false → left ≤ most → mid.machine.halt ≡ None → IsCalmFor stays modes.watches
    → IsBasicBlock stays mid.machine.store.bytes mid.machine.cpu.pc c → IsAfterBlock g c mid now n
    → RunsOnBehind modes labels g reported most s t (most - left) None mid u → RunsOnBehind modes labels g reported most s t (most - left) None now u
unfolding block_places
none_more modes labels g reported stays c most left n s mid now t u none untold below unhalted calm block after before =
    let few : 0 ≤ left = omega arith in
    let same : left - 0 ≡ left = omega arith in
    subst (λ (k : ℕ). RunsOnBehind modes labels g reported most s t (most - k) None now u) same
    (block_more modes labels g reported stays c most left 0 s mid now t u u None untold few below unhalted calm block
    (subst (λ (k : ℕ). IsAfterBlock g c mid now k) none after) refl refl before)

-- WHAT IS TAKEN OF A BLOCK

pub none_taken : (g : RunGoal) (c : BasicBlock) (s : ScriptState) → s.machine.halt ≡ None → IsAfterBlock g c s s 0
unfolding AreCoreSteps
none_taken g c s unhalted =
    let fresh : s.is_fresh ≡ (s.is_fresh && (0 == 0)) = sym (and-true s.is_fresh) in
    let left : s.left ≡ s.left - 0 = omega arith in
    record {
      stops = s.breaks;
      breaks = λ at clear. clear;
      exit = λ some. absurd (omega (arith, some));
      few = inr (omega arith);
      some = λ some. absurd (omega (arith, some));
      short = λ some. absurd (omega (arith, some));
      ends = stop.Budget;
      run = ran-none s.images s.breaks s.machine unhalted;
      steps = refl;
      state = λ i. record s { is_fresh = fresh i; left = left i };
      unhalted = unhalted;
    }

pub row_taken : (g : RunGoal) (c : BasicBlock) (s now : ScriptState) (n : ℕ) (x : Stop) → IsAfterSilentSteps s now n x → n ≤ c.count → 0 < c.count
    → stays_short g (c.start + 4 * c.count) s.machine ≡ true → c.is_loop ≡ false → IsAfterBlock g c s now n
row_taken g c s now n x after few some short forward = record {
  stops = s.breaks;
  breaks = λ at clear. clear;
  exit = λ more loop. (let no : true ≡ false = sym loop ∙ forward in absurd (cc));
  few = inr few;
  some = λ more. some;
  short = λ more. short;
  ends = x;
  run = after.run;
  steps = after.steps;
  state = after.state;
  unhalted = after.unhalted;
}

pub loop_taken : (g : RunGoal) (c : BasicBlock) (s now : ScriptState) (n : ℕ) → IsAfterSilentUpTo (c.start + 4 * c.count) s now n → 0 < c.count
    → stays_short g (c.start + 4 * c.count) s.machine ≡ true → c.is_loop ≡ true → IsAfterBlock g c s now n
loop_taken g c s now n after some short loop = record {
  stops = after.stops;
  breaks = after.breaks;
  exit = λ more again. after.ahead;
  few = inl loop;
  some = λ more. some;
  short = λ more. short;
  ends = after.ends;
  run = after.run;
  steps = after.steps;
  state = after.state;
  unhalted = after.unhalted;
}

-- the block of the machine that is lent
pub block_there : (empty : Bool) (m n : MachineValue) (c : BasicBlock) → m ≡ n
    → IsBasicBlock (not empty) (state_of m.guest).store.bytes (state_of m.guest).cpu.pc c
    → IsBasicBlock (not empty) (state_of n.guest).store.bytes (state_of n.guest).cpu.pc c
block_there empty m n c same block = subst (λ (x : MachineValue). IsBasicBlock (not empty) (state_of x.guest).store.bytes (state_of x.guest).cpu.pc c) same block

-- COUNTING THEM

-- the word that a count goes on to
pub next_if_last : (c : BasicBlock) (j m : ℕ) → j + 1 ≡ c.count → m ≡ 0 → m ≡ next_word_of c j
next_if_last c j m last is =
    let same : suc j ≡ c.count = omega (arith, last) in
    is ∙ sym (behind_last c j same)

pub next_if_inner : (c : BasicBlock) (j m : ℕ) → j + 1 ≢ c.count → m ≡ j + 1 → m ≡ next_word_of c j
next_if_inner c j m inner is =
    let other : suc j ≡ c.count → ⊥ = λ same. inner (omega (arith, same)) in
    let one : m ≡ suc j = omega (arith, is) in
    one ∙ sym (behind_inner c j other)

-- one step counted, the next word
pub count_on : (c : BasicBlock) (j n m : ℕ) (t u : CountTable) → u ≡ step_counted t (c.start + 4 * j) → m ≡ suc n
    → steps_counted (block_places c (next_word_of c j) n) u ≡ steps_counted (block_places c j m) t
unfolding block_places
count_on c j n m t u one more =
    ap (steps_counted (block_places c (next_word_of c j) n)) one ∙ ap (λ (k : ℕ). steps_counted (block_places c j k) t) (sym more)

pub count_none : (c : BasicBlock) (j n : ℕ) (t : CountTable) → n ≡ 0 → t ≡ steps_counted (block_places c j n) t
unfolding block_places
count_none c j n t none = ap (λ (k : ℕ). steps_counted (block_places c j k) t) (sym none)

-- a word that is loaded ends within the addresses
near_by : (far mapped : Bool) (v w : ℕ) → ok_unless_fault (if far then Some AddressException else (if mapped then None else Some DataUnmapped)) v ≡ Ok w → far ≡ false
near_by true mapped v w is = absurd (cc)
near_by false mapped v w is = refl

pub loaded_below : (b : Bytes) (a w : ℕ) → a % 4 ≡ 0 → word_loaded b a ≡ Ok w → a + 4 ≤ 2 ^ 26
unfolding word_loaded
loaded_below b a w aligned is =
    let near = near_by (nat_le (2 ^ 26) (word_start a)) (b.mapped (word_start a)) (word_at b.at (word_start a)) w is in
    let below : a - a % 4 < 2 ^ 26 = grind (arith, nat_tests, near) in
    omega (arith, below, aligned)

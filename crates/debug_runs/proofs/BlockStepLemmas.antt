-- A step within a basic block: where the next one begins, and that memory stays before the last.
use Rattle.std.proofs.Common.{◌≡◌, ◌≢◌, ◌⊎◌, inl, inr, ◌<◌, ◌≤◌, ℕ, suc, ◌+◌, ◌-◌, ◌*◌, ◌/◌, ◌%◌, ◌^◌, ◌==◌, ◌&&◌, ◌||◌, Bool, true, false, not, List, [], ◌∷◌, length, Option, Some, None, Result, Ok, Err, if◌then◌else◌, refl, sym, ap, subst, ◌∙◌, arith, eq-eqb}
use Rattle.std.proofs.Math.Bool.{and-false}
use Rattle.std.proofs.lemmas.Bool.{ltb-true, ne_eqb}
use Rattle.std.proofs.lemmas.Bool.Decides.{nat_tests}
use Rattle.std.specs.Option.{option_or}
use Rattle.std.specs.Prelude.{nat_le, nat_lt}
use Rattle.address_map.specs.Bytes.{Bytes, word_loaded}
use Rattle.arm_core.specs.State.{State}
use Rattle.arm_core.specs.declared.turn.StepEnd.{StepEnd}
use Rattle.arm_core.specs.declared.turn.StepEnd.TheVariants as turn
use Rattle.law_machine.specs.Store.{owned_in}
use Rattle.law_machine.specs.Halt.{Halt}
use Rattle.debug_tables.specs.GuestState.{TakesTurn}
use Rattle.debug_tables.specs.MachineState.{MachineState, Tables}
use Rattle.debug_tables.specs.Step.{Turned, result_of_instruction}
use Rattle.debug_tables.specs.State.{ScriptState}
use Rattle.debug_tables.proofs.FlowLemmas.{step_keeps}
use Rattle.debug_tables.specs.Routines.{routine_end}
use Rattle.debug_tables.specs.WordFlows.{KeepsToFlow, KeepsToFlowIfDone, word_flow}
use Rattle.debug_tables.specs.WordWatches.{is_unchanged_word, mapped_word, watch_hit, watched_change}
use Rattle.debug_tables.specs.WatchHit.{WatchHit}
use Rattle.debug_tables.specs.declared.step_words.WordFlow.{WordFlow}
use Rattle.debug_tables.specs.declared.step_words.WordFlow.TheVariants.{Straight, Branches, Anywhere, Stores}
use Rattle.debug_runs.specs.BasicBlocks.{HasFlow, IsBasicBlock, stays_short, next_word_of}
use Rattle.debug_runs.specs.Runs.{end_after, is_reached, run_end_by, watched_end}
use Rattle.debug_runs.specs.declared.basic_blocks.BasicBlock.{BasicBlock}
use Rattle.debug_runs.specs.declared.running.RunEnd.TheVariants as end
use Rattle.debug_runs.specs.declared.running.RunGoal.{RunGoal}
use Rattle.debug_runs.specs.declared.running.RunGoal.TheVariants as goal
use Rattle.debug_runs.proofs.SilentLemmas.{untold_by}

-- WHERE MEMORY STAYS

same_word : (o : Option ℕ) → is_unchanged_word o o ≡ true
same_word None = refl
same_word (Some x) = eq-eqb x x refl

pub no_hit : (watches : List ℕ) (b : Bytes) → watch_hit watches b b ≡ None
no_hit [] b = refl
no_hit (a ∷ others) b =
    let hit : WatchHit = record { address = a; now = mapped_word b a; was = mapped_word b a } in
    let none : watched_change b b a ≡ None = ap (λ (t : Bool). if t then None else Some hit) (same_word (mapped_word b a)) in
    ap (λ (o : Option WatchHit). option_or o (watch_hit others b b)) none ∙ no_hit others b

calm_by : (watches : List ℕ) (g : RunGoal) (before after : ScriptState) (h : Option Halt)
    → watch_hit watches before.machine.store.bytes after.machine.store.bytes ≡ None
    → run_end_by watches g before after h ≡ run_end_by [] g after after h
calm_by watches g before after (Some halt) none = refl
calm_by watches g before after None none =
    ap (λ (o : Option WatchHit). if is_reached g after.machine then Some end.Reached else watched_end o after) none

pub calm_end : (watches : List ℕ) (g : RunGoal) (before after : ScriptState)
    → watch_hit watches before.machine.store.bytes after.machine.store.bytes ≡ None
    → end_after watches g before after ≡ end_after [] g after after
unfolding end_after
calm_end watches g before after none = calm_by watches g before after after.machine.halt none

-- A TURN OF THE CORE

turned : (m next : MachineState) (flow : WordFlow) (r : Result (State × Bytes) StepEnd) → KeepsToFlowIfDone flow m.cpu m.store.bytes r
    → Turned m r turn.Done next → KeepsToFlow flow m.cpu m.store.bytes (next.cpu, next.store.bytes) × (next.tables ≡ m.tables)
turned m next flow (Ok w) keeps h =
    subst (λ (x : MachineState). KeepsToFlow flow m.cpu m.store.bytes (x.cpu, x.store.bytes) × (x.tables ≡ m.tables)) (sym h.1) (keeps, refl)
turned m next flow (Err e) keeps h = absurd (keeps h.0)

quiet_bytes : (flow : WordFlow) (s : State) (b : Bytes) (u : State × Bytes) → flow ≢ Stores → KeepsToFlow flow s b u → u.1 ≡ b
quiet_bytes Straight s b u quiet keeps = keeps.0
quiet_bytes (Branches to) s b u quiet keeps = keeps.0
quiet_bytes Anywhere s b u quiet keeps = keeps
quiet_bytes Stores s b u quiet keeps = absurd (quiet refl)

-- WITHIN A BLOCK

-- a machine stands at a word of a block, and so many steps more are to be taken there
pub record IsOn (c : BasicBlock) (g : RunGoal) (b : Bytes) (k j : ℕ) (m : MachineState) : Type 0 where
  pub at : m.cpu.pc ≡ c.start + 4 * j
  pub within : j < c.count
  pub bytes : m.store.bytes ≡ b
  pub short : stays_short g (c.start + 4 * c.count) m ≡ true
  pub more : (c.is_loop ≡ true) ⊎ (j + k ≤ c.count)

keeps_block : (c : BasicBlock) (g : RunGoal) (b : Bytes) (k j : ℕ) (m next : MachineState) (flow : WordFlow) → c.start % 4 ≡ 0 → IsOn c g b k j m
    → HasFlow b (c.start + 4 * j) flow → TakesTurn m turn.Done next
    → KeepsToFlow flow m.cpu m.store.bytes (next.cpu, next.store.bytes) × (next.tables ≡ m.tables)
keeps_block c g b k j m next flow aligned on has takes =
    let at = on.at in
    let four : m.cpu.pc % 4 ≡ 0 = omega (arith, at, aligned) in
    let there : word_loaded m.store.bytes m.cpu.pc ≡ Ok has.word = (λ i. word_loaded (on.bytes i) (on.at i)) ∙ has.loaded in
    let is : word_flow m.cpu.pc has.word ≡ flow = ap (λ (a : ℕ). word_flow a has.word) on.at ∙ has.is in
    turned m next flow (result_of_instruction m)
    (subst (λ (x : WordFlow). KeepsToFlowIfDone x m.cpu m.store.bytes (result_of_instruction m)) is
    (step_keeps (owned_in m.store) m.cpu m.store.bytes has.word four there)) takes

next_word : (start j pc : ℕ) → start % 4 ≡ 0 → start + 4 * suc j < 2 ^ 26 → pc ≡ start + 4 * j → (pc + 4) / 4 % 2 ^ 24 * 4 ≡ start + 4 * suc j
next_word start j pc aligned inside at = omega (arith, aligned, inside, at)

same_short : (g : RunGoal) (e : ℕ) (m next : MachineState) → next.tables ≡ m.tables → stays_short g e m ≡ true → stays_short g e next ≡ true
same_short goal.Nowhere e m next same short = refl
same_short (goal.Frames count) e m next same short = ap (λ (t : Tables). not (length t.frames == count)) same ∙ short
same_short (goal.Routine count) e m next same short =
    ap (λ (t : Tables). not (length t.frames == count) || nat_le e routine_end) same ∙ short

pub behind_inner : (c : BasicBlock) (j : ℕ) → (suc j ≡ c.count → ⊥) → next_word_of c j ≡ suc j
behind_inner c j other = ap (λ (t : Bool). if t then 0 else suc j) (ne_eqb (suc j) c.count other)

pub behind_last : (c : BasicBlock) (j : ℕ) → suc j ≡ c.count → next_word_of c j ≡ 0
behind_last c j last = ap (λ (t : Bool). if t then 0 else suc j) (eq-eqb (suc j) c.count last)

-- what a step leaves there
pub record IsStepped (stays : Bool) (c : BasicBlock) (g : RunGoal) (b : Bytes) (k j : ℕ) (m next : MachineState) : Type 0 where
  pub calm : stays ≡ true → next.store.bytes ≡ m.store.bytes
  pub on : 0 < k → (c.is_loop ≡ true → next.cpu.pc ≡ c.start + 4 * c.count → ⊥) → IsOn c g b k (next_word_of c j) next
  pub kept : 0 < k → next.store.bytes ≡ m.store.bytes

stepped_inner : (stays : Bool) (pc : ℕ) (c : BasicBlock) (g : RunGoal) (b : Bytes) (k j : ℕ) (m next : MachineState) → IsBasicBlock stays b pc c → IsOn c g b (suc k) j m
    → TakesTurn m turn.Done next → suc j < c.count → IsStepped stays c g b k j m next
stepped_inner stays pc c g b k j m next block on takes inner =
    let keeps = keeps_block c g b (suc k) j m next Straight block.aligned on (block.straight j inner) takes in
    let inside = block.inside in
    let below : c.start + 4 * suc j < 2 ^ 26 = omega (arith, inside, inner) in
    let at : next.cpu.pc ≡ c.start + 4 * suc j = keeps.0.1 ∙ next_word c.start j m.cpu.pc block.aligned below on.at in
    let other : suc j ≡ c.count → ⊥ = λ same. omega (arith, same, inner) in
    let behind = behind_inner c j other in
    record {
      calm = λ is. keeps.0.0;
      on = λ some other. record {
        at = at ∙ ap (λ (x : ℕ). c.start + 4 * x) (sym behind);
        within = subst (λ (x : ℕ). x < c.count) (sym behind) inner;
        bytes = keeps.0.0 ∙ on.bytes;
        short = same_short g (c.start + 4 * c.count) m next keeps.1 on.short;
        more = elim on.more [
          | inl loop ↦ inl loop
          | inr few ↦ inr (subst (λ (x : ℕ). x + k ≤ c.count) (sym behind) (omega (arith, few)))
        ];
      };
      kept = λ some. keeps.0.0;
    }

looped : (stays : Bool) (pc : ℕ) (c : BasicBlock) (g : RunGoal) (b : Bytes) (k j : ℕ) (m next : MachineState) → IsBasicBlock stays b pc c → IsOn c g b (suc k) j m
    → TakesTurn m turn.Done next → suc j ≡ c.count → c.is_loop ≡ true → (next.cpu.pc ≡ c.start + 4 * c.count → ⊥) → IsOn c g b k (next_word_of c j) next
looped stays pc c g b k j m next block on takes last loop other =
    let keeps = keeps_block c g b (suc k) j m next (Branches c.start) block.aligned on (block.back loop j last) takes in
    let behind = behind_last c j last in
    let exit : c.start + 4 * c.count < 2 ^ 26 = block.exit loop in
    let below : c.start + 4 * suc j < 2 ^ 26 = omega (arith, exit, last) in
    let first : next.cpu.pc ≡ c.start = elim keeps.0.1 [
      | inl on_behind ↦ absurd (other (on_behind ∙ next_word c.start j m.cpu.pc block.aligned below on.at ∙ ap (λ (x : ℕ). c.start + 4 * x) last))
      | inr back ↦ back
    ] in
    let none : c.start ≡ c.start + 4 * 0 = omega arith in
    let some : 0 < c.count = omega (arith, last) in
    record {
      at = first ∙ none ∙ ap (λ (x : ℕ). c.start + 4 * x) (sym behind);
      within = subst (λ (x : ℕ). x < c.count) (sym behind) some;
      bytes = keeps.0.0 ∙ on.bytes;
      short = same_short g (c.start + 4 * c.count) m next keeps.1 on.short;
      more = inl loop;
    }

stepped_last : (stays : Bool) (pc : ℕ) (c : BasicBlock) (g : RunGoal) (b : Bytes) (k j : ℕ) (m next : MachineState) → IsBasicBlock stays b pc c → IsOn c g b (suc k) j m
    → TakesTurn m turn.Done next → suc j ≡ c.count → IsStepped stays c g b k j m next
stepped_last stays pc c g b k j m next block on takes last =
    record {
      calm = λ is.
          (let quiet = block.last is j last in
          quiet_bytes quiet.flow m.cpu m.store.bytes (next.cpu, next.store.bytes) quiet.quiet
          (keeps_block c g b (suc k) j m next quiet.flow block.aligned on quiet.there takes).0);
      on = λ some other. elim on.more [
        | inl loop ↦ looped stays pc c g b k j m next block on takes last loop (other loop)
        | inr few ↦ absurd (omega (arith, few, last, some))
      ];
      kept = λ some. elim on.more [
        | inl loop ↦ (keeps_block c g b (suc k) j m next (Branches c.start) block.aligned on (block.back loop j last) takes).0.0
        | inr few ↦ absurd (omega (arith, few, last, some))
      ];
    }

stepped_by : (inner : Bool) (stays : Bool) (pc : ℕ) (c : BasicBlock) (g : RunGoal) (b : Bytes) (k j : ℕ) (m next : MachineState) → nat_lt (suc j) c.count ≡ inner
    → IsBasicBlock stays b pc c → IsOn c g b (suc k) j m → TakesTurn m turn.Done next → IsStepped stays c g b k j m next
stepped_by true stays pc c g b k j m next is block on takes = stepped_inner stays pc c g b k j m next block on takes (ltb-true (suc j) c.count is)
stepped_by false stays pc c g b k j m next is block on takes =
    let within = on.within in
    let last : suc j ≡ c.count = grind (arith, nat_tests, is, within) in
    stepped_last stays pc c g b k j m next block on takes last

pub stepped : (stays : Bool) (pc : ℕ) (c : BasicBlock) (g : RunGoal) (b : Bytes) (k j : ℕ) (m next : MachineState)
    → IsBasicBlock stays b pc c → IsOn c g b (suc k) j m → TakesTurn m turn.Done next → IsStepped stays c g b k j m next
stepped stays pc c g b k j m next block on takes = stepped_by (nat_lt (suc j) c.count) stays pc c g b k j m next refl block on takes

-- THE GOAL ISN'T REACHED

not_at_end : (there : Bool) (count e : ℕ) (m : MachineState) → (length m.tables.frames == count) ≡ there
    → (not (length m.tables.frames == count) || nat_le e routine_end) ≡ true → m.cpu.pc < e
    → (m.cpu.pc == routine_end && length m.tables.frames == count) ≡ false
not_at_end false count e m is short below = ap (λ (t : Bool). (m.cpu.pc == routine_end) && t) is ∙ and-false (m.cpu.pc == routine_end)
not_at_end true count e m is short below =
    let before : nat_le e routine_end ≡ true = ap (λ (t : Bool). not t || nat_le e routine_end) (sym is) ∙ short in
    let up : e ≤ routine_end = grind (arith, nat_tests, before) in
    let other : m.cpu.pc ≡ routine_end → ⊥ = λ same. omega (arith, same, up, below) in
    ap (λ (t : Bool). t && (length m.tables.frames == count)) (ne_eqb m.cpu.pc routine_end other)

pub unreached : (g : RunGoal) (e : ℕ) (m : MachineState) → stays_short g e m ≡ true → m.cpu.pc < e → is_reached g m ≡ false
unreached goal.Nowhere e m short below = refl
unreached (goal.Frames count) e m short below = untold_by (length m.tables.frames == count) short
unreached (goal.Routine count) e m short below = not_at_end (length m.tables.frames == count) count e m refl short below

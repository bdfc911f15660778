-- A run through a basic block, step by step: where its steps begin, and that it goes on behind them.
use Rattle.std.proofs.Common.{◌≡◌, ◌⊎◌, inl, inr, ◌<◌, ◌≤◌, ℕ, zero, suc, ◌+◌, ◌-◌, ◌*◌, ◌==◌, ◌&&◌, ◌++◌, Bool, true, false, List, [], ◌∷◌, Option, Some, None, refl, sym, ap, subst, ◌∙◌, arith}
use Rattle.profile.specs.declared.stop.Stop.{Stop}
use Rattle.address_map.specs.Bytes.{Bytes}
use Rattle.arm_core.specs.declared.turn.StepEnd.TheVariants as turn
use Rattle.debug_labels.specs.Labels.{ImageLabels}
use Rattle.debug_tables.specs.GuestState.{AreCoreSteps, TakesTurn}
use Rattle.debug_tables.specs.MachineState.{MachineState, StepOutcome}
use Rattle.debug_tables.specs.Run.{Run, is_among, ran}
use Rattle.debug_tables.specs.Step.{machine_step}
use Rattle.debug_tables.specs.Calls.{step_made}
use Rattle.debug_tables.specs.State.{ScriptState}
use Rattle.debug_tables.specs.Stepping.{script_after_silent}
use Rattle.debug_tables.proofs.CountsLemmas.CountLemmas.{uncounted}
use Rattle.debug_tables.specs.counts.Counts.{CountTable, step_counted, steps_counted}
use Rattle.debug_tables.specs.WordWatches.{watch_hit}
use Rattle.debug_tables.specs.declared.modes.StepModes.{StepModes}
use Rattle.debug_runs.specs.BasicBlocks.{RunsOnBehind, IsAfterBlock, IsBasicBlock, block_places, next_word_of}
use Rattle.debug_runs.specs.Places.{places_of_run, places_unless}
use Rattle.debug_runs.specs.Runs.{end_after, end_of_unseen, next_step, run_behind, run_step, run_unless, steps_run}
use Rattle.debug_runs.specs.TraceWriter.{answer_of_step, is_step_shown, one_answer, whole_step_text}
use Rattle.debug_runs.specs.declared.basic_blocks.BasicBlock.{BasicBlock}
use Rattle.debug_runs.specs.declared.running.RunEnd.{RunEnd}
use Rattle.debug_runs.specs.declared.running.RunGoal.{RunGoal}
use Rattle.debug_runs.proofs.CoreStepLemmas.{real_step, step_leads}
use Rattle.debug_runs.proofs.PlaceLemmas.{places_by}
use Rattle.debug_runs.proofs.PlaceLemmas as place
use Rattle.std.proofs.Math.Bool.{and-true}
use Rattle.debug_runs.proofs.RunLemmas.{first_of_left}
use Rattle.debug_runs.proofs.SilentLemmas.{Covers, IsSilent, elsewhere, first_silent, is_silent, made_last, made_one, no_end, rested, silent_step, stays_untold}
use Rattle.debug_runs.proofs.BlockStepLemmas.{IsOn, no_hit, calm_end, stepped, unreached}

-- STEP BY STEP

-- a step that prints nothing, and of which nothing is shown
one_on : (modes : StepModes) (labels : List ImageLabels) (g : RunGoal) (reported : Option ℕ) (most : ℕ) (s : ScriptState) → is_step_shown reported ≡ false
    → 0 < most → next_step modes s ≡ machine_step s.images s.machine → (machine_step s.images s.machine).printed ≡ []
    → steps_run modes labels g most reported s
    ≡ (let after = step_made s (machine_step s.images s.machine) in
    run_unless after (end_after modes.watches g s after) (steps_run modes labels g (most - 1) reported after))
one_on modes labels g reported most s untold some real unprinted =
    let o = machine_step s.images s.machine in
    let after = step_made s o in
    let text = silent_step reported (whole_step_text modes.stubs labels s.machine o) o.printed untold unprinted in
    let same = stays_untold reported untold in
    first_of_left modes labels g most reported s some
    ∙ ap (λ (q : StepOutcome). run_step modes.watches g s q (answer_of_step reported (whole_step_text modes.stubs labels s.machine q) q.printed)
    (steps_run modes labels g (most - 1) (one_answer reported))) real
    ∙ (λ i. run_behind (text i) (unprinted i) (run_unless after (end_after modes.watches g s after) (steps_run modes labels g (most - 1) (same i) after)))

-- what so many steps of a block, the first at this word of it, left of a run
record IsBehind (modes : StepModes) (labels : List ImageLabels) (g : RunGoal) (reported : Option ℕ) (most n : ℕ) (c : BasicBlock) (j : ℕ) (s w : ScriptState) : Type 0 where
  rest : steps_run modes labels g most reported s ≡ run_unless w (end_after [] g w w) (steps_run modes labels g (most - n) reported w)
  places : places_of_run modes g most s ≡ block_places c j n ++ places_unless (end_after [] g w w) (places_of_run modes g (most - n) w)

last_behind : (modes : StepModes) (labels : List ImageLabels) (g : RunGoal) (reported : Option ℕ) (most : ℕ) (c : BasicBlock) (j : ℕ) (s : ScriptState) (now : MachineState)
    → is_step_shown reported ≡ false → 0 < most → next_step modes s ≡ machine_step s.images s.machine
    → (machine_step s.images s.machine).now.halt ≡ None → (machine_step s.images s.machine).printed ≡ [] → (machine_step s.images s.machine).now ≡ now
    → watch_hit modes.watches s.machine.store.bytes (machine_step s.images s.machine).now.store.bytes ≡ None → s.machine.cpu.pc ≡ c.start + 4 * j
    → IsBehind modes labels g reported most 1 c j s (script_after_silent s now 1)
unfolding block_places places_by
last_behind modes labels g reported most c j s now untold some real unhalted unprinted is calm at =
    let o = machine_step s.images s.machine in
    let after = step_made s o in
    let made : after ≡ script_after_silent s now 1 = made_last s o unhalted ∙ ap (λ (m : MachineState). script_after_silent s m 1) is in
    let ends = calm_end modes.watches g s after calm in
    record {
      rest = one_on modes labels g reported most s untold some real unprinted
          ∙ ap (λ (e : Option RunEnd). run_unless after e (steps_run modes labels g (most - 1) reported after)) ends
          ∙ ap (λ (w : ScriptState). run_unless w (end_after [] g w w) (steps_run modes labels g (most - 1) reported w)) made;
      places = place.first_of_left modes g most s after some (ap (step_made s) (sym real))
          ∙ ap (places_by modes g (most - 1) s after) ends
          ∙ (λ i. at i ∷ places_unless (end_after [] g (made i) (made i)) (places_of_run modes g (most - 1) (made i)));
    }

-- the watched words stay, or none is watched
abbrev pub IsCalmFor : Bool → List ℕ → Type 0
IsCalmFor stays watches = (stays ≡ true) ⊎ (watches ≡ [])

calm_hit : (stays : Bool) (watches : List ℕ) (b c : Bytes) → IsCalmFor stays watches → (stays ≡ true → c ≡ b) → watch_hit watches b c ≡ None
calm_hit stays watches b c (inl is) kept = ap (watch_hit watches b) (kept is) ∙ no_hit watches b
calm_hit stays watches b c (inr none) kept = ap (λ (ws : List ℕ). watch_hit ws b c) none

below_end : (c : BasicBlock) (j : ℕ) → j < c.count → c.start + 4 * j < c.start + 4 * c.count
below_end c j within = omega (arith, within)

-- one step more before them
joined_behind : (modes : StepModes) (labels : List ImageLabels) (g : RunGoal) (reported : Option ℕ) (most k : ℕ) (c : BasicBlock) (j : ℕ) (s : ScriptState) (now : MachineState)
    → is_step_shown reported ≡ false → 0 < most → next_step modes s ≡ machine_step s.images s.machine
    → (machine_step s.images s.machine).now.halt ≡ None → (machine_step s.images s.machine).printed ≡ []
    → end_after modes.watches g s (step_made s (machine_step s.images s.machine)) ≡ None → s.machine.cpu.pc ≡ c.start + 4 * j
    → most - 1 - suc k ≡ most - suc (suc k)
    → IsBehind modes labels g reported (most - 1) (suc k) c (next_word_of c j) (step_made s (machine_step s.images s.machine))
    (script_after_silent (step_made s (machine_step s.images s.machine)) now (suc k))
    → IsBehind modes labels g reported most (suc (suc k)) c j s (script_after_silent s now (suc (suc k)))
unfolding block_places places_by
joined_behind modes labels g reported most k c j s now untold some real unhalted unprinted goes at left behind =
    let o = machine_step s.images s.machine in
    let after = step_made s o in
    let made = made_one s o now (suc k) unhalted in
    record {
      rest = one_on modes labels g reported most s untold some real unprinted
          ∙ ap (λ (e : Option RunEnd). run_unless after e (steps_run modes labels g (most - 1) reported after)) goes
          ∙ behind.rest
          ∙ (λ i. run_unless (made i) (end_after [] g (made i) (made i)) (steps_run modes labels g (left i) reported (made i)));
      places = place.first_of_left modes g most s after some (ap (step_made s) (sym real))
          ∙ ap (places_by modes g (most - 1) s after) goes
          ∙ (λ i. at i ∷ behind.places i)
          ∙ (λ i. (c.start + 4 * j) ∷ (block_places c (next_word_of c j) (suc k) ++ places_unless (end_after [] g (made i) (made i)) (places_of_run modes g (left i) (made i))));
    }

block_on : (modes : StepModes) (labels : List ImageLabels) (g : RunGoal) (reported : Option ℕ) (stops : List ℕ) (stays : Bool) (pc : ℕ) (c : BasicBlock) (b : Bytes)
    (k most j : ℕ) (s : ScriptState) (now : MachineState) (x : Stop)
    → is_step_shown reported ≡ false → suc k ≤ most → s.machine.halt ≡ None → now.halt ≡ None → Covers s.breaks stops
    → (c.is_loop ≡ true → is_among stops (c.start + 4 * c.count) ≡ true) → IsCalmFor stays modes.watches → IsBasicBlock stays b pc c → IsOn c g b (suc k) j s.machine
    → AreCoreSteps (suc k) s.machine now → IsSilent (ran s.images stops (suc k) s.machine) now (suc k) x
    → IsBehind modes labels g reported most (suc k) c j s (script_after_silent s now (suc k))
unfolding AreCoreSteps
block_on modes labels g reported stops stays pc c b zero most j s now x untold few unhalted still covers exit calm block on steps is =
    let o = machine_step s.images s.machine in
    let first = first_silent s.images stops 0 s.machine now x unhalted still is in
    let real = real_step modes.stubs s steps.0 unhalted steps.1.0 in
    let leads = step_leads s steps.0 unhalted steps.1.0 in
    let takes : TakesTurn s.machine turn.Done o.now = subst (λ (m : MachineState). TakesTurn s.machine turn.Done m) leads steps.1.0 in
    let step = stepped stays pc c g b 0 j s.machine o.now block on takes in
    let some : 0 < most = omega (arith, few) in
    let hit = calm_hit stays modes.watches s.machine.store.bytes o.now.store.bytes calm step.calm in
    let there : o.now ≡ now = elim first.next [
      | inl last ↦ last.1
      | inr more ↦ rested s.images stops o.now now x first.unhalted more.1
    ] in
    last_behind modes labels g reported most c j s now untold some real first.unhalted first.unprinted there hit on.at
block_on modes labels g reported stops stays pc c b (suc k) most j s now x untold few unhalted still covers exit calm block on steps is =
    let first = first_silent s.images stops (suc k) s.machine now x unhalted still is in
    let o = machine_step s.images s.machine in
    let after = step_made s o in
    let real = real_step modes.stubs s steps.0 unhalted steps.1.0 in
    let leads = step_leads s steps.0 unhalted steps.1.0 in
    let takes : TakesTurn s.machine turn.Done o.now = subst (λ (m : MachineState). TakesTurn s.machine turn.Done m) leads steps.1.0 in
    let further : AreCoreSteps (suc k) o.now now = subst (λ (m : MachineState). AreCoreSteps (suc k) m now) leads steps.1.1 in
    let step = stepped stays pc c g b (suc k) j s.machine o.now block on takes in
    let some : 0 < most = omega (arith, few) in
    let fewer : suc k ≤ most - 1 = omega (arith, few) in
    let left : most - 1 - suc k ≡ most - suc (suc k) = omega arith in
    let again : 0 < suc k = omega arith in
    elim first.next [
      | inl last ↦ absurd (let none : suc k ≡ 0 = last.0 in omega (arith, none))
      | inr more ↦ (let ons = step.on again (λ loop. elsewhere stops (c.start + 4 * c.count) o.now.cpu.pc (exit loop) more.0) in
          let at = ons.at in let within = ons.within in
          let below : o.now.cpu.pc < c.start + 4 * c.count = omega (arith, at, within) in
          let hit = ap (watch_hit modes.watches s.machine.store.bytes) (step.kept again) ∙ no_hit modes.watches s.machine.store.bytes in
          let goes : end_after modes.watches g s after ≡ None = calm_end modes.watches g s after hit
          ∙ no_end after after g first.unhalted (unreached g (c.start + 4 * c.count) o.now ons.short below) (covers o.now.cpu.pc more.0) in
          joined_behind modes labels g reported most k c j s now untold some real first.unhalted first.unprinted goes on.at left
          (block_on modes labels g reported stops stays pc c b k (most - 1) (next_word_of c j) after now x untold fewer first.unhalted still covers exit calm
          block ons further more.1))
    ]

-- ALL STEPS OF A BLOCK

counted_on : (xs ys : List ℕ) (t : CountTable) → steps_counted (xs ++ ys) t ≡ steps_counted ys (steps_counted xs t)
counted_on [] ys t = refl
counted_on (x ∷ xs) ys t = counted_on xs ys (step_counted t x)

-- none
pub none_behind : (modes : StepModes) (labels : List ImageLabels) (g : RunGoal) (reported : Option ℕ) (most : ℕ) (s : ScriptState) (t : CountTable)
    → RunsOnBehind modes labels g reported most s t 0 None s t
none_behind modes labels g reported most s t =
    let all : most ≡ most - 0 = omega arith in
    let left : s.left ≡ s.left - 0 = omega arith in
    record {
      rest = ap (λ (n : ℕ). steps_run modes labels g n reported s) all;
      counted = sym (ap (λ (n : ℕ). steps_counted (places_of_run modes g n s) t) all);
      few = omega arith;
      left = left;
    }

-- some, and those that follow
pub behind_behind : (modes : StepModes) (labels : List ImageLabels) (g : RunGoal) (reported : Option ℕ) (most n k : ℕ) (e : Option RunEnd) (s mid now : ScriptState) (t u v : CountTable)
    → RunsOnBehind modes labels g reported most s t n None mid u → RunsOnBehind modes labels g reported (most - n) mid u k e now v
    → RunsOnBehind modes labels g reported most s t (n + k) e now v
behind_behind modes labels g reported most n k e s mid now t u v first second =
    let few = first.few in
    let more = second.few in
    let left : most - n - k ≡ most - (n + k) = omega arith in
    let before = first.left in
    let after = second.left in
    record {
      rest = first.rest ∙ second.rest ∙ ap (λ (m : ℕ). run_unless now e (steps_run modes labels g m reported now)) left;
      counted = ap (λ (m : ℕ). steps_counted (places_unless e (places_of_run modes g m now)) v) (sym left) ∙ second.counted ∙ first.counted;
      few = omega (arith, few, more);
      left = omega (arith, before, after);
    }

block_some : (modes : StepModes) (labels : List ImageLabels) (g : RunGoal) (reported : Option ℕ) (stays : Bool) (c : BasicBlock) (most n : ℕ) (s now : ScriptState) (t : CountTable)
    → is_step_shown reported ≡ false → suc n ≤ most → s.machine.halt ≡ None → IsCalmFor stays modes.watches
    → IsBasicBlock stays s.machine.store.bytes s.machine.cpu.pc c → IsAfterBlock g c s now (suc n)
    → RunsOnBehind modes labels g reported most s t (suc n) (end_of_unseen g now (suc n)) now (steps_counted (block_places c 0 (suc n)) t)
block_some modes labels g reported stays c most n s now t untold few unhalted calm block after =
    let some : 0 < suc n = omega arith in
    let b = s.machine.store.bytes in
    let none : c.start ≡ c.start + 4 * 0 = omega arith in
    let on : IsOn c g b (suc n) 0 s.machine = record {
      at = sym block.start ∙ none;
      within = after.some some;
      bytes = refl;
      short = after.short some;
      more = elim after.few [
        | inl loop ↦ inl loop
        | inr few ↦ inr (omega (arith, few))
      ];
    } in
    let silent : IsSilent (ran s.images after.stops (suc n) s.machine) now.machine (suc n) after.ends =
    subst (λ (q : Run). IsSilent q now.machine (suc n) after.ends) (sym after.run) (is_silent now.machine (suc n) after.ends) in
    let behind = block_on modes labels g reported after.stops stays s.machine.cpu.pc c b n most 0 s now.machine after.ends untold few unhalted after.unhalted after.breaks
    (after.exit some) calm block on after.steps silent in
    let w : script_after_silent s now.machine (suc n) ≡ now = sym after.state in
    let left = ap (λ (v : ScriptState). v.left) after.state in
    let e = end_of_unseen g now (suc n) in
    record {
      rest = behind.rest ∙ (λ i. run_unless (w i) (end_after [] g (w i) (w i)) (steps_run modes labels g (most - suc n) reported (w i)));
      counted = sym (ap (λ (xs : List ℕ). steps_counted xs t) (behind.places
          ∙ (λ i. block_places c 0 (suc n) ++ places_unless (end_after [] g (w i) (w i)) (places_of_run modes g (most - suc n) (w i))))
          ∙ counted_on (block_places c 0 (suc n)) (places_unless e (places_of_run modes g (most - suc n) now)) t);
      few = few;
      left = left;
    }

block_by : (modes : StepModes) (labels : List ImageLabels) (g : RunGoal) (reported : Option ℕ) (stays : Bool) (c : BasicBlock) (most n : ℕ) (s now : ScriptState) (t : CountTable)
    → is_step_shown reported ≡ false → n ≤ most → s.machine.halt ≡ None → IsCalmFor stays modes.watches
    → IsBasicBlock stays s.machine.store.bytes s.machine.cpu.pc c → IsAfterBlock g c s now n
    → RunsOnBehind modes labels g reported most s t n (end_of_unseen g now n) now (steps_counted (block_places c 0 n) t)
unfolding block_places
block_by modes labels g reported stays c most zero s now t untold few unhalted calm block after =
    let silent : IsSilent (ran s.images after.stops 0 s.machine) now.machine 0 after.ends =
    subst (λ (q : Run). IsSilent q now.machine 0 after.ends) (sym after.run) (is_silent now.machine 0 after.ends) in
    let same : s.machine ≡ now.machine = rested s.images after.stops s.machine now.machine after.ends unhalted silent in
    let fresh : s.is_fresh ≡ (s.is_fresh && (0 == 0)) = sym (and-true s.is_fresh) in
    let left : s.left ≡ s.left - 0 = omega arith in
    let start : s ≡ script_after_silent s now.machine 0 = λ i. record s { machine = same i; is_fresh = fresh i; left = left i } in
    let whole : s ≡ now = start ∙ sym after.state in
    subst (λ (w : ScriptState). RunsOnBehind modes labels g reported most s t 0 None w t) whole (none_behind modes labels g reported most s t)
block_by modes labels g reported stays c most (suc n) s now t untold few unhalted calm block after =
    block_some modes labels g reported stays c most n s now t untold few unhalted calm block after

pub block_behind : (modes : StepModes) (labels : List ImageLabels) (g : RunGoal) (reported : Option ℕ) (stays : Bool) (c : BasicBlock) (most n : ℕ) (s now : ScriptState) (t u : CountTable)
    → is_step_shown reported ≡ false → n ≤ most → s.machine.halt ≡ None → IsCalmFor stays modes.watches
    → IsBasicBlock stays s.machine.store.bytes s.machine.cpu.pc c → IsAfterBlock g c s now n → u ≡ steps_counted (block_places c 0 n) t
    → RunsOnBehind modes labels g reported most s t n (end_of_unseen g now n) now u
block_behind modes labels g reported stays c most n s now t u untold few unhalted calm block after counted =
    subst (λ (v : CountTable). RunsOnBehind modes labels g reported most s t n (end_of_unseen g now n) now v) (sym counted)
    (block_by modes labels g reported stays c most n s now t untold few unhalted calm block after)

-- HOW A RUN GOES ON

pub counted_rest : (modes : StepModes) (labels : List ImageLabels) (g : RunGoal) (reported : Option ℕ) (most n : ℕ) (s now : ScriptState) (t u : CountTable) (e : Option RunEnd)
    → RunsOnBehind modes labels g reported most s t n e now u → e ≡ None
    → steps_counted (places_of_run modes g (most - n) now) u ≡ steps_counted (places_of_run modes g most s) t
counted_rest modes labels g reported most n s now t u e behind none =
    ap (λ (o : Option RunEnd). steps_counted (places_unless o (places_of_run modes g (most - n) now)) u) (sym none) ∙ behind.counted

pub counted_end : (modes : StepModes) (labels : List ImageLabels) (g : RunGoal) (reported : Option ℕ) (most n : ℕ) (s now : ScriptState) (t u : CountTable) (e : Option RunEnd) (x : RunEnd)
    → RunsOnBehind modes labels g reported most s t n e now u → e ≡ Some x → u ≡ steps_counted (places_of_run modes g most s) t
counted_end modes labels g reported most n s now t u e x behind over =
    ap (λ (o : Option RunEnd). steps_counted (places_unless o (places_of_run modes g (most - n) now)) u) (sym over) ∙ behind.counted

pub enough_behind : (modes : StepModes) (labels : List ImageLabels) (g : RunGoal) (reported : Option ℕ) (most n : ℕ) (s now : ScriptState) (t u : CountTable) (e : Option RunEnd)
    → RunsOnBehind modes labels g reported most s t n e now u → most ≤ s.left → most - n ≤ now.left
enough_behind modes labels g reported most n s now t u e behind enough =
    let left = behind.left in omega (arith, enough, left)

-- where steps aren't counted, and nothing looks at them
pub unseen_behind : (modes : StepModes) (labels : List ImageLabels) (g : RunGoal) (reported : Option ℕ) (most n : ℕ) (s now : ScriptState) (t : CountTable) (e : Option RunEnd)
    → t.is_on ≡ false → steps_run modes labels g most reported s ≡ run_unless now e (steps_run modes labels g (most - n) reported now) → n ≤ most
    → now.left ≡ s.left - n → RunsOnBehind modes labels g reported most s t n e now t
unseen_behind modes labels g reported most n s now t e off rest few left = record {
  rest = rest;
  counted = uncounted (places_unless e (places_of_run modes g (most - n) now)) t off ∙ sym (uncounted (places_of_run modes g most s) t off);
  few = few;
  left = left;
}

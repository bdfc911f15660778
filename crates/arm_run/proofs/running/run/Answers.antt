use Rattle.std.proofs.Common.{◌≡◌, ◌<◌, ◌≤◌, ◌⊎◌, ◌+◌, ◌-◌, ◌*◌, ◌%◌, ◌^◌, ◌∙◌, ℕ, [], false, inl, inr, refl, sym, ap, subst, arith}
use Rattle.arm_step.specs.Memory.{bytes_of, is_owned}
use Rattle.arm_step.proofs.AddressMapWords.{is_owned-same}
use Rattle.arm_core.specs.State.{State}
use Rattle.arm_core.specs.declared.turn.StepEnd.TheVariants as turn
use Rattle.arm_core.specs.breaks.Breaks.{is_among}
use Rattle.arm_run.specs.Standing.{core_at}
use Rattle.arm_run.proofs.StepByStep.{none_done, one_more_done, same_count, same_pair, none_among, refuses_so, turns_so}
use Rattle.arm_run.proofs.running.run.Goals as goal
use Rattle.arm_run.proofs.running.run.Goals.{then-is_empty, else-is_empty}

pub loop-next-init : goal.loop-next-init
loop-next-init c =
    let looks : (c.if-is_empty.stride ≡ 1) ⊎ ((c.args.breaks.now ≡ []) × (c.if-is_empty.stride ≡ c.args.most) × (c.args.most ≡ c.args.most)) =
    elim c.if-is_empty.branch [
      | then-is_empty w ↦ inr (c.is_empty.ensures.0 w.if-is_empty.true, w.stride-is, refl)
      | else-is_empty w ↦ inl w.stride-is
    ] in
    let some : (0 < c.if-is_empty.stride) × (c.if-is_empty.stride ≤ c.args.most) = elim looks [
      | inl one ↦ (omega (arith, one), omega (arith, one, c.requires.some))
      | inr all ↦ (omega (arith, all.1, c.requires.some), omega (arith, all.1))
    ] in
    record {
      done = none_done _ _ _ _ _ (omega arith) (same_pair _ _ _ _ c.position-at.ensures.there refl);
      clear = inl (omega arith);
      looks = looks;
      some = some.0;
      left = omega arith;
      within = some.1;
      rest = omega arith;
      position = omega (arith, c.position-at.ensures.within);
      fetch_page = c.closed-fetch_page.ensures c.args.memory.now;
      layout = refl;
      marks = refl;
    }

pub end_at-requires : goal.end_at-requires
end_at-requires c =
    let acts = c.in-None.ensures.state in
    record {
      refuses = refuses_so _ _ _ _ _ _ (is_owned-same _ _ c.step_at.ensures.marks) acts.0 acts.1 acts.2;
      fetch_page = c.step_at.ensures.fetch_page;
      at = c.loop-next.invariant.position;
    }

pub returns-in-None : goal.returns-in-None
returns-in-None c =
    let so_far = c.loop-next.invariant in
    let acts = c.in-None.ensures.state in
    let core : c.end_at.new.cpu ≡ core_at c.loop-next.cpu c.loop-next.at = c.end_at.ensures.core ∙ acts.0 in
    let bytes : bytes_of c.end_at.new.memory ≡ bytes_of c.loop-next.memory = c.end_at.ensures.bytes ∙ acts.1 in
    let taken : ℕ = c.args.most - c.loop-next.rest + (c.if-is_empty.stride - c.loop-next.left) in
    let fewer : taken < c.args.most = omega (arith, so_far.some, so_far.left, so_far.within, so_far.rest) in
    let owned : is_owned c.step_at.new.memory ≡ is_owned c.args.memory.now = is_owned-same _ _ (c.step_at.ensures.marks ∙ so_far.marks) in
    record {
      done = same_count _ _ _ _ _ _ _ refl (same_pair _ _ _ _ core bytes) so_far.done;
      ends = subst (λ (s : State). (taken ≡ 0) ⊎ (is_among c.args.breaks.now s.pc ≡ false)) (sym core) so_far.clear;
      next = turns_so _ _ (c.end_at.new.cpu, bytes_of c.end_at.new.memory) (c.end_at.new.cpu, bytes_of c.end_at.new.memory) c.end_at.result owned c.end_at.ensures.turn;
      other = c.end_at.ensures.other;
      fewer = fewer;
      all = λ is. cc;
      most = omega (arith, fewer);
      layout = c.end_at.ensures.layout ∙ c.step_at.ensures.layout ∙ so_far.layout;
      marks = c.end_at.ensures.marks ∙ c.step_at.ensures.marks ∙ so_far.marks;
    }

pub returns-then-has : goal.returns-then-has
returns-then-has c =
    let so_far = c.loop-next.invariant in
    let pc : c.pc-pc.result ≡ c.stand.new.cpu.pc = c.pc-pc.ensures.value in
    let owned : is_owned c.loop-next.memory ≡ is_owned c.args.memory.now = is_owned-same _ _ so_far.marks in
    let taken : ℕ = c.args.most - c.loop-next.rest + c.if-is_empty.stride in
    let most : taken ≤ c.args.most = omega (arith, so_far.within, so_far.rest) in
    record {
      done = same_count _ _ _ _ _ _ _ refl (same_pair _ _ _ _ c.stand.ensures refl)
          (one_more_done _ _ _ _ _ _ _ (omega (arith, so_far.some, so_far.left, so_far.within, so_far.rest, c.if-left-eq0.true)) so_far.done so_far.clear
          (turns_so _ _ (core_at c.loop-next.cpu c.loop-next.at, bytes_of c.loop-next.memory) (core_at c.step_at.new.cpu c.in-Some.next, bytes_of c.step_at.new.memory) turn.Done owned c.in-Some.ensures.state));
      ends = (omega (arith, so_far.some, so_far.left), pc, ap (is_among c.args.breaks.now) (sym pc) ∙ sym c.has.ensures ∙ c.if-has.true);
      next = tt;
      other = tt;
      fewer = tt;
      all = λ is. cc;
      most = most;
      layout = c.step_at.ensures.layout ∙ so_far.layout;
      marks = c.step_at.ensures.marks ∙ so_far.marks;
    }

pub returns-then-rest-eq0 : goal.returns-then-rest-eq0
returns-then-rest-eq0 c =
    let so_far = c.loop-next.invariant in
    let pc : c.pc-pc.result ≡ c.stand.new.cpu.pc = c.pc-pc.ensures.value in
    let owned : is_owned c.loop-next.memory ≡ is_owned c.args.memory.now = is_owned-same _ _ so_far.marks in
    record {
      done = same_count _ _ _ _ _ _ _ refl (same_pair _ _ _ _ c.stand.ensures refl)
          (one_more_done _ _ _ _ _ _ _ (omega (arith, so_far.some, so_far.left, so_far.within, so_far.rest, c.if-left-eq0.true, c.if-rest-eq0.true)) so_far.done so_far.clear
          (turns_so _ _ (core_at c.loop-next.cpu c.loop-next.at, bytes_of c.loop-next.memory) (core_at c.step_at.new.cpu c.in-Some.next, bytes_of c.step_at.new.memory) turn.Done owned c.in-Some.ensures.state));
      ends = inr (ap (is_among c.args.breaks.now) (sym pc) ∙ sym c.has.ensures ∙ c.if-has.false);
      next = tt;
      other = tt;
      fewer = tt;
      all = λ is. refl;
      most = omega arith;
      layout = c.step_at.ensures.layout ∙ so_far.layout;
      marks = c.step_at.ensures.marks ∙ so_far.marks;
    }

pub loop-next-preserved-then-left-eq0 : goal.loop-next-preserved-then-left-eq0
loop-next-preserved-then-left-eq0 c =
    let so_far = c.loop-next.invariant in
    let pc : c.pc-pc.result ≡ c.stand.new.cpu.pc = c.pc-pc.ensures.value in
    let owned : is_owned c.loop-next.memory ≡ is_owned c.args.memory.now = is_owned-same _ _ so_far.marks in
    let counter : c.pc-pc.result ≡ c.in-Some.next % 2 ^ 24 * 4 = pc ∙ ap (λ (s : State). s.pc) c.stand.ensures in
    let one : c.if-is_empty.stride ≡ 1 = elim so_far.looks [
      | inl one ↦ one
      | inr all ↦ absurd (c.if-rest-eq0.false (omega (arith, all.1, all.2)))
    ] in
    let more : 0 < c.loop-next.rest - c.if-is_empty.stride = omega (arith, c.if-rest-eq0.false) in
    record {
      done = same_count _ _ _ _ _ _ _ refl (same_pair _ _ _ _ (ap (λ (s : State). core_at s c.in-Some.next) c.stand.ensures) refl)
          (one_more_done _ _ _ _ _ _ _ (omega (arith, so_far.some, so_far.left, so_far.within, so_far.rest, c.if-left-eq0.true)) so_far.done so_far.clear
          (turns_so _ _ (core_at c.loop-next.cpu c.loop-next.at, bytes_of c.loop-next.memory) (core_at c.step_at.new.cpu c.in-Some.next, bytes_of c.step_at.new.memory) turn.Done owned c.in-Some.ensures.state));
      clear = inr (ap (is_among c.args.breaks.now) (sym counter) ∙ sym c.has.ensures ∙ c.if-has.false);
      looks = inl one;
      some = omega (arith, one);
      left = omega arith;
      within = omega (arith, one, more);
      rest = omega (arith, so_far.rest);
      position = c.in-Some.ensures.within;
      fetch_page = c.step_at.ensures.fetch_page;
      layout = c.step_at.ensures.layout ∙ so_far.layout;
      marks = c.step_at.ensures.marks ∙ so_far.marks;
    }

pub loop-next-preserved : goal.loop-next-preserved
loop-next-preserved c =
    let so_far = c.loop-next.invariant in
    let owned : is_owned c.loop-next.memory ≡ is_owned c.args.memory.now = is_owned-same _ _ so_far.marks in
    let none : c.args.breaks.now ≡ [] = elim so_far.looks [
      | inl one ↦ absurd (c.if-left-eq0.false (omega (arith, one, so_far.left)))
      | inr all ↦ all.0
    ] in
    let some : 0 < c.loop-next.left - 1 = omega (arith, c.if-left-eq0.false) in
    record {
      done = one_more_done _ _ _ _ _ _ _ (omega (arith, so_far.left, some)) so_far.done so_far.clear
          (turns_so _ _ (core_at c.loop-next.cpu c.loop-next.at, bytes_of c.loop-next.memory) (core_at c.step_at.new.cpu c.in-Some.next, bytes_of c.step_at.new.memory) turn.Done owned c.in-Some.ensures.state);
      clear = inr (none_among _ _ none);
      looks = so_far.looks;
      some = some;
      left = omega (arith, so_far.left);
      within = so_far.within;
      rest = so_far.rest;
      position = c.in-Some.ensures.within;
      fetch_page = c.step_at.ensures.fetch_page;
      layout = c.step_at.ensures.layout ∙ so_far.layout;
      marks = c.step_at.ensures.marks ∙ so_far.marks;
    }

pub step_at-requires : goal.step_at-requires
step_at-requires c = record { at = c.loop-next.invariant.position; fetch_page = c.loop-next.invariant.fetch_page }

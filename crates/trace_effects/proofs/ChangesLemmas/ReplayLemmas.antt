-- Changes replayed give the second core.
use Rattle.std.proofs.Common.{◌≡◌, ◌≢◌, ℕ, zero, suc, ◌<◌, ◌≤◌, ◌==◌, Bool, true, false, List, [], ◌∷◌, ◌++◌, length, slice_index, slice_set, refl, sym, ◌∙◌, ap, arith, inl, inr, unwrap_or}
use Rattle.std.proofs.lemmas.Bool.{cases_Bool, eqb-true, eq-eqb, false≢true}
use Rattle.std.proofs.lemmas.List.{ext_get_or}
use Rattle.std.proofs.lemmas.Grind.{common_steps}
use Rattle.arm_core.specs.declared.psr.Mode.{Mode}
use Rattle.arm_core.specs.declared.psr.Mode.TheVariants.{User, FastInterrupt, Interrupt, Supervisor}
use Rattle.arm_core.specs.State.{State}
use Rattle.trace_effects.specs.declared.changes.registers.RegisterChange.{RegisterChange}
use Rattle.trace_effects.specs.changes.Registers.{change_at, changes_below}
use Rattle.trace_effects.specs.changes.Status.{jump, new_bool, new_mode}
use Rattle.trace_effects.specs.changes.Laws.{Replays, registers_after}
use Rattle.trace_effects.proofs.ChangesLemmas.ChangeLemmas.{alike_here, differs_here, suc_below}

after_both : (f : List ℕ) (cs ds : List RegisterChange) → registers_after f (cs ++ ds) ≡ registers_after (registers_after f cs) ds
after_both f [] ds = refl
after_both f (c ∷ cs) ds = after_both (slice_set f c.place c.new) cs ds

-- the file after the changes of so many first places
partly : List ℕ → List ℕ → ℕ → List ℕ
partly f g n = registers_after f (changes_below f g n)

partly_none : (f g : List ℕ) → partly f g 0 ≡ f
unfolding partly changes_below
partly_none f g = refl

partly_more : (f g : List ℕ) (n : ℕ) → partly f g (suc n) ≡ registers_after (partly f g n) (change_at f g n)
unfolding partly
partly_more f g n = ap (registers_after f) (suc_below f g n) ∙ after_both f (changes_below f g n) (change_at f g n)

partly_set : (f g : List ℕ) (n : ℕ) → slice_index f n ≢ slice_index g n → partly f g (suc n) ≡ slice_set (partly f g n) n (slice_index g n)
partly_set f g n differs = partly_more f g n ∙ ap (registers_after (partly f g n)) (differs_here f g n differs)

partly_kept : (f g : List ℕ) (n : ℕ) → slice_index f n ≡ slice_index g n → partly f g (suc n) ≡ partly f g n
partly_kept f g n alike = partly_more f g n ∙ ap (registers_after (partly f g n)) (alike_here f g n alike)

-- of each place below it is the second file's, and of each other the first one's
record IsBetween (f g : List ℕ) (n : ℕ) (h : List ℕ) : Type 0 where
  size : length h ≡ length f
  lower : (k : ℕ) → k < n → slice_index h k ≡ slice_index g k
  upper : (k : ℕ) → n ≤ k → slice_index h k ≡ slice_index f k

between_set : (f g h : List ℕ) (n : ℕ) → n < length f → IsBetween f g n h → IsBetween f g (suc n) (slice_set h n (slice_index g n))
between_set f g h n inside b =
    let size = b.size in let lower = b.lower in let upper = b.upper in
    record {
      size = grind (arith, common_steps);
      lower = λ k below. grind (arith, common_steps);
      upper = λ k above. grind (arith, common_steps);
    }

between_kept : (f g h : List ℕ) (n : ℕ) → slice_index f n ≡ slice_index g n → IsBetween f g n h → IsBetween f g (suc n) h
between_kept f g h n alike b =
    let lower = b.lower in let upper = b.upper in
    record {
      size = b.size;
      lower = λ k below. grind arith;
      upper = λ k above. upper k (omega arith);
    }

between : (f g : List ℕ) (n : ℕ) → n ≤ length f → IsBetween f g n (partly f g n)
between f g zero inside = rw (partly_none f g) (record {
  size = refl;
  lower = λ k below. absurd (omega (arith, below));
  upper = λ k above. refl;
})
between f g (suc n) inside =
    let before = between f g n (omega arith) in
    elim (cases_Bool (slice_index f n == slice_index g n)) [
      | inl alike ↦
          let same = eqb-true (slice_index f n) (slice_index g n) alike in
          rw (partly_kept f g n same) (between_kept f g (partly f g n) n same before)
      | inr apart ↦
          let differs : slice_index f n ≢ slice_index g n = λ e. false≢true (sym apart ∙ eq-eqb (slice_index f n) (slice_index g n) e) in
          rw (partly_set f g n differs) (between_set f g (partly f g n) n (omega arith) before)
    ]

files : (f g : List ℕ) → length f ≡ 26 → length g ≡ 26 → registers_after f (changes_below f g 26) ≡ g
unfolding partly
files f g few many =
    let b = between f g 26 (omega arith) in
    ext_get_or 0 (partly f g 26) g (b.size ∙ few ∙ sym many)
    (λ i inside. b.lower i (let here : length (partly f g 26) ≡ 26 = b.size ∙ few in omega arith))

pub bools : (old new : Bool) → unwrap_or (new_bool old new) old ≡ new
bools true true = refl
bools true false = refl
bools false true = refl
bools false false = refl

pub modes : (old new : Mode) → unwrap_or (new_mode old new) old ≡ new
modes User User = refl
modes User FastInterrupt = refl
modes User Interrupt = refl
modes User Supervisor = refl
modes FastInterrupt User = refl
modes FastInterrupt FastInterrupt = refl
modes FastInterrupt Interrupt = refl
modes FastInterrupt Supervisor = refl
modes Interrupt User = refl
modes Interrupt FastInterrupt = refl
modes Interrupt Interrupt = refl
modes Interrupt Supervisor = refl
modes Supervisor User = refl
modes Supervisor FastInterrupt = refl
modes Supervisor Interrupt = refl
modes Supervisor Supervisor = refl

pub places : (expected : ℕ) (s' : State) → unwrap_or (jump expected s') expected ≡ s'.pc
places expected s' = elim (cases_Bool (s'.pc == expected)) [
  | inl same ↦ rw same (sym (eqb-true s'.pc expected same))
  | inr other ↦ rw other refl
]

pub replays : Replays
replays expected s s' core core' =
    rw (
      files s.file s'.file core.size core'.size,
      places expected s',
      modes s.psr.mode s'.psr.mode,
      bools s.psr.negative s'.psr.negative,
      bools s.psr.zero s'.psr.zero,
      bools s.psr.carry s'.psr.carry,
      bools s.psr.overflow s'.psr.overflow,
      bools s.psr.interrupts_off s'.psr.interrupts_off,
      bools s.psr.fast_interrupts_off s'.psr.fast_interrupts_off,
    ) refl

-- What is the same where nothing differs.
use Rattle.std.proofs.Common.{◌≡◌, ◌∙◌, ◌%◌, ℕ, ◌==◌, length, Bool, true, false, List, [], ◌∷◌, refl, sym, ap, arith}
use Rattle.std.proofs.lemmas.Bool.{eqb-true, false≢true}
use Rattle.std.proofs.Math.Bool.{beq}
use Rattle.std.specs.Prelude.{◌&&◌, not}
use Rattle.address_map.specs.Bytes.{Bytes, word_at}
use Rattle.arm_core.specs.State.{State}
use Rattle.arm_core.specs.declared.psr.Mode.{Mode}
use Rattle.arm_core.specs.declared.psr.Psr.{Psr}
use Rattle.trace_json.specs.MachineState.{MachineState}
use Rattle.trace_effects.specs.changes.Laws.{registers_after}
use Rattle.trace_effects.specs.declared.changes.registers.RegisterChange.{RegisterChange}
use Rattle.trace_effects.specs.declared.shown_words.words.ShownWord.{ShownWord}
use Rattle.trace_effects.specs.shown_words.Replay.{words_after}
use Rattle.debug_records.specs.Moments.{IsAlike}

pub none_differ : (cs : List RegisterChange) (f g : List ℕ) → (length cs == 0) ≡ true → registers_after f cs ≡ g → f ≡ g
none_differ [] f g none same = same
none_differ (c ∷ cs) f g none same = absurd (let some : length (c ∷ cs) ≡ 0 = eqb-true (length (c ∷ cs)) 0 none in omega (arith, some))

pub same_core : (s t : State) → s.pc ≡ t.pc → s.psr ≡ t.psr → s.file ≡ t.file → s ≡ t
same_core s t pc psr file =
    ap (λ (f : List ℕ). record { file = f; psr = s.psr; pc = s.pc }) file
    ∙ (ap (λ (p : Psr). record { file = t.file; psr = p; pc = s.pc }) psr ∙ ap (λ (n : ℕ). record { file = t.file; psr = t.psr; pc = n }) pc)

both : (a b : Bool) → (a && b) ≡ true → (a ≡ true) × (b ≡ true)
both true true is = (refl, refl)
both true false is = absurd (false≢true is)
both false b is = absurd (false≢true is)

flag_same : (a b : Bool) → beq a b ≡ true → a ≡ b
flag_same true true is = refl
flag_same true false is = absurd (false≢true is)
flag_same false true is = absurd (false≢true is)
flag_same false false is = refl

all_same : (b : Bool) → false ≡ not b → b ≡ true
all_same true is = refl
all_same false is = absurd (false≢true is)

abbrev status : Bool → Bool → Bool → Bool → Bool → Bool → Mode → Psr
status n z c v i f m = record { negative = n; zero = z; carry = c; overflow = v; interrupts_off = i; fast_interrupts_off = f; mode = m }

status_same : (n n' z z' c c' v v' i i' f f' : Bool) (m m' : Mode) → n ≡ n' → z ≡ z' → c ≡ c' → v ≡ v' → i ≡ i' → f ≡ f' → m ≡ m'
    → status n z c v i f m ≡ status n' z' c' v' i' f' m'
status_same n n' z z' c c' v v' i i' f f' m m' e g h j k l o = rw (e, g, h, j, k, l, o) refl

-- two statuses of which no flag differs, nor the mode
pub psr_same : (p q : Psr) (same : Bool) → false ≡ not (beq p.negative q.negative && (beq p.zero q.zero && (beq p.carry q.carry
    && (beq p.overflow q.overflow && (beq p.interrupts_off q.interrupts_off && (beq p.fast_interrupts_off q.fast_interrupts_off && same))))))
    → (same ≡ true → p.mode ≡ q.mode) → p ≡ q
psr_same p q same is modes =
    let u : Bool = beq p.fast_interrupts_off q.fast_interrupts_off && same in
    let v : Bool = beq p.interrupts_off q.interrupts_off && u in
    let w : Bool = beq p.overflow q.overflow && v in
    let x : Bool = beq p.carry q.carry && w in
    let y : Bool = beq p.zero q.zero && x in
    let a = both (beq p.negative q.negative) y (all_same (beq p.negative q.negative && y) is) in
    let b = both (beq p.zero q.zero) x a.1 in
    let d = both (beq p.carry q.carry) w b.1 in
    let e = both (beq p.overflow q.overflow) v d.1 in
    let f = both (beq p.interrupts_off q.interrupts_off) u e.1 in
    let g = both (beq p.fast_interrupts_off q.fast_interrupts_off) same f.1 in
    status_same p.negative q.negative p.zero q.zero p.carry q.carry p.overflow q.overflow p.interrupts_off q.interrupts_off
    p.fast_interrupts_off q.fast_interrupts_off p.mode q.mode (flag_same p.negative q.negative a.0) (flag_same p.zero q.zero b.0)
    (flag_same p.carry q.carry d.0) (flag_same p.overflow q.overflow e.0) (flag_same p.interrupts_off q.interrupts_off f.0)
    (flag_same p.fast_interrupts_off q.fast_interrupts_off g.0) (modes g.1)

-- two machines of which no word differs
pub alike_by : (s t : MachineState) (old new : Bytes) (ws : List ShownWord) → s.cpu ≡ t.cpu → old ≡ s.store.bytes → new ≡ t.store.bytes
    → (length ws == 0) ≡ true → ((a : ℕ) → a % 4 ≡ 0 → words_after ws (word_at old.at) a ≡ word_at new.at a) → IsAlike s t
alike_by s t old new [] core before after none replay = record {
  core = core;
  words = λ a whole below.
      ap (λ (b : Bytes). word_at b.at a) (sym before) ∙ (replay a whole ∙ ap (λ (b : Bytes). word_at b.at a) after);
}
alike_by s t old new (w ∷ ws) core before after none replay =
    absurd (let some : length (w ∷ ws) ≡ 0 = eqb-true (length (w ∷ ws)) 0 none in omega (arith, some))

-- What is written of a machine before and after says what stands in it after.
use Rattle.std.proofs.Common.{◌≡◌, ◌∙◌, ℕ, ◌*◌, ◌%◌, ◌<◌, ◌^◌, Bool, true, false, List, [], ◌∷◌, ◌++◌, map, Option, Some, None, refl, sym, ap, subst, inl, inr, if◌then◌else◌}
use Rattle.std.specs.Prelude.{IsSome, codes, is_some}
use Rattle.std.specs.Option.{option_map}
use Rattle.std.proofs.lemmas.Bool.{cases_Bool, false≢true}
use Rattle.profile.specs.images.Entries.{Entry}
use Rattle.address_map.specs.Bytes.{Bytes, in_range, word_at}
use Rattle.profile.specs.declared.stop.Stop.{Stop}
use Rattle.arm_core.specs.State.{State}
use Rattle.trace_text.specs.MachineState.{MachineState, stop_of}
use Rattle.trace_moments.specs.Halt.{Halt}
use Rattle.trace_text.specs.SwiDispatchGuestStep.{machine_step}
use Rattle.trace_effects.specs.Cause.{cause_of}
use Rattle.trace_effects.specs.Stored.{stored_words}
use Rattle.trace_effects.specs.changes.Laws.{CoreChanges, core_after}
use Rattle.trace_effects.specs.declared.changes.status.Flag.TheVariants.{Negative, Zero, Carry, Overflow, InterruptsOff, FastInterruptsOff}
use Rattle.trace_effects.specs.declared.record_text.text.RecordText.{RecordText}
use Rattle.trace_effects.specs.declared.shown_words.words.ShownWord.{ShownWord}
use Rattle.trace_effects.specs.declared.stored.StoredWords.{StoredWords}
use Rattle.trace_effects.proofs.ChangesLemmas.ReplayLemmas.{bools, modes, places}
use Rattle.trace_moments.specs.Stored.{AreListed, is_listed, renewed}
use Rattle.trace_moments.specs.law_trace.Laws.{PlainStepsStore, StoresWords, is_plain}
use Rattle.trace_moments.proofs.StoredLemmas.{renewed_after}
use Rattle.trace_moments.specs.CoreFields.{AreCoreChanges, ShowsCore, core_fields}
use Rattle.trace_effects.specs.shown_words.Replay.{words_after}
use Rattle.trace_text.specs.Copies.{kept_in}
use Rattle.trace_json.specs.Moments.{ChangesKept, ChangesListed, IsKeptBefore, IsCopy, KeepsMemory, ShowsChanges, expected_at, is_copied, step_place, words_of}
use Rattle.trace_moments.specs.WordFields.{AreWordChanges, ShowsWords, word_fields}
use Rattle.trace_json.specs.declared.before.MemoryBefore.{MemoryBefore}
use Rattle.trace_json.specs.declared.before.MemoryBefore.TheVariants.{Copied, Stored}
use Rattle.trace_json.specs.declared.changes.MachineCopy.{MachineCopy}
use Rattle.trace_json.specs.declared.step.StepBefore.{StepBefore}
use Rattle.trace_moments.specs.Fields.{HasMore}
use Rattle.trace_moments.proofs.FieldLemmas.{none_more, then_more}

-- whoever has the core before, and what differs, has the core after
pub core_replays : (expected : ℕ) (s s' : State) (c : CoreChanges) → AreCoreChanges expected s s' c → core_after expected s c ≡ s'
core_replays expected s s' c are =
    rw (
      are.registers,
      are.goes_to,
      are.mode,
      are.flags Negative,
      are.flags Zero,
      are.flags Carry,
      are.flags Overflow,
      are.flags InterruptsOff,
      are.flags FastInterruptsOff,
      places expected s',
      modes s.psr.mode s'.psr.mode,
      bools s.psr.negative s'.psr.negative,
      bools s.psr.zero s'.psr.zero,
      bools s.psr.carry s'.psr.carry,
      bools s.psr.overflow s'.psr.overflow,
      bools s.psr.interrupts_off s'.psr.interrupts_off,
      bools s.psr.fast_interrupts_off s'.psr.fast_interrupts_off,
    ) refl

halted_alike : (halt : Option Halt) → is_some (option_map stop_of halt) ≡ is_some halt
halted_alike None = refl
halted_alike (Some h) = refl

-- a machine that is halted
pub halted_by : (stop : Option Stop) (halt : Option Halt) (is : Bool) → stop ≡ option_map stop_of halt → is ≡ is_some stop → is ≡ true → IsSome halt
halted_by stop None is by tests so = absurd (false≢true (sym (ap (λ (x : Option Stop). is_some x) by) ∙ (sym tests ∙ so)))
halted_by stop (Some h) is by tests so = refl

-- the core, and then the words
pub shows_changes : (name : List ℕ) (expected : ℕ) (s t : MachineState) (a b c : RecordText)
    → ShowsCore name expected s.cpu t.cpu a b → ShowsWords (words_of s) (words_of t) b c → ShowsChanges name expected s t a c
shows_changes name expected s t a b c core words = record {
  core = core.changes;
  words = words.words;
  core_are = core.are;
  words_are = words.are;
  written = then_more a b c (core_fields name core.changes) (word_fields words.words) core.written words.written;
}

-- words of two memories, and the words that were written of them
pub words_between : (old new : Bytes) (b b' : Bytes) (ws items : List ShownWord) (a c : RecordText) → old ≡ b → new ≡ b' → ws ≡ items
    → ((at : ℕ) → at % 4 ≡ 0 → words_after items (word_at old.at) at ≡ word_at new.at at) → HasMore a c (word_fields ws)
    → ShowsWords (word_at b.at) (word_at b'.at) a c
words_between old new b b' ws items a c before after same replay written = record {
  words = ws;
  are = λ at whole below.
      ap (λ (v : ℕ → ℕ). words_after ws v at) (ap (λ (x : Bytes). word_at x.at) (sym before))
      ∙ (ap (λ (xs : List ShownWord). words_after xs (word_at old.at) at) same
      ∙ (replay at whole ∙ ap (λ (x : Bytes). word_at x.at at) after));
  written = written;
}

-- what differs of a machine from a copy of one before
pub shows_copied : (name : List ℕ) (copy : MachineCopy) (s t : MachineState) (cpu : State) (expected : ℕ) (a b c : RecordText) → IsCopy copy s
    → cpu ≡ t.cpu → expected ≡ copy.cpu.pc → ShowsCore name expected copy.cpu cpu a b
    → ShowsWords (word_at (kept_in copy.store).store.bytes.at) (words_of t) b c → ShowsChanges name s.cpu.pc s t a c
shows_copied name copy s t cpu expected a b c is now place core words =
    let at : expected ≡ s.cpu.pc = place ∙ ap (λ (x : State). x.pc) is.core in
    shows_changes name s.cpu.pc s t a b c
    (subst (λ (x : State). ShowsCore name s.cpu.pc s.cpu x a b) now
    (subst (λ (x : State). ShowsCore name s.cpu.pc x cpu a b) is.core (subst (λ (n : ℕ). ShowsCore name n copy.cpu cpu a b) at core)))
    (subst (λ (x : Bytes). ShowsWords (word_at x.at) (words_of t) b c) is.bytes words)

-- what differs of a machine after a step
pub shows_step : (before : StepBefore) (s e t : MachineState) (stop : Option Stop) (reported cpu : State) (expected : ℕ) (a b c : RecordText)
    → reported ≡ s.cpu → words_of e ≡ words_of s → IsKeptBefore before e → cpu ≡ t.cpu → stop ≡ option_map stop_of t.halt
    → expected ≡ expected_at (step_place before) before.cpu.pc (is_some stop) → ShowsCore (codes "next") expected reported cpu a b
    → ShowsWords (words_of e) (words_of t) b c
    → ShowsChanges (codes "next") (expected_at (step_place before) e.cpu.pc (is_some t.halt)) s t a c
shows_step before s e t stop reported cpu expected a b c core same is now halt goes shown words =
    let next : ℕ = expected_at (step_place before) e.cpu.pc (is_some t.halt) in
    let at : expected ≡ next =
    goes ∙ (ap (λ (x : State). expected_at (step_place before) x.pc (is_some stop)) is.core
    ∙ ap (expected_at (step_place before) e.cpu.pc) (ap (λ (x : Option Stop). is_some x) halt ∙ halted_alike t.halt)) in
    shows_changes (codes "next") next s t a b c
    (subst (λ (x : State). ShowsCore (codes "next") next s.cpu x a b) now
    (subst (λ (x : State). ShowsCore (codes "next") next x cpu a b) core
    (subst (λ (n : ℕ). ShowsCore (codes "next") n reported cpu a b) at shown)))
    (subst (λ (v : ℕ → ℕ). ShowsWords v (words_of t) b c) same words)

pub words_same : (s t : MachineState) → t.store ≡ s.store → words_of t ≡ words_of s
words_same s t same = ap (λ v. word_at v.bytes.at) same

-- WORDS THAT AN INSTRUCTION STORES TO

listed_by : (words : StoredWords) (ws : List ShownWord) (s t : MachineState) → AreListed words ws → StoresWords words s t → ChangesListed ws s t
listed_by words ws s t are stores = record {
  halted = stores.halted;
  others = λ a whole below out. elim (cases_Bool (in_range words.at (4 * words.count) a)) [
    | inl within ↦ absurd (false≢true (sym out ∙ are stores.aligned a whole below within))
    | inr past ↦ stores.stored a whole past
  ];
}

pub step_changes : (images : List Entry) (s : MachineState) (memory : MemoryBefore) → PlainStepsStore → KeepsMemory memory s
    → (is_copied memory ≡ false → is_plain (cause_of s.cpu s.store.bytes) ≡ true) → ChangesKept memory s (machine_step images s).now
step_changes images s (Stored ws) law keeps plain =
    listed_by (stored_words (cause_of s.cpu s.store.bytes) s.cpu) ws.items s (machine_step images s).now keeps (law images s (plain refl))
step_changes images s (Copied copy) law keeps plain = tt

pub same_changes : (s t : MachineState) (memory : MemoryBefore) → t.store ≡ s.store → ChangesKept memory s t
same_changes s t (Stored ws) same = record {
  halted = λ halt a. ap (λ v. word_at v.bytes.at a) same;
  others = λ a whole below out. ap (λ v. word_at v.bytes.at a) same;
}
same_changes s t (Copied copy) same = tt

-- what is set in the core behind a step changes no words
pub kept_behind : (s t u : MachineState) (memory : MemoryBefore) → u.store ≡ t.store → u.halt ≡ t.halt → ChangesKept memory s t
    → ChangesKept memory s u
kept_behind s t u (Stored ws) same halt kept = record {
  halted = λ is a. ap (λ v. word_at v.bytes.at a) same ∙ kept.halted (subst IsSome halt is) a;
  others = λ a whole below out. ap (λ v. word_at v.bytes.at a) same ∙ kept.others a whole below out;
}
kept_behind s t u (Copied copy) same halt kept = tt

pub copied_changes : (s t : MachineState) (memory : MemoryBefore) → is_copied memory ≡ true → ChangesKept memory s t
copied_changes s t (Stored ws) is = absurd (false≢true is)
copied_changes s t (Copied copy) is = tt

pub stored_replay : (ws : List ShownWord) (s t : MachineState) → ChangesListed ws s t
    → AreWordChanges (words_of s) (words_of t) (map (renewed (words_of t)) ws)
stored_replay ws s t kept a whole below = renewed_after (words_of t) ws (words_of s) a whole
    ∙ elim (cases_Bool (is_listed a ws)) [
      | inl listed ↦ rw listed refl
      | inr other ↦ rw other (sym (kept.others a whole below other))
    ]

pub none_replay : (ws : List ShownWord) (s t : MachineState) → ChangesListed ws s t → IsSome t.halt
    → AreWordChanges (words_of s) (words_of t) []
none_replay ws s t kept halt a whole below = sym (kept.halted halt a)

-- words that an instruction stored to were written, or none
pub stored_shown : (ws : List ShownWord) (e t : MachineState) (now : Bytes) (shown items : List ShownWord) (a b : RecordText) → ChangesListed ws e t
    → now ≡ t.store.bytes → shown ≡ items → items ≡ map (renewed (word_at now.at)) ws → HasMore a b (word_fields shown)
    → ShowsWords (words_of e) (words_of t) a b
stored_shown ws e t now shown items a b kept is same renews written = record {
  words = shown;
  are = subst (λ (xs : List ShownWord). AreWordChanges (words_of e) (words_of t) xs)
      (sym (same ∙ (renews ∙ ap (λ (x : Bytes). map (renewed (word_at x.at)) ws) is))) (stored_replay ws e t kept);
  written = written;
}

pub none_shown : (ws : List ShownWord) (e t : MachineState) (a : RecordText) → ChangesListed ws e t → IsSome t.halt
    → ShowsWords (words_of e) (words_of t) a a
none_shown ws e t a kept halt = record { words = []; are = none_replay ws e t kept halt; written = none_more a }

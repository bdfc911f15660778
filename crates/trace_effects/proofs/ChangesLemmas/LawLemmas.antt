-- The list of changes is complete, and true.
use Rattle.std.proofs.Common.{◌≡◌, ◌≢◌, ℕ, zero, suc, ◌<◌, ◌≤◌, ◌==◌, List, [], ◌∷◌, Contains, slice_index, slice_index_or, refl, sym, ◌∙◌, arith, inl, inr, subst}
use Rattle.std.proofs.lemmas.Bool.{cases_lt, cases_Bool, eqb-true, eq-eqb, false≢true}
use Rattle.std.proofs.lemmas.Bool.Decides.{nat_tests}
use Rattle.std.proofs.lemmas.List.Elements.{Contains-append_left, Contains-append_right, Contains-append_cases, Contains-push}
use Rattle.arm_core.specs.declared.psr.Mode.{Mode}
use Rattle.arm_core.specs.declared.psr.Mode.TheVariants.{User, FastInterrupt, Interrupt, Supervisor}
use Rattle.arm_core.specs.State.{State, slot_of}
use Rattle.trace_effects.specs.declared.changes.registers.RegisterChange.{RegisterChange}
use Rattle.trace_effects.specs.changes.Laws.{AreComplete, AreTrue, IsChange}
use Rattle.trace_effects.specs.changes.Registers.{change_at, register_change, changes_below}
use Rattle.trace_effects.proofs.ChangesLemmas.ChangeLemmas.{alike_here, differs_here, suc_below}

-- a list of one has its element
alone : (c : RegisterChange) → Contains (c ∷ []) c
alone c = Contains-push [] c

here : (before after : List ℕ) (n : ℕ) → slice_index before n ≢ slice_index after n → Contains (change_at before after n) (register_change before after n)
here before after n differs = rw (differs_here before after n differs) (alone (register_change before after n))

complete_below : (before after : List ℕ) (n k : ℕ) → k < n → slice_index before k ≢ slice_index after k
    → Contains (changes_below before after n) (register_change before after k)
complete_below before after zero k inside differs = absurd (omega (arith, inside))
complete_below before after (suc n) k inside differs =
    rw (suc_below before after n)
    (elim (cases_lt k n) [
      | inl lower ↦ Contains-append_left (changes_below before after n) (change_at before after n) (register_change before after k) (complete_below before after n k lower differs)
      | inr upper ↦
          let same : k ≡ n = omega arith in
          Contains-append_right (changes_below before after n) (change_at before after n) (register_change before after k)
          (subst (λ (place : ℕ). Contains (change_at before after place) (register_change before after k)) same (here before after k differs))
    ])

slot_inside : (mode : Mode) (number : ℕ) → number < 15 → slot_of mode number < 26
slot_inside User number inside = omega arith
slot_inside FastInterrupt number inside = grind (arith, nat_tests)
slot_inside Interrupt number inside = grind (arith, nat_tests)
slot_inside Supervisor number inside = grind (arith, nat_tests)

pub are_complete : AreComplete
are_complete s s' mode number inside differs =
    complete_below s.file s'.file 26 (slot_of mode number) (slot_inside mode number inside) differs

none_in : (c : RegisterChange) → Contains [] c → ⊥
none_in c h = let inside = h.1 in omega arith

one_in : (d c : RegisterChange) → Contains (d ∷ []) c → c ≡ d
one_in d c h = let inside = h.1 in let first : h.0 ≡ 0 = omega arith in
    sym (subst (λ (k : ℕ). slice_index_or (d ∷ []) k c ≡ c) first h.2)

-- what a change of a place is, where the registers there differ
differs_at : (s s' : State) (n : ℕ) → n < 26 → slice_index s.file n ≢ slice_index s'.file n → IsChange s s' (register_change s.file s'.file n)
differs_at s s' n inside differs = record { inside = inside; old = refl; new = refl; differs = differs }

at_one : (s s' : State) (n : ℕ) (c : RegisterChange) → n < 26 → Contains (change_at s.file s'.file n) c → IsChange s s' c
at_one s s' n c inside h =
    elim (cases_Bool (slice_index s.file n == slice_index s'.file n)) [
      | inl alike ↦
          absurd (none_in c (subst (λ (changes : List RegisterChange). Contains changes c)
          (alike_here s.file s'.file n (eqb-true (slice_index s.file n) (slice_index s'.file n) alike)) h))
      | inr apart ↦
          let differs : slice_index s.file n ≢ slice_index s'.file n = λ e. false≢true (sym apart ∙ eq-eqb (slice_index s.file n) (slice_index s'.file n) e) in
          let is : c ≡ register_change s.file s'.file n = one_in (register_change s.file s'.file n) c
          (subst (λ (changes : List RegisterChange). Contains changes c) (differs_here s.file s'.file n differs) h) in
          subst (λ (d : RegisterChange). IsChange s s' d) (sym is) (differs_at s s' n inside differs)
    ]

true_below : (s s' : State) (n : ℕ) (c : RegisterChange) → n ≤ 26 → Contains (changes_below s.file s'.file n) c → IsChange s s' c
unfolding changes_below
true_below s s' zero c inside h = absurd (none_in c h)
true_below s s' (suc n) c inside h =
    let lower : n ≤ 26 = omega arith in
    let here : n < 26 = omega arith in
    elim (Contains-append_cases (changes_below s.file s'.file n) (change_at s.file s'.file n) c h) [
      | inl before ↦ true_below s s' n c lower before
      | inr now ↦ at_one s s' n c here now
    ]

pub are_true : AreTrue
are_true s s' c h = let few : 26 ≤ 26 = omega arith in true_below s s' 26 c few h

-- Changes, place by place.
use Rattle.std.proofs.Common.{◌≡◌, ◌≢◌, ◌<◌, ◌≤◌, ℕ, suc, ◌+◌, true, false, Option, Some, None, is_some, List, [], ◌∷◌, ◌++◌, slice_index, refl, sym, ◌∙◌, ap, arith}
use Rattle.std.proofs.lemmas.Bool.{ne_eqb, eq-eqb, false≢true}
use Rattle.std.proofs.lemmas.Bool.Decides.{nat_tests}
use Rattle.std.proofs.lemmas.List.{append-nil}
use Rattle.trace_effects.specs.declared.changes.registers.RegisterChange.{RegisterChange}
use Rattle.arm_core.specs.declared.psr.Mode.TheVariants.{User, FastInterrupt, Interrupt, Supervisor}
use Rattle.trace_effects.specs.changes.Registers.{IsBank, IsNext, IsNextIn, change_at, register_change, changes_below}

pub differs_here : (before after : List ℕ) (n : ℕ) → slice_index before n ≢ slice_index after n
    → change_at before after n ≡ register_change before after n ∷ []
differs_here before after n differs = rw (ne_eqb (slice_index before n) (slice_index after n) differs) refl

pub alike_here : (before after : List ℕ) (n : ℕ) → slice_index before n ≡ slice_index after n → change_at before after n ≡ []
alike_here before after n alike = rw (eq-eqb (slice_index before n) (slice_index after n) alike) refl

pub suc_below : (before after : List ℕ) (n : ℕ) → changes_below before after (suc n) ≡ changes_below before after n ++ change_at before after n
unfolding changes_below
suc_below before after n = refl

pub next_below : (before after : List ℕ) (n : ℕ) → changes_below before after (n + 1) ≡ changes_below before after n ++ change_at before after n
next_below before after n =
    let next : n + 1 ≡ suc n = omega arith in
    ap (changes_below before after) next ∙ suc_below before after n

-- the banks of the file
pub user_bank : IsBank User 0 0 15
user_bank = record { from = omega arith; numbers = λ place low high. omega arith; places = λ place low high. omega arith }

pub fast_bank : IsBank FastInterrupt 7 15 22
fast_bank = record {
  from = omega arith;
  numbers = λ place low high. omega arith;
  places = λ place low high. grind (arith, nat_tests);
}

pub interrupt_bank : IsBank Interrupt 9 22 24
interrupt_bank = record {
  from = omega arith;
  numbers = λ place low high. omega arith;
  places = λ place low high. grind (arith, nat_tests);
}

pub supervisor_bank : IsBank Supervisor 11 24 26
supervisor_bank = record {
  from = omega arith;
  numbers = λ place low high. omega arith;
  places = λ place low high. grind (arith, nat_tests);
}

pub no_changes : (before after : List ℕ) → changes_below before after 0 ≡ []
unfolding changes_below
no_changes before after = refl

-- the next one is at a place where the registers differ
pub next_here : (before after : List ℕ) (first end n b d old new : ℕ) → old ≡ slice_index before b → new ≡ slice_index after d → b ≡ n → d ≡ n
    → first ≤ n → n < end → changes_below before after n ≡ changes_below before after first → old ≢ new
    → IsNext before after first end (record { place = n; old = old; new = new })
next_here before after first end n b d old new is_old is_new is_place is_same_place above below known differs =
    let was : old ≡ slice_index before n = is_old ∙ ap (slice_index before) is_place in
    let is : new ≡ slice_index after n = is_new ∙ ap (slice_index after) is_same_place in
    let apart : slice_index before n ≢ slice_index after n = λ e. differs (was ∙ e ∙ sym is) in
    record {
      above = above;
      inside = below;
      listed = next_below before after n
          ∙ (ap (λ more. changes_below before after n ++ more) (differs_here before after n apart)
          ∙ rw (was, is, known) refl);
    }

-- one place more, where they are alike
pub none_here : (before after : List ℕ) (first n b d old new : ℕ) → old ≡ slice_index before b → new ≡ slice_index after d → b ≡ n → d ≡ n
    → changes_below before after n ≡ changes_below before after first → old ≡ new
    → changes_below before after (n + 1) ≡ changes_below before after first
none_here before after first n b d old new is_old is_new is_place is_same_place known alike =
    let was : old ≡ slice_index before n = is_old ∙ ap (slice_index before) is_place in
    let is : new ≡ slice_index after n = is_new ∙ ap (slice_index after) is_same_place in
    next_below before after n
    ∙ (ap (λ more. changes_below before after n ++ more) (alike_here before after n (sym was ∙ alike ∙ is))
    ∙ (append-nil (changes_below before after n) ∙ known))

-- the next one in a range is that in a longer one
pub next_further : (before after : List ℕ) (first start middle end : ℕ) (next : Option RegisterChange)
    → changes_below before after start ≡ changes_below before after first → first ≤ start → middle ≤ end
    → IsNextIn before after start middle next → is_some next ≡ true → IsNextIn before after first end next
next_further before after first start middle end None known above below next some = absurd (false≢true some)
next_further before after first start middle end (Some c) known above below next some =
    let high = next.above in
    let low = next.inside in
    record {
      above = omega (arith, above, high);
      inside = omega (arith, below, low);
      listed = next.listed ∙ ap (λ (xs : List RegisterChange). xs ++ c ∷ []) known;
    }

-- where none is in a range
pub none_further : (before after : List ℕ) (start middle : ℕ) (next : Option RegisterChange) → IsNextIn before after start middle next
    → is_some next ≡ false → changes_below before after middle ≡ changes_below before after start
none_further before after start middle None next none = next
none_further before after start middle (Some c) next none = absurd (false≢true (sym none))

-- what the last range has, where none is before it
pub next_at_last : (before after : List ℕ) (first start middle end : ℕ) (next : Option RegisterChange)
    → changes_below before after start ≡ changes_below before after first → first ≤ start → middle ≡ end
    → IsNextIn before after start middle next → IsNextIn before after first end next
next_at_last before after first start middle end None known above same next =
    ap (changes_below before after) (sym same) ∙ (next ∙ known)
next_at_last before after first start middle end (Some c) known above same next =
    let high = next.above in
    let low = next.inside in
    record {
      above = omega (arith, above, high);
      inside = omega (arith, same, low);
      listed = next.listed ∙ ap (λ (xs : List RegisterChange). xs ++ c ∷ []) known;
    }

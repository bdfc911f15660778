-- The registers that were shown so far, replayed, are the new ones up to a place and the old ones from it on.
use Rattle.std.proofs.Common.{◌≡◌, ℕ, ◌+◌, ◌<◌, ◌≤◌, List, [], ◌∷◌, ◌++◌, length, slice_index, slice_set, refl, sym, ◌∙◌, ap, arith, length-append}
use Rattle.std.proofs.lemmas.List.{ext_get_or}
use Rattle.std.proofs.lemmas.Grind.{common_steps}
use Rattle.trace_effects.specs.declared.changes.registers.RegisterChange.{RegisterChange}
use Rattle.trace_effects.specs.changes.Laws.{registers_after}

after_more : (f : List ℕ) (cs : List RegisterChange) (c : RegisterChange) → registers_after f (cs ++ c ∷ []) ≡ slice_set (registers_after f cs) c.place c.new
after_more f [] c = refl
after_more f (d ∷ cs) c = after_more (slice_set f d.place d.new) cs c

pub record IsShown (f g : List ℕ) (n : ℕ) (reported : List RegisterChange) : Type 0 where
  pub few : length reported ≤ n
  pub size : length (registers_after f reported) ≡ length f
  pub lower : (k : ℕ) → k < n → slice_index (registers_after f reported) k ≡ slice_index g k
  pub upper : (k : ℕ) → n ≤ k → slice_index (registers_after f reported) k ≡ slice_index f k

pub none_shown : (f g : List ℕ) → IsShown f g 0 []
none_shown f g = record {
  few = omega arith;
  size = refl;
  lower = λ k below. absurd (omega (arith, below));
  upper = λ k above. refl;
}

-- one place more, whose register is shown
pub one_shown : (f g : List ℕ) (n b old new : ℕ) (reported : List RegisterChange) → b ≡ n → new ≡ slice_index g b → n < length f → IsShown f g n reported
    → IsShown f g (n + 1) (reported ++ record { place = n; old = old; new = new } ∷ [])
one_shown f g n b old new reported is_place is_new inside t =
    let c : RegisterChange = record { place = n; old = old; new = new } in
    let e = after_more f reported c in
    let is : new ≡ slice_index g n = is_new ∙ ap (slice_index g) is_place in
    let few = t.few in let size = t.size in let lower = t.lower in let upper = t.upper in
    record {
      few = let more = length-append reported (c ∷ []) in omega (arith, few, more);
      size = ap length e ∙ grind (arith, common_steps);
      lower = λ k below. ap (λ (h : List ℕ). slice_index h k) e ∙ grind (arith, common_steps);
      upper = λ k above. ap (λ (h : List ℕ). slice_index h k) e ∙ grind (arith, common_steps);
    }

-- one place more, whose register is as it was
pub none_more : (f g : List ℕ) (n b c old new : ℕ) (reported : List RegisterChange) → b ≡ n → c ≡ n → old ≡ slice_index f b → new ≡ slice_index g c → old ≡ new → IsShown f g n reported
    → IsShown f g (n + 1) reported
none_more f g n b c old new reported is_place is_same_place is_old is_new alike t =
    let was : old ≡ slice_index f n = is_old ∙ ap (slice_index f) is_place in
    let is : new ≡ slice_index g n = is_new ∙ ap (slice_index g) is_same_place in
    let same : slice_index f n ≡ slice_index g n = sym was ∙ (alike ∙ is) in
    let few = t.few in let lower = t.lower in let upper = t.upper in
    record {
      few = omega (arith, few);
      size = t.size;
      lower = λ k below. grind arith;
      upper = λ k above. upper k (omega arith);
    }

pub all_shown : (f g : List ℕ) (reported : List RegisterChange) → length f ≡ 26 → length g ≡ 26 → IsShown f g 26 reported → registers_after f reported ≡ g
all_shown f g reported few many t =
    ext_get_or 0 (registers_after f reported) g (t.size ∙ few ∙ sym many)
    (λ i inside. t.lower i (let here : length (registers_after f reported) ≡ 26 = t.size ∙ few in omega arith))

pub ruleset shown_steps = (none_shown, one_shown, none_more, all_shown)

-- The text that a loop over memory has read so far, and the rest, are the whole text.
use Rattle.std.proofs.Common.{◌≡◌, ◌≤◌, ◌<◌, ◌^◌, ℕ, zero, suc, ◌+◌, ◌-◌, Bool, true, false, cond, nat_le, List, [], ◌∷◌, ◌++◌, length, Option, Some, None, Ok, Err, refl, sym, ◌∙◌, ap, append_assoc, length-append, arith}
use Rattle.std.proofs.lemmas.Bool.Decides.{nat_tests}
use Rattle.std.proofs.lemmas.Bool.{true≢false, false_from_ne_true, and_right}
use Rattle.std.specs.Option.{option_map}
use Rattle.arm_core.specs.Fault.{Fault}
use Rattle.arm_core.specs.Fault.TheVariants.{AddressException, DataUnmapped}
use Rattle.address_map.specs.declared.map.AddressMap.{AddressMap}
use Rattle.address_map.specs.Bytes.{Bytes, byte_loaded, ok_unless_fault}
use Rattle.address_map.specs.Memory.{bytes_of, is_mapped}
use Rattle.address_map.proofs.Spans.{mapped_below}
use Rattle.swi_dispatch_answers.specs.Strings.{text_at}

-- what a load of a byte says
loaded_by : {A : Type 0} (far mapped : Bool) (x v : A) → ok_unless_fault (cond far (Some AddressException) (cond mapped None (Some DataUnmapped))) x ≡ Ok v
    → (mapped ≡ true) × (v ≡ x)
loaded_by true mapped x v e = cc
loaded_by false false x v e = cc
loaded_by false true x v e = (refl, cc)

refused_by : {A : Type 0} (far mapped : Bool) (x : A) (f : Fault) → ok_unless_fault (cond far (Some AddressException) (cond mapped None (Some DataUnmapped))) x ≡ Err f
    → (mapped ≡ true → far ≡ false) → mapped ≡ false
refused_by far false x f e below = refl
refused_by true true x f e below = absurd (true≢false (below refl))
refused_by false true x f e below = cc

pub byte_loaded-ok : (b : Bytes) (a v : ℕ) → byte_loaded b a ≡ Ok v → (b.mapped a ≡ true) × (v ≡ b.at a)
unfolding byte_loaded
byte_loaded-ok b a v e = loaded_by (nat_le (2 ^ 26) a) (b.mapped a) (b.at a) v e

near : (a : ℕ) → a < 2 ^ 26 → nat_le (2 ^ 26) a ≡ false
near a below = grind (arith, nat_tests)

pub byte_loaded-err : (m : AddressMap) (a : ℕ) (f : Fault) → byte_loaded (bytes_of m) a ≡ Err f → is_mapped m a ≡ false
unfolding byte_loaded
byte_loaded-err m a f e = refused_by (nat_le (2 ^ 26) a) (is_mapped m a) ((bytes_of m).at a) f e (λ some. near a (mapped_below m a some))

-- the bytes read so far, and where the text goes on
pub record IsReading (is_end : ℕ → Bool) (most : ℕ) (b : Bytes) (at index : ℕ) (items : List ℕ) : Type 0 where
  pub count : length items ≡ index
  pub whole : text_at is_end most b at ≡ option_map (λ rest. items ++ rest) (text_at is_end (most - index) b (at + index))

nothing_before : (o : Option (List ℕ)) → o ≡ option_map (λ rest. [] ++ rest) o
nothing_before None = refl
nothing_before (Some text) = refl

pub reading_start : (is_end : ℕ → Bool) (most : ℕ) (b : Bytes) (at : ℕ) (items : List ℕ) → items ≡ [] → IsReading is_end most b at 0 items
reading_start is_end most b at items e =
    let here : at + 0 ≡ at = omega arith in
    let all : most - 0 ≡ most = omega arith in
    record {
      count = ap length e;
      whole = nothing_before (text_at is_end most b at)
          ∙ ap (λ n. option_map (λ rest. [] ++ rest) (text_at is_end n b at)) (sym all)
          ∙ ap (λ a. option_map (λ rest. [] ++ rest) (text_at is_end (most - 0) b a)) (sym here)
          ∙ ap (λ (xs : List ℕ). option_map (λ rest. xs ++ rest) (text_at is_end (most - 0) b (at + 0))) (sym e);
    }

text_none : (is_end : ℕ → Bool) (most : ℕ) (b : Bytes) (at : ℕ) → b.mapped at ≡ false → text_at is_end most b at ≡ None
unfolding text_at
text_none is_end zero b at e = rw e refl
text_none is_end (suc most) b at e = rw e refl

pub text_far : (is_end : ℕ → Bool) (most : ℕ) (m : AddressMap) (at : ℕ) → 2 ^ 26 ≤ at → text_at is_end most (bytes_of m) at ≡ None
text_far is_end most m at far = text_none is_end most (bytes_of m) at
    (false_from_ne_true (is_mapped m at) (λ some. let below : at < 2 ^ 26 = mapped_below m at some in absurd (omega arith)))

text_ended : (is_end : ℕ → Bool) (most : ℕ) (b : Bytes) (at : ℕ) → b.mapped at ≡ true → is_end (b.at at) ≡ true → text_at is_end most b at ≡ Some []
unfolding text_at
text_ended is_end zero b at e t = rw (e, t) refl
text_ended is_end (suc most) b at e t = rw (e, t) refl

text_on : (is_end : ℕ → Bool) (most : ℕ) (b : Bytes) (at : ℕ) → b.mapped at ≡ true → is_end (b.at at) ≡ false
    → text_at is_end (suc most) b at ≡ option_map (λ text. b.at at ∷ text) (text_at is_end most b (at + 1))
unfolding text_at
text_on is_end most b at e t = rw (e, t) refl

text_last : (is_end : ℕ → Bool) (b : Bytes) (at : ℕ) → is_end (b.at at) ≡ false → text_at is_end 0 b at ≡ None
unfolding text_at
text_last is_end b at t = rw (t, and_right (b.mapped at) false refl) refl

append_none : (items : List ℕ) → items ++ [] ≡ items
append_none [] = refl
append_none (x ∷ xs) = ap (λ ys. x ∷ ys) (append_none xs)

pub reading_none : (is_end : ℕ → Bool) (most : ℕ) (b : Bytes) (at index : ℕ) (items : List ℕ) → IsReading is_end most b at index items
    → b.mapped (at + index) ≡ false → text_at is_end most b at ≡ None
reading_none is_end most b at index items now e =
    now.whole ∙ ap (option_map (λ rest. items ++ rest)) (text_none is_end (most - index) b (at + index) e)

pub reading_done : (is_end : ℕ → Bool) (most : ℕ) (b : Bytes) (at index : ℕ) (items : List ℕ) → IsReading is_end most b at index items
    → b.mapped (at + index) ≡ true → is_end (b.at (at + index)) ≡ true → text_at is_end most b at ≡ Some items
reading_done is_end most b at index items now e t =
    now.whole ∙ ap (option_map (λ rest. items ++ rest)) (text_ended is_end (most - index) b (at + index) e t) ∙ ap Some (append_none items)

pub reading_long : (is_end : ℕ → Bool) (most : ℕ) (b : Bytes) (at : ℕ) (items : List ℕ) → IsReading is_end most b at most items
    → is_end (b.at (at + most)) ≡ false → text_at is_end most b at ≡ None
reading_long is_end most b at items now t =
    let none : most - most ≡ 0 = omega arith in
    now.whole ∙ ap (λ n. option_map (λ rest. items ++ rest) (text_at is_end n b (at + most))) none
    ∙ ap (option_map (λ rest. items ++ rest)) (text_last is_end b (at + most) t)

joined : (items : List ℕ) (x : ℕ) (o : Option (List ℕ)) → option_map (λ rest. items ++ rest) (option_map (λ text. x ∷ text) o) ≡ option_map (λ rest. (items ++ x ∷ []) ++ rest) o
joined items x None = refl
joined items x (Some text) = ap Some (sym (append_assoc items (x ∷ []) text))

pub reading_more : (is_end : ℕ → Bool) (most : ℕ) (b : Bytes) (at index : ℕ) (items : List ℕ) → IsReading is_end most b at index items → index < most
    → b.mapped (at + index) ≡ true → is_end (b.at (at + index)) ≡ false → IsReading is_end most b at (index + 1) (items ++ b.at (at + index) ∷ [])
reading_more is_end most b at index items now below e t =
    let left : most - index ≡ suc (most - (index + 1)) = omega arith in
    let next : at + index + 1 ≡ at + (index + 1) = omega arith in
    record {
      count = length-append items (b.at (at + index) ∷ []) ∙ ap (λ n. n + 1) now.count;
      whole = now.whole ∙ ap (λ n. option_map (λ rest. items ++ rest) (text_at is_end n b (at + index))) left
          ∙ ap (option_map (λ rest. items ++ rest)) (text_on is_end (most - (index + 1)) b (at + index) e t)
          ∙ joined items (b.at (at + index)) (text_at is_end (most - (index + 1)) b (at + index + 1))
          ∙ ap (λ a. option_map (λ rest. (items ++ b.at (at + index) ∷ []) ++ rest) (text_at is_end (most - (index + 1)) b a)) next;
    }

-- The search for the least rotation field.
use Rattle.std.proofs.Common.{◌≡◌, ◌<◌, ◌≤◌, ◌+◌, ◌-◌, ℕ, true, false, suc, Option, Some, None, refl, arith}
use Rattle.std.specs.Prelude.{find}
use Rattle.std.specs.List.{range_with_len}
use Rattle.assembler_text.specs.Numbers.{gives, least_rotation}

-- the answer among the fields from i on
unfoldable pub rotation_from : ℕ → ℕ → Option ℕ
rotation_from value i = find (gives value) (range_with_len i (16 - i))

pub search_starts : (value : ℕ) → rotation_from value 0 ≡ least_rotation value
unfolding rotation_from least_rotation
search_starts value = refl

pub search_goes_on : (value i : ℕ) → i < 16 → gives value i ≡ false → rotation_from value (i + 1) ≡ rotation_from value i
unfolding rotation_from
search_goes_on value i h never = let e : 16 - i ≡ suc (16 - (i + 1)) = omega arith in rw e (rw never refl)

pub search_finds : (value i : ℕ) → i < 16 → gives value i ≡ true → rotation_from value i ≡ Some i
unfolding rotation_from
search_finds value i h here = let e : 16 - i ≡ suc (16 - (i + 1)) = omega arith in rw e (rw here refl)

pub search_ends : (value i : ℕ) → 16 ≤ i → rotation_from value i ≡ None
unfolding rotation_from
search_ends value i h = let e : 16 - i ≡ 0 = omega arith in rw e refl

pub ruleset search_steps = (search_starts, search_goes_on, search_finds, search_ends)

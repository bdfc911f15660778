-- The pages of a store, counted by the addresses where they are mapped.
use Rattle.std.proofs.Common.{◌≡◌, ℕ, zero, suc, ◌+◌, ◌*◌, ◌/◌, ◌<◌, List, ◌∷◌, length, Some, None, refl, sym, ap, cond, ◌∙◌, arith}
use Rattle.std.specs.Prelude.{Bool, Option, is_some, if◌then◌else◌}
use Rattle.std.specs.List.{count_by}
use Rattle.std.proofs.lemmas.List.Recursion.{is_count_by}
use Rattle.address_map.specs.Counts.{number_below}
use Rattle.address_map.specs.Memory.{free_pages, is_mapped, page_total, place}
use Rattle.address_map.specs.Pages.{frame_at, place_in_frame}
use Rattle.address_map.specs.declared.map.AddressMap.{AddressMap}

-- tests that agree below a number count the same there
pub counted_same : (f g : ℕ → Bool) (n : ℕ) → ((k : ℕ) → k < n → f k ≡ g k) → number_below f n ≡ number_below g n
unfolding number_below
counted_same f g zero same = refl
counted_same f g (suc n) same =
    let first = counted_same f g n (λ k below. same k (omega (arith, below))) in
    let last = same n (omega arith) in
    rw (first, last) refl

-- the first number may be counted first
counted_first : (f : ℕ → Bool) (n : ℕ) → number_below f (suc n) ≡ (if f 0 then 1 else 0) + number_below (λ k. f (suc k)) n
unfolding number_below
counted_first f zero = omega arith
counted_first f (suc n) = let first = counted_first f n in omega (arith, first)

table_counted : List (Option ℕ) → ℕ
table_counted frames = number_below (λ page. is_some (frame_at frames page)) (length frames)

table_first : (frame : Option ℕ) (frames : List (Option ℕ))
    → table_counted (frame ∷ frames) ≡ cond (is_some frame) (1 + table_counted frames) (table_counted frames)
unfolding table_counted
table_first None frames = let first = counted_first (λ page. is_some (frame_at (None ∷ frames) page)) (length frames) in omega (arith, first)
table_first (Some f) frames = let first = counted_first (λ page. is_some (frame_at (Some f ∷ frames) page)) (length frames) in omega (arith, first)

frames_counted : (frames : List (Option ℕ)) → count_by is_some frames ≡ number_below (λ page. is_some (frame_at frames page)) (length frames)
unfolding table_counted number_below
frames_counted frames = sym (is_count_by table_counted is_some refl table_first frames)

some_place : (a : ℕ) (frame : Option ℕ) → is_some (place_in_frame a frame) ≡ is_some frame
some_place a None = refl
some_place a (Some frame) = refl

page_mapped : (m : AddressMap) (page : ℕ) → is_some (frame_at m.frames page) ≡ is_mapped m (4096 * page)
unfolding place
page_mapped m page =
    let same : 4096 * page / 4096 ≡ page = omega arith in
    sym (some_place (4096 * page) (frame_at m.frames (4096 * page / 4096)) ∙ ap (λ (p : ℕ). is_some (frame_at m.frames p)) same)

pub pages_counted : (m : AddressMap) → page_total m ≡ free_pages m + number_below (λ page. is_mapped m (4096 * page)) 16384
unfolding page_total free_pages
pages_counted m =
    let frames = frames_counted m.frames in
    let size : length m.frames ≡ 16384 = omega (arith, m.table.size) in
    let mapped = counted_same (λ page. is_some (frame_at m.frames page)) (λ page. is_mapped m (4096 * page)) 16384
    (λ page below. page_mapped m page) in
    let all = frames ∙ ap (number_below (λ page. is_some (frame_at m.frames page))) size ∙ mapped in
    omega (arith, all)

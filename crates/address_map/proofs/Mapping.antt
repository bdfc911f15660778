-- What a page that is mapped or taken away leaves: which addresses are mapped, where they lie, and
-- their bytes.
use Rattle.std.proofs.Common.{◌≡◌, ◌≢◌, ℕ, ◌+◌, ◌-◌, ◌*◌, ◌/◌, ◌%◌, ◌<◌, ◌≤◌, Bool, true, false, ◌||◌, ◌&&◌, not, List, length, replicate, set, Option, Some, None, is_some, arith, refl, sym, ◌∙◌, ap, inl, inr}
use Rattle.std.proofs.Math.Bool.{and-true}
use Rattle.std.proofs.lemmas.Bool.{false≢true, cases_lt}
use Rattle.std.proofs.lemmas.List.{get_or-replicate, get_or_append_left}
use Rattle.raw_store.specs.Region.{bytes_after_zero, bytes_after_growth}
use Rattle.raw_store.proofs.Written.{written_inside, written_before, written_past}
use Rattle.address_map.specs.Bytes.{in_range, with_zeros_at}
use Rattle.address_map.specs.Memory.{byte_in}
use Rattle.address_map.specs.Pages.{AreWritten, frame_at, place_in_frame, place_in, IsUnused}
use Rattle.address_map.proofs.PageTable.{frame_found, place_set, place_set_other, place_written}
use Rattle.address_map.proofs.Stores.{in_range-cases, zeros, length-zeros}

module _ (frames : List (Option ℕ)) (addr frame : ℕ) (aligned : addr % 4096 ≡ 0) (below : addr / 4096 < length frames) (none : frame_at frames (addr / 4096) ≡ None) where
  abbrev more : List (Option ℕ)
  more = set frames (addr / 4096) (Some frame)

  none_there : (a : ℕ) → a / 4096 ≡ addr / 4096 → place_in frames a ≡ None
  none_there a page = ap (λ (p : ℕ). place_in_frame a (frame_at frames p)) page ∙ ap (place_in_frame a) none

  pub mapped_more : (a : ℕ) → is_some (place_in more a) ≡ (in_range addr 4096 a || is_some (place_in frames a))
  mapped_more a =
      elim (in_range-cases addr 4096 a) [
        | inl r ↦ rw (r.0, place_set frames (addr / 4096) a (Some frame) below (omega (arith, r.1, r.2))) refl
        | inr r ↦ rw (r.0, place_set_other frames (addr / 4096) a (Some frame) (omega (arith, r.1))) refl
      ]

  pub stays_more : (a : ℕ) → is_some (place_in frames a) ≡ true → place_in more a ≡ place_in frames a
  stays_more a h =
      elim (in_range-cases addr 4096 a) [
        | inl r ↦ let no : is_some (place_in frames a) ≡ false = ap is_some (none_there a (omega (arith, r.1, r.2))) in absurd (false≢true (sym no ∙ h))
        | inr r ↦ place_set_other frames (addr / 4096) a (Some frame) (omega (arith, r.1))
      ]

  module _ (store : List ℕ) (size : ℕ) (is : size ≡ 4096) (unused : IsUnused frames frame) (room : 4096 * frame + size ≤ length store) where
    fits : 4096 * frame + length (zeros size) ≤ length store
    fits = rw (length-zeros size) room

    byte_kept : (a : ℕ) (there : Option ℕ) → place_in frames a ≡ there → byte_in (bytes_after_zero store (4096 * frame) size) there ≡ byte_in store there
    byte_kept a None h = refl
    byte_kept a (Some k) h =
        let f = frame_found a k (frame_at frames (a / 4096)) h in
        let at : k ≡ 4096 * f.0 + a % 4096 = f.1.1 in
        let other : f.0 ≢ frame = λ same. unused (a / 4096) (f.1.0 ∙ ap Some same) in
        elim (cases_lt k (4096 * frame)) [
          | inl low ↦ written_before store (zeros size) (4096 * frame) k 0 fits low
          | inr high ↦ written_past store (zeros size) (4096 * frame) k 0 fits (omega (arith, other, length-zeros size))
        ]

    pub bytes_more : (a : ℕ) → byte_in (bytes_after_zero store (4096 * frame) size) (place_in more a) ≡ byte_in store (place_in frames a)
    bytes_more a =
        elim (in_range-cases addr 4096 a) [
          | inl r ↦
              let page : a / 4096 ≡ addr / 4096 = omega (arith, r.1, r.2) in
              let inside : a % 4096 < size = omega arith in
              rw (place_set frames (addr / 4096) a (Some frame) below page, none_there a page)
              (written_inside store (zeros size) (4096 * frame) (a % 4096) 0 fits (omega (arith, length-zeros size))
              ∙ get_or-replicate size (a % 4096) 0 0 inside)
          | inr r ↦ rw (place_set_other frames (addr / 4096) a (Some frame) (omega (arith, r.1))) (byte_kept a (place_in frames a) refl)
        ]

-- bytes after the others change none of a page that is mapped
pub bytes_grown : (frames : List (Option ℕ)) (store : List ℕ) (n a : ℕ) → AreWritten frames (length store)
    → byte_in (bytes_after_growth store n) (place_in frames a) ≡ byte_in store (place_in frames a)
bytes_grown frames store n a written = kept (place_in frames a) refl where
  kept : (there : Option ℕ) → place_in frames a ≡ there → byte_in (bytes_after_growth store n) there ≡ byte_in store there
  kept None h = refl
  kept (Some k) h =
      let fits : k < length store = omega (arith, (place_written frames (length store) a k written h).1) in
      get_or_append_left store (replicate (n - length store) 0) 0 k fits

and_no : (x : Bool) → false ≡ (x && false)
and_no true = refl
and_no false = refl

module _ (frames : List (Option ℕ)) (addr : ℕ) (aligned : addr % 4096 ≡ 0) (below : addr / 4096 < length frames) where
  abbrev less : List (Option ℕ)
  less = set frames (addr / 4096) None

  inside : (a : ℕ) → addr ≤ a → a < addr + 4096 → place_in less a ≡ None
  inside a low high = place_set frames (addr / 4096) a None below (omega arith)

  outside : (a : ℕ) → in_range addr 4096 a ≡ false → place_in less a ≡ place_in frames a
  outside a out =
      elim (in_range-cases addr 4096 a) [
        | inl r ↦ absurd (false≢true (sym out ∙ r.0))
        | inr r ↦ place_set_other frames (addr / 4096) a None (omega (arith, r.1))
      ]

  pub mapped_less : (a : ℕ) → is_some (place_in less a) ≡ (is_some (place_in frames a) && not (in_range addr 4096 a))
  mapped_less a =
      elim (in_range-cases addr 4096 a) [
        | inl r ↦ rw (r.0, inside a r.1 r.2) (and_no (is_some (place_in frames a)))
        | inr r ↦ rw (r.0, outside a r.0) (sym (and-true (is_some (place_in frames a))))
      ]

  pub stays_less : (a : ℕ) → is_some (place_in less a) ≡ true → place_in less a ≡ place_in frames a
  stays_less a h =
      elim (in_range-cases addr 4096 a) [
        | inl r ↦ let no : is_some (place_in less a) ≡ false = ap is_some (inside a r.1 r.2) in absurd (false≢true (sym no ∙ h))
        | inr r ↦ outside a r.0
      ]

  pub bytes_less : (store : List ℕ) (a : ℕ) → byte_in store (place_in less a) ≡ with_zeros_at (λ b. byte_in store (place_in frames b)) addr 4096 a
  bytes_less store a =
      elim (in_range-cases addr 4096 a) [
        | inl r ↦ rw (r.0, inside a r.1 r.2) refl
        | inr r ↦ rw (r.0, outside a r.0) refl
      ]

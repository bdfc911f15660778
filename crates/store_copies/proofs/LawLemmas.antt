-- The list of the words that differ is complete, and true.
use Rattle.std.proofs.Common.{◌≡◌, ◌≢◌, ℕ, zero, suc, ◌+◌, ◌-◌, ◌*◌, ◌/◌, ◌%◌, ◌<◌, ◌==◌, ◌&&◌, Bool, true, false, not, [], ◌∷◌, Contains, slice_index_or, refl, sym, ap, subst, ◌∙◌, arith, inl, inr}
use Rattle.std.proofs.lemmas.Bool.{and_parts, cases_Bool, cases_lt, eq-eqb, false≢true, ne_eqb}
use Rattle.std.proofs.lemmas.List.Elements.{Contains-append_left, Contains-append_right, Contains-append_cases, Contains-push}
use Rattle.address_map.specs.Bytes.{Bytes, word_at, word_start}
use Rattle.address_map.specs.Memory.{byte_at, bytes_of, is_mapped}
use Rattle.address_map.specs.declared.map.AddressMap.{AddressMap}
use Rattle.address_map.proofs.Bytes.{byte_at-lt, is_mapped-page}
use Rattle.address_map.proofs.Spans.{mapped_below}
use Rattle.swi_dispatch_guest.proofs.OsHeapFrame.{store_bytes}
use Rattle.swi_dispatch_guest.specs.MachineState.{MachineState}
use Rattle.swi_dispatch_guest.specs.GuestState.{IsState}
use Rattle.store_copies.specs.declared.changes.WordChange.{WordChange}
use Rattle.store_copies.specs.Laws.{ExplainsBytes, IsWordChange, ListsChanges}
use Rattle.store_copies.specs.Words.{all_changes, word_change_at, word_changes_below, has_word_changed, is_shown_elsewhere, word_change}
use Rattle.store_copies.proofs.ChangeLemmas.{none_yet, suc_below}

listed : (reported : ℕ → Bool) (b b' : Bytes) (a : ℕ) → has_word_changed b b' a ≡ true → reported a ≡ false → Contains (word_change_at reported b b' a) (word_change b b' a)
listed reported b b' a is untold = rw (is, untold) (Contains-push [] (word_change b b' a))

complete_below : (reported : ℕ → Bool) (b b' : Bytes) (n k : ℕ) → k < n → has_word_changed b b' (4 * k) ≡ true → reported (4 * k) ≡ false
    → Contains (word_changes_below reported b b' n) (word_change b b' (4 * k))
complete_below reported b b' zero k inside is untold = absurd (omega (arith, inside))
complete_below reported b b' (suc n) k inside is untold =
    rw (suc_below reported b b' n)
    (elim (cases_lt k n) [
      | inl lower ↦ Contains-append_left (word_changes_below reported b b' n) (word_change_at reported b b' (4 * n)) (word_change b b' (4 * k))
          (complete_below reported b b' n k lower is untold)
      | inr upper ↦
          let same : k ≡ n = omega arith in
          Contains-append_right (word_changes_below reported b b' n) (word_change_at reported b b' (4 * n)) (word_change b b' (4 * k))
          (subst (λ (i : ℕ). Contains (word_change_at reported b b' (4 * i)) (word_change b b' (4 * k))) same (listed reported b b' (4 * k) is untold))
    ])

-- words are the same only where all their bytes are
first_byte : (x0 x1 y0 y1 : ℕ) → x0 < 256 → y0 < 256 → x0 + 256 * x1 ≡ y0 + 256 * y1 → (x0 ≡ y0) × (x1 ≡ y1)
first_byte x0 x1 y0 y1 x y same = (omega arith, omega arith)

bytes_alike : (b b' : Bytes) (w r : ℕ) → ((a : ℕ) → b.at a < 256) → ((a : ℕ) → b'.at a < 256) → word_at b.at w ≡ word_at b'.at w → r < 4
    → b.at (w + r) ≡ b'.at (w + r)
bytes_alike b b' w r small small' same below =
    let all0 = first_byte (b.at w) (b.at (w + 1) + 256 * (b.at (w + 2) + 256 * b.at (w + 3)))
    (b'.at w) (b'.at (w + 1) + 256 * (b'.at (w + 2) + 256 * b'.at (w + 3))) (small w) (small' w) same in
    let all1 = first_byte (b.at (w + 1)) (b.at (w + 2) + 256 * b.at (w + 3))
    (b'.at (w + 1)) (b'.at (w + 2) + 256 * b'.at (w + 3)) (small (w + 1)) (small' (w + 1)) all0.1 in
    let all2 = first_byte (b.at (w + 2)) (b.at (w + 3)) (b'.at (w + 2)) (b'.at (w + 3)) (small (w + 2)) (small' (w + 2)) all1.1 in
    by_place r below all0.0 all1.0 all2.0 all2.1 where
      by_place : (r : ℕ) → r < 4 → b.at w ≡ b'.at w → b.at (w + 1) ≡ b'.at (w + 1) → b.at (w + 2) ≡ b'.at (w + 2) → b.at (w + 3) ≡ b'.at (w + 3)
          → b.at (w + r) ≡ b'.at (w + r)
      by_place zero below e0 e1 e2 e3 = let e : w + 0 ≡ w = omega arith in ap b.at e ∙ (e0 ∙ ap b'.at (sym e))
      by_place (suc zero) below e0 e1 e2 e3 = e1
      by_place (suc (suc zero)) below e0 e1 e2 e3 = e2
      by_place (suc (suc (suc zero))) below e0 e1 e2 e3 = e3
      by_place (suc (suc (suc (suc r)))) below e0 e1 e2 e3 = absurd (omega (arith, below))

words_differ : (b b' : Bytes) (a : ℕ) → ((a : ℕ) → b.at a < 256) → ((a : ℕ) → b'.at a < 256) → b.at a ≢ b'.at a
    → word_at b.at (word_start a) ≢ word_at b'.at (word_start a)
words_differ b b' a small small' differs same =
    let e : a - a % 4 + a % 4 ≡ a = omega arith in
    differs (ap b.at (sym e) ∙ (bytes_alike b b' (word_start a) (a % 4) small small' same (omega arith) ∙ ap b'.at e))

explained : (reported : ℕ → Bool) (m n : AddressMap) (a : ℕ) → is_mapped n a ≡ true → byte_at m a ≢ byte_at n a → reported (word_start a) ≡ false
    → Contains (all_changes reported (bytes_of m) (bytes_of n)) (word_change (bytes_of m) (bytes_of n) (word_start a))
explained reported m n a mapped differs untold =
    let start : word_start a ≡ 4 * (a / 4) = omega arith in
    let there : is_mapped n (word_start a) ≡ true = is_mapped-page n (word_start a) a (omega arith) ∙ mapped in
    let unlike = words_differ (bytes_of m) (bytes_of n) a (byte_at-lt m) (byte_at-lt n) differs in
    let is : has_word_changed (bytes_of m) (bytes_of n) (word_start a) ≡ true =
    rw (there, ne_eqb (word_at (byte_at m) (word_start a)) (word_at (byte_at n) (word_start a)) unlike) refl in
    let limit = mapped_below n a mapped in
    subst (λ (at : ℕ). Contains (all_changes reported (bytes_of m) (bytes_of n)) (word_change (bytes_of m) (bytes_of n) at)) (sym start)
    (complete_below reported (bytes_of m) (bytes_of n) 16777216 (a / 4) (omega (arith, limit))
    (ap (has_word_changed (bytes_of m) (bytes_of n)) (sym start) ∙ is) (ap reported (sym start) ∙ untold))

-- the bytes of a machine's state are those of a memory
state_bytes : (s : MachineState) (is : IsState s) → s.store.bytes ≡ bytes_of is.parts.map
state_bytes s is = sym (ap (λ (t : MachineState). t.store.bytes) is.is) ∙ store_bytes is.parts.map

pub explains : ExplainsBytes
explains s s' has_error a is is' mapped differs =
    let old = state_bytes s is in
    let new = state_bytes s' is' in
    elim (cases_Bool (is_shown_elsewhere has_error (word_start a))) [
      | inl reported ↦ inr reported
      | inr untold ↦ inl (rw (old, new) (explained (is_shown_elsewhere has_error) is.parts.map is'.parts.map a
          (sym (ap (λ (b : Bytes). b.mapped a) new) ∙ mapped)
          (λ e. differs (ap (λ (b : Bytes). b.at a) old ∙ (e ∙ sym (ap (λ (b : Bytes). b.at a) new)))) untold))
    ]

none_in : (c : WordChange) → Contains [] c → ⊥
none_in c h = let inside = h.1 in omega arith

one_in : (d c : WordChange) → Contains (d ∷ []) c → c ≡ d
one_in d c h =
    let inside = h.1 in
    let first : h.0 ≡ 0 = omega arith in
    sym (subst (λ (k : ℕ). slice_index_or (d ∷ []) k c ≡ c) first h.2)

unlike : (x y : ℕ) → not (x == y) ≡ true → x ≢ y
unlike x y is same = false≢true (sym (ap not (eq-eqb x y same)) ∙ is)

at_word : (reported : ℕ → Bool) (s s' : MachineState) (a : ℕ) (c : WordChange) → Contains (word_change_at reported s.store.bytes s'.store.bytes a) c
    → IsWordChange s s' c
at_word reported s s' a c h = by_listing (has_word_changed s.store.bytes s'.store.bytes a && not (reported a)) refl where
  by_listing : (is_listed : Bool) → (has_word_changed s.store.bytes s'.store.bytes a && not (reported a)) ≡ is_listed → IsWordChange s s' c
  by_listing false is = absurd (none_in c (rw is at h))
  by_listing true is =
      let parts = and_parts (has_word_changed s.store.bytes s'.store.bytes a) (not (reported a)) is in
      let changed = and_parts (s'.store.bytes.mapped a) (not (word_at s.store.bytes.at a == word_at s'.store.bytes.at a)) parts.0 in
      let e = one_in (word_change s.store.bytes s'.store.bytes a) c (rw is at h) in
      subst (λ (d : WordChange). IsWordChange s s' d) (sym e) (record {
        mapped = changed.0;
        old = refl;
        new = refl;
        differs = unlike (word_at s.store.bytes.at a) (word_at s'.store.bytes.at a) changed.1;
      })

true_below : (reported : ℕ → Bool) (s s' : MachineState) (n : ℕ) (c : WordChange) → Contains (word_changes_below reported s.store.bytes s'.store.bytes n) c
    → IsWordChange s s' c
true_below reported s s' zero c h = absurd (none_in c (rw (none_yet reported s.store.bytes s'.store.bytes) at h))
true_below reported s s' (suc n) c h =
    elim (Contains-append_cases (word_changes_below reported s.store.bytes s'.store.bytes n) (word_change_at reported s.store.bytes s'.store.bytes (4 * n)) c
    (rw (suc_below reported s.store.bytes s'.store.bytes n) at h)) [
      | inl before ↦ true_below reported s s' n c before
      | inr now ↦ at_word reported s s' (4 * n) c now
    ]

pub are_true : ListsChanges
are_true s s' has_error c h = true_below (is_shown_elsewhere has_error) s s' 16777216 c h

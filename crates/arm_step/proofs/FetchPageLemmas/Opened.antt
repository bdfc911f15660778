-- The fetch page of a page: when a position lies in it, and what is fetched there.
use Rattle.std.proofs.Common.{◌≡◌, ◌≢◌, ◌<◌, ◌≤◌, ◌+◌, ◌-◌, ◌*◌, ◌%◌, ◌^◌, ℕ, Some, sym, ◌∙◌, ap, subst, arith}
use Rattle.std.proofs.lemmas.Nat.{xor_lt}
use Rattle.std.specs.Prelude.{bit_xor}
use Rattle.address_map.specs.Memory.{Layout, layout, place}
use Rattle.address_map.specs.declared.map.AddressMap.{AddressMap}
use Rattle.address_map.proofs.Lending.{place_ahead}
use Rattle.address_map.proofs.Loads.{place_fits}
use Rattle.arm_step.specs.fetch_page.FetchPages.{IsIn, IsOpen}
use Rattle.arm_step.specs.declared.fetch_page.fetch_page.FetchPage.{FetchPage}

pub none_open : (w : FetchPage) → w.first ≡ 2 ^ 30 → (m : AddressMap) → IsOpen (place m) w
none_open w first m = record {
  within = λ low. absurd (omega (arith, first, low));
  words = λ at i below. absurd (omega (arith, first, i.from, below));
  gate = λ at i is. absurd (omega (arith, first, i.from, is));
}

pub in_fetch_page : (w : FetchPage) (at r : ℕ) → at ≤ 2 ^ 24 → (r + w.first) % 2 ^ 64 ≡ at → r < 1024 → IsIn w at
in_fetch_page w at r small e near = record {
  from = omega (arith, w.low, small, e, near);
  below = omega (arith, w.low, small, e, near);
}

pub in_limit : (m : AddressMap) (w : FetchPage) (at : ℕ) → IsOpen (place m) w → at ≤ 2 ^ 24 → IsIn w at → at < 2 ^ 24
in_limit m w at o small i = omega (arith, small, i.from, i.below, o.within (omega (arith, small, i.from)))

pub ruleset reaching = (in_fetch_page, in_limit)

pub opened_there : (w : FetchPage) (at : ℕ) → w.first ≡ at - at % 1024 → IsIn w at
opened_there w at e = record { from = omega (arith, e); below = omega (arith, e) }

pub opened : (m : AddressMap) (w : FetchPage) (at : ℕ) → at < 2 ^ 24 → w.first ≡ at - at % 1024 → w.first * 4 ≢ 0x03800000
    → place m (w.first * 4) ≡ Some w.place → IsOpen (place m) w
opened m w at low first no_gate there = record {
  within = λ _. omega (arith, low, first);
  words = λ p i below.
      let e : p * 4 ≡ w.first * 4 + 4 * (p - w.first) = omega (arith, i.from) in
      ap (place m) e ∙ place_ahead m (w.first * 4) (4 * (p - w.first)) w.place there (omega (arith, first, i.from, i.below));
  gate = λ p i is. no_gate (omega (arith, low, first, i.from, i.below, is));
}

pub ruleset opening = (opened_there, opened)

pub placed_there : (m : AddressMap) (w : FetchPage) (at : ℕ) → IsOpen (place m) w → IsIn w at → at < 2 ^ 24 → place m (at * 4) ≡ Some (w.place + 4 * (at - w.first))
placed_there m w at o i below = o.words at i below

pub place_small : (m : AddressMap) (w : FetchPage) (at : ℕ) → IsOpen (place m) w → IsIn w at → at < 2 ^ 24 → w.place + 4 * (at - w.first) < 2 ^ 23
place_small m w at o i below = omega (arith, place_fits m (at * 4) _ (o.words at i below), m.in_limit, m.frames_fit)

pub not_gate : (m : AddressMap) (w : FetchPage) (at : ℕ) → IsOpen (place m) w → IsIn w at → at * 4 ≢ 0x03800000
not_gate m w at o i = o.gate at i

pub ruleset looking = (placed_there, place_small, not_gate)

pub kept_below : (w : FetchPage) (at : ℕ) → IsIn w at → bit_xor (at - w.first) w.stir < 1024
kept_below w at i = xor_lt 10 (at - w.first) w.stir (omega (arith, i.from, i.below)) w.stirred

pub stays_open : (m n : AddressMap) (w : FetchPage) → layout n ≡ layout m → IsOpen (place m) w → IsOpen (place n) w
stays_open m n w e o = subst (λ (l : Layout). IsOpen l.place w) (sym e) o

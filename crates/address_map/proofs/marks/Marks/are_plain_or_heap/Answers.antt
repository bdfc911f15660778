use Rattle.std.proofs.Common.{◌≡◌, ◌*◌, ◌/◌, ◌%◌, ◌<◌, get_or, arith, ap, sym, subst, ◌∙◌, inl, inr, ℕ}
use Rattle.std.proofs.lemmas.Bool.{cases_lt}
use Rattle.std.proofs.lemmas.List.{get_or_default}
use Rattle.address_map.specs.Classes.{lane}
use Rattle.address_map.specs.Marks.{class_at}
use Rattle.address_map.proofs.Lanes.{class_low}
use Rattle.address_map.proofs.marks.Marks.are_plain_or_heap.Goals as goal

pub loop-byte-preserved : goal.loop-byte-preserved
unfolding class_at
loop-byte-preserved c k low high =
    elim (cases_lt k (4 * c.loop-byte.byte)) [
      | inl before ↦ c.loop-byte.invariant k low before
      | inr here ↦
          let items = c.args.self.now.bytes in
          let e : k / 4 ≡ c.loop-byte.byte = omega arith in
          let read : get_or items c.loop-byte.byte 0 ≡ c.get.result = get_or_default items c.loop-byte.byte 0 c.get.result (omega arith) ∙ sym c.get.ensures in
          class_low items k (subst (λ (b : ℕ). lane b (k % 4) < 2) (sym (ap (λ (j : ℕ). get_or items j 0) e ∙ read)) (c.has_low_numbers.ensures c.if-not-has_low_numbers.false k))
    ]

use Rattle.std.proofs.Common.{◌≡◌, ◌*◌, ◌/◌, get_or, arith, ap, sym, ◌∙◌, inl, inr, ℕ}
use Rattle.std.proofs.lemmas.Bool.{cases_lt}
use Rattle.std.proofs.lemmas.List.{get_or_default}
use Rattle.address_map.specs.Marks.{class_at}
use Rattle.address_map.proofs.Lanes.{class_zero}
use Rattle.address_map.proofs.marks.Marks.are_plain.Goals as goal

pub loop-byte-preserved : goal.loop-byte-preserved
unfolding class_at
loop-byte-preserved c k low high =
    elim (cases_lt k (4 * c.loop-byte.byte)) [
      | inl before ↦ c.loop-byte.invariant k low before
      | inr here ↦
          let items = c.args.self.now.bytes in
          let e : k / 4 ≡ c.loop-byte.byte = omega arith in
          let zero : c.get.result ≡ 0 = omega arith in
          let read : get_or items c.loop-byte.byte 0 ≡ 0 = get_or_default items c.loop-byte.byte 0 c.get.result (omega arith) ∙ sym c.get.ensures ∙ zero in
          class_zero items k (ap (λ (j : ℕ). get_or items j 0) e ∙ read)
    ]

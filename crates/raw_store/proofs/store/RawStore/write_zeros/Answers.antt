use Rattle.std.proofs.Common.{◌≡◌, ◌≤◌, ◌⊎◌, ◌+◌, ◌-◌, ◌^◌, ◌<◌, ◌∙◌, sym, inl, inr, arith, length, ap, ℕ, List}
use Rattle.std.proofs.lemmas.Bool.{cases_lt}
use Rattle.raw_store.specs.Region.{Region, bytes_after_zero, bytes_after_growth}
use Rattle.raw_store.proofs.Pieces.{cleared_inside, cleared_past}
use Rattle.raw_store.proofs.store.RawStore.write_zeros.Goals as goal
use Rattle.raw_store.proofs.store.RawStore.write_zeros.Goals.{then-at-written, else-at-written}

pub overflow_add-end : goal.overflow_add-end
overflow_add-end c =
    let whole : length c.self.inside.bytes.items + c.self.inside.bytes.spare ≡ length c.args.self.now.items + c.args.self.now.spare =
    ap (λ (r : Region). length r.items + r.spare) c.self.view_is in
    let fits : c.self.inside.room < 2 ^ 64 = c.self.ranges.1.1.1.1.0.1 in
    omega (arith, c.requires, whole, c.self.invariant.2, fits)

pub returns-clause-bytes : goal.returns-clause-bytes
returns-clause-bytes c =
    let same : length c.self.inside.bytes.items ≡ length c.args.self.now.items = ap (λ (r : Region). length r.items) c.self.view_is in
    let long : c.self.inside.len ≡ length c.args.self.now.items = sym c.self.invariant.1 ∙ same in
    elim c.if-at-written.branch [
      | then-at-written w ↦
          let start : c.args.at < c.self.inside.len = w.if-at-written.true in
          let ends : (w.min.result - c.args.at ≡ c.args.len) ⊎ (c.args.at + (w.min.result - c.args.at) ≡ length c.args.self.now.items) =
          elim (cases_lt c.self.inside.len (c.args.at + c.args.len)) [
            | inl less ↦ inr (omega (arith, w.min.ensures, less, start, long))
            | inr more ↦ inl (omega (arith, w.min.ensures, more, start))
          ] in
          c.grow.ensures.bytes
          ∙ ap (λ (r : Region). bytes_after_growth r.items (c.args.at + c.args.len)) w.self-is
          ∙ ap (λ (xs : List ℕ). bytes_after_growth xs (c.args.at + c.args.len)) w.zero.ensures.bytes
          ∙ cleared_inside c.args.self.now.items c.args.at c.args.len (w.min.result - c.args.at) (omega (arith, w.min.ensures, start, long))
          (omega (arith, w.min.ensures, start)) ends
      | else-at-written w ↦
          c.grow.ensures.bytes
          ∙ ap (λ (r : Region). bytes_after_growth r.items (c.args.at + c.args.len)) w.self-is
          ∙ cleared_past c.args.self.now.items c.args.at c.args.len (omega (arith, w.if-at-written.false, long))
    ]

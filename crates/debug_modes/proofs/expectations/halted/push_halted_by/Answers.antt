-- Part by part, as the definition says.
use Rattle.std.proofs.Common.{◌≡◌, ℕ, List, ◌++◌, [], subst, refl, ◌∙◌}
use Rattle.std.specs.Prelude.{OnOk, codes}
use Rattle.std.specs.Io.KnownBytes.{Appends}
use Rattle.std.proofs.lemmas.List.{append-nil}
use Rattle.profile.specs.Digits.{hex_number}
use Rattle.debug_modes.specs.expectations.Halted.{halted_by_text}
use Rattle.debug_modes.proofs.expectations.halted.push_halted_by.Goals as goal

five_parts : (a b c d e a' b' c' e' : List ℕ) → a ≡ a' → b ≡ b' → c ≡ c' → e ≡ e'
    → a ++ (b ++ (c ++ (d ++ (e ++ [])))) ≡ a' ++ (b' ++ (c' ++ (d ++ e')))
five_parts a b c d e a' b' c' e' first second third last = rw (first, second, third, last, append-nil e') refl

pub returns : goal.returns
returns g c =
    let is : c.as_slice.result.now ++ (c.as_slice-2.result.now ++ (c.as_slice-3.result.now ++ (c.args.name.now ++ (c.as_slice-4.result.now ++ []))))
    ≡ halted_by_text c.args.address c.args.name.now =
    five_parts c.as_slice.result.now c.as_slice-2.result.now c.as_slice-3.result.now c.args.name.now c.as_slice-4.result.now
    (codes "halted at &") (hex_number c.args.address) (codes " by ") (codes "; RESET or BACK wakes it\n")
    c.as_slice.ensures (c.as_slice-2.ensures ∙ c.number.ensures) c.as_slice-3.ensures c.as_slice-4.ensures in
    record {
      text = subst (λ (t : List ℕ). OnOk c.push_parts.result (Appends (g.W.Sink.contents c.args.sink.now) (g.W.Sink.contents c.push_parts.new.sink) t)) is
          c.push_parts.ensures.text;
      flag = c.push_parts.ensures.flag;
      same_flag = c.push_parts.ensures.same_flag;
    }

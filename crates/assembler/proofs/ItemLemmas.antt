-- The loop over the items of DCD and DCB.
use Rattle.std.proofs.Common.{◌≡◌, ◌<◌, ◌≤◌, ◌+◌, ◌-◌, ℕ, suc, List, Some, None, refl, arith}
use Rattle.assembler_reading.specs.Expressions.{Lookup}
use Rattle.assembler_reading.specs.Words.{comma}
use Rattle.assembler.specs.Directives.{with_item_read, more_items}
use Rattle.assembler.specs.Written.{Written}
use Rattle.assembler.specs.declared.directives.Data.{Data}

pub items_end : (count i : ℕ) (kind : Data) (labels : Lookup) (written : Written) (text : List ℕ) → count ≤ i
    → more_items (count - i) kind labels written text ≡ Some (written, text)
unfolding more_items
items_end count i kind labels written text h = let k : count - i ≡ 0 = omega arith in rw k refl

pub no_comma : (count i : ℕ) (kind : Data) (labels : Lookup) (written : Written) (text : List ℕ) → i < count → comma text ≡ None
    → more_items (count - i) kind labels written text ≡ Some (written, text)
unfolding more_items
no_comma count i kind labels written text h e = let k : count - i ≡ suc (count - (i + 1)) = omega arith in rw (k, e) refl

pub no_item : (count i : ℕ) (kind : Data) (labels : Lookup) (written : Written) (text after : List ℕ) → i < count → comma text ≡ Some after
    → with_item_read kind labels written after ≡ None → more_items (count - i) kind labels written text ≡ None
unfolding more_items
no_item count i kind labels written text after h e t = let k : count - i ≡ suc (count - (i + 1)) = omega arith in rw (k, e, t) refl

pub one_item : (count i : ℕ) (kind : Data) (labels : Lookup) (written after_item : Written) (text after rest : List ℕ) → i < count
    → comma text ≡ Some after → with_item_read kind labels written after ≡ Some (after_item, rest)
    → more_items (count - i) kind labels written text ≡ more_items (count - (i + 1)) kind labels after_item rest
unfolding more_items
one_item count i kind labels written after_item text after rest h e r =
    let k : count - i ≡ suc (count - (i + 1)) = omega arith in rw (k, e, r) refl

pub ruleset item_steps = (items_end, no_comma, no_item)

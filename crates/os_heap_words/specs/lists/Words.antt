-- The words of a heap: which link leads to a free item, and what is left of memory after some of
-- these words were written.
use Rattle.std.specs.Prelude.{◌==◌, if◌then◌else◌, ℕ, ◌+◌, ◌≤◌, ◌⊎◌, ◌≡◌, ◌-◌, [], List, ◌∷◌}
use Rattle.address_map.specs.Bytes.{word_at}
use Rattle.address_map.specs.declared.item.Item.{Item}
use Rattle.address_map.specs.declared.item.Item.TheVariants.{Free, Live}

-- where the link of a free item stands, or that of the descriptor at `start`
abbrev pub link_at : ℕ → ℕ → ℕ
link_at start from = if from == start then start + 4 else from

-- a word and the range of a byte or of another word share no address
abbrev pub AreApart : ℕ → ℕ → ℕ → ℕ → Type 0
AreApart a len b other_len = (a + len ≤ b) ⊎ (b + other_len ≤ a)

-- one word was written, and no other byte changed
pub record IsWordWritten (old new : ℕ → ℕ) (at word : ℕ) : Type 0 where
  pub here : word_at new at ≡ word
  pub apart : (a : ℕ) → AreApart a 4 at 4 → word_at new a ≡ word_at old a
  pub other : (a : ℕ) → AreApart a 1 at 4 → new a ≡ old a

-- a free item was written, with the link that leads to it, and no other byte changed
pub record IsFreed (old new : ℕ → ℕ) (start from at total next : ℕ) : Type 0 where
  pub to_item : word_at new (link_at start from) ≡ at - from
  pub to_next : word_at new at ≡ next - at
  pub length : word_at new (at + 4) ≡ total
  pub apart : (a : ℕ) → AreApart a 4 (link_at start from) 4 → AreApart a 4 at 8 →
      word_at new a ≡ word_at old a
  pub other : (a : ℕ) → AreApart a 1 (link_at start from) 4 → AreApart a 1 at 8 → new a ≡ old a

-- the byte at `a` belongs to no word that the items spell
abbrev pub IsOutside : ℕ → List Item → ℕ → Type 0
IsOutside at [] a = Unit {0}
IsOutside at (Live t ∷ xs) a = AreApart a 1 at 4 × IsOutside (at + t) xs a
IsOutside at (Free t ∷ xs) a = AreApart a 1 at 8 × IsOutside (at + t) xs a

-- A block at `at` got the total `total`, and after it a free item of `left` bytes was written, with
-- the link at `from` that leads to it, and its own link to `next`. No other byte changed.
pub record IsDivided (old new : ℕ → ℕ) (start from at total left next : ℕ) : Type 0 where
  pub block : word_at new at ≡ total
  pub to_item : word_at new (link_at start from) ≡ at + total - from
  pub to_next : word_at new (at + total) ≡ next - (at + total)
  pub length : word_at new (at + total + 4) ≡ left
  pub apart : (a : ℕ) → AreApart a 4 (link_at start from) 4 → AreApart a 4 at 4 →
      AreApart a 4 (at + total) 8 → word_at new a ≡ word_at old a
  pub other : (a : ℕ) → AreApart a 1 (link_at start from) 4 → AreApart a 1 at 4 →
      AreApart a 1 (at + total) 8 → new a ≡ old a

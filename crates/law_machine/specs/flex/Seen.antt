-- What a guest sees in the blocks of the flex store: their bytes, but for those of anchors, which
-- hold addresses.
use Rattle.std.specs.Prelude.{ℕ, Bool, ◌+◌, ◌-◌, ◌==◌, List, [], ◌∷◌, ◌++◌, drop, Option, None, Some, replicate, take, if◌then◌else◌}
use Rattle.flex_store.specs.Blocks.{Block, contents, FlexStore, bytes_taken_by}
use Rattle.flex_store.specs.Calls.{is_anchor_byte}

-- these bytes, the first of them at `at`; `anchor` says of each address whether it is one of an
-- anchor's
abbrev pub seen_bytes : (ℕ → Bool) → ℕ → List ℕ → List (Option ℕ)
seen_bytes anchor at [] = []
seen_bytes anchor at (x ∷ xs) = (if anchor at then None else Some x) ∷ seen_bytes anchor (at + 1) xs

-- those of the block of an anchor, where the first block's header is at `at`
abbrev pub seen_at : (ℕ → Bool) → ℕ → List Block → ℕ → Option (List (Option ℕ))
seen_at anchor at [] a = None
seen_at anchor at (b ∷ bs) a = if b.anchor == a then Some (seen_bytes anchor (at + 8) (contents b))
    else seen_at anchor (at + bytes_taken_by b.size) bs a

abbrev pub seen_in : Option FlexStore → ℕ → Option (List (Option ℕ))
seen_in None a = None
seen_in (Some s) a = seen_at (is_anchor_byte s) s.start s.blocks a

-- a splice of what is seen: zeros come
abbrev pub seen_spliced : List (Option ℕ) → ℕ → ℕ → ℕ → List (Option ℕ)
seen_spliced seen at cut more = take (at - cut) seen ++ (replicate more (Some 0) ++ drop at seen)

-- Labels and their addresses, in the order in which they were put.
use Rattle.std.specs.Prelude.{ℕ, Bool, false, ◌&&◌, not, nat_le, List, [], ◌∷◌, map, length, Option, is_none, bytes_eq}
use Rattle.std.specs.Borrow.{Bor}
use Rattle.std.specs.Char.{is_ascii_digit}
use Rattle.std.specs.Map.{lookup}
use Rattle.assembler_text.specs.naming.Names.{register_named}

-- names and addresses
abbrev pub Entries : Type 0
Entries = List (List ℕ × ℕ)

-- the address of a label; letters of either case differ
unfoldable pub address_of : Entries → List ℕ → Option ℕ
address_of entries name = lookup (bytes_eq name) entries

-- the names that references point to
abbrev pub named_entries : List (Bor (List ℕ) × ℕ) → Entries
named_entries entries = map (λ e. (e.0.now, e.1)) entries

abbrev pub begins_with_digit : List ℕ → Bool
begins_with_digit [] = false
begins_with_digit (c ∷ rest) = is_ascii_digit c

-- A word that may be a label: 1 to 63 letters, digits and `_`, no digit first, and no register's
-- name.
abbrev pub is_label : List ℕ → Bool
is_label name =
    nat_le 1 (length name) && nat_le (length name) 63 && not (begins_with_digit name)
    && is_none (register_named name)

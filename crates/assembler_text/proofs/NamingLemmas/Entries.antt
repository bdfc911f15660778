-- The labels in a map, by their names.
use Rattle.std.proofs.Common.{◌≡◌, ℕ, Bool, true, false, cond, List, [], ◌∷◌, ◌++◌, Option, Some, None, refl, ap}
use Rattle.std.specs.Prelude.{bytes_eq}
use Rattle.std.specs.Borrow.{Bor}
use Rattle.std.specs.Map.{lookup}
use Rattle.indexmap.specs.IndexMap.{insert_entry}
use Rattle.assembler_text.specs.naming.Labels.{Entries, named_entries}

-- a label is found by its name
pub found_by_name : (name : List ℕ) (entries : List (Bor (List ℕ) × ℕ))
    → lookup (bytes_eq name) (named_entries entries) ≡ lookup (λ (key : Bor (List ℕ)). bytes_eq name key.now) entries
found_by_name name [] = refl
found_by_name name (e ∷ es) = ap (λ (rest : Option ℕ). cond (bytes_eq name e.0.now) (Some e.1) rest) (found_by_name name es)

-- a label that isn't there goes last
pub put_last : (key : Bor (List ℕ)) (address : ℕ) (entries : List (Bor (List ℕ) × ℕ)) → lookup (bytes_eq key.now) (named_entries entries) ≡ None
    → named_entries (insert_entry (λ (a b : Bor (List ℕ)). bytes_eq a.now b.now) entries key address) ≡ named_entries entries ++ (key.now, address) ∷ []
put_last key address [] absent = refl
put_last key address (e ∷ es) absent = by (bytes_eq key.now e.0.now) refl (put_last key address es)
  where
    by : (b : Bool) → bytes_eq key.now e.0.now ≡ b
        → (lookup (bytes_eq key.now) (named_entries es) ≡ None
        → named_entries (insert_entry (λ (a b : Bor (List ℕ)). bytes_eq a.now b.now) es key address) ≡ named_entries es ++ (key.now, address) ∷ [])
        → named_entries (insert_entry (λ (a b : Bor (List ℕ)). bytes_eq a.now b.now) (e ∷ es) key address) ≡ named_entries (e ∷ es) ++ (key.now, address) ∷ []
    by true same put = let found = rw same at absent in absurd cc
    by false other put =
        let still = rw other at absent in
        rw other (ap (λ (rest : Entries). (e.0.now, e.1) ∷ rest) (put still))

pub ruleset label_steps = (found_by_name, put_last)

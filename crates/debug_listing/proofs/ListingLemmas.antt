-- How a list of commands goes on.
use Rattle.std.proofs.Common.{◌≡◌, ℕ, ◌+◌, ◌<◌, List, ◌∷◌, ◌++◌, length, drop, get_or, ◌≤◌, [], refl, arith, ap, ◌∙◌, sym, append_assoc}
use Rattle.std.specs.Prelude.{slice_get}
use Rattle.std.specs.List.{flat_map}
use Rattle.std.proofs.lemmas.List.{drop_all, drop_more}
use Rattle.std.proofs.lemmas.Option.{slice_get-get_or}
use Rattle.address_map.specs.Bytes.{Bytes}
use Rattle.instances_table.specs.Modules.{Module}
use Rattle.debug_listing.specs.Listing.{commands_numbered, commands_of_module}
use Rattle.debug_listing.specs.declared.tables.CommandEntry.{CommandEntry}

pub next_entry : (front : List ℕ) (text : CommandEntry → List ℕ) (entries : List CommandEntry) (n : ℕ) (e : CommandEntry) → n < length entries
    → e ≡ get_or entries n e
    → front ++ flat_map text (drop n entries) ≡ (front ++ text e) ++ flat_map text (drop (n + 1) entries)
next_entry front text entries n e below is =
    ap (λ (es : List CommandEntry). front ++ flat_map text es) (drop_more entries n e below)
    ∙ ap (λ (x : CommandEntry). front ++ (text x ++ flat_map text (drop (n + 1) entries))) (sym is)
    ∙ sym (append_assoc front (text e) (flat_map text (drop (n + 1) entries)))

first_module : (b : Bytes) (modules : List Module) (n : ℕ) → n < length modules
    → flat_map (commands_of_module b) (drop n modules)
    ≡ commands_numbered b (slice_get modules n) ++ flat_map (commands_of_module b) (drop (n + 1) modules)
first_module b [] n below = absurd (omega arith)
first_module b (m ∷ rest) n below = rw (slice_get-get_or (m ∷ rest) n m below, drop_more (m ∷ rest) n m below) refl

pub next_module : (front : List ℕ) (b : Bytes) (modules : List Module) (n : ℕ) → n < length modules
    → front ++ flat_map (commands_of_module b) (drop n modules)
    ≡ (front ++ commands_numbered b (slice_get modules n)) ++ flat_map (commands_of_module b) (drop (n + 1) modules)
next_module front b modules n below =
    ap (λ (xs : List ℕ). front ++ xs) (first_module b modules n below)
    ∙ sym (append_assoc front (commands_numbered b (slice_get modules n)) (flat_map (commands_of_module b) (drop (n + 1) modules)))

pub no_module_more : (b : Bytes) (modules : List Module) (n : ℕ) → length modules ≤ n
    → flat_map (commands_of_module b) (drop n modules) ≡ []
no_module_more b modules n past = rw (drop_all n modules past) refl

pub ruleset module_steps = (next_module, no_module_more)

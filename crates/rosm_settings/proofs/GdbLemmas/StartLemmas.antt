-- The files that are left to be looked at, one after another.
use Rattle.std.proofs.Common.{◌≡◌, ◌≤◌, ◌+◌, ◌∷◌, [], ℕ, Bool, false, refl, List, length, drop, slice_get, Option, Some, None, ap, ◌∙◌}
use Rattle.std.specs.Prelude.{get_or, if◌then◌else◌}
use Rattle.std.proofs.lemmas.List.{at_drop_more, at_drop_all}
use Rattle.std.proofs.lemmas.Option.{get_or_from_slice_get, slice_get_within}
use Rattle.std.specs.Path.{path_file_name}
use Rattle.profile.specs.images.Entries.{Entry}
use Rattle.rosm_settings.specs.gdb.Start.{first_elf, is_elf_named}

pub elf_more : (images : List Entry) (files : List (List ℕ)) (n : ℕ) (path : List ℕ) → slice_get files n ≡ Some path
    → is_elf_named images (path_file_name path) ≡ false → first_elf images (drop n files) ≡ first_elf images (drop (n + 1) files)
elf_more images files n path there none =
    let at : get_or files n path ≡ path = get_or_from_slice_get files n path path there in
    at_drop_more (λ (rest : List (List ℕ)). first_elf images rest) files n path (slice_get_within files n path there)
    ∙ ap (λ (p : List ℕ). first_elf images (p ∷ drop (n + 1) files)) at
    ∙ by (is_elf_named images (path_file_name path)) none
  where
    by : (b : Bool) → b ≡ false
        → (if b then Some path else first_elf images (drop (n + 1) files)) ≡ first_elf images (drop (n + 1) files)
    by b is = rw is refl

pub elf_end : (images : List Entry) (files : List (List ℕ)) (n : ℕ) → length files ≤ n → first_elf images (drop n files) ≡ None
elf_end images files n all = at_drop_all (λ (rest : List (List ℕ)). first_elf images rest) files n all

pub ruleset elf_steps = (elf_more, elf_end)

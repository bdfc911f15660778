-- The files that are left to be compared with their images, one after another.
use Rattle.std.proofs.Common.{◌≡◌, ◌≤◌, ◌+◌, ◌∷◌, [], ℕ, Bool, true, false, refl, List, length, drop, slice_get, Option, None, Some, ap, ◌∙◌}
use Rattle.std.specs.Prelude.{get_or, if◌then◌else◌}
use Rattle.std.proofs.lemmas.List.{at_drop_more, at_drop_all}
use Rattle.std.proofs.lemmas.Option.{get_or_from_slice_get, slice_get_within}
use Rattle.std.specs.Path.{path_file_name}
use Rattle.profile.specs.images.Entries.{Entry}
use Rattle.gdb_packets.specs.Ahead.{is_run_ahead}
use Rattle.gdb_server.specs.Serving.{ServerState, with_files}
use Rattle.rosm_tools.specs.gdb.Renewed.{AreGiven, AreRead, FilesRead, IsRenewed, has_others, is_other_image, renewed_before, with_image_found, with_images}
use Rattle.rosm_settings.specs.declared.gdb.words.WantedGdb.{WantedGdb}

others_by : (images fresh : List Entry) (files : List (List ℕ)) (n : ℕ) (path : List ℕ) → slice_get files n ≡ Some path
    → has_others images fresh (drop n files)
    ≡ (if is_other_image images fresh (path_file_name path) then true else has_others images fresh (drop (n + 1) files))
others_by images fresh files n path there =
    let at : get_or files n path ≡ path = get_or_from_slice_get files n path path there in
    at_drop_more (λ (rest : List (List ℕ)). has_others images fresh rest) files n path (slice_get_within files n path there)
    ∙ ap (λ (p : List ℕ). has_others images fresh (p ∷ drop (n + 1) files)) at

-- a file that gives no other image, and one that gives another
pub others_more : (images fresh : List Entry) (files : List (List ℕ)) (n : ℕ) (path : List ℕ) → slice_get files n ≡ Some path
    → is_other_image images fresh (path_file_name path) ≡ false
    → has_others images fresh (drop n files) ≡ has_others images fresh (drop (n + 1) files)
others_more images fresh files n path there none =
    others_by images fresh files n path there ∙ by (is_other_image images fresh (path_file_name path)) none
  where
    by : (b : Bool) → b ≡ false
        → (if b then true else has_others images fresh (drop (n + 1) files)) ≡ has_others images fresh (drop (n + 1) files)
    by b is = rw is refl

pub others_here : (images fresh : List Entry) (files : List (List ℕ)) (n : ℕ) (path : List ℕ) → slice_get files n ≡ Some path
    → is_other_image images fresh (path_file_name path) ≡ true → has_others images fresh (drop n files) ≡ true
others_here images fresh files n path there other =
    others_by images fresh files n path there ∙ by (is_other_image images fresh (path_file_name path)) other
  where
    by : (b : Bool) → b ≡ true → (if b then true else has_others images fresh (drop (n + 1) files)) ≡ true
    by b is = rw is refl

pub others_end : (images fresh : List Entry) (files : List (List ℕ)) (n : ℕ) → length files ≤ n → has_others images fresh (drop n files) ≡ false
others_end images fresh files n all = at_drop_all (λ (rest : List (List ℕ)). has_others images fresh rest) files n all

pub ruleset others_steps = (others_more, others_here, others_end)

-- the server is given what was read
pub given_so : {F : Type 0} (of_file : F → Option (List ℕ)) (wanted : WantedGdb) (old now : ServerState) (r : FilesRead) (is_other : Bool)
    → AreRead of_file wanted r → now ≡ with_files (with_images old r.images) r.start is_other
    → is_other ≡ has_others old.session.debug.script.images r.images wanted.settings.files → AreGiven of_file wanted old now
given_so of_file wanted old now r is_other are is other = record {
  found = Some r;
  are = are;
  state = is ∙ ap (λ (b : Bool). with_files (with_images old r.images) r.start b) other;
}

-- where a `run` has come, and where none has
pub renewed_there : {F : Type 0} (of_file : F → Option (List ℕ)) (wanted : WantedGdb) (old now : ServerState)
    → is_run_ahead old.reading ≡ true → AreGiven of_file wanted old now → IsRenewed of_file wanted old now
renewed_there of_file wanted old now ahead given = record {
  found = given.found;
  are = given.are;
  state = given.state ∙ by (is_run_ahead old.reading) ahead;
}
  where
    by : (b : Bool) → b ≡ true → with_image_found wanted.settings.files given.found old
        ≡ (if b then with_image_found wanted.settings.files given.found old else old)
    by b is = rw is refl

pub not_renewed : {F : Type 0} (of_file : F → Option (List ℕ)) (wanted : WantedGdb) (s : ServerState)
    → is_run_ahead s.reading ≡ false → IsRenewed of_file wanted s s
not_renewed of_file wanted s none = record {
  found = None;
  are = tt;
  state = by (is_run_ahead s.reading) none;
}
  where
    by : (b : Bool) → b ≡ false → s ≡ (if b then with_image_found wanted.settings.files None s else s)
    by b is = rw is refl

-- A file's front of one byte more than an image can have says whether the file can be an image.
use Rattle.std.proofs.Common.{◌≡◌, ◌≤◌, ◌<◌, ◌∙◌, ◌+◌, ◌++◌, ◌∷◌, [], ℕ, List, length, take, append_assoc, slice_get, nat_lt, Option, Some, None, Result, Ok, Err, IfSome, IsOkUnless, MatchOption, false, arith, refl, sym, ap, subst}
use Rattle.std.proofs.lemmas.Bool.Decides.{nat_tests}
use Rattle.std.proofs.lemmas.List.{append-nil, length-take, map-append, take_all, take_more}
use Rattle.std.proofs.lemmas.Option.{get_or_from_slice_get, slice_get_within}
use Rattle.profile.specs.images.Entries.{Entry, refusal_for, with_entry}
use Rattle.profile.specs.declared.images.error.ImageError.{ImageError}
use Rattle.profile.specs.declared.images.error.ImageError.TheVariants as image
use Rattle.std.specs.Path.{path_file_name}
use Rattle.rosm_settings.specs.ImageFiles.{AddsFile, AddsFiles, AddsImageFile, RefusesImage, front_of, is_host_error, names_for, names_of}
use Rattle.rosm_settings.specs.declared.image_files.FileError.TheVariants as file

in_limit : (entries : List Entry) (name : List ℕ) (len : ℕ) → refusal_for entries name len ≡ None → len ≤ 1048576
in_limit entries name len none = grind (arith, nat_tests, none)

-- a front that is shorter than it may be is all
front_is_all : (all : List ℕ) (most : ℕ) → length (front_of most all) < most → front_of most all ≡ all
unfolding front_of
front_is_all all most short = take_all most all (omega (arith, length-take most all))

let_in : {U : Type 0} (u : U) (o : Option ImageError) (P : Type 0) → MatchOption o P (λ e. ◌≡◌ {A = Result U ImageError} (Ok u) (Err e)) → o ≡ None
let_in u None P h = refl
let_in u (Some e) P h = absurd (cc)

-- a front of the bytes that are shown, which the table lets in, is all of them
let_in_whole : (old : List Entry) (name bytes : List ℕ) (known : Option (List ℕ)) (most : ℕ) → 1048576 < most
    → IfSome known (λ all. bytes ≡ front_of most all) → refusal_for old name (length bytes) ≡ None
    → IfSome known (λ all. bytes ≡ all)
let_in_whole old name bytes None most enough front free = tt
let_in_whole old name bytes (Some all) most enough front free =
    let limit : length bytes ≤ 1048576 = in_limit old name (length bytes) free in
    let short : length (front_of most all) < most = rw (← front) (omega arith) in
    front ∙ front_is_all all most short

pub adds_image : {U : Type 0} (u : U) (P : Type 0) (old new : List Entry) (path name bytes : List ℕ)
    (known : Option (List ℕ)) (most : ℕ)
    → 1048576 < most → Some name ≡ path_file_name path → IfSome known (λ all. bytes ≡ front_of most all)
    → MatchOption (refusal_for old name (length bytes)) P (λ e. ◌≡◌ {A = Result U ImageError} (Ok u) (Err e))
    → new ≡ with_entry old name bytes → AddsImageFile old path known new
adds_image u P old new path name bytes known most enough part front refused added =
    let free : refusal_for old name (length bytes) ≡ None = let_in u _ P refused in
    record {
      name = name;
      bytes = bytes;
      last_part = sym part;
      reported = let_in_whole old name bytes known most enough front free;
      let_in = free;
      added = added;
    }

-- one more file after others
files_then : {F : Type 0} (remaining : F → Option (List ℕ)) (old now new : List Entry) (paths : List (List ℕ))
    (path : List ℕ)
    → AddsFiles remaining old paths now → AddsFile remaining now path new
    → AddsFiles remaining old (paths ++ path ∷ []) new
files_then remaining old now new [] path first next =
    (new, subst (λ (es : List Entry). AddsFile remaining es path new) first next, refl)
files_then remaining old now new (p ∷ paths) path first next =
    (first.0, first.1, files_then remaining first.0 now new paths path first.2 next)

pub files_more : {F : Type 0} (remaining : F → Option (List ℕ)) (old now new : List Entry) (paths : List (List ℕ))
    (n : ℕ) (path : List ℕ)
    → AddsFiles remaining old (take n paths) now → AddsFile remaining now path new → slice_get paths n ≡ Some path
    → AddsFiles remaining old (take (n + 1) paths) new
files_more remaining old now new paths n path first next at =
    let taken : take (n + 1) paths ≡ take n paths ++ path ∷ [] =
    take_more paths n path (slice_get_within paths n path at)
    ∙ ap (λ x. take n paths ++ x ∷ []) (get_or_from_slice_get paths n path path at) in
    subst (λ (front : List (List ℕ)). AddsFiles remaining old front new) (sym taken)
    (files_then remaining old now new (take n paths) path first next)

-- the names of images that were added for files
name_of_file : {F : Type 0} (remaining : F → Option (List ℕ)) (old new : List Entry) (path : List ℕ)
    → AddsFile remaining old path new → names_of new ≡ names_of old ++ path_file_name path ∷ []
name_of_file remaining old new path adds =
    let e : Entry = record { name = adds.adds.name; bytes = adds.adds.bytes } in
    ap names_of adds.adds.added ∙ map-append (λ (e : Entry). Some e.name) old (e ∷ [])
    ∙ ap (λ (o : Option (List ℕ)). names_of old ++ o ∷ []) (sym adds.adds.last_part)

pub names_of_files : {F : Type 0} (remaining : F → Option (List ℕ)) (old : List Entry) (paths : List (List ℕ))
    (new : List Entry)
    → AddsFiles remaining old paths new → names_of new ≡ names_of old ++ names_for paths
names_of_files remaining old [] new adds = ap names_of adds ∙ sym (append-nil (names_of old))
names_of_files remaining old (path ∷ paths) new adds =
    names_of_files remaining adds.0 paths new adds.2
    ∙ ap (λ (names : List (Option (List ℕ))). names ++ names_for paths) (name_of_file remaining old adds.0 path adds.1)
    ∙ append_assoc (names_of old) (path_file_name path ∷ []) (names_for paths)

-- whatever a file holds, bytes that it can hold
known_bytes : (known : Option (List ℕ)) → (bytes : List ℕ) × IfSome known (λ all. bytes ≡ all)
known_bytes None = ([], tt)
known_bytes (Some all) = (all, refl)

pub refused_nameless : (old : List Entry) (path : List ℕ) (known : Option (List ℕ)) → path_file_name path ≡ None → RefusesImage old path known file.Nameless
refused_nameless old path known none =
    let held = known_bytes known in
    record { bytes = held.0; held = held.1; refused = rw none refl }

-- one byte more than a limit shows as well as all bytes whether they pass it
same_limit : (most : ℕ) (all : List ℕ) → nat_lt most (length (take (most + 1) all)) ≡ nat_lt most (length all)
same_limit most all = let len = length-take (most + 1) all in grind (arith, nat_tests, len)

same_refusal : (old : List Entry) (name all : List ℕ) → refusal_for old name (length (front_of 1048577 all)) ≡ refusal_for old name (length all)
unfolding front_of
same_refusal old name all = rw (same_limit 1048576 all) refl

-- what a table answers is its own refusal, unless the host had no memory
refused_in : {U : Type 0} (u : U) (o : Option ImageError) (e : ImageError)
    → MatchOption o (IsOkUnless {T = U} (Err e) image.Memory) (λ x. ◌≡◌ {A = Result U ImageError} (Err e) (Err x))
    → is_host_error (file.Image e) ≡ false → o ≡ Some e
refused_in u None e refused own = grind (arith, refused, own)
refused_in u (Some x) e refused own = ap Some (sym (cc))

pub refused_image : {U : Type 0} (u : U) (old : List Entry) (path name bytes : List ℕ) (known : Option (List ℕ)) (e : ImageError)
    → Some name ≡ path_file_name path → IfSome known (λ all. bytes ≡ front_of 1048577 all)
    → MatchOption (refusal_for old name (length bytes)) (IsOkUnless {T = U} (Err e) image.Memory) (λ x. ◌≡◌ {A = Result U ImageError} (Err e) (Err x))
    → is_host_error (file.Image e) ≡ false → RefusesImage old path known (file.Image e)
refused_image u old path name bytes None e part held refused own =
    record { bytes = bytes; held = tt; refused = rw (← part, refused_in u _ e refused own) refl }
refused_image u old path name bytes (Some all) e part held refused own =
    let at : refusal_for old name (length all) ≡ Some e =
    sym (same_refusal old name all) ∙ ap (λ x. refusal_for old name (length x)) (sym held) ∙ refused_in u _ e refused own in
    record { bytes = all; held = refl; refused = rw (← part, at) refl }

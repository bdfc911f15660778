-- How far the loops over slots and modules have come.
use Rattle.std.proofs.Common.{◌≡◌, ℕ, ◌+◌, ◌<◌, ◌≤◌, ◌∙◌, List, [], ◌∷◌, ◌++◌, length, map, take, drop, get_or, zero, suc, refl, sym, ap, Option, Some, None, arith}
use Rattle.std.specs.Prelude.{option_map, slice_get}
use Rattle.std.proofs.lemmas.List.{drop_more, length-map, length-take, map-append, take_more}
use Rattle.rma.specs.Bytes.{word_at}
use Rattle.rma.specs.Moves.{moved_to}
use Rattle.rma.specs.BlockMove.{BlockMove}
use Rattle.rma.specs.Ground.{AreaStore}
use Rattle.instances_table.specs.plans.Code.{private_of}
use Rattle.instances_table.specs.Changes.{with_image_at}
use Rattle.instances_table.specs.Lookup.{shown_of_module}
use Rattle.instances_table.specs.declared.parts.ModuleInfo.{ModuleInfo}
use Rattle.instances_table.specs.Modules.{Module, changed_at}
use Rattle.instances.specs.module_state.ModuleState.{private_word, with_private}
use Rattle.instances.specs.tidying.Slid.{image_moved, private_words_at, words_moved}

pub words_more : (bytes : ℕ → ℕ) (slots : List ℕ) (i : ℕ) → i < length slots
    → private_words_at bytes (take (i + 1) slots) ≡ private_words_at bytes (take i slots) ++ word_at bytes (private_of (get_or slots i 0)) ∷ []
words_more bytes slots i within =
    ap (private_words_at bytes) (take_more slots i 0 within)
    ∙ map-append (λ (s : ℕ). word_at bytes (private_of s)) (take i slots) (get_or slots i 0 ∷ [])

pub words_few : (bytes : ℕ → ℕ) (slots : List ℕ) (i : ℕ) → i ≤ length slots → length (private_words_at bytes (take i slots)) ≡ i
words_few bytes slots i within =
    length-map (take i slots) (λ (s : ℕ). word_at bytes (private_of s)) ∙ omega (arith, length-take i slots)

pub words_next : (moves : List BlockMove) (slots : List ℕ) (i : ℕ) (e : AreaStore) → i < length slots
    → words_moved moves (drop i slots) e
    ≡ words_moved moves (drop (i + 1) slots) (with_private e (get_or slots i 0) (moved_to moves (private_word e (get_or slots i 0))))
words_next moves slots i e within = ap (λ (xs : List ℕ). words_moved moves xs e) (drop_more slots i 0 within)

-- the first modules of a list changed, and the others not yet
abbrev pub partly : (Module → Module) → ℕ → List Module → List Module
partly change zero ms = ms
partly change (suc n) [] = []
partly change (suc n) (m ∷ ms) = change m ∷ partly change n ms

pub partly_get : (change : Module → Module) (n : ℕ) (ms : List Module) → slice_get (partly change n ms) n ≡ slice_get ms n
partly_get change zero ms = refl
partly_get change (suc n) [] = refl
partly_get change (suc n) (m ∷ ms) = partly_get change n ms

pub partly_more : (change this : Module → Module) (n k : ℕ) (ms : List Module) (m : Module) → k ≡ n + 1 → slice_get ms n ≡ Some m → this m ≡ change m
    → changed_at n this (partly change n ms) ≡ partly change k ms
partly_more change this n zero ms m next found same = absurd (omega arith)
partly_more change this zero (suc k) [] m next found same = refl
partly_more change this (suc n) (suc k) [] m next found same = refl
partly_more change this zero (suc k) (x ∷ ms) m next found same =
    let e : x ≡ m = cc in
    let none : k ≡ 0 = omega arith in
    rw none (ap (λ (y : Module). y ∷ ms) (ap this e ∙ same ∙ ap change (sym e)))
partly_more change this (suc n) (suc k) (x ∷ ms) m next found same =
    ap (λ (ys : List Module). change x ∷ ys) (partly_more change this n k ms m (omega arith) found same)

pub partly_same : (change : Module → Module) (n k : ℕ) (ms : List Module) → k ≡ n + 1 → slice_get ms n ≡ None → partly change n ms ≡ partly change k ms
partly_same change n zero ms next none = absurd (omega arith)
partly_same change zero (suc k) [] next none = refl
partly_same change (suc n) (suc k) [] next none = refl
partly_same change zero (suc k) (x ∷ ms) next none = absurd (let no : Some x ≡ None = none in cc)
partly_same change (suc n) (suc k) (x ∷ ms) next none = ap (λ (ys : List Module). change x ∷ ys) (partly_same change n k ms (omega arith) none)

pub partly_all : (change : Module → Module) (n : ℕ) (ms : List Module) → length ms ≤ n → partly change n ms ≡ map change ms
partly_all change zero [] all = refl
partly_all change zero (m ∷ ms) all = absurd (omega arith)
partly_all change (suc n) [] all = refl
partly_all change (suc n) (m ∷ ms) all = ap (λ (ys : List Module). change m ∷ ys) (partly_all change n ms (omega arith))

-- the image of one module more
pub images_next : (moves : List BlockMove) (n : ℕ) (ms now next : List Module) (reported : Option ModuleInfo) (info : ModuleInfo) (to : ℕ)
    → now ≡ partly (image_moved moves) n ms → reported ≡ option_map shown_of_module (slice_get now n) → reported ≡ Some info → to ≡ moved_to moves info.image
    → next ≡ changed_at n (with_image_at to) now → next ≡ partly (image_moved moves) (n + 1) ms
images_next moves n ms now next reported info to so_far asked some went changed = go (slice_get ms n) refl where
  there : slice_get now n ≡ slice_get ms n
  there = ap (λ (xs : List Module). slice_get xs n) so_far ∙ partly_get (image_moved moves) n ms

  go : (o : Option Module) → slice_get ms n ≡ o → next ≡ partly (image_moved moves) (n + 1) ms
  go None none = absurd (let no : Some info ≡ None = sym some ∙ asked ∙ ap (option_map shown_of_module) (there ∙ none) in cc)
  go (Some m) found =
      let is : Some info ≡ Some (shown_of_module m) = sym some ∙ asked ∙ ap (option_map shown_of_module) (there ∙ found) in
      let same : info ≡ shown_of_module m = cc in
      let place : to ≡ moved_to moves m.image.at = went ∙ ap (λ (i : ModuleInfo). moved_to moves i.image) same in
      changed ∙ ap (changed_at n (with_image_at to)) so_far
      ∙ partly_more (image_moved moves) (with_image_at to) n (n + 1) ms m refl found (ap (λ (a : ℕ). with_image_at a m) place)

pub images_same : (moves : List BlockMove) (n : ℕ) (ms now : List Module) (reported : Option ModuleInfo)
    → now ≡ partly (image_moved moves) n ms → reported ≡ option_map shown_of_module (slice_get now n) → reported ≡ None
    → now ≡ partly (image_moved moves) (n + 1) ms
images_same moves n ms now reported so_far asked none = go (slice_get ms n) refl where
  there : slice_get now n ≡ slice_get ms n
  there = ap (λ (xs : List Module). slice_get xs n) so_far ∙ partly_get (image_moved moves) n ms

  go : (o : Option Module) → slice_get ms n ≡ o → now ≡ partly (image_moved moves) (n + 1) ms
  go None gone = so_far ∙ partly_same (image_moved moves) n (n + 1) ms refl gone
  go (Some m) found =
      absurd (let no : None ≡ Some (shown_of_module m) = sym none ∙ asked ∙ ap (option_map shown_of_module) (there ∙ found) in cc)

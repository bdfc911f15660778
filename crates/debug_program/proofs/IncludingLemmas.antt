-- What a script gives, byte by byte, and what of it is known.
use Rattle.std.proofs.Common.{◌≡◌, ◌<◌, ◌-◌, ℕ, zero, suc, Bool, true, false, List, [], ◌∷◌, ◌++◌, length, Option, Some, None, IfSome, append_assoc, append-nil, ap, sym, subst, refl, ◌∙◌, arith}
use Rattle.std.specs.Prelude.{◌==◌, ◌&&◌, ◌||◌, if◌then◌else◌, is_some, option_map, option_and_then, unwrap_or}
use Rattle.std.proofs.lemmas.Bool.{or_parts}
use Rattle.std.proofs.lemmas.Bool.Decides.{nat_tests}
use Rattle.std.specs.Str.Lines.{strip_carriage_return}
use Rattle.debug_lines.specs.BlockEnds.{one_line_more}
use Rattle.debug_lines.specs.WholeDebugRequests.{is_debug_block_open_after}
use Rattle.debug_program.specs.Including.{GivenSoFar, Included, StaysKnown, file_given, given_file, given_none, include_of, is_path, note_text, path_beside, save_asked, saved_line, asks_save, given_all, given_byte, given_bytes, given_ended, given_last, given_read, given_wanted}

-- WHAT STAYS KNOWN

pub stays_self : (v : Option GivenSoFar) → StaysKnown v v
stays_self None = tt
stays_self (Some g) = refl

pub stays_trans : (a b c : Option GivenSoFar) → StaysKnown a b → StaysKnown b c → StaysKnown a c
stays_trans None b c h k = tt
stays_trans (Some g) b c h k = subst (λ (v : Option GivenSoFar). StaysKnown v c) h k

pub known_there : (v : Option GivenSoFar) (h : GivenSoFar) → IfSome v (λ k. h ≡ k) → StaysKnown v (Some h)
known_there None h is = tt
known_there (Some k) h is = ap (λ (x : GivenSoFar). Some x) is

-- a step from a value, as far as it is known
pub then_stays : {A : Type 0} (v : Option A) (h : A) (f : A → Option GivenSoFar) → IfSome v (λ k. h ≡ k)
    → StaysKnown (option_and_then f v) (f h)
then_stays None h f is = tt
then_stays {A} (Some k) h f is = subst (λ (x : A). StaysKnown (f k) (f x)) (sym is) (stays_self (f k))

pub stays_then : (a b : Option GivenSoFar) (f : GivenSoFar → Option GivenSoFar) → StaysKnown a b
    → StaysKnown (option_and_then f a) (option_and_then f b)
stays_then None b f is = tt
stays_then (Some g) b f is =
    subst (λ (v : Option GivenSoFar). StaysKnown (f g) (option_and_then f v)) (sym is) (stays_self (f g))

-- a byte is taken, and where a line INCLUDE ends its file
pub step_stays : (files : Included) (script : List ℕ) (g mid h : GivenSoFar) (wanted : Option (List ℕ)) (byte : ℕ) (rest : List ℕ)
    → given_byte files script g byte ≡ given_wanted files script mid wanted
    → IfSome (given_wanted files script mid wanted) (λ k. h ≡ k)
    → StaysKnown (given_bytes files script g (byte ∷ rest)) (given_bytes files script h rest)
unfolding given_bytes
step_stays files script g mid h wanted byte rest taken there =
    subst (λ (v : Option GivenSoFar). StaysKnown (option_and_then (λ k. given_bytes files script k rest) v) (given_bytes files script h rest))
    (sym taken) (then_stays (given_wanted files script mid wanted) h (λ k. given_bytes files script k rest) there)

-- nothing follows
pub last_stays : (files : Included) (script end : List ℕ) (g mid h : GivenSoFar) (wanted : Option (List ℕ))
    → given_last files script end g ≡ given_wanted files script mid wanted
    → IfSome (given_wanted files script mid wanted) (λ k. h ≡ k)
    → StaysKnown (given_last files script end g) (Some h)
last_stays files script end g mid h wanted taken there =
    subst (λ (v : Option GivenSoFar). StaysKnown v (Some h)) (sym taken) (known_there (given_wanted files script mid wanted) h there)

pub given_nothing : (files : Included) (script : List ℕ) (g : GivenSoFar) → given_bytes files script g [] ≡ Some g
unfolding given_bytes
given_nothing files script g = refl

-- all bytes of a file were taken, and its last line
pub all_stays : (files : Included) (path : List ℕ) (g : GivenSoFar) (bytes : List ℕ) (last mid h : GivenSoFar) (wanted : Option (List ℕ))
    → StaysKnown (given_bytes files path g bytes) (given_bytes files path last [])
    → given_last files path (10 ∷ []) last ≡ given_wanted files path mid wanted
    → IfSome (given_wanted files path mid wanted) (λ k. h ≡ k)
    → StaysKnown (given_all files path (10 ∷ []) g bytes) (Some h)
all_stays files path g bytes last mid h wanted taken ended there =
    let lasts = stays_then (given_bytes files path g bytes) (Some last) (given_last files path (10 ∷ []))
    (subst (λ (v : Option GivenSoFar). StaysKnown (given_bytes files path g bytes) v) (given_nothing files path last) taken) in
    stays_trans (given_all files path (10 ∷ []) g bytes) (given_last files path (10 ∷ []) last) (Some h) lasts
    (last_stays files path (10 ∷ []) last mid h wanted ended there)

-- all of a file was taken
file_stays : (text_of : List ℕ → Option (List ℕ)) (depth : ℕ) (path : List ℕ) (number : ℕ) (bytes : List ℕ) (h : GivenSoFar)
    → 0 < depth → IfSome (text_of path) (λ known. bytes ≡ known)
    → StaysKnown (given_all (file_given text_of (depth - 1)) path (10 ∷ []) (given_none number) bytes) (Some h)
    → StaysKnown (file_given text_of depth path number) (Some h)
unfolding file_given
file_stays text_of zero path number bytes h some known taken = absurd (omega (arith, some))
file_stays text_of (suc d) path number bytes h some known taken =
    let less : suc d - 1 ≡ d = omega arith in
    let files : Included = file_given text_of (suc d - 1) in
    let all = then_stays (text_of path) bytes (given_all files path (10 ∷ []) (given_none number)) known in
    subst (λ (n : ℕ). StaysKnown (option_and_then (given_all (file_given text_of n) path (10 ∷ []) (given_none number)) (text_of path)) (Some h))
    less (stays_trans (option_and_then (given_all files path (10 ∷ []) (given_none number)) (text_of path))
    (given_all files path (10 ∷ []) (given_none number) bytes) (Some h) all taken)

file_there : (v : Option GivenSoFar) (path : List ℕ) (g file now : GivenSoFar) → StaysKnown v (Some file) → now ≡ given_file g path file
    → IfSome v (λ h. now ≡ given_file g path h)
file_there None path g file now stays taken = tt
file_there (Some k) path g file now stays taken =
    let same : Some file ≡ Some k = stays in
    let is : file ≡ k = cc in
    taken ∙ ap (given_file g path) is

-- and stands in place of the line that names it
pub file_taken : (text_of : List ℕ → Option (List ℕ)) (depth : ℕ) (path bytes : List ℕ) (g file now : GivenSoFar) → 0 < depth
    → IfSome (text_of path) (λ known. bytes ≡ known)
    → StaysKnown (given_all (file_given text_of (depth - 1)) path (10 ∷ []) (given_none (one_line_more g.number)) bytes) (Some file)
    → now ≡ given_file g path file
    → IfSome (file_given text_of depth path (one_line_more g.number)) (λ h. now ≡ given_file g path h)
file_taken text_of depth path bytes g file now some known all taken =
    file_there (file_given text_of depth path (one_line_more g.number)) path g file now
    (file_stays text_of depth path (one_line_more g.number) bytes file some known all) taken

mapped_there : (v : Option GivenSoFar) (f : GivenSoFar → GivenSoFar) (now : GivenSoFar) → IfSome v (λ h. now ≡ f h)
    → IfSome (option_map f v) (λ k. now ≡ k)
mapped_there None f now is = tt
mapped_there (Some h) f now is = is

pub wanted_taken : (text_of : List ℕ → Option (List ℕ)) (depth : ℕ) (script wanted path : List ℕ) (g now : GivenSoFar)
    → is_path wanted ≡ true → path ≡ path_beside script wanted
    → IfSome (file_given text_of depth path (one_line_more g.number)) (λ h. now ≡ given_file g path h)
    → IfSome (given_wanted (file_given text_of depth) script g (Some wanted)) (λ k. now ≡ k)
wanted_taken text_of depth script wanted path g now is at taken =
    subst (λ (b : Bool). IfSome (if b then option_map (given_file g (path_beside script wanted))
    (file_given text_of depth (path_beside script wanted) (one_line_more g.number)) else None) (λ k. now ≡ k)) (sym is)
    (subst (λ (p : List ℕ). IfSome (option_map (given_file g p) (file_given text_of depth p (one_line_more g.number))) (λ k. now ≡ k)) at
    (mapped_there (file_given text_of depth path (one_line_more g.number)) (given_file g path) now taken))

-- A TEXT THAT WAS GIVEN BEFORE

abbrev pub in_front : List ℕ → GivenSoFar → GivenSoFar
in_front text g = record g { text = text ++ g.text }

front_of_given : (text : List ℕ) (g : GivenSoFar) (path : List ℕ) (h : GivenSoFar)
    → given_file (in_front text g) path h ≡ in_front text (given_file g path h)
front_of_given text g path h =
    ap (λ (t : List ℕ). let k : GivenSoFar = record { text = t; line = []; is_in_block = h.is_in_block; number = h.number } in k)
    (append_assoc text g.text (note_text path (one_line_more (one_line_more g.number)) h.number ++ h.text))

front_of_found : (text : List ℕ) (g : GivenSoFar) (path : List ℕ) (v : Option GivenSoFar)
    → option_map (given_file (in_front text g) path) v ≡ option_map (in_front text) (option_map (given_file g path) v)
front_of_found text g path None = refl
front_of_found text g path (Some h) = ap (λ (k : GivenSoFar). Some k) (front_of_given text g path h)

front_of_choice : (text : List ℕ) (is : Bool) (a b c d : Option GivenSoFar) → a ≡ option_map (in_front text) c → b ≡ option_map (in_front text) d
    → (if is then a else b) ≡ option_map (in_front text) (if is then c else d)
front_of_choice text true a b c d one other = one
front_of_choice text false a b c d one other = other

front_of_line : (files : Included) (script end text : List ℕ) (g : GivenSoFar) (wanted : Option (List ℕ))
    → given_read files script end (in_front text g) wanted ≡ option_map (in_front text) (given_read files script end g wanted)
front_of_line files script end text g None = ap (λ (t : List ℕ). let k : GivenSoFar = record {
  text = t;
  line = [];
  is_in_block = is_debug_block_open_after g.is_in_block (strip_carriage_return g.line);
  number = one_line_more g.number;
} in Some k) (append_assoc text g.text (saved_line (save_asked g) (g.line ++ end)))
front_of_line files script end text g (Some path) = front_of_choice text (is_path path) _ _ _ None
    (front_of_found text g (path_beside script path) (files (path_beside script path) (one_line_more g.number))) refl

front_of_ended : (files : Included) (script end text : List ℕ) (g : GivenSoFar)
    → given_ended files script end (in_front text g) ≡ option_map (in_front text) (given_ended files script end g)
front_of_ended files script end text g =
    front_of_line files script end text g (include_of g.is_in_block (strip_carriage_return g.line))

front_of_byte : (files : Included) (script text : List ℕ) (g : GivenSoFar) (byte : ℕ)
    → given_byte files script (in_front text g) byte ≡ option_map (in_front text) (given_byte files script g byte)
front_of_byte files script text g byte =
    front_of_choice text (byte == 10) _ _ _ (Some (record g { line = g.line ++ byte ∷ [] })) (front_of_ended files script (byte ∷ []) text g) refl

front_of_then : (text : List ℕ) (v : Option GivenSoFar) (f : GivenSoFar → Option GivenSoFar)
    → ((h : GivenSoFar) → f (in_front text h) ≡ option_map (in_front text) (f h))
    → option_and_then f (option_map (in_front text) v) ≡ option_map (in_front text) (option_and_then f v)
front_of_then text None f same = refl
front_of_then text (Some h) f same = same h

front_of_bytes : (files : Included) (script text : List ℕ) (g : GivenSoFar) (bytes : List ℕ)
    → given_bytes files script (in_front text g) bytes ≡ option_map (in_front text) (given_bytes files script g bytes)
unfolding given_bytes
front_of_bytes files script text g [] = refl
front_of_bytes files script text g (byte ∷ rest) =
    ap (option_and_then (λ h. given_bytes files script h rest)) (front_of_byte files script text g byte)
    ∙ front_of_then text (given_byte files script g byte) (λ h. given_bytes files script h rest)
    (λ h. front_of_bytes files script text h rest)

front_of_last : (files : Included) (script end text : List ℕ) (g : GivenSoFar)
    → given_last files script end (in_front text g) ≡ option_map (in_front text) (given_last files script end g)
front_of_last files script end text g =
    front_of_choice text (length g.line == 0) _ _ (Some g) _ refl (front_of_ended files script end text g)

-- what is given beyond a text doesn't depend on it
pub text_apart : (files : Included) (script end : List ℕ) (g : GivenSoFar) (bytes : List ℕ)
    → given_all files script end g bytes ≡ option_map (in_front g.text) (given_all files script end (record g { text = [] }) bytes)
text_apart files script end g bytes =
    ap (λ (t : List ℕ). given_all files script end (record g { text = t }) bytes) (sym (append-nil g.text))
    ∙ ap (option_and_then (given_last files script end)) (front_of_bytes files script g.text (record g { text = [] }) bytes)
    ∙ front_of_then g.text (given_bytes files script (record g { text = [] }) bytes) (given_last files script end)
    (λ h. front_of_last files script end g.text h)

-- A SCRIPT WITHOUT FILES

abbrev pub NoFiles : Included → Type 0
NoFiles files = (path : List ℕ) (number : ℕ) → files path number ≡ None

plain_found : (g : GivenSoFar) (path : List ℕ) (v : Option GivenSoFar) (P : GivenSoFar → Type 0) → v ≡ None → IfSome (option_map (given_file g path) v) P
plain_found g path v P none = subst (λ (w : Option GivenSoFar). IfSome (option_map (given_file g path) w) P) (sym none) tt

plain_wanted : (is : Bool) (v : Option GivenSoFar) (P : GivenSoFar → Type 0) → IfSome v P → IfSome (if is then v else None) P
plain_wanted true v P h = h
plain_wanted false v P h = tt

plain_saved : (save : Option (List ℕ)) (line : List ℕ) → is_some save ≡ false → saved_line save line ≡ line
plain_saved None line none = refl
plain_saved (Some words) line none = absurd (let no : true ≡ false = none in cc)

plain_line : (files : Included) (script end : List ℕ) (g : GivenSoFar) (wanted : Option (List ℕ)) → NoFiles files → is_some (save_asked g) ≡ false
    → IfSome (given_read files script end g wanted) (λ h. (h.text ≡ g.text ++ (g.line ++ end)) × (h.line ≡ []))
plain_line files script end g None none still = (ap (λ (t : List ℕ). g.text ++ t) (plain_saved (save_asked g) (g.line ++ end) still), refl)
plain_line files script end g (Some path) none still = plain_wanted (is_path path) _ _
    (plain_found g (path_beside script path) (files (path_beside script path) (one_line_more g.number)) _
    (none (path_beside script path) (one_line_more g.number)))

if_some_map : (v : Option GivenSoFar) (P Q : GivenSoFar → Type 0) → ((h : GivenSoFar) → P h → Q h) → IfSome v P → IfSome v Q
if_some_map None P Q f h = tt
if_some_map (Some g) P Q f h = f g h

if_some_then : (v : Option GivenSoFar) (f : GivenSoFar → Option GivenSoFar) (P Q : GivenSoFar → Type 0) → ((h : GivenSoFar) → P h → IfSome (f h) Q) → IfSome v P
    → IfSome (option_and_then f v) Q
if_some_then None f P Q next h = tt
if_some_then (Some g) f P Q next h = next g h

plain_ended : (files : Included) (script end : List ℕ) (g : GivenSoFar) → NoFiles files → is_some (save_asked g) ≡ false
    → IfSome (given_ended files script end g) (λ h. h.text ++ h.line ≡ (g.text ++ g.line) ++ end)
plain_ended files script end g none still =
    if_some_map (given_ended files script end g) (λ h. (h.text ≡ g.text ++ (g.line ++ end)) × (h.line ≡ []))
    (λ h. h.text ++ h.line ≡ (g.text ++ g.line) ++ end)
    (λ h is. ap (λ (l : List ℕ). h.text ++ l) is.1 ∙ append-nil h.text ∙ is.0 ∙ sym (append_assoc g.text g.line end))
    (plain_line files script end g (include_of g.is_in_block (strip_carriage_return g.line)) none still)

plain_choice : (is : Bool) (a b : Option GivenSoFar) (P : GivenSoFar → Type 0) → (is ≡ true → IfSome a P) → IfSome b P → IfSome (if is then a else b) P
plain_choice true a b P h k = h refl
plain_choice false a b P h k = k

other_false : (one other : Bool) → (one && other) ≡ false → one ≡ true → other ≡ false
other_false true other none is = none
other_false false other none is = absurd (let no : false ≡ true = is in cc)

plain_byte : (files : Included) (script : List ℕ) (g : GivenSoFar) (byte : ℕ) → NoFiles files → ((byte == 10) && is_some (save_asked g)) ≡ false
    → IfSome (given_byte files script g byte) (λ h. h.text ++ h.line ≡ (g.text ++ g.line) ++ byte ∷ [])
plain_byte files script g byte none still = plain_choice (byte == 10) (given_ended files script (byte ∷ []) g) (Some (record g { line = g.line ++ byte ∷ [] }))
    (λ h. h.text ++ h.line ≡ (g.text ++ g.line) ++ byte ∷ [])
    (λ is. plain_ended files script (byte ∷ []) g none (other_false (byte == 10) (is_some (save_asked g)) still is))
    (sym (append_assoc g.text g.line (byte ∷ [])))

-- what is said of a value that is there, twice
if_some_both : (v : Option GivenSoFar) (P Q : GivenSoFar → Type 0) → IfSome v P → IfSome v Q → IfSome v (λ h. P h × Q h)
if_some_both None P Q h k = tt
if_some_both (Some g) P Q h k = (h, k)

asked_then : (v : Option GivenSoFar) (f : GivenSoFar → Bool) → unwrap_or (option_map f v) false ≡ false → IfSome v (λ h. f h ≡ false)
asked_then None f none = tt
asked_then (Some g) f none = none

plain_bytes : (files : Included) (script : List ℕ) (g : GivenSoFar) (bytes : List ℕ) → NoFiles files → asks_save files script g bytes ≡ false
    → IfSome (given_bytes files script g bytes) (λ h. (h.text ++ h.line ≡ (g.text ++ g.line) ++ bytes) × (is_some (save_asked h) ≡ false))
unfolding given_bytes asks_save
plain_bytes files script g [] none still = (sym (append-nil (g.text ++ g.line)), still)
plain_bytes files script g (byte ∷ rest) none still =
    let parts = or_parts ((byte == 10) && is_some (save_asked g))
    (unwrap_or (option_map (λ h. asks_save files script h rest) (given_byte files script g byte)) false) still in
    if_some_then (given_byte files script g byte) (λ h. given_bytes files script h rest)
    (λ h. (h.text ++ h.line ≡ (g.text ++ g.line) ++ byte ∷ []) × (asks_save files script h rest ≡ false))
    (λ k. (k.text ++ k.line ≡ (g.text ++ g.line) ++ (byte ∷ rest)) × (is_some (save_asked k) ≡ false))
    (λ h is. if_some_map (given_bytes files script h rest)
    (λ k. (k.text ++ k.line ≡ (h.text ++ h.line) ++ rest) × (is_some (save_asked k) ≡ false))
    (λ k. (k.text ++ k.line ≡ (g.text ++ g.line) ++ (byte ∷ rest)) × (is_some (save_asked k) ≡ false))
    (λ k same. (same.0 ∙ ap (λ (xs : List ℕ). xs ++ rest) is.0 ∙ append_assoc (g.text ++ g.line) (byte ∷ []) rest, same.1))
    (plain_bytes files script h rest none is.1))
    (if_some_both (given_byte files script g byte) (λ h. h.text ++ h.line ≡ (g.text ++ g.line) ++ byte ∷ [])
    (λ h. asks_save files script h rest ≡ false) (plain_byte files script g byte none parts.0)
    (asked_then (given_byte files script g byte) (λ h. asks_save files script h rest) parts.1))

plain_last : (files : Included) (script : List ℕ) (g : GivenSoFar) (line : List ℕ) → NoFiles files → g.line ≡ line → is_some (save_asked g) ≡ false
    → IfSome (if length line == 0 then Some g else given_ended files script [] g) (λ h. h.text ≡ g.text ++ g.line)
plain_last files script g [] none is still = sym (ap (λ (l : List ℕ). g.text ++ l) is ∙ append-nil g.text)
plain_last files script g (byte ∷ rest) none is still =
    subst (λ (b : Bool). IfSome (if b then Some g else given_ended files script [] g) (λ h. h.text ≡ g.text ++ g.line))
    (let shut : false ≡ (length (byte ∷ rest) == 0) = grind (arith, nat_tests) in shut)
    (if_some_map (given_ended files script [] g) (λ h. (h.text ≡ g.text ++ (g.line ++ [])) × (h.line ≡ []))
    (λ h. h.text ≡ g.text ++ g.line) (λ h same. same.0 ∙ ap (λ (l : List ℕ). g.text ++ l) (append-nil g.line))
    (plain_line files script [] g (include_of g.is_in_block (strip_carriage_return g.line)) none still))

pub plain_stays : (files : Included) → NoFiles files → (script bytes : List ℕ) → asks_save files script (given_none 0) bytes ≡ false
    → IfSome (given_all files script [] (given_none 0) bytes) (λ g. g.text ≡ bytes)
plain_stays files none script bytes still =
    if_some_then (given_bytes files script (given_none 0) bytes) (given_last files script [])
    (λ h. (h.text ++ h.line ≡ bytes) × (is_some (save_asked h) ≡ false)) (λ g. g.text ≡ bytes)
    (λ h is. if_some_map (given_last files script [] h) (λ g. g.text ≡ h.text ++ h.line) (λ g. g.text ≡ bytes) (λ g same. same ∙ is.0)
    (plain_last files script h h.line none refl is.1)) (plain_bytes files script (given_none 0) bytes none still)

-- What a script is still to give, as it is read and as it is pulled.
use Rattle.std.proofs.Common.{◌≡◌, ◌<◌, ◌≤◌, ◌+◌, ℕ, Bool, true, false, List, [], ◌∷◌, ◌++◌, length, get_or, take, drop, min, Option, Some, None, IfSome, IfNone, IsSome, take_at, ap, sym, subst, ◌∙◌, arith}
use Rattle.std.specs.Prelude.{option_map, option_and_then}
use Rattle.std.specs.Io.KnownBytes.{Consumes, IsAtEnd, Keeps}
use Rattle.std.proofs.Math.Seq.{drop-append_seam}
use Rattle.std.proofs.lemmas.List.{drop-append-le, drop-drop, drop_more, get_or-take, length-drop, length-take, take-append-drop, take-append-le}
use Rattle.profile.proofs.KnownLemmas.{Keeps-self, Keeps-twice}
use Rattle.debug_program.specs.declared.including.GivenText.{GivenText}
use Rattle.debug_program.specs.Including.{GivenSoFar, Included, StaysKnown, script_left, given_all, given_byte, given_last, given_wanted}
use Rattle.debug_program.specs.GoingOn.{known_unless}
use Rattle.debug_program.proofs.IncludingLemmas.{in_front, last_stays, stays_then, step_stays, text_apart, given_nothing}

-- a terminal's input isn't known
pub keeps_unless : (is_terminal : Bool) (a b : Option (List ℕ)) → Keeps a b
    → Keeps (known_unless is_terminal a) (known_unless is_terminal b)
keeps_unless true a b kept = tt
keeps_unless false a b kept = kept

pub consumes_unless : (is_terminal : Bool) (a b : Option (List ℕ)) (bytes : List ℕ) → Consumes a b bytes
    → Consumes (known_unless is_terminal a) (known_unless is_terminal b) bytes
consumes_unless true a b bytes taken = tt
consumes_unless false a b bytes taken = taken

end_unless : (is_terminal : Bool) (a : Option (List ℕ)) → IsAtEnd a → IsAtEnd (known_unless is_terminal a)
end_unless true a end = tt
end_unless false a end = end

-- READING

shown_stays : (n : ℕ) (a b : Option GivenSoFar) → StaysKnown a b
    → Keeps (option_map (λ h. drop n h.text) a) (option_map (λ h. drop n h.text) b)
shown_stays n None b stays = tt
shown_stays n (Some h) b stays = subst (λ (v : Option GivenSoFar). Keeps (Some (drop n h.text)) (option_map (λ k. drop n k.text) v)) (sym stays)
    (Keeps-self (Some (drop n h.text)))

left_stays : (n : ℕ) (one other : List ℕ → Option GivenSoFar) (known : Option (List ℕ)) → ((bytes : List ℕ) → StaysKnown (one bytes) (other bytes))
    → Keeps (option_and_then (λ bytes. option_map (λ h. drop n h.text) (one bytes)) known)
    (option_and_then (λ bytes. option_map (λ h. drop n h.text) (other bytes)) known)
left_stays n one other None stays = tt
left_stays n one other (Some bytes) stays = shown_stays n (one bytes) (other bytes) (stays bytes)

byte_first : (piece : List ℕ) (taken end byte : ℕ) → taken < length piece → byte ≡ get_or piece taken 0 → taken < end
    → drop taken (take end piece) ≡ byte ∷ drop (taken + 1) (take end piece)
byte_first piece taken end byte inside is within =
    drop_more (take end piece) taken 0 (omega (arith, inside, within, length-take end piece))
    ∙ ap (λ (b : ℕ). b ∷ drop (taken + 1) (take end piece)) (get_or-take end piece taken 0 within ∙ sym is)

-- a byte of the piece is taken
pub byte_kept : (files : Included) (script : List ℕ) (g mid h : GivenSoFar) (wanted : Option (List ℕ)) (piece : List ℕ) (taken end byte : ℕ)
    (known : Option (List ℕ)) → taken < length piece → byte ≡ get_or piece taken 0 → taken < end
    → given_byte files script g byte ≡ given_wanted files script mid wanted
    → IfSome (given_wanted files script mid wanted) (λ k. h ≡ k)
    → Keeps (script_left files script 0 g (drop taken (take end piece)) known)
    (script_left files script 0 h (drop (taken + 1) (take end piece)) known)
byte_kept files script g mid h wanted piece taken end byte known inside is within step there =
    subst (λ (unread : List ℕ). Keeps (script_left files script 0 g unread known)
    (script_left files script 0 h (drop (taken + 1) (take end piece)) known)) (sym (byte_first piece taken end byte inside is within))
    (left_stays 0 (λ bytes. given_all files script [] g (byte ∷ (drop (taken + 1) (take end piece) ++ bytes)))
    (λ bytes. given_all files script [] h (drop (taken + 1) (take end piece) ++ bytes)) known
    (λ bytes. stays_then _ _ (given_last files script [])
    (step_stays files script g mid h wanted byte (drop (taken + 1) (take end piece) ++ bytes) step there)))

-- the next piece is there, all of the one before it was taken
pub piece_kept : (files : Included) (script : List ℕ) (g : GivenSoFar) (old now : List ℕ) (a b : Option (List ℕ)) → old ≡ [] → Consumes a b now
    → Keeps (script_left files script 0 g old a) (script_left files script 0 g now b)
piece_kept files script g old now None b none taken = tt
piece_kept files script g old now (Some xs) None none taken = absurd taken
piece_kept files script g old now (Some xs) (Some ys) none taken =
    subst (λ (bytes : List ℕ). Keeps (option_map (λ h. drop 0 h.text) (given_all files script [] g bytes))
    (option_map (λ h. drop 0 h.text) (given_all files script [] g (now ++ ys))))
    (sym (ap (λ (u : List ℕ). u ++ xs) none ∙ taken))
    (Keeps-self (option_map (λ h. drop 0 h.text) (given_all files script [] g (now ++ ys))))

-- it can't be had
pub fault_kept : (files : Included) (script : List ℕ) (g : GivenSoFar) (old now : List ℕ) (a b : Option (List ℕ)) → old ≡ [] → now ≡ [] → Keeps a b
    → Keeps (script_left files script 0 g old a) (script_left files script 0 g now b)
fault_kept files script g old now None b none still kept = tt
fault_kept files script g old now (Some xs) None none still kept = absurd kept
fault_kept files script g old now (Some xs) (Some ys) none still kept =
    piece_kept files script g old now (Some xs) (Some ys) none (sym kept ∙ ap (λ (u : List ℕ). u ++ ys) (sym still))

ended_all : (files : Included) (script : List ℕ) (h : GivenSoFar) → h.line ≡ [] → given_all files script [] h [] ≡ Some h
ended_all files script h whole =
    ap (option_and_then (given_last files script [])) (given_nothing files script h)
    ∙ ap (λ (line : List ℕ). given_last files script [] (record h { line = line })) whole
    ∙ ap (λ (line : List ℕ). let k : GivenSoFar = record h { line = line } in Some k) (sym whole)

-- the last line is taken
pub last_kept : (files : Included) (script : List ℕ) (g mid h : GivenSoFar) (wanted : Option (List ℕ)) (known : Option (List ℕ))
    → IsAtEnd known → h.line ≡ []
    → given_last files script [] g ≡ given_wanted files script mid wanted
    → IfSome (given_wanted files script mid wanted) (λ k. h ≡ k)
    → Keeps (script_left files script 0 g [] known) (script_left files script 0 h [] known)
last_kept files script g mid h wanted None end whole last there = tt
last_kept files script g mid h wanted (Some bytes) end whole last there =
    subst (λ (xs : List ℕ). Keeps (option_map (λ k. drop 0 k.text) (given_all files script [] g xs))
    (option_map (λ k. drop 0 k.text) (given_all files script [] h xs))) (sym end)
    (shown_stays 0 (given_all files script [] g []) (given_all files script [] h [])
    (subst (λ (v : Option GivenSoFar). StaysKnown (option_and_then (given_last files script []) v) (given_all files script [] h []))
    (sym (given_nothing files script g))
    (subst (λ (v : Option GivenSoFar). StaysKnown (given_last files script [] g) v) (sym (ended_all files script h whole))
    (last_stays files script [] g mid h wanted last there))))

-- all is given
pub at_end : (is_terminal : Bool) (files : Included) (script : List ℕ) (h : GivenSoFar) (known : Option (List ℕ))
    → IsAtEnd known → h.line ≡ [] → h.text ≡ [] → IsAtEnd (known_unless is_terminal (script_left files script 0 h [] known))
at_end is_terminal files script h None end whole none = end_unless is_terminal None tt
at_end is_terminal files script h (Some bytes) end whole none =
    subst (λ (xs : List ℕ). IsAtEnd (known_unless is_terminal (option_map (λ k. drop 0 k.text) (given_all files script [] h xs)))) (sym end)
    (subst (λ (v : Option GivenSoFar). IsAtEnd (known_unless is_terminal (option_map (λ k. drop 0 k.text) v))) (sym (ended_all files script h whole))
    (end_unless is_terminal (Some h.text) none))

-- READING A PIECE, WHERE NOTHING IS PULLED YET

pub none_pulled : (pulled count : ℕ) → pulled ≡ 0 → min pulled count ≡ 0
none_pulled pulled count none = omega (arith, none)

-- the line that was open is taken, or its file
pub line_gone : {A : Type 0} (wanted : Option A) (now mid : GivenText) → IfSome wanted (λ _. now.line.items ≡ [])
    → IfNone wanted (now ≡ mid) → IfNone wanted (mid.line.items ≡ []) → now.line.items ≡ []
line_gone None now mid there same gone = ap (λ (g : GivenText). g.line.items) same ∙ gone
line_gone (Some w) now mid there same gone = there

-- a state that a piece left at its end, where nothing was pulled before it and nothing was left of the piece before
abbrev pub KeptOver : Bool → Included → List ℕ → ℕ → GivenSoFar → List ℕ → Option (List ℕ) → GivenSoFar → List ℕ → Option (List ℕ) → Type 0
KeptOver is_terminal files script pulled g old a h now b =
    Keeps (known_unless is_terminal (script_left files script (min pulled (length g.text)) g old a))
    (known_unless is_terminal (script_left files script (min pulled (length h.text)) h now b))

pub kept_over : (is_terminal : Bool) (files : Included) (script : List ℕ) (pulled : ℕ) (g : GivenSoFar) (old : List ℕ) (a : Option (List ℕ))
    (h : GivenSoFar) (now : List ℕ) (b : Option (List ℕ)) → pulled ≡ 0
    → Keeps (script_left files script 0 g old a) (script_left files script 0 h now b)
    → KeptOver is_terminal files script pulled g old a h now b
kept_over is_terminal files script pulled g old a h now b none kept =
    keeps_unless is_terminal (script_left files script (min pulled (length g.text)) g old a)
    (script_left files script (min pulled (length h.text)) h now b)
    (subst (λ (m : ℕ). Keeps (script_left files script m g old a) (script_left files script (min pulled (length h.text)) h now b))
    (sym (none_pulled pulled (length g.text) none))
    (subst (λ (m : ℕ). Keeps (script_left files script 0 g old a) (script_left files script m h now b))
    (sym (none_pulled pulled (length h.text) none)) kept))

-- the last line is taken
pub read_last : (is_terminal : Bool) (files : Included) (script : List ℕ) (pulled : ℕ) (g mid h : GivenSoFar) (wanted : Option (List ℕ))
    (old now : List ℕ) (a b : Option (List ℕ)) → pulled ≡ 0 → old ≡ [] → now ≡ [] → Consumes a b now → IsAtEnd b → h.line ≡ []
    → given_last files script [] g ≡ given_wanted files script mid wanted
    → IfSome (given_wanted files script mid wanted) (λ k. h ≡ k)
    → KeptOver is_terminal files script pulled g old a h now b
read_last is_terminal files script pulled g mid h wanted old now a b none gone empty taken end whole last there =
    kept_over is_terminal files script pulled g old a h now b none
    (subst (λ (u : List ℕ). Keeps (script_left files script 0 g old a) (script_left files script 0 h u b)) (sym empty)
    (Keeps-twice (script_left files script 0 g old a) (script_left files script 0 g [] b) (script_left files script 0 h [] b)
    (piece_kept files script g old [] a b gone (subst (λ (u : List ℕ). Consumes a b u) empty taken))
    (last_kept files script g mid h wanted b end whole last there)))

-- it isn't, and all stays
pub read_refused : (is_terminal : Bool) (files : Included) (script : List ℕ) (pulled : ℕ) (g h : GivenSoFar)
    (old now : List ℕ) (a b : Option (List ℕ)) → pulled ≡ 0 → old ≡ [] → Consumes a b now → h ≡ g
    → KeptOver is_terminal files script pulled g old a h now b
read_refused is_terminal files script pulled g h old now a b none gone taken same =
    subst (λ (k : GivenSoFar). KeptOver is_terminal files script pulled g old a k now b) (sym same)
    (kept_over is_terminal files script pulled g old a g now b none (piece_kept files script g old now a b gone taken))

-- what is said of a value that is there
pub there : {A : Type 0} (v : Option A) (P : Type 0) → IsSome v → IfSome v (λ _. P) → P
there None P is h = absurd (let no : false ≡ true = is in cc)
there (Some a) P is h = h

-- a byte isn't taken, and all stays
pub byte_refused : (is_terminal : Bool) (files : Included) (script : List ℕ) (pulled : ℕ) (g h : GivenSoFar)
    (unread : List ℕ) (known : Option (List ℕ)) → h ≡ g
    → KeptOver is_terminal files script pulled g unread known h unread known
byte_refused is_terminal files script pulled g h unread known same =
    subst (λ (k : GivenSoFar). KeptOver is_terminal files script pulled g unread known k unread known) (sym same)
    (Keeps-self (known_unless is_terminal (script_left files script (min pulled (length g.text)) g unread known)))

-- all is given
pub read_end : (is_terminal : Bool) (files : Included) (script : List ℕ) (pulled : ℕ) (h : GivenSoFar) (now : List ℕ) (b : Option (List ℕ))
    → pulled ≡ 0 → now ≡ [] → IsAtEnd b → h.line ≡ [] → h.text ≡ []
    → IsAtEnd (known_unless is_terminal (script_left files script (min pulled (length h.text)) h now b))
read_end is_terminal files script pulled h now b none empty end whole nothing =
    subst (λ (m : ℕ). IsAtEnd (known_unless is_terminal (script_left files script m h now b))) (sym (none_pulled pulled (length h.text) none))
    (subst (λ (u : List ℕ). IsAtEnd (known_unless is_terminal (script_left files script 0 h u b))) (sym empty)
    (at_end is_terminal files script h b end whole nothing))

-- PULLING

-- what is given begins with what was given
pulled_left : (files : Included) (script : List ℕ) (g : GivenSoFar) (m n : ℕ) (v : Option GivenSoFar) → m + n ≤ length g.text
    → Consumes (option_map (λ h. drop m h.text) (option_map (in_front g.text) v))
    (option_map (λ h. drop (m + n) h.text) (option_map (in_front g.text) v)) (take n (drop m g.text))
pulled_left files script g m n None within = tt
pulled_left files script g m n (Some k) within =
    let all : List ℕ = g.text ++ k.text in
    let front : drop m all ≡ drop m g.text ++ k.text = drop-append-le m g.text k.text (omega (arith, within)) in
    let first : take n (drop m all) ≡ take n (drop m g.text) =
    ap (take n) front ∙ take-append-le n (drop m g.text) k.text (omega (arith, within, length-drop m g.text)) in
    sym (take-append-drop n (drop m all)) ∙ ap (λ (u : List ℕ). u ++ drop n (drop m all)) first
    ∙ ap (λ (u : List ℕ). take n (drop m g.text) ++ u) (drop-drop n m all)

pub put_consumes : (files : Included) (script : List ℕ) (g : GivenSoFar) (unread : List ℕ) (m n : ℕ) (known : Option (List ℕ))
    → m + n ≤ length g.text
    → Consumes (script_left files script m g unread known) (script_left files script (m + n) g unread known) (take n (drop m g.text))
put_consumes files script g unread m n None within = tt
put_consumes files script g unread m n (Some bytes) within =
    subst (λ (v : Option GivenSoFar). Consumes (option_map (λ h. drop m h.text) v) (option_map (λ h. drop (m + n) h.text) v) (take n (drop m g.text)))
    (sym (text_apart files script [] g (unread ++ bytes)))
    (pulled_left files script g m n (given_all files script [] (record g { text = [] }) (unread ++ bytes)) within)

-- all that was given is pulled, and goes
cleared_left : (g : GivenSoFar) (v : Option GivenSoFar)
    → Keeps (option_map (λ h. drop (length g.text) h.text) (option_map (in_front g.text) v)) (option_map (λ h. drop 0 h.text) v)
cleared_left g None = tt
cleared_left g (Some k) = sym (drop-append_seam g.text k.text)

pub clear_kept : (files : Included) (script : List ℕ) (g : GivenSoFar) (unread : List ℕ) (known : Option (List ℕ))
    → Keeps (script_left files script (length g.text) g unread known) (script_left files script 0 (record g { text = [] }) unread known)
clear_kept files script g unread None = tt
clear_kept files script g unread (Some bytes) =
    subst (λ (v : Option GivenSoFar). Keeps (option_map (λ h. drop (length g.text) h.text) v)
    (option_map (λ h. drop 0 h.text) (given_all files script [] (record g { text = [] }) (unread ++ bytes))))
    (sym (text_apart files script [] g (unread ++ bytes)))
    (cleared_left g (given_all files script [] (record g { text = [] }) (unread ++ bytes)))

pub put_so : (is_terminal : Bool) (files : Included) (script : List ℕ) (g : GivenSoFar) (unread : List ℕ) (known : Option (List ℕ))
    (pulled from count : ℕ) (copied rest : List ℕ) → from ≡ min pulled (length g.text) → from + count ≤ length g.text
    → copied ≡ take count (drop from g.text)
    → Consumes (known_unless is_terminal (script_left files script (min pulled (length g.text)) g unread known))
    (known_unless is_terminal (script_left files script (min (from + count) (length g.text)) g unread known)) (take count (copied ++ rest))
put_so is_terminal files script g unread known pulled from count copied rest is within are =
    let many : length copied ≡ count = ap (λ (xs : List ℕ). length xs) are ∙ omega (arith, length-take count (drop from g.text), length-drop from g.text, within) in
    let then : min (from + count) (length g.text) ≡ from + count = omega (arith, within) in
    let bytes : take count (copied ++ rest) ≡ take count (drop from g.text) = take_at copied rest count many ∙ are in
    consumes_unless is_terminal (script_left files script (min pulled (length g.text)) g unread known)
    (script_left files script (min (from + count) (length g.text)) g unread known) (take count (copied ++ rest))
    (subst (λ (m : ℕ). Consumes (script_left files script m g unread known)
    (script_left files script (min (from + count) (length g.text)) g unread known) (take count (copied ++ rest))) is
    (subst (λ (m : ℕ). Consumes (script_left files script from g unread known) (script_left files script m g unread known) (take count (copied ++ rest))) (sym then)
    (subst (λ (xs : List ℕ). Consumes (script_left files script from g unread known) (script_left files script (from + count) g unread known) xs) (sym bytes)
    (put_consumes files script g unread from count known within))))

-- what was pulled goes
pub clear_so : (is_terminal : Bool) (files : Included) (script : List ℕ) (g : GivenSoFar) (unread : List ℕ) (known : Option (List ℕ))
    (pulled now : ℕ) (text : List ℕ) → length g.text ≤ pulled → text ≡ []
    → Keeps (known_unless is_terminal (script_left files script (min pulled (length g.text)) g unread known))
    (known_unless is_terminal (script_left files script (min now (length text)) (record g { text = text }) unread known))
clear_so is_terminal files script g unread known pulled now text all none =
    let end : min pulled (length g.text) ≡ length g.text = omega (arith, all) in
    let start : min now (length text) ≡ 0 = ap (λ (xs : List ℕ). min now (length xs)) none ∙ omega arith in
    keeps_unless is_terminal (script_left files script (min pulled (length g.text)) g unread known)
    (script_left files script (min now (length text)) (record g { text = text }) unread known)
    (subst (λ (m : ℕ). Keeps (script_left files script m g unread known)
    (script_left files script (min now (length text)) (record g { text = text }) unread known)) (sym end)
    (subst (λ (m : ℕ). Keeps (script_left files script (length g.text) g unread known)
    (script_left files script m (record g { text = text }) unread known)) (sym start)
    (subst (λ (xs : List ℕ). Keeps (script_left files script (length g.text) g unread known)
    (script_left files script 0 (record g { text = xs }) unread known)) (sym none)
    (clear_kept files script g unread known))))

-- what a person types isn't known
pub typed_kept : (one other : Bool) (a b : Option (List ℕ)) → other ≡ one → one ≡ true → Keeps (known_unless one a) (known_unless other b)
typed_kept true other a b same is = tt
typed_kept false other a b same is = absurd (let no : false ≡ true = is in cc)

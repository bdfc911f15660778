-- The blocks of the flex store by names in which no address in the store and no number of a block
-- stands: a block whose anchor is a word elsewhere is named by the address of that word, and one
-- whose anchor lies in another block by the name of that one, and how far into its contents it is.
use Rattle.std.specs.Prelude.{ℕ, zero, suc, Bool, false, ◌+◌, ◌-◌, ◌==◌, ◌&&◌, nat_lt, List, [], ◌∷◌, Option, None, Some, if◌then◌else◌}
use Rattle.std.specs.Option.{option_and_then, option_map}
use Rattle.law_machine.specs.flex.Numbered.{Anchor, Fixed, Inside, SeenBlock, word_shown}

pub data Name : Type 0 where
  At : ℕ → Name
  In : Name → ℕ → Name

abbrev pub same_name : Name → Name → Bool
same_name (At a) (At c) = a == c
same_name (At a) (In z p) = false
same_name (In y o) (At c) = false
same_name (In y o) (In z p) = same_name y z && o == p

abbrev pub same_place : Anchor → Anchor → Bool
same_place (Fixed a) (Fixed c) = a == c
same_place (Fixed a) (Inside n p) = false
same_place (Inside m o) (Fixed c) = false
same_place (Inside m o) (Inside n p) = m == n && o == p

-- the number of the block whose anchor is at a place, where the first one's number is given
abbrev pub number_from : ℕ → Anchor → List SeenBlock → Option ℕ
number_from number x [] = None
number_from number x (b ∷ bs) = if same_place b.anchor x then Some number else number_from (suc number) x bs

-- the number of the block of a name
abbrev pub number_named : List SeenBlock → Name → Option ℕ
number_named bs (At a) = number_from 0 (Fixed a) bs
number_named bs (In y o) = option_and_then (λ n. number_from 0 (Inside n o) bs) (number_named bs y)

-- the place of the word that a name shows, be it an anchor or not
abbrev pub place_named : List SeenBlock → Name → Option Anchor
place_named bs (At a) = Some (Fixed a)
place_named bs (In y o) = option_map (λ n. Inside n o) (number_named bs y)

-- what the block of a number shows, and that of a name
abbrev pub shown_bytes_of : ℕ → List SeenBlock → Option (List (Option ℕ))
shown_bytes_of n [] = None
shown_bytes_of zero (b ∷ bs) = Some b.bytes
shown_bytes_of (suc n) (b ∷ bs) = shown_bytes_of n bs

abbrev pub contents_named : List SeenBlock → Name → Option (List (Option ℕ))
contents_named bs y = option_and_then (λ n. shown_bytes_of n bs) (number_named bs y)

-- What blocks show, with each byte of the word of a name seen as described, where that word lies in a
-- block.
abbrev pub shown_named : Option ℕ → Name → Name → Option (List (Option ℕ)) → Option (List (Option ℕ))
shown_named byte (At a) y shown = shown
shown_named byte (In z o) y shown = if same_name y z then option_map (word_shown byte o 0) shown else shown

-- Where a word was before a splice of its block: none was there of the zeros that came.
abbrev pub offset_before : ℕ → ℕ → ℕ → ℕ → Option ℕ
offset_before place cut more o =
    if nat_lt o (place - cut) then Some o else if nat_lt o (place - cut + more) then None
    else Some (place + (o - (place - cut + more)))

-- The name that a block had before a splice of the block of a name, by the name that it has now:
-- only names that go through that one are others.
abbrev pub name_before : Name → ℕ → ℕ → ℕ → Name → Option Name
name_before x place cut more (At a) = Some (At a)
name_before x place cut more (In y o) =
    if same_name y x then option_map (In x) (offset_before place cut more o)
    else option_map (λ z. In z o) (name_before x place cut more y)

-- The page table: the place of an address, and the table after a page got a frame or gave it back.
use Rattle.std.proofs.Common.{◌≡◌, ◌≢◌, ℕ, ◌+◌, ◌-◌, ◌*◌, ◌/◌, ◌%◌, ◌^◌, ◌<◌, ◌≤◌, ◌++◌, cond, List, [], ◌∷◌, length, get_or, set, replicate, Option, Some, None, is_some, arith, refl, sym, ◌∙◌, ap, inl, inr}
use Rattle.std.specs.List.{All, AllPairs, count_by}
use Rattle.std.proofs.lemmas.Bool.{cases_lt, cases_eq}
use Rattle.std.proofs.lemmas.List.{get_or_past, get_or-set_same, get_or-set_other, length-set, get_or-replicate, length-replicate, places}
use Rattle.std.proofs.lemmas.List.Elements.{All-pop, All-push}
use Rattle.std.proofs.lemmas.List.Folds.{sum_by-replicate}
use Rattle.std.proofs.lemmas.List.Quantifiers.{all_pairs_push}
use Rattle.std.proofs.lemmas.List.Sums.{sum_by-set}
use Rattle.address_map.specs.Pages.{AreWritten, frame_at, place_in_frame, place_in, frame_count, IsUnused, IsPageTable}

-- the frame that an address lies in
pub frame_found : (a k : ℕ) (there : Option ℕ) → place_in_frame a there ≡ Some k → (frame : ℕ) × ((there ≡ Some frame) × (k ≡ 4096 * frame + a % 4096))
frame_found a k None h = cc
frame_found a k (Some frame) h = (frame, (refl, cc))

pub frame_below : (frames : List (Option ℕ)) (page frame : ℕ) → frame_at frames page ≡ Some frame → page < length frames
frame_below frames page frame h =
    elim (cases_lt page (length frames)) [
      | inl below ↦ below
      | inr past ↦ let none : frame_at frames page ≡ None = get_or_past frames page None past in
          let e : None ≡ Some frame = sym none ∙ h in cc
    ]

pub place_within : (frames : List (Option ℕ)) (free : List ℕ) (a k : ℕ) → IsPageTable frames free → place_in frames a ≡ Some k
    → (k % 4096 ≡ a % 4096) × (k - k % 4096 + 4096 ≤ 4096 * frame_count frames free)
place_within frames free a k table h =
    let f = frame_found a k (frame_at frames (a / 4096)) h in
    let below : f.0 < frame_count frames free = table.within (a / 4096) f.0 f.1.0 in
    let is : k ≡ 4096 * f.0 + a % 4096 = f.1.1 in
    (omega arith, omega arith)

-- the page of a mapped address lies in the bytes that were written
pub place_written : (frames : List (Option ℕ)) (len a k : ℕ) → AreWritten frames len → place_in frames a ≡ Some k
    → (k % 4096 ≡ a % 4096) × (k - k % 4096 + 4096 ≤ len)
place_written frames len a k written h =
    let f = frame_found a k (frame_at frames (a / 4096)) h in
    let fits : 4096 * f.0 + 4096 ≤ len = written (a / 4096) f.0 f.1.0 in
    let is : k ≡ 4096 * f.0 + a % 4096 = f.1.1 in
    (omega (arith, is), omega (arith, fits, is))

-- one address lies at a place
pub place_same : (frames : List (Option ℕ)) (free : List ℕ) (a b k : ℕ) → IsPageTable frames free → place_in frames a ≡ Some k → place_in frames b ≡ Some k → a ≡ b
place_same frames free a b k table h g =
    let f = frame_found a k (frame_at frames (a / 4096)) h in
    let f' = frame_found b k (frame_at frames (b / 4096)) g in
    let is : k ≡ 4096 * f.0 + a % 4096 = f.1.1 in
    let is' : k ≡ 4096 * f'.0 + b % 4096 = f'.1.1 in
    let same : f'.0 ≡ f.0 = omega arith in
    let there : frame_at frames (b / 4096) ≡ Some f.0 = f'.1.0 ∙ ap Some same in
    let page : a / 4096 ≡ b / 4096 = table.single (a / 4096) (b / 4096) f.0 f.1.0 there in
    omega arith

-- the bytes of a page lie in a row
pub place_near : (frames : List (Option ℕ)) (a b k : ℕ) → a / 4096 ≡ b / 4096 → place_in frames a ≡ Some k → place_in frames b ≡ Some (k - a % 4096 + b % 4096)
place_near frames a b k page h =
    let f = frame_found a k (frame_at frames (a / 4096)) h in
    let is : k ≡ 4096 * f.0 + a % 4096 = f.1.1 in
    let there : frame_at frames (b / 4096) ≡ Some f.0 = ap (frame_at frames) (sym page) ∙ f.1.0 in
    let e : 4096 * f.0 + b % 4096 ≡ k - a % 4096 + b % 4096 = omega arith in
    ap (place_in_frame b) there ∙ ap Some e

pub place_limit : (frames : List (Option ℕ)) (free : List ℕ) (a k : ℕ) → IsPageTable frames free → place_in frames a ≡ Some k → a < 2 ^ 26
place_limit frames free a k table h =
    let f = frame_found a k (frame_at frames (a / 4096)) h in
    omega (arith, frame_below frames (a / 4096) f.0 f.1.0, table.size)

-- the place of an address after the frame of a page was set
pub place_set : (frames : List (Option ℕ)) (page a : ℕ) (there : Option ℕ) → page < length frames → a / 4096 ≡ page
    → place_in (set frames page there) a ≡ place_in_frame a there
place_set frames page a there below is =
    ap (λ (p : ℕ). place_in_frame a (frame_at (set frames page there) p)) is ∙ ap (place_in_frame a) (get_or-set_same frames page there None below)

pub place_set_other : (frames : List (Option ℕ)) (page a : ℕ) (there : Option ℕ) → a / 4096 ≢ page → place_in (set frames page there) a ≡ place_in frames a
place_set_other frames page a there other = ap (place_in_frame a) (get_or-set_other frames page (a / 4096) there None other)

abbrev one : Option ℕ → ℕ
one there = cond (is_some there) 1 0

count_set : (frames : List (Option ℕ)) (page : ℕ) (there was : Option ℕ) → page < length frames → frame_at frames page ≡ was
    → count_by is_some (set frames page there) + one was ≡ count_by is_some frames + one there
count_set frames page there was below is = let e = sum_by-set one frames page there None below in rw is at e

get_or-front : (xs : List ℕ) (x k d : ℕ) → k < length xs → get_or (xs ++ x ∷ []) k d ≡ get_or xs k d
get_or-front xs x k d below = grind (arith, places)

get_or-last : (xs : List ℕ) (x d : ℕ) → get_or (xs ++ x ∷ []) (length xs) d ≡ x
get_or-last xs x d = grind (arith, places)

pub length-last : (xs : List ℕ) (x : ℕ) → length (xs ++ x ∷ []) ≡ length xs + 1
length-last xs x = grind (arith, places)

-- a free frame is that of a page now
module _ (frames : List (Option ℕ)) (free : List ℕ) (page frame : ℕ) (table : IsPageTable frames (free ++ frame ∷ [])) (below : page < length frames) (none : frame_at frames page ≡ None) where
  abbrev given : List (Option ℕ)
  given = set frames page (Some frame)

  pub count_given : frame_count given free ≡ frame_count frames (free ++ frame ∷ [])
  count_given = omega (arith, count_set frames page (Some frame) None below none, length-last free frame)

  pub unused_frame : IsUnused frames frame
  unused_frame = (All-pop (IsUnused frames) (free ++ frame ∷ []) free (Some frame) refl table.unused).1

  pub fits_frame : frame < frame_count frames (free ++ frame ∷ [])
  fits_frame = (All-pop (λ f. f < frame_count frames (free ++ frame ∷ [])) (free ++ frame ∷ []) free (Some frame) refl table.free_within).1

  at_page : frame_at given page ≡ Some frame
  at_page = get_or-set_same frames page (Some frame) None below

  elsewhere : (other : ℕ) → other ≢ page → frame_at given other ≡ frame_at frames other
  elsewhere other differ = get_or-set_other frames page other (Some frame) None differ

  is_frame : (other f : ℕ) → other ≡ page → frame_at given other ≡ Some f → frame ≡ f
  is_frame other f same is =
      let e : frame_at given page ≡ Some f = ap (frame_at given) (sym same) ∙ is in
      let e' : Some frame ≡ Some f = sym at_page ∙ e in cc

  not_frame : (k d : ℕ) → k < length free → get_or free k d ≢ frame
  not_frame k d less same =
      table.apart k (length free) d less (omega (arith, length-last free frame))
      (get_or-front free frame k d less ∙ (same ∙ sym (get_or-last free frame d)))

  pub table_given : IsPageTable given free
  table_given = record {
    size = omega (arith, table.size, length-set frames page (Some frame));
    within = λ other f is. elim (cases_eq other page) [
      | inl same ↦ omega (arith, is_frame other f same is, fits_frame, count_given)
      | inr differ ↦ omega (arith, table.within other f (sym (elsewhere other differ) ∙ is), count_given)
    ];
    single = λ p q f is is'. elim (cases_eq p page) [
      | inl same ↦ elim (cases_eq q page) [
        | inl same' ↦ same ∙ sym same'
        | inr differ ↦ absurd (unused_frame q (sym (elsewhere q differ) ∙ (is' ∙ ap Some (sym (is_frame p f same is)))))
      ]
      | inr differ ↦ elim (cases_eq q page) [
        | inl same' ↦ absurd (unused_frame p (sym (elsewhere p differ) ∙ (is ∙ ap Some (sym (is_frame q f same' is')))))
        | inr differ' ↦ table.single p q f (sym (elsewhere p differ) ∙ is) (sym (elsewhere q differ') ∙ is')
      ]
    ];
    free_within = λ k d less. let old = (All-pop (λ f. f < frame_count frames (free ++ frame ∷ [])) (free ++ frame ∷ []) free (Some frame) refl table.free_within).0 k d less in
        omega (arith, old, count_given);
    unused = λ k d less other is. elim (cases_eq other page) [
      | inl same ↦ not_frame k d less (sym (is_frame other (get_or free k d) same is))
      | inr differ ↦ (All-pop (IsUnused frames) (free ++ frame ∷ []) free (Some frame) refl table.unused).0 k d less other (sym (elsewhere other differ) ∙ is)
    ];
    apart = λ i j d low less same.
        table.apart i j d low (omega (arith, length-last free frame))
        (get_or-front free frame i d (omega arith) ∙ (same ∙ sym (get_or-front free frame j d less)));
  }

-- the frame of a page is free now
module _ (frames : List (Option ℕ)) (free : List ℕ) (page frame : ℕ) (table : IsPageTable frames free) (is : frame_at frames page ≡ Some frame) where
  abbrev left : List (Option ℕ)
  left = set frames page None

  below : page < length frames
  below = frame_below frames page frame is

  pub count_left : frame_count left (free ++ frame ∷ []) ≡ frame_count frames free
  count_left = omega (arith, count_set frames page None (Some frame) below is, length-last free frame)

  -- one page less has a frame, so there is room for it in the list
  pub room_left : length free + 1 ≤ frame_count frames free
  room_left = omega (arith, count_set frames page None (Some frame) below is)

  at_other : (other f : ℕ) → frame_at left other ≡ Some f → (other ≢ page) × (frame_at frames other ≡ Some f)
  at_other other f h = elim (cases_eq other page) [
    | inl same ↦ let e : frame_at left page ≡ Some f = ap (frame_at left) (sym same) ∙ h in
        let e' : None ≡ Some f = sym (get_or-set_same frames page None None below) ∙ e in cc
    | inr differ ↦ (differ, sym (get_or-set_other frames page other None None differ) ∙ h)
  ]

  pub table_left : IsPageTable left (free ++ frame ∷ [])
  table_left = record {
    size = omega (arith, table.size, length-set frames page None);
    within = λ other f h. omega (arith, table.within other f (at_other other f h).1, count_left);
    single = λ p q f h h'. table.single p q f (at_other p f h).1 (at_other q f h').1;
    free_within = All-push (λ f. f < frame_count left (free ++ frame ∷ [])) free frame
        (λ k d less. let old = table.free_within k d less in omega (arith, old, count_left))
        (omega (arith, table.within page frame is, count_left));
    unused = All-push (IsUnused left) free frame
        (λ k d less other h. table.unused k d less other (at_other other (get_or free k d) h).1)
        (λ other h. let o = at_other other frame h in o.0 (table.single other page frame o.1 is));
    apart = all_pairs_push ◌≢◌ free frame table.apart (λ k d less same. table.unused k d less page (is ∙ ap Some (sym same)));
  }

-- a table without any page: all frames are free
pub no_frame : (n page : ℕ) → frame_at (replicate n None) page ≡ None
no_frame n page =
    elim (cases_lt page n) [
      | inl below ↦ get_or-replicate {A = Option ℕ} n page None None below
      | inr past ↦ get_or_past (replicate n None) page None (omega (arith, length-replicate {A = Option ℕ} n None))
    ]

pub no_count : (n : ℕ) → count_by (is_some {T = ℕ}) (replicate n None) ≡ 0
no_count n = let e = sum_by-replicate one n None in omega (arith, e)

pub table_none : (n : ℕ) (frames : List (Option ℕ)) (free : List ℕ) → frames ≡ replicate n None → 4096 * n ≡ 2 ^ 26
    → All (λ f. f < length free) free → AllPairs ◌≢◌ free → IsPageTable frames free
table_none n frames free is size within apart =
    rw is (let e = no_count n in record {
      size = omega (arith, size, length-replicate {A = Option ℕ} n None);
      within = λ page f h. let e : None ≡ Some f = sym (no_frame n page) ∙ h in cc;
      single = λ p q f h h'. let e : None ≡ Some f = sym (no_frame n p) ∙ h in cc;
      free_within = λ k d less. omega (arith, within k d less);
      unused = λ k d less page h. let e : None ≡ Some (get_or free k d) = sym (no_frame n page) ∙ h in cc;
      apart = apart;
    })

pub no_place : (n : ℕ) (frames : List (Option ℕ)) (a : ℕ) → frames ≡ replicate n None → place_in frames a ≡ None
no_place n frames a is = rw is (ap (place_in_frame a) (no_frame n (a / 4096)))

-- where the frames of mapped pages lie once a page got a frame, gave it back, or none has one
pub written_more : (frames : List (Option ℕ)) (page frame len less : ℕ) → page < length frames → AreWritten frames less → less ≤ len → 4096 * frame + 4096 ≤ len
    → AreWritten (set frames page (Some frame)) len
written_more frames page frame len less below written longer fits p f h =
    elim (cases_eq p page) [
      | inl same ↦
          let here : frame_at (set frames page (Some frame)) p ≡ Some frame =
          ap (frame_at (set frames page (Some frame))) same ∙ get_or-set_same frames page (Some frame) None below in
          let e : Some f ≡ Some frame = sym h ∙ here in
          let e' : f ≡ frame = cc in
          omega (arith, e', fits)
      | inr other ↦
          let there : frame_at frames p ≡ Some f = sym (get_or-set_other frames page p (Some frame) None other) ∙ h in
          omega (arith, written p f there, longer)
    ]

pub written_less : (frames : List (Option ℕ)) (page len : ℕ) → page < length frames → AreWritten frames len → AreWritten (set frames page None) len
written_less frames page len below written p f h =
    elim (cases_eq p page) [
      | inl same ↦
          let here : frame_at (set frames page None) p ≡ None = ap (frame_at (set frames page None)) same ∙ get_or-set_same frames page None None below in
          let e : Some f ≡ None = sym h ∙ here in cc
      | inr other ↦ written p f (sym (get_or-set_other frames page p None None other) ∙ h)
    ]

pub written_none : (n : ℕ) (frames : List (Option ℕ)) (len : ℕ) → frames ≡ replicate n None → AreWritten frames len
written_none n frames len is = rw is (λ page f h. let e : None ≡ Some f = sym (no_frame n page) ∙ h in cc)

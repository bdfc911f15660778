-- Two runs of bytes that share none are taken out of the block and put back. Assumes `Logic`.
use Rattle.std.proofs.Common.{◌≡◌, ℕ, ◌+◌, ◌≤◌, ◌⊎◌, inl, inr, List, [], ◌∷◌, ◌++◌, length, take, drop, refl, sym, ap, arith, ◌∙◌, take-append-drop, length-take-le, length-append, length-drop}
use Rattle.std.proofs.lemmas.List.{places, same_lists}
use seplogic.Ra.Ura.{Ura}
use base.Logic.{ent, sep}
use base.Fml.{Fml, fsep}
use types.Logic.{Logic, sem}
use types.Kit.{‵, ◌⊛◌, ◌$◌, ◌∵◌, !, qed, move, drop as skip, use1, use2, use3, split, split3, fsplit, fjoin, rewrite, done}
use denote.Steps.{nothing}
use Rattle.raw_store.specs.Ownership.{owns_bytes_at}
use Rattle.raw_store.specs.Region.{AreApartOrEmpty, bytes_after_write}
use Rattle.raw_store.proofs.Memory.{Around, run_out, run_in, glue}

-- the order of two writes to ranges that share no place does not count
pub written_apart : (xs ws zs : List ℕ) (a b : ℕ) → a + length ws ≤ b → b + length zs ≤ length xs → bytes_after_write (bytes_after_write xs a ws) b zs ≡ bytes_after_write (bytes_after_write xs b zs) a ws
written_apart xs ws zs a b apart fits = same_lists _ _ (grind (arith, places)) (λ k d h. grind (arith, places))

written_twice : (xs ws zs : List ℕ) (l j h k : ℕ) → j ≡ length ws → k ≡ length zs → l + j ≤ h → h + k ≤ length xs
    → (take l (take h xs) ++ (ws ++ drop (l + j) (take h xs))) ++ (zs ++ drop (h + k) xs) ≡ bytes_after_write (bytes_after_write xs l ws) h zs
written_twice xs ws zs l j h k long_j long_k apart fits = same_lists _ _ (grind (arith, places)) (λ i d lt. grind (arith, places))

run_below : (xs : List ℕ) (l j h : ℕ) → l + j ≤ h → h ≤ length xs → take j (drop l (take h xs)) ≡ take j (drop l xs)
run_below xs l j h apart fits = same_lists _ _ (grind (arith, places)) (λ i d lt. grind (arith, places))

-- what the bytes end as, where one of the ranges is empty
abbrev written_by : List ℕ → ℕ → ℕ → List ℕ → List ℕ
written_by xs at n ws = take at xs ++ (ws ++ drop (at + n) xs)

take_none : (n : ℕ) (xs : List ℕ) → n ≡ 0 → take n xs ≡ []
take_none n xs none = ap (λ k. take k xs) none

written_none : (xs ws : List ℕ) (a : ℕ) → length ws ≡ 0 → bytes_after_write xs a ws ≡ xs
written_none xs [] a none = let e : a + 0 ≡ a = omega arith in rw e (take-append-drop a xs)
written_none xs (w ∷ ws) a none = absurd (omega (arith, none))

written_long : (xs ws : List ℕ) (a n : ℕ) → n ≡ length ws → written_by xs a n ws ≡ bytes_after_write xs a ws
written_long xs ws a n long = ap (λ k. take a xs ++ (ws ++ drop (a + k) xs)) long

written_first : (xs ws zs : List ℕ) (a c m : ℕ) → length ws ≡ 0 → m ≡ length zs → written_by xs c m zs ≡ bytes_after_write (bytes_after_write xs a ws) c zs
written_first xs ws zs a c m none long = written_long xs zs c m long ∙ ap (λ ys. bytes_after_write ys c zs) (sym (written_none xs ws a none))

written_last : (xs ws zs : List ℕ) (a n c : ℕ) → length zs ≡ 0 → n ≡ length ws → written_by xs a n ws ≡ bytes_after_write (bytes_after_write xs a ws) c zs
written_last xs ws zs a n c none long = written_long xs ws a n long ∙ sym (written_none (bytes_after_write xs a ws) zs c none)

module _ {M : Type 1} {𝓤 : Ura M} (𝓛 : Logic 𝓤) (b o : ℕ) (xs : List ℕ) where
  abbrev Row : ℕ → List ℕ → Fml
  Row = owns_bytes_at b

  module _ (l j h k : ℕ) where
    -- the bytes but for the j from l on and the k from h on, which lie past those
    abbrev Outside : Fml
    Outside = fsep (Around 𝓛 b o (take h xs) l j) (Row (k + (h + o)) (drop (h + k) xs))

    both_out : l + j ≤ h → h + k ≤ length xs → ent 𝓤 (sem 𝓛 (Row o xs)) (sep 𝓤 (sem 𝓛 (Row (l + o) (take j (drop l xs)))) (sep 𝓤 (sem 𝓛 (Row (h + o) (take k (drop h xs)))) (sem 𝓛 Outside)))
    both_out apart fits =
        let front = take h xs in let long : length front ≡ h = length-take-le h xs (omega arith) in
        qed 𝓛 (‵ (Row o xs) ∷ []) ∵ use1 𝓛 (‵ (Row (h + o) (take k (drop h xs))) ⊛ ‵ (Around 𝓛 b o xs h k)) (run_out 𝓛 b o xs h k fits) $ split ! $ move ! (1 ∷ []) $ fsplit ! $
        use1 𝓛 (‵ (Row (l + o) (take j (drop l front))) ⊛ ‵ (Around 𝓛 b o front l j)) (run_out 𝓛 b o front l j (omega (arith, long))) $ split ! $
        rewrite ! 0 (λ (ys : List ℕ). ‵ (Row (l + o) ys)) (run_below xs l j h apart (omega arith)) refl $ move ! (1 ∷ 2 ∷ []) $ fjoin ! $ move ! (1 ∷ 2 ∷ 0 ∷ []) $ done !

    both_in : l + j ≤ h → h + k ≤ length xs → (ws zs : List ℕ) → j ≡ length ws → k ≡ length zs
        → ent 𝓤 (sep 𝓤 (sem 𝓛 (Row (l + o) ws)) (sep 𝓤 (sem 𝓛 (Row (h + o) zs)) (sem 𝓛 Outside))) (sem 𝓛 (Row o (bytes_after_write (bytes_after_write xs l ws) h zs)))
    both_in apart fits ws zs long_j long_k =
        let cut = take h xs in let long : length cut ≡ h = length-take-le h xs (omega arith) in let rest = drop (h + k) xs in
        let front = take l cut ++ (ws ++ drop (l + j) cut) in
        let same : length front ≡ h = omega (arith, long, long_j, length-append (take l cut) (ws ++ drop (l + j) cut), length-append ws (drop (l + j) cut), length-take-le l cut (omega (arith, long)), length-drop (l + j) cut) in
        qed 𝓛 (‵ (Row (l + o) ws) ∷ ‵ (Row (h + o) zs) ∷ ‵ Outside ∷ []) ∵ move ! (2 ∷ []) $ fsplit ! $ move ! (2 ∷ 0 ∷ []) $
        use2 𝓛 (‵ (Row o front)) (run_in 𝓛 b o cut l j (omega (arith, long)) ws long_j) $ move ! (2 ∷ 1 ∷ []) $
        use2 𝓛 (‵ (Row (h + o) (zs ++ rest))) (glue 𝓛 b zs rest (h + o) (k + (h + o)) (ap (λ n. n + (h + o)) long_k)) $ move ! (1 ∷ 0 ∷ []) $
        use2 𝓛 (‵ (Row o (front ++ (zs ++ rest)))) (glue 𝓛 b front (zs ++ rest) o (h + o) (ap (λ n. n + o) (sym same))) $
        rewrite ! 0 (λ (ys : List ℕ). ‵ (Row o ys)) (written_twice xs ws zs l j h k long_j long_k apart fits) refl $ done !

  module _ (a n c m : ℕ) where
    -- the bytes but for the n from a on and the m from c on
    abbrev pub Others : AreApartOrEmpty a n c m → Fml
    Others (inl none) = Around 𝓛 b o xs c m
    Others (inr (inl none)) = Around 𝓛 b o xs a n
    Others (inr (inr (inl below))) = Outside a n c m
    Others (inr (inr (inr above))) = Outside c m a n

    pub two_out : (apart : AreApartOrEmpty a n c m) → a + n ≤ length xs → c + m ≤ length xs
        → ent 𝓤 (sem 𝓛 (Row o xs)) (sep 𝓤 (sem 𝓛 (Row (a + o) (take n (drop a xs)))) (sep 𝓤 (sem 𝓛 (Row (c + o) (take m (drop c xs)))) (sem 𝓛 (Others apart))))
    two_out (inl none) fits_a fits_c = qed 𝓛 (‵ (Row o xs) ∷ []) ∵
        use1 𝓛 (‵ (Row (c + o) (take m (drop c xs))) ⊛ ‵ (Around 𝓛 b o xs c m)) (run_out 𝓛 b o xs c m fits_c) $ split ! $ nothing ! $
        rewrite ! 0 (λ (ys : List ℕ). ‵ (Row (a + o) ys)) {x = take n (drop a xs)} (sym (take_none n (drop a xs) none)) refl $ done !
    two_out (inr (inl none)) fits_a fits_c = qed 𝓛 (‵ (Row o xs) ∷ []) ∵
        use1 𝓛 (‵ (Row (a + o) (take n (drop a xs))) ⊛ ‵ (Around 𝓛 b o xs a n)) (run_out 𝓛 b o xs a n fits_a) $ split ! $ nothing ! $
        rewrite ! 0 (λ (ys : List ℕ). ‵ (Row (c + o) ys)) {x = take m (drop c xs)} (sym (take_none m (drop c xs) none)) refl $ move ! (1 ∷ 0 ∷ 2 ∷ []) $ done !
    two_out (inr (inr (inl below))) fits_a fits_c = both_out a n c m below fits_c
    two_out (inr (inr (inr above))) fits_a fits_c = qed 𝓛 (‵ (Row o xs) ∷ []) ∵
        use1 𝓛 (‵ (Row (c + o) (take m (drop c xs))) ⊛ ‵ (Row (a + o) (take n (drop a xs))) ⊛ ‵ (Outside c m a n)) (both_out c m a n above fits_a) $ split3 ! $ move ! (1 ∷ 0 ∷ 2 ∷ []) $ done !

    pub two_in : (apart : AreApartOrEmpty a n c m) → a + n ≤ length xs → c + m ≤ length xs → (ws zs : List ℕ) → n ≡ length ws → m ≡ length zs
        → ent 𝓤 (sep 𝓤 (sem 𝓛 (Row (a + o) ws)) (sep 𝓤 (sem 𝓛 (Row (c + o) zs)) (sem 𝓛 (Others apart)))) (sem 𝓛 (Row o (bytes_after_write (bytes_after_write xs a ws) c zs)))
    two_in (inl none) fits_a fits_c ws zs long_n long_m = qed 𝓛 (‵ (Row (a + o) ws) ∷ ‵ (Row (c + o) zs) ∷ ‵ (Around 𝓛 b o xs c m) ∷ []) ∵ skip ! $
        use2 𝓛 (‵ (Row o (written_by xs c m zs))) (run_in 𝓛 b o xs c m fits_c zs long_m) $
        rewrite ! 0 (λ (ys : List ℕ). ‵ (Row o ys)) (written_first xs ws zs a c m (sym long_n ∙ none) long_m) refl $ done !
    two_in (inr (inl none)) fits_a fits_c ws zs long_n long_m = qed 𝓛 (‵ (Row (a + o) ws) ∷ ‵ (Row (c + o) zs) ∷ ‵ (Around 𝓛 b o xs a n) ∷ []) ∵ move ! (1 ∷ []) $ skip ! $
        use2 𝓛 (‵ (Row o (written_by xs a n ws))) (run_in 𝓛 b o xs a n fits_a ws long_n) $
        rewrite ! 0 (λ (ys : List ℕ). ‵ (Row o ys)) (written_last xs ws zs a n c (sym long_m ∙ none) long_n) refl $ done !
    two_in (inr (inr (inl below))) fits_a fits_c ws zs long_n long_m = both_in a n c m below fits_c ws zs long_n long_m
    two_in (inr (inr (inr above))) fits_a fits_c ws zs long_n long_m =
        qed 𝓛 (‵ (Row (a + o) ws) ∷ ‵ (Row (c + o) zs) ∷ ‵ (Outside c m a n) ∷ []) ∵ move ! (1 ∷ 0 ∷ 2 ∷ []) $
        use3 𝓛 (‵ (Row o (bytes_after_write (bytes_after_write xs c zs) a ws))) (both_in c m a n above fits_a zs ws long_m long_n) $
        rewrite ! 0 (λ (ys : List ℕ). ‵ (Row o ys)) (written_apart xs zs ws c a (omega (arith, long_m, above)) (omega (arith, long_n, fits_a))) refl $ done !

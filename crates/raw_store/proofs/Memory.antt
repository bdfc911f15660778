-- The bytes of a block are cut apart and joined. Assumes `Logic`.
--     byte_out, byte_in, run_out, run_in, byte_seen, run_seen      one byte or a run of bytes is taken out of the block, put back, or seen
--     to_cells, of_cells, to_room      bytes as the elements of a slice, and as room
use Rattle.std.proofs.Common.{◌≡◌, ℕ, zero, suc, ◌+◌, ◌<◌, ◌≤◌, List, [], ◌∷◌, ◌++◌, length, get_or, set, take, refl, sym, ap, subst, ◌∙◌, arith, take-append-drop, length-take, length-drop}
use lib.ListN.{drop}
use lib.Seq.{drop-cons, drop-drop, set_split}
use seplogic.Ra.Ura.{Ura}
use base.Fraction.{full_share}
use base.Logic.{ent, sep, via, snd∗, id⊢, mono_r}
use mir.Syntax.{ty_int, w8}
use mir.Val.{vint}
use base.Fml.{Fml, Lft, ftrue, fsep, fat, froom}
use contract.Conj.{top}
use types.Logic.{Logic, sem}
use types.SemTy.{cells}
use types.Kit.{‵, ◌⊛◌, ◌$◌, ◌∵◌, !, qed, by, move, keep, drop as skip, use1, use2, split, fsplit, fjoin, rewrite, done}
use denote.Builtin.{u8}
use denote.Memory.{part_at, mem, shared_of}
use denote.Plain.{uint_out}
use denote.Slice.{elements_shared}
use denote.Steps.{nothing}
use Rattle.raw_store.specs.Ownership.{bytes_type, owns_bytes_at}

module _ {M : Type 1} {𝓤 : Ura M} (𝓛 : Logic 𝓤) (b : ℕ) where
  abbrev Row : ℕ → List ℕ → Fml
  Row = owns_bytes_at b

  pub cut : (xs ys : List ℕ) (o at : ℕ) → at ≡ length xs + o → ent 𝓤 (sem 𝓛 (Row o (xs ++ ys))) (sep 𝓤 (sem 𝓛 (Row o xs)) (sem 𝓛 (Row at ys)))
  cut [] ys o at e = qed 𝓛 (‵ (Row o ys) ∷ []) ∵ rewrite ! 0 (λ (k : ℕ). ‵ (Row k ys)) {x = at} (omega arith) refl $ nothing ! $ done !
  cut (x ∷ xs) ys o at e = qed 𝓛 (‵ (Row o (x ∷ xs ++ ys)) ∷ []) ∵ fsplit ! $ move ! (1 ∷ []) $
      use1 𝓛 (‵ (Row (o + 1) xs) ⊛ ‵ (Row at ys)) (cut xs ys (o + 1) at (omega arith)) $ split ! $ move ! (2 ∷ 0 ∷ []) $ fjoin ! $ done !

  pub glue : (xs ys : List ℕ) (o at : ℕ) → at ≡ length xs + o → ent 𝓤 (sep 𝓤 (sem 𝓛 (Row o xs)) (sem 𝓛 (Row at ys))) (sem 𝓛 (Row o (xs ++ ys)))
  glue [] ys o at e = qed 𝓛 (‵ ftrue ∷ ‵ (Row at ys) ∷ []) ∵ skip ! $ rewrite ! 0 (λ (k : ℕ). ‵ (Row k ys)) {x = o} (omega arith) refl $ done !
  glue (x ∷ xs) ys o at e = qed 𝓛 (‵ (Row o (x ∷ xs)) ∷ ‵ (Row at ys) ∷ []) ∵ fsplit ! $ move ! (1 ∷ 2 ∷ []) $
      use2 𝓛 (‵ (Row (o + 1) (xs ++ ys))) (glue xs ys (o + 1) at (omega arith)) $ move ! (1 ∷ 0 ∷ []) $ fjoin ! $ done !

  module _ (o : ℕ) (xs : List ℕ) (i : ℕ) where
    -- the bytes but for the i-th
    abbrev pub Besides : Fml
    Besides = fsep (Row o (take i xs)) (Row (i + o + 1) (drop (suc i) xs))

    before : i ≤ length xs → i + o ≡ length (take i xs) + o
    before le = omega (arith, length-take i xs)

    pub byte_out : i < length xs → ent 𝓤 (sem 𝓛 (Row o xs)) (sep 𝓤 (sem 𝓛 (part_at u8 full_share (get_or xs i 0) b (i + o))) (sem 𝓛 Besides))
    byte_out lt = qed 𝓛 (‵ (Row o xs) ∷ []) ∵
        rewrite ! 0 (λ (l : List ℕ). ‵ (Row o l)) (sym (take-append-drop i xs) ∙ ap (λ l. take i xs ++ l) (drop-cons xs i 0 lt)) refl $
        use1 𝓛 (‵ (Row o (take i xs)) ⊛ ‵ (Row (i + o) (get_or xs i 0 ∷ drop (suc i) xs))) (cut (take i xs) (get_or xs i 0 ∷ drop (suc i) xs) o (i + o) (before (omega arith))) $
        split ! $ move ! (1 ∷ []) $ fsplit ! $ move ! (2 ∷ 1 ∷ []) $ fjoin ! $ move ! (1 ∷ []) $ done !

    pub byte_in : i < length xs → (x : ℕ) → ent 𝓤 (sep 𝓤 (sem 𝓛 (part_at u8 full_share x b (i + o))) (sem 𝓛 Besides)) (sem 𝓛 (Row o (set xs i x)))
    byte_in lt x = qed 𝓛 (‵ (part_at u8 full_share x b (i + o)) ∷ ‵ Besides ∷ []) ∵ move ! (1 ∷ []) $ fsplit ! $ move ! (2 ∷ 1 ∷ []) $ fjoin ! $ move ! (1 ∷ 0 ∷ []) $
        use2 𝓛 (‵ (Row o (take i xs ++ x ∷ drop (suc i) xs))) (glue (take i xs) (x ∷ drop (suc i) xs) o (i + o) (before (omega arith))) $
        rewrite ! 0 (λ (l : List ℕ). ‵ (Row o l)) (sym (set_split xs i x lt)) refl $ done !

    module _ (n : ℕ) where
      -- the bytes but for the n from the i-th on
      abbrev pub Around : Fml
      Around = fsep (Row o (take i xs)) (Row (n + (i + o)) (drop (i + n) xs))

      pub run_out : i + n ≤ length xs → ent 𝓤 (sem 𝓛 (Row o xs)) (sep 𝓤 (sem 𝓛 (Row (i + o) (take n (drop i xs)))) (sem 𝓛 Around))
      run_out le =
          let run = take n (drop i xs) in let long : n ≡ length run = omega (arith, length-take n (drop i xs), length-drop i xs) in
          qed 𝓛 (‵ (Row o xs) ∷ []) ∵
          rewrite ! 0 (λ (l : List ℕ). ‵ (Row o l)) (sym (take-append-drop i xs) ∙ ap (λ l. take i xs ++ l) (sym (take-append-drop n (drop i xs)) ∙ ap (λ l. run ++ l) (drop-drop n i xs))) refl $
          use1 𝓛 (‵ (Row o (take i xs)) ⊛ ‵ (Row (i + o) (run ++ drop (i + n) xs))) (cut (take i xs) (run ++ drop (i + n) xs) o (i + o) (before (omega arith))) $ split ! $ move ! (1 ∷ []) $
          use1 𝓛 (‵ (Row (i + o) run) ⊛ ‵ (Row (n + (i + o)) (drop (i + n) xs))) (cut run (drop (i + n) xs) (i + o) (n + (i + o)) (ap (λ k. k + (i + o)) long)) $
          split ! $ move ! (2 ∷ 1 ∷ []) $ fjoin ! $ move ! (1 ∷ []) $ done !

      pub run_in : i + n ≤ length xs → (ws : List ℕ) → n ≡ length ws
          → ent 𝓤 (sep 𝓤 (sem 𝓛 (Row (i + o) ws)) (sem 𝓛 Around)) (sem 𝓛 (Row o (take i xs ++ (ws ++ drop (i + n) xs))))
      run_in le ws long = qed 𝓛 (‵ (Row (i + o) ws) ∷ ‵ Around ∷ []) ∵ move ! (1 ∷ []) $ fsplit ! $ move ! (2 ∷ 1 ∷ []) $
          use2 𝓛 (‵ (Row (i + o) (ws ++ drop (i + n) xs))) (glue ws (drop (i + n) xs) (i + o) (n + (i + o)) (ap (λ k. k + (i + o)) long)) $ move ! (1 ∷ 0 ∷ []) $
          by ! (glue (take i xs) (ws ++ drop (i + n) xs) o (i + o) (before (omega arith)))

  pub to_cells : (xs : List ℕ) (o : ℕ) → ent 𝓤 (sem 𝓛 (Row o xs)) (sem 𝓛 (cells (mem u8) xs b o))
  to_cells [] o = id⊢ 𝓤 _
  to_cells (x ∷ xs) o = mono_r 𝓤 (sem 𝓛 (part_at u8 full_share x b o)) (to_cells xs (o + 1))

  pub of_cells : (xs : List ℕ) (o : ℕ) → ent 𝓤 (sem 𝓛 (cells (mem u8) xs b o)) (sem 𝓛 (Row o xs))
  of_cells [] o = id⊢ 𝓤 _
  of_cells (x ∷ xs) o = mono_r 𝓤 (sem 𝓛 (part_at u8 full_share x b o)) (of_cells xs (o + 1))

  module _ (κ : Lft) where
    abbrev Seen : ℕ → List ℕ → Fml
    Seen o xs = elements_shared u8 xs b o κ

    from_on : (xs : List ℕ) (i o at : ℕ) → i ≤ length xs → at ≡ i + o → ent 𝓤 (sem 𝓛 (Seen o xs)) (sem 𝓛 (Seen at (drop i xs)))
    from_on xs zero o at le e = let same : o ≡ at = omega arith in subst (λ k. ent 𝓤 (sem 𝓛 (Seen o xs)) (sem 𝓛 (Seen k xs))) same (id⊢ 𝓤 _)
    from_on [] (suc i) o at le e = absurd (omega arith)
    from_on (x ∷ xs) (suc i) o at le e =
        via 𝓤 (sem 𝓛 (Seen (o + 1) xs)) (snd∗ 𝓤 (sem 𝓛 (shared_of u8 x b o κ)) (sem 𝓛 (Seen (o + 1) xs))) (from_on xs i (o + 1) at (omega arith) (omega arith))

    up_to : (xs : List ℕ) (n o : ℕ) → ent 𝓤 (sem 𝓛 (Seen o xs)) (sem 𝓛 (Seen o (take n xs)))
    up_to xs zero o = top 𝓤 _
    up_to [] (suc n) o = top 𝓤 _
    up_to (x ∷ xs) (suc n) o = mono_r 𝓤 (sem 𝓛 (shared_of u8 x b o κ)) (up_to xs n (o + 1))

    pub byte_seen : (o : ℕ) (xs : List ℕ) (i : ℕ) → i < length xs → ent 𝓤 (sem 𝓛 (Seen o xs)) (sem 𝓛 (shared_of u8 (get_or xs i 0) b (i + o) κ))
    byte_seen o xs i lt = qed 𝓛 (‵ (Seen o xs) ∷ []) ∵ use1 𝓛 (‵ (Seen (i + o) (drop i xs))) (from_on xs i o (i + o) (omega arith) refl) $
        rewrite ! 0 (λ (l : List ℕ). ‵ (Seen (i + o) l)) (drop-cons xs i 0 lt) refl $ fsplit ! $ keep ! (0 ∷ []) $ done !

    pub run_seen : (o : ℕ) (xs : List ℕ) (i n : ℕ) → i ≤ length xs → ent 𝓤 (sem 𝓛 (Seen o xs)) (sem 𝓛 (Seen (i + o) (take n (drop i xs))))
    run_seen o xs i n le = via 𝓤 (sem 𝓛 (Seen (i + o) (drop i xs))) (from_on xs i o (i + o) le refl) (up_to (drop i xs) n (i + o))

  -- bytes that nothing reads any more are room, with the room after them
  pub to_room : (xs : List ℕ) (o m : ℕ)
      → ent 𝓤 (sep 𝓤 (sem 𝓛 (Row o xs)) (𝓛.H.room (bytes_type m) b (length xs + o))) (𝓛.H.room (bytes_type (length xs + m)) b o)
  to_room [] o m = qed 𝓛 (‵ ftrue ∷ ‵ (froom (bytes_type m) b (length {A = ℕ} [] + o)) ∷ []) ∵ skip ! $
      rewrite ! 0 (λ (k : ℕ). ‵ (froom (bytes_type m) b k)) {x = o} (omega arith) refl $
      rewrite ! 0 (λ (k : ℕ). ‵ (froom (bytes_type k) b o)) {x = length {A = ℕ} [] + m} (omega arith) refl $ done !
  to_room (x ∷ xs) o m = qed 𝓛 (‵ (Row o (x ∷ xs)) ∷ ‵ (froom (bytes_type m) b (length (x ∷ xs) + o)) ∷ []) ∵ fsplit ! $
      use1 𝓛 (‵ (fat full_share (ty_int w8) b o (vint w8 x))) (uint_out 𝓛 full_share w8 x b o) $ use1 𝓛 (‵ (froom (ty_int w8) b o)) (𝓛.laws.at_room (ty_int w8) b o (vint w8 x)) $ move ! (1 ∷ 2 ∷ []) $
      rewrite ! 1 (λ (k : ℕ). ‵ (froom (bytes_type m) b k)) {x = length xs + (o + 1)} (omega arith) refl $
      use2 𝓛 (‵ (froom (bytes_type (length xs + m)) b (o + 1))) (to_room xs (o + 1) m) $ move ! (1 ∷ []) $
      use2 𝓛 (‵ (froom (bytes_type (suc (length xs + m))) b o)) (𝓛.laws.room_cons (ty_int w8) (length xs + m) b o) $
      rewrite ! 0 (λ (k : ℕ). ‵ (froom (bytes_type k) b o)) {x = length (x ∷ xs) + m} (omega arith) refl $ done !

-- Memory still spells the blocks of a store once those after some that stay were laid out anew.
use Rattle.std.proofs.Common.{◌≡◌, ℕ, Bool, ◌+◌, ◌≤◌, ◌<◌, ◌^◌, ◌||◌, true, List, ◌++◌, Option, None, arith, refl, sym, ◌∙◌, ap, inl, inr, subst}
use Rattle.std.proofs.lemmas.Bool.{or_cases, or_left}
use Rattle.flex_store.specs.Blocks.{Block, FlexStore, has_anchor, is_in_contents, bytes_taken_by_all}
use Rattle.flex_store.specs.Calls.{FlexState}
use Rattle.flex_store.specs.Memory.{AreAnchored, Holds, laid_out, standing, blocks_text_of}
use Rattle.flex_store.specs.State.{AreAnchorWords, AreInner, AreWhole, IsFlexRange}
use Rattle.flex_store.proofs.Fitting.{front_inner, MayFollow}
use Rattle.flex_store.proofs.Lists.{anchor-append, contents-append, used-append, whole-append}
use Rattle.flex_store.proofs.Standing.{all_there, standing_again, standing_anchored, standing_contents, standing_has, standing_used, standing_whole, standing_words}
use Rattle.flex_store.proofs.Storing.{IsLaid, laid, laid_behind}
use Rattle.flex_store.proofs.Words.{outside_behind, word_of, words_joined, words_left}
use Rattle.law_machine.specs.flex.Laws.{IsSpelledState}

module _ (mapped : ℕ → Bool) (start end : ℕ) (f : ℕ → ℕ) (front olds news : List Block) (range : IsFlexRange mapped start end) (low : end ≤ 2 ^ 26)
    (whole : AreWhole front) (words : AreAnchorWords mapped start end (front ++ olds)) (inner : AreInner start end (front ++ olds))
    (text : Holds f start (blocks_text_of (standing f start front))) (anchored : AreAnchored f start front) (may : MayFollow mapped start end front news) where
  abbrev g : ℕ → ℕ
  g = laid_out (start + bytes_taken_by_all front) news f

  abbrev now : List Block
  now = standing f start front

  at_is : start + bytes_taken_by_all front ≡ start + bytes_taken_by_all (standing f start front)
  at_is = ap (λ (n : ℕ). start + n) (sym (standing_used f start front))

  front_words : AreAnchorWords mapped start end front
  front_words = words_left mapped start end front olds words

  now_whole : AreWhole (standing f start front ++ news)
  now_whole = whole-append (standing f start front) news (standing_whole f start front whole) may.whole

  now_words : AreAnchorWords mapped start end (standing f start front ++ news)
  now_words = words_joined mapped start end (standing f start front) news
      (standing_words mapped mapped start end f start front (all_there mapped front (λ a has. (word_of mapped start end front a front_words has).there)) front_words)
      (subst (λ (n : ℕ). AreAnchorWords mapped n end news) at_is may.words)
      (λ p has. may.fresh p (sym (standing_has f start front p) ∙ has))

  in_either : (p : ℕ) → has_anchor (standing f start front ++ news) p ≡ true → start ≤ p → p < end
      → (is_in_contents start front p || is_in_contents (start + bytes_taken_by_all front) news p) ≡ true
  in_either p has up below =
      elim (or_cases (has_anchor (standing f start front) p) (has_anchor news p) (sym (anchor-append (standing f start front) news p) ∙ has)) [
        | inl own ↦
            let had : has_anchor front p ≡ true = sym (standing_has f start front p) ∙ own in
            or_left (is_in_contents start front p) (is_in_contents (start + bytes_taken_by_all front) news p)
            (front_inner start end front olds p inner (outside_behind mapped start end front p front_words had)
            (anchor-append front olds p ∙ or_left (has_anchor front p) (has_anchor olds p) had) up below)
        | inr new ↦ may.inner p new up below
      ]

  now_inner : AreInner start end (standing f start front ++ news)
  now_inner p has up below =
      contents-append start (standing f start front) news p
      ∙ (ap (λ (t : Bool). t || is_in_contents (start + bytes_taken_by_all (standing f start front)) news p) (standing_contents f start start front p)
      ∙ (ap (λ (n : ℕ). is_in_contents start front p || is_in_contents n news p) (sym at_is) ∙ in_either p has up below))

  now_fits : start + bytes_taken_by_all (standing f start front ++ news) ≤ end
  now_fits = omega (arith, may.fits, used-append (standing f start front) news, standing_used f start front)

  there : IsLaid (laid_out (start + bytes_taken_by_all front) news f) start (standing f start front ++ news)
  there =
      laid mapped start end f (laid_out (start + bytes_taken_by_all front) news f) (standing f start front ++ news) range.start_aligned now_whole now_words now_inner now_fits
      (λ a. ap (λ (n : ℕ). laid_out n news f a) at_is
      ∙ laid_behind mapped start end f (standing f start front) news now_whole now_words now_fits text
      (standing_anchored mapped start end f f f start front front_words (λ q has. refl) anchored) a)

  again : standing (laid_out (start + bytes_taken_by_all front) news f) start (standing f start front ++ news)
      ≡ standing (laid_out (start + bytes_taken_by_all front) news f) start (front ++ news)
  again = standing_again f (laid_out (start + bytes_taken_by_all front) news f) start front news

  abbrev state_then : FlexState
  state_then = record {
    bytes = record { mapped = mapped; at = laid_out (start + bytes_taken_by_all front) news f };
    flex = None;
  }

  pub relaid_spelled : (o : Option FlexStore)
      → IsSpelledState (record { bytes = record { mapped = mapped; at = laid_out (start + bytes_taken_by_all front) news f }; flex = o })
      (record { start = start; end = end; blocks = standing (laid_out (start + bytes_taken_by_all front) news f) start (front ++ news) })
  relaid_spelled o =
      let h : ℕ → ℕ = laid_out (start + bytes_taken_by_all front) news f in
      let all : List Block = standing f start front ++ news in
      let t : FlexState = record { bytes = record { mapped = mapped; at = h }; flex = o } in
      let is : IsSpelledState t (record { start = start; end = end; blocks = standing h start all }) = record {
        range = range;
        low = λ some. low;
        fits = omega (arith, now_fits, standing_used h start all);
        whole = standing_whole h start all now_whole;
        words = standing_words mapped mapped start end h start all (all_there mapped all (λ a has. (word_of mapped start end all a now_words has).there)) now_words;
        inner = λ a has up below. standing_contents h start start all a ∙ now_inner a (sym (standing_has h start all a) ∙ has) up below;
        text = there.text;
        anchored = standing_anchored mapped start end h h h start all now_words (λ q has. refl) there.anchored;
      } in
      subst (λ (l : List Block). IsSpelledState t (record { start = start; end = end; blocks = l })) again is

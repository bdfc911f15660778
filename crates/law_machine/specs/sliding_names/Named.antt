-- What a flex call and a slide of the module area do to the flex blocks of a store, by names in
-- which no address in the store stands (Acorn C manual, "flex"; RISC OS 3 Programmer's Reference
-- Manual, "OS_Module", reason 8).
use Rattle.std.specs.Prelude.{◌≡◌, Bool, true, false, List, [], ◌∷◌, Some, Result, Ok, Err}
use Rattle.profile.specs.ErrorNumber.{ErrorNumber}
use Rattle.flex_store.specs.Runs.{FlexCall}
use Rattle.law_machine.specs.flex.Numbered.{Anchor, SeenBlock}
use Rattle.law_machine.specs.flex_names.Laws.{IsCalledNamed}
use Rattle.law_machine.specs.flex_names.Names.{Name, place_named}
use Rattle.law_machine.specs.sliding_stores.Meaning.{AreStores, Stores, meaning_of}
use Rattle.law_machine.specs.sliding_stores.Turning.{AreAllowed, Call, Init, Slide, FlexOrSlide, answer_of_turn, anchor_place_of_turn, stores_after_step}

-- A call that finds room goes by its rule on the name of its word, which lies at a place.
pub record IsCallByNames (call : FlexCall) (x : Anchor) (p q : List SeenBlock) : Type 0 where
  pub name : Name
  pub is : place_named p name ≡ Some x
  pub goes : IsCalledNamed call name p q

-- What a turn with an answer does, where its anchor is at a place, if it has one. A call that is
-- refused, or answers that there is no room, changes nothing; one that answers that there is room
-- goes by its rule. Flex_Init makes a store without blocks, where there was none. A slide keeps all
-- blocks.
abbrev pub IsTurnByNames : FlexOrSlide → Result Bool ErrorNumber → Anchor → List SeenBlock → List SeenBlock →
    Type 0
IsTurnByNames turn (Err e) x p q = q ≡ p
IsTurnByNames turn (Ok false) x p q = q ≡ p
IsTurnByNames (Init start end) (Ok true) x p q = (p ≡ []) × (q ≡ [])
IsTurnByNames (Call call) (Ok true) x p q = IsCallByNames call x p q
IsTurnByNames (Slide return_address) (Ok true) x p q = q ≡ p

-- each of some turns, on the flex blocks of the stores before it
abbrev pub AreTurnsByNames : Stores → List FlexOrSlide → Type 0
AreTurnsByNames x [] = Unit {0}
AreTurnsByNames x (turn ∷ turns) =
    IsTurnByNames turn (answer_of_turn turn x) (anchor_place_of_turn turn x) (meaning_of x).flex
    (meaning_of (stores_after_step turn x)).flex
    × AreTurnsByNames (stores_after_step turn x) turns

-- Whatever is called and slid in whatever order, on the stores of any machine.
abbrev pub TurnsGoByNames : Type 0
TurnsGoByNames = (x : Stores) (turns : List FlexOrSlide) → AreStores x → AreAllowed x.pending turns →
    AreTurnsByNames x turns

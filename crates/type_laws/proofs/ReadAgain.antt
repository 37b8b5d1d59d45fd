-- What the check accepts is read again without a fault, at every level.
use Rattle.std.specs.Prelude.{Some, Ok}
use mathlib.Core.Path.{◌≡◌, refl, sym, ◌∙◌, ap, subst}
use mathlib.Core.List.{List, [], ◌∷◌}
use mathlib.Core.Bool.{false}
use Prim.Native.Nat.{ℕ, zero, suc, ◌+◌, ◌≤◌, ◌<◌}
use native.Mathlib.Omega.{arith}
use borrow.Author.Tests.{eqb-true, eqb-false}
use lib.Dec.{eqb}
use lib.ListN.{length}
use Rattle.choices.specs.Branch.{choose}
use Rattle.choices.proofs.Choices.{by-test}
use Rattle.cdr.specs.declared.Index.{Index}
use Rattle.cdr.specs.declared.Place.{Place}
use Rattle.cdr.specs.declared.Order.{Order}
use Rattle.cdr.specs.declared.Size.TheVariants.{Four}
use Rattle.type_kinds.specs.declared.Inner.{Inner}
use Rattle.type_kinds.specs.declared.Inner.TheVariants.{Here, There}
use Rattle.type_kinds.specs.declared.Kind.{Kind}
use Rattle.type_counts.specs.declared.Refusal.TheVariants.{Ends}
use Rattle.cdr.specs.Align.{index_of}
use Rattle.cdr_fields.specs.Encapsulation.{field_of}
use Rattle.type_kinds.specs.Forms.{form_of}
use Rattle.type_numbers.specs.{indirection_kind}
use Rattle.type_kinds.specs.Parts.{place_of, written_at}
use Rattle.type_list.specs.Met.{kind_no}
use Rattle.type_fields.specs.Fields.{top_only, below_top, kind_entry, nesting_limit}
use Rattle.type_walk.specs.Walk.{Walk, Walked, nothing_met, entered, refused_as}
use Rattle.type_walk.specs.Types.{indirection_at, Checker, Enterer, inside_at, entered_at, on_entry, type_with, enter_at, type_at}
use Rattle.type_walk.proofs.TypeAtCases.{Entering, entry-facts}
use Rattle.type_laws.proofs.Sound.{Known}
use Rattle.type_laws.proofs.InnerKnown.{comes-child, Complete}
use Rattle.type_laws.proofs.WrittenSpan.{Span, Spans, written-span}
use Rattle.type_laws.proofs.PartReadAgain.{Lies, lies_whole}
use Rattle.type_laws.proofs.ByCases.{on-field, on-choice, on-entry, IfNext, Gives, gives-map}
use Rattle.type_laws.proofs.CheckedSoFar.{Fits, Below, Tops, Well, In, Checks}
use Rattle.type_laws.proofs.KindReadAgain.{indirection, m₁, w₁, well, fits₁, below₁, more, tops₁}
use Rattle.type_laws.proofs.ContentsReadAgain.{inside}

module _ (v : List ℕ) where
  -- a type by its kind: an indirection, or what `enter` does with a kind that may stand there
  kind-well : (left : ℕ) (enter : Enterer) (s : List ℕ) (b : Place) (order : Order) (i : Index) (w : Walk) → Lies v s b.0 → Fits w.kinds → Below w.kinds (b.0 + i.0) → Tops v w
      → ((kind : ℕ) (next : Index) → field_of s i Four order ≡ Some (kind, next) → (kind ≡ indirection_kind → ⊥) → Entering (form_of kind) kind left (length w.kinds)
      → Gives (Well v w.kinds b order i) (enter (form_of kind) s b order next w))
      → Gives (Well v w.kinds b order i) (type_with left enter s b order i w)
  unfolding type_with
  kind-well left enter s b order i w h f l t₀ g =
      on-field Q (field_of s i Four order) (refused_as Ends w)
      (λ kind next.
      choose (eqb kind indirection_kind) (λ _. indirection_at s b order next w)
      (λ _. on_entry (kind_entry (form_of kind) kind left (length w.kinds)) w (λ _. enter (form_of kind) s b order next w)))
      (λ e. tt)
      (λ kind next r.
      on-choice Q (eqb kind indirection_kind) (λ _. indirection_at s b order next w)
      (λ _. on_entry (kind_entry (form_of kind) kind left (length w.kinds)) w (λ _. enter (form_of kind) s b order next w))
      (λ t. indirection v s b order i w h f l t₀ kind next r (eqb-true kind indirection_kind t))
      (λ t. on-entry Q (kind_entry (form_of kind) kind left (length w.kinds)) w (λ _. enter (form_of kind) s b order next w) (λ n e. tt)
      (λ e. g kind next r (eqb-false kind indirection_kind t) (entry-facts (form_of kind) kind left (length w.kinds) e))))
    where
      Q : Walked → Type 0
      Q = Gives (Well v w.kinds b order i)

  -- a kind that is met, and what follows it
  enter-well : (go : Checker) → Checks v go → (s : List ℕ) (b : Place) (order : Order) (i : Index) (w : Walk) → Lies v s b.0 → Fits w.kinds → Below w.kinds (b.0 + i.0) → Tops v w
      → (kind : ℕ) (next : Index) → field_of s i Four order ≡ Some (kind, next) → (kind ≡ indirection_kind → ⊥) → length w.kinds < 64
      → (0 < length w.kinds → top_only kind ≡ false) → Gives (Well v w.kinds b order i) (entered_at v go (form_of kind) s b order next w)
  unfolding entered_at entered w₁
  enter-well go hold s b order i w h f l t₀ kind next r k c top =
      gives-map (In v (length w.kinds) (m₁ v s b order i w h f l t₀ kind next r k c top) (form_of kind) b order kind next) (Well v w.kinds b order i)
      (inside_at v go (form_of kind) s b order next (w₁ v s b order i w h f l t₀ kind next r k c top) (length w.kinds))
      (λ i' z. well v s b order i w h f l t₀ kind next r k c top i' _ z)
      (inside v go hold s b order next (w₁ v s b order i w h f l t₀ kind next r k c top) kind (length w.kinds) h
      (fits₁ v s b order i w h f l t₀ kind next r k c top) (below₁ v s b order i w h f l t₀ kind next r k c top)
      (omega (arith, more v s b order i w h f l t₀ kind next r k c top)) (tops₁ v s b order i w h f l t₀ kind next r k c top)
      (form_of kind) refl)

  below-is : (kind left : ℕ) (n : ℕ) → (left ≡ 16 → n ≡ 0) → below_top kind left ≡ false → 0 < n → top_only kind ≡ false
  unfolding below_top
  below-is kind left n t e o =
      by-test (eqb left 16) (λ a. absurd (omega (arith, t (eqb-true left 16 a)))) (λ a. rw a at e)

  entering : (left : ℕ) → left ≤ 16 → (s : List ℕ) (b : Place) (order : Order) (i : Index) (w : Walk) → Lies v s b.0 → Fits w.kinds → Below w.kinds (b.0 + i.0) → Tops v w
      → (left ≡ 16 → length w.kinds ≡ 0)
      → (kind : ℕ) (next : Index) → field_of s i Four order ≡ Some (kind, next) → (kind ≡ indirection_kind → ⊥) → Entering (form_of kind) kind left (length w.kinds)
      → Gives (Well v w.kinds b order i) (enter_at v left (form_of kind) s b order next w)
  unfolding enter_at
  entering zero a s b order i w h f l t₀ t kind next r k e = tt
  entering (suc left) a s b order i w h f l t₀ t kind next r k e =
      enter-well (type_with left (enter_at v left))
      (λ s b order i w h f l o t₀. kind-well left (enter_at v left) s b order i w h f l t₀ (entering left (omega arith) s b order i w h f l t₀ (λ z. absurd (omega arith))))
      s b order i w h f l t₀ kind next r k e.room (below-is kind (suc left) (length w.kinds) t e.placed)

  -- what the check accepts is read again, at every level
  pub type-well : (left : ℕ) → left ≤ 16 → (s : List ℕ) (b : Place) (order : Order) (i : Index) (w : Walk) → Lies v s b.0 → Fits w.kinds → Below w.kinds (b.0 + i.0) → Tops v w
      → (left ≡ 16 → length w.kinds ≡ 0) → Gives (Well v w.kinds b order i) (type_at v left s b order i w)
  unfolding type_at
  type-well left a s b order i w h f l t₀ t = kind-well left (enter_at v left) s b order i w h f l t₀ (entering left a s b order i w h f l t₀ t)

  -- the whole, from a list that has no kind
  module _ (order : Order) (w : Walk) (z : w ≡ nothing_met) where
    abbrev whole : Walked
    whole = type_at v nesting_limit v (place_of 0) order (index_of 0) w

    empty : length w.kinds ≡ 0
    empty = ap (λ (x : Walk). length x.kinds) z

    empty-fits : Fits w.kinds
    empty-fits = omega (arith, empty)

    empty-tops : Tops v w
    empty-tops =
        record {
          long = ap (λ (x : Walk). length x.barred) z ∙ sym empty;
          below = λ j o a. absurd (omega (arith, empty));
          top = λ o e. absurd (omega (arith, empty));
        }

    whole-well : (i : Index) → whole.step ≡ Ok i → Well v w.kinds (place_of 0) order (index_of 0) i whole.walk
    whole-well i e =
        subst (IfNext (λ j. Well v w.kinds (place_of 0) order (index_of 0) j whole.walk)) e
        (type-well nesting_limit (omega arith) v (place_of 0) order (index_of 0) w (lies_whole v) empty-fits (λ j l. absurd (omega (arith, empty))) empty-tops (λ q. empty))

    -- where something is known there is some kind
    known_some : (m : List Kind) (x : Inner) → Known m x → 0 < length m
    known_some m (Here a) k = omega (arith, k.1)
    known_some m (There p) k = omega arith

    -- the list is complete: the first kind is the top, at the place 0 and in the order that is asked for; places ascend, all that stands inside
    -- its kinds is in it, and each but the top is written inside one before it
    pub complete : (i : Index) → whole.step ≡ Ok i → Complete v order whole.walk.kinds
    complete i e =
        let y = whole-well i e in
        let some = known_some whole.walk.kinds y.type y.known in
        let r = y.on.rises (λ a b l k. absurd (omega (arith, empty))) in
        record {
          some = some;
          most = y.on.fits;
          top = subst (λ (x : ℕ). kind_no whole.walk.kinds x ≡ written_at (place_of 0) (place_of 0) order) empty (y.new (omega (arith, empty)));
          rises = r;
          good = λ j l. y.on.good j (omega (arith, empty)) l;
          closes = λ j l. y.on.closes j (omega (arith, empty)) l;
          child = λ j o l. comes-child v whole.walk.kinds y.type r j o l (y.born 0 (omega (arith, empty)) (omega arith)) (y.born j (omega (arith, empty)) l);
        }

    -- the whole list is the top and all that is written inside it
    pub spanned : (i : Index) → whole.step ≡ Ok i → Span v whole.walk.kinds 0 (length whole.walk.kinds)
    spanned i e =
        let y = whole-well i e in
        let some = known_some whole.walk.kinds y.type y.known in
        written-span v whole.walk.kinds y.type 0 (length whole.walk.kinds) some
        (subst (λ (x : ℕ). Spans v whole.walk.kinds (y.type ∷ []) x (length whole.walk.kinds)) empty y.spans)

-- What holds by the cases of a definition, each with what its test said; and what holds of a check that goes on.
use Rattle.std.specs.Prelude.{Option, Some, None, Result, Ok, Err}
use mathlib.Core.Path.{◌≡◌, refl}
use mathlib.Core.Bool.{Bool, true, false, cond}
use Prim.Native.Nat.{ℕ}
use Rattle.choices.specs.Branch.{choose}
use Rattle.cdr.specs.declared.Index.{Index}
use Rattle.cdr.specs.declared.Order.{Order}
use Rattle.type_counts.specs.declared.Refusal.{Refusal}
use Rattle.type_kinds.specs.Parts.{on_field}
use Rattle.type_walk.specs.Walk.{Walk, Walked, refused_as, on_step, count_then, after_type}
use Rattle.type_walk.specs.Types.{cases_then, part_then, on_entry}

module _ {A : Type 0} (Q : A → Type 0) where
  pub on-field : (x : Option (ℕ × Index)) (a : A) (f : ℕ → Index → A) → (x ≡ None → Q a) → ((n : ℕ) (i : Index) → x ≡ Some (n, i) → Q (f n i)) → Q (on_field x a f)
  on-field None a f p q = p refl
  on-field (Some (n, i)) a f p q = q n i refl

  pub on-choice : (t : Bool) (f g : Unit {0} → A) → (t ≡ true → Q (f tt)) → (t ≡ false → Q (g tt)) → Q (choose t f g)
  unfolding choose
  on-choice true f g p q = p refl
  on-choice false f g p q = q refl

  pub on-cond : (t : Bool) (x y : A) → (t ≡ true → Q x) → (t ≡ false → Q y) → Q (cond t x y)
  on-cond true x y p q = p refl
  on-cond false x y p q = q refl

module _ (Q : Walked → Type 0) where
  pub on-step : (t : Result Index Refusal) (w : Walk) (f : Index → Walked) → ((r : Refusal) → t ≡ Err r → Q (refused_as r w)) → ((i : Index) → t ≡ Ok i → Q (f i)) → Q (on_step t w f)
  on-step (Err r) w f p q = p r refl
  on-step (Ok i) w f p q = q i refl

  pub on-count : (t : Result (ℕ × Index) Refusal) (w : Walk) (f : ℕ → Index → Walked) → ((r : Refusal) → t ≡ Err r → Q (refused_as r w)) → ((n : ℕ) (i : Index) → t ≡ Ok (n, i) → Q (f n i)) → Q (count_then t w f)
  on-count (Err r) w f p q = p r refl
  on-count (Ok (n, i)) w f p q = q n i refl

  pub on_switch : (t : Result (ℕ × ℕ × Index) Refusal) (w : Walk) (f : ℕ → ℕ → Index → Walked) → ((r : Refusal) → t ≡ Err r → Q (refused_as r w))
      → ((d n : ℕ) (i : Index) → t ≡ Ok (d, n, i) → Q (f d n i)) → Q (cases_then t w f)
  on_switch (Err r) w f p q = p r refl
  on_switch (Ok (d, n, i)) w f p q = q d n i refl

  pub on-part : (t : Result (ℕ × ℕ × Order) Refusal) (w : Walk) (f : ℕ → ℕ → Order → Walked) → ((r : Refusal) → t ≡ Err r → Q (refused_as r w)) → ((x e : ℕ) (o : Order) → t ≡ Ok (x, e, o) → Q (f x e o)) → Q (part_then t w f)
  on-part (Err r) w f p q = p r refl
  on-part (Ok (x, e, o)) w f p q = q x e o refl

  pub on-entry : (t : Result Unit Refusal) (w : Walk) (f : Unit {0} → Walked) → ((r : Refusal) → t ≡ Err r → Q (refused_as r w)) → (t ≡ Ok tt → Q (f tt)) → Q (on_entry t w f)
  on-entry (Err r) w f p q = p r refl
  on-entry (Ok tt) w f p q = q refl

abbrev pub IfNext : (Index → Type 0) → Result Index Refusal → Type 0
IfNext F (Err r) = Unit {0}
IfNext F (Ok i) = F i

abbrev pub Gives : (Index → Walk → Type 0) → Walked → Type 0
Gives W c = IfNext (λ i. W i c.walk) c.step

module _ (W₁ W₂ : Index → Walk → Type 0) where
  pub gives_then : (c : Walked) (f : Index → Walk → Walked) → Gives W₁ c → ((i : Index) → W₁ i c.walk → Gives W₂ (f i c.walk)) → Gives W₂ (after_type c f)
  gives_then c f h k = go c.step h
    where
      go : (a : Result Index Refusal) → IfNext (λ i. W₁ i c.walk) a → Gives W₂ (on_step a c.walk (λ i. f i c.walk))
      go (Err r) h = tt
      go (Ok i) h = k i h

  pub gives-map : (c : Walked) → ((i : Index) → W₁ i c.walk → W₂ i c.walk) → Gives W₁ c → Gives W₂ c
  gives-map c f h = go c.step h
    where
      go : (a : Result Index Refusal) → IfNext (λ i. W₁ i c.walk) a → IfNext (λ i. W₂ i c.walk) a
      go (Err r) h = tt
      go (Ok i) h = f i h

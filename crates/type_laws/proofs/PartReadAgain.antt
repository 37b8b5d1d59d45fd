-- The octets of an encapsulation lie in the octets of the whole: what was read in them is read again by place.
use Rattle.std.specs.Prelude.{Option, Some, None, Result, Ok, Err}
use mathlib.Core.Path.{◌≡◌, refl, sym, ◌∙◌, ap, subst}
use mathlib.Core.List.{List, [], ◌∷◌}
use mathlib.Core.Bool.{false}
use Prim.Native.Nat.{ℕ, zero, suc, ◌+◌, ◌-◌, ◌≤◌, ◌<◌}
use native.Mathlib.Omega.{arith}
use borrow.Author.Tests.{eqb-false}
use lib.Dec.{eqb}
use lib.ListN.{length, get_or, take, drop, length-drop}
use lib.Seq.{take-length, take-take, drop-drop, get_or-take, get_or-drop, length-take-le}
use Rattle.choices.proofs.Choices.{by-test, clash}
use Rattle.choices.proofs.Tuples.{ok-pair, ok-triple}
use Rattle.cdr.specs.declared.Index.{Index}
use Rattle.cdr.specs.declared.Place.{Place}
use Rattle.cdr.specs.declared.Order.{Order}
use Rattle.cdr.specs.declared.Size.{Size}
use Rattle.cdr.specs.declared.Size.TheVariants.{Four}
use Rattle.type_kinds.specs.declared.Labels.{Labels}
use Rattle.type_kinds.specs.declared.Labels.TheVariants.{Of, NoLabels}
use Rattle.type_counts.specs.declared.Refusal.TheVariants.{Ends, BadUnion, NoCount}
use Rattle.cdr.specs.Align.{octets, behind_gap, index_of}
use Rattle.cdr.specs.Number.{number_at, number_of}
use Rattle.cdr_text.proofs.TextEnds.{run-to}
use Rattle.cdr_fields.specs.Encapsulation.{start, field_of, string_of}
use Rattle.cdr_fields.proofs.FieldsRead.{field-facts, field_is, counted_is}
use Rattle.cdr.proofs.GapsBounded.{read_number}
use Rattle.type_kinds.specs.Parts.{on_field, field_in, skip_field, skip_octets, skip_counted, lead_in, spot_at, member_at, names_in}
use Rattle.type_parameters.specs.Parameters.{count_in}
use Rattle.type_unions.specs.Discriminants.{out_of_kind}
use Rattle.type_counts.specs.Counts.{step_from, text_step, then_step, names_step, number_step, count_step, any_count, then_count, head_step, exception_step, after_count, length_step, texts_step, enum_step}
use Rattle.type_fields.specs.Fields.{bad_default, switch_from, switch_step, label_before, label_step}
use Rattle.cdr_fields.proofs.FieldsWithin.{string-facts}
use Rattle.type_walk.specs.Types.{name_step}
use Rattle.cdr_fields.specs.declared.StringFault.TheVariants.{BadText, NoText}
use Rattle.cdr_fields.specs.declared.StringFault.{StringFault}
use Rattle.type_counts.specs.declared.Refusal.{Refusal}

-- the same number is read at its own place
pub field-there : (s : List ℕ) (i : Index) (order : Order) (x : ℕ) (j : Index) → field_of s i Four order ≡ Some (x, j)
    → field_of s (index_of (j.0 - 4)) Four order ≡ Some (x, j)
field-there s i order x j e =
    let f = field-facts s i Four order x j e in
    let p = behind_gap start i.0 4 in
    let q : behind_gap start (j.0 - 4) 4 ≡ p = omega (arith, f.ends) in
    let l : behind_gap start (j.0 - 4) 4 + 4 ≤ length s = omega (arith, f.ends, f.fits) in
    let r = read_number s start (j.0 - 4) Four order l in
    let n = field_is s (index_of (j.0 - 4)) Four order _ _ r in
    let y : number_at s (behind_gap start (j.0 - 4) 4) 4 order ≡ x = ap (λ (k : ℕ). number_at s k 4 order) q ∙ sym f.value in
    let z : index_of (behind_gap start (j.0 - 4) 4 + 4) ≡ j = ap index_of (omega (arith, f.ends)) in
    n ∙ rw (y, z)

-- a window on part of a list
window : (l : List ℕ) (n p k : ℕ) → p + k ≤ n → take k (drop p (take n l)) ≡ take k (drop p l)
window l n zero k h = take-take k n l (omega arith)
window l zero (suc p) k h = absurd (omega arith)
window [] (suc n) (suc p) k h = refl
window (x ∷ l) (suc n) (suc p) k h = window l n p k (omega arith)

pub record Lies (v s : List ℕ) (b : ℕ) : Type 0 where
  pub long : b + length s ≤ length v
  pub same : s ≡ take (length s) (drop b v)

pub lies_whole : (v : List ℕ) → Lies v v 0
lies_whole v = record { long = omega arith; same = sym (take-length v) }

pub lies-part : (v s : List ℕ) (b x e : ℕ) → Lies v s b → x ≤ e → e ≤ length s → Lies v (take (e - x) (drop x s)) (b + x)
lies-part v s b x e h l k =
    let d = length-drop x s in
    let n = length-take-le (e - x) (drop x s) (omega arith) in
    let w = window (drop b v) (length s) x (e - x) (omega arith) in
    record {
      long = omega (arith, h.long);
      same =
          ap (λ (y : List ℕ). take (e - x) (drop x y)) h.same ∙ w ∙ ap (take (e - x)) (drop-drop x b v)
          ∙ ap (λ (y : ℕ). take y (drop (b + x) v)) (sym n);
    }

module _ (v s : List ℕ) (b : Place) (h : Lies v s b.0) where
  pub octet-again : (x : ℕ) → x < length s → get_or s x 0 ≡ get_or v (b.0 + x) 0
  octet-again x l =
      ap (λ (y : List ℕ). get_or y x 0) h.same ∙ get_or-take (length s) (drop b.0 v) x 0 l ∙ get_or-drop b.0 v x 0

  number-again : (p n : ℕ) (order : Order) → p + n ≤ length s → number_at s p n order ≡ number_at (drop b.0 v) p n order
  unfolding number_at
  number-again p n order l =
      ap (λ (y : List ℕ). number_of order (take n (drop p y))) h.same ∙ ap (number_of order) (window (drop b.0 v) (length s) p n l)

  module _ (i : Index) (size : Size) (order : Order) (x : ℕ) (j : Index) (e : field_of s i size order ≡ Some (x, j)) where
    field-whole : field_of (drop b.0 v) i size order ≡ Some (x, j)
    field-whole =
        let f = field-facts s i size order x j e in
        let p = behind_gap start i.0 (octets size) in
        let l : p + octets size ≤ length (drop b.0 v) = omega (arith, f.ends, f.fits, h.long, length-drop b.0 v) in
        let r = read_number (drop b.0 v) start i.0 size order l in
        let n = field_is (drop b.0 v) i size order p (number_at (drop b.0 v) p (octets size) order) r in
        let y : number_at (drop b.0 v) p (octets size) order ≡ x = sym (number-again p (octets size) order (omega (arith, f.ends, f.fits))) ∙ sym f.value in
        let z : index_of (p + octets size) ≡ j = ap index_of (sym f.ends) in
        n ∙ rw (y, z)

    pub field-again : field_in v b i size order ≡ Some (x, j)
    unfolding field_in
    field-again = field-whole

    pub field-over : (i.0 + octets size ≤ j.0) × (j.0 ≤ length s)
    field-over = let f = field-facts s i size order x j e in (omega (arith, f.ends), f.fits)

  -- counted octets are passed over
  module _ (i : Index) (order : Order) where
    pub counted-again : (n : ℕ) (from : Index) → field_of s i Four order ≡ Some (n, from) → from.0 + n ≤ length s
        → skip_counted v b i order ≡ Some (index_of (from.0 + n))
    unfolding skip_counted
    counted-again n from e l =
        let t = run-to (drop b.0 v) from.0 n (omega (arith, h.long, length-drop b.0 v, (field-over i Four order n from e).0)) in
        ap skip_octets (counted_is (drop b.0 v) i order n from (field-whole i Four order n from e) _ t)

    -- so is a text that was found good
    text-by : (t : Result (Index × ℕ) StringFault) → string_of s i order ≡ t → (j : Index) → step_from t ≡ Ok j → (skip_counted v b i order ≡ Some j) × (i.0 ≤ j.0)
    text-by (Ok (from, n)) r j e =
        let f = string-facts s i order from n r in
        let o = field-over i Four order (n + 1) from f.0 in
        let q : index_of (from.0 + n + 1) ≡ j = cc in
        let z : from.0 + (n + 1) ≡ from.0 + n + 1 = omega arith in
        let w : j.0 ≡ from.0 + n + 1 = ap (λ (y : Index). y.0) (sym q) in
        (counted-again (n + 1) from f.0 f.1 ∙ ap (λ (y : ℕ). Some (index_of y)) z ∙ ap Some q, omega (arith, o.0))
    text-by (Err BadText) r j e = clash cc
    text-by (Err NoText) r j e = clash cc

    pub text-again : (j : Index) → text_step s i order ≡ Ok j → (skip_counted v b i order ≡ Some j) × (i.0 ≤ j.0)
    unfolding text_step
    text-again j e = text-by (string_of s i order) refl j e

  module _ (order : Order) where
    names-by : (j : Index) (t : Result Index Refusal) → text_step s (index_of 1) order ≡ t → then_step t (λ i. text_step s i order) ≡ Ok j
        → (names_in v b order ≡ Some j) × (1 ≤ j.0)
    unfolding names_in
    names-by j (Ok i) r e =
        let a = text-again (index_of 1) order i r in
        let c = text-again i order j e in
        (rw a.0 c.0, omega (arith, a.1, c.1))
    names-by j (Err n) r e = clash cc

    pub names-again : (j : Index) → names_step s order ≡ Ok j → (names_in v b order ≡ Some j) × (1 ≤ j.0)
    unfolding names_step
    names-again j e = names-by j (text_step s (index_of 1) order) refl e

    number_by : (i j : Index) (f : Option (ℕ × Index)) → field_of s i Four order ≡ f → on_field f (Err Ends) (λ n next. Ok next) ≡ Ok j
        → (x : ℕ) × (field_of s i Four order ≡ Some (x, j))
    number_by i j (Some (x, next)) r e = let q : next ≡ j = cc in (x, rw (r, q))
    number_by i j None r e = clash cc

    pub number_read : (i j : Index) → number_step s i order ≡ Ok j → (x : ℕ) × (field_of s i Four order ≡ Some (x, j))
    unfolding number_step
    number_read i j e = number_by i j (field_of s i Four order) refl e

    count_by : (i : Index) (n : ℕ) (j : Index) (f : Option (ℕ × Index)) → field_of s i Four order ≡ f → count_step s i order ≡ Ok (n, j)
        → (field_of s i Four order ≡ Some (n, j)) × (0 < n)
    unfolding count_step
    count_by i n j (Some (x, next)) r e =
        by-test (eqb x 0) (λ a. let q : ◌≡◌ {A = Result (ℕ × Index) Refusal} (Err NoCount) (Ok (n, j)) = rw (r, a) at e in clash cc) (λ a.
        let q : ◌≡◌ {A = Result (ℕ × Index) Refusal} (Ok (x, next)) (Ok (n, j)) = rw (r, a) at e in
        let parts = ok-pair q in
        (rw (r, parts.0, parts.1), omega (arith, parts.0, eqb-false x 0 a)))
    count_by i n j None r e = let q : ◌≡◌ {A = Result (ℕ × Index) Refusal} (Err Ends) (Ok (n, j)) = rw r at e in clash cc

    pub count-read : (i : Index) (n : ℕ) (j : Index) → count_step s i order ≡ Ok (n, j) → (field_of s i Four order ≡ Some (n, j)) × (0 < n)
    count-read i n j e = count_by i n j (field_of s i Four order) refl e

    any-by : (i : Index) (n : ℕ) (j : Index) (f : Option (ℕ × Index)) → field_of s i Four order ≡ f → on_field {A = Result (ℕ × Index) Refusal} f (Err Ends) (λ n next. Ok (n, next)) ≡ Ok (n, j)
        → field_of s i Four order ≡ Some (n, j)
    any-by i n j (Some (x, next)) r e = let parts = ok-pair e in rw (r, parts.0, parts.1)
    any-by i n j None r e = clash cc

    pub any-read : (i : Index) (n : ℕ) (j : Index) → any_count s i order ≡ Ok (n, j) → field_of s i Four order ≡ Some (n, j)
    unfolding any_count
    any-read i n j e = any-by i n j (field_of s i Four order) refl e

    head-by : (n : ℕ) (j : Index) (t : Result Index Refusal) → names_step s order ≡ t → then_count t (λ i. count_step s i order) ≡ Ok (n, j)
        → (count_in v b order ≡ Some (n, j)) × (0 < n) × (1 ≤ j.0)
    unfolding count_in
    head-by n j (Ok i) r e =
        let a = names-again i r in
        let c = count-read i n j e in
        (rw a.0 (field-again i Four order n j c.0), c.1, omega (arith, a.1, (field-over i Four order n j c.0).0))
    head-by n j (Err x) r e = clash cc

    pub head-again : (n : ℕ) (j : Index) → head_step s order ≡ Ok (n, j) → (count_in v b order ≡ Some (n, j)) × (0 < n) × (1 ≤ j.0)
    unfolding head_step
    head-again n j e = head-by n j (names_step s order) refl e

    exception-by : (n : ℕ) (j : Index) (t : Result Index Refusal) → names_step s order ≡ t → then_count t (λ i. any_count s i order) ≡ Ok (n, j)
        → (count_in v b order ≡ Some (n, j)) × (1 ≤ j.0)
    unfolding count_in
    exception-by n j (Ok i) r e =
        let a = names-again i r in
        let c = any-read i n j e in
        (rw a.0 (field-again i Four order n j c), omega (arith, a.1, (field-over i Four order n j c).0))
    exception-by n j (Err x) r e = clash cc

    pub exception-again : (n : ℕ) (j : Index) → exception_step s order ≡ Ok (n, j) → (count_in v b order ≡ Some (n, j)) × (1 ≤ j.0)
    unfolding exception_step
    exception-again n j e = exception-by n j (names_step s order) refl e

    length-by : (i j : Index) (t : Result (ℕ × Index) Refusal) → count_step s i order ≡ t → after_count t (λ n next. Ok next) ≡ Ok j
        → (n : ℕ) × (field_of s i Four order ≡ Some (n, j)) × (0 < n)
    length-by i j (Ok (n, next)) r e =
        let q : next ≡ j = cc in
        let c = count-read i n next r in
        (n, rw (c.0, q), c.1)
    length-by i j (Err x) r e = clash cc

    pub length-read : (i j : Index) → length_step s i order ≡ Ok j → (n : ℕ) × (field_of s i Four order ≡ Some (n, j)) × (0 < n)
    unfolding length_step
    length-read i j e = length-by i j (count_step s i order) refl e

    texts-over : (n : ℕ) (i j : Index) → texts_step s order n i ≡ Ok j → i.0 ≤ j.0
    unfolding texts_step
    texts-over zero i j e = let q : i ≡ j = cc in omega (arith, ap (λ (y : Index). y.0) q)
    texts-over (suc n) i j e = go (text_step s i order) refl e (λ k r. texts-over n k j r)
      where
        go : (t : Result Index Refusal) → text_step s i order ≡ t → then_step t (λ k. texts_step s order n k) ≡ Ok j → ((k : Index) → texts_step s order n k ≡ Ok j → k.0 ≤ j.0)
            → i.0 ≤ j.0
        go (Ok k) r e f = omega (arith, (text-again i order k r).1, f k e)
        go (Err x) r e f = clash cc

    enum-by : (j : Index) (t : Result (ℕ × Index) Refusal) → head_step s order ≡ t → after_count t (λ n next. texts_step s order n next) ≡ Ok j
        → (n : ℕ) × (k : Index) × (count_in v b order ≡ Some (n, k)) × (0 < n) × (1 ≤ j.0)
    enum-by j (Ok (n, k)) r e =
        let a = head-again n k r in (n, k, a.0, a.1, omega (arith, a.2, texts-over n k j e))
    enum-by j (Err x) r e = clash cc

    pub enum-again : (j : Index) → enum_step s order ≡ Ok j → (n : ℕ) × (k : Index) × (count_in v b order ≡ Some (n, k)) × (0 < n) × (1 ≤ j.0)
    unfolding enum_step
    enum-again j e = enum-by j (head_step s order) refl e

    default-by : (x d n : ℕ) (j : Index) (t : Result (ℕ × Index) Refusal) → switch_from x t ≡ Ok (d, n, j) → (x ≡ d) × (t ≡ Ok (n, j)) × (bad_default d n ≡ false)
    default-by x d n j (Ok (y, next)) e =
        by-test (bad_default x y) (λ a. let q : ◌≡◌ {A = Result (ℕ × ℕ × Index) Refusal} (Err BadUnion) (Ok (d, n, j)) = rw a at e in clash cc) (λ a.
        let q : ◌≡◌ {A = Result (ℕ × ℕ × Index) Refusal} (Ok (x, y, next)) (Ok (d, n, j)) = rw a at e in
        let parts = ok-triple q in
        (parts.0, rw (parts.1, parts.2), subst (λ (k : ℕ). bad_default k n ≡ false) parts.0 (subst (λ (k : ℕ). bad_default x k ≡ false) parts.1 a)))
    default-by x d n j (Err r) e = clash cc

    switch_by : (i : Index) (d n : ℕ) (j : Index) (f : Option (ℕ × Index)) → field_of s i Four order ≡ f
        → on_field f (Err Ends) (λ d k. switch_from d (count_step s k order)) ≡ Ok (d, n, j)
        → (k : Index) × (field_of s i Four order ≡ Some (d, k)) × (field_of s k Four order ≡ Some (n, j)) × (0 < n) × (bad_default d n ≡ false)
    switch_by i d n j (Some (x, k)) r e =
        let a = default-by x d n j (count_step s k order) e in
        let c = count-read k n j a.1 in
        (k, r ∙ ap (λ (y : ℕ). Some (y, k)) a.0, c.0, c.1, a.2)
    switch_by i d n j None r e = clash cc

    pub switch-read : (i : Index) (d n : ℕ) (j : Index) → switch_step s i order ≡ Ok (d, n, j)
        → (k : Index) × (field_of s i Four order ≡ Some (d, k)) × (field_of s k Four order ≡ Some (n, j)) × (0 < n) × (bad_default d n ≡ false)
    unfolding switch_step
    switch-read i d n j e = switch_by i d n j (field_of s i Four order) refl e

    label-by : (size : Size) (limit default done : ℕ) (first i j : Index) (f : Option (ℕ × Index)) → field_of s i size order ≡ f
        → label_step (Of size limit) v s b order default done first i ≡ Ok j → (skip_field v b i size order ≡ Some j) × (i.0 ≤ j.0)
    unfolding skip_field
    label-by size limit default done first i j (Some (x, next)) r e =
        by-test (out_of_kind limit x) (λ a. let q : Err BadUnion ≡ Ok j = rw (r, a) at e in clash cc) (λ a.
        by-test (label_before (Of size limit) v b order default done first x) (λ c. let q : Err BadUnion ≡ Ok j = rw (r, a, c) at e in clash cc) (λ c.
        let q : Ok next ≡ Ok j = rw (r, a, c) at e in
        let z : next ≡ j = cc in
        (rw (field-again i size order x next r, z), omega (arith, (field-over i size order x next r).0, ap (λ (y : Index). y.0) z))))
    label-by size limit default done first i j None r e = let q : Err Ends ≡ Ok j = rw r at e in clash cc

    pub label-again : (labels : Labels) (default done : ℕ) (first i j : Index) → label_step labels v s b order default done first i ≡ Ok j
        → (lead_in labels v b i order ≡ Some j) × (i.0 ≤ j.0)
    label-again (Of size limit) default done first i j e = label-by size limit default done first i j (field_of s i size order) refl e
    label-again NoLabels default done first i j e = let q : i ≡ j = cc in (ap Some q, omega (arith, ap (λ (y : Index). y.0) q))

    name_by : (labels : Labels) (default done : ℕ) (first i j : Index) (t : Result Index Refusal) → label_step labels v s b order default done first i ≡ t
        → then_step t (λ k. text_step s k order) ≡ Ok j → (member_at labels v b i order ≡ spot_at v b j order) × (i.0 ≤ j.0)
    unfolding member_at
    name_by labels default done first i j (Ok k) r e =
        let a = label-again labels default done first i k r in
        let c = text-again k order j e in
        (rw (a.0, c.0), omega (arith, a.1, c.1))
    name_by labels default done first i j (Err x) r e = clash cc

    pub name-again : (labels : Labels) (default done : ℕ) (first i j : Index) → name_step labels v s b order default done first i ≡ Ok j
        → (member_at labels v b i order ≡ spot_at v b j order) × (i.0 ≤ j.0)
    unfolding name_step
    name-again labels default done first i j e = name_by labels default done first i j (label_step labels v s b order default done first i) refl e

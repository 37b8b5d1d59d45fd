-- A type by its kind: an indirection, or a kind that is met, whose parameters are read again without a fault.
use Rattle.std.specs.Prelude.{Option, Some, None}
use mathlib.Core.Path.{◌≡◌, refl, sym, ◌∙◌, ap, subst}
use mathlib.Core.List.{List, [], ◌∷◌, ◌++◌}
use mathlib.Core.Bool.{true, false, cond}
use mathlib.Core.Logic.{inl, inr, ⊎_elim}
use Prim.Native.Nat.{ℕ, ◌+◌, ◌-◌, ◌≤◌, ◌<◌}
use native.Mathlib.Omega.{arith}
use native.Mathlib.Nat.{eq-or-lt_of_le}
use borrow.Author.Tests.{eq-eqb, ne_eqb, ltb-true}
use lib.Dec.{ltb}
use lib.ListN.{length, get_or, length-append}
use Rattle.choices.specs.Lists.{Among}
use Rattle.choices.specs.Lists.Among.{first as foremost}
use Rattle.cdr.specs.declared.Index.{Index}
use Rattle.cdr.specs.declared.Place.{Place}
use Rattle.cdr.specs.declared.Order.{Order}
use Rattle.cdr.specs.declared.Size.TheVariants.{Four}
use Rattle.type_kinds.specs.declared.Inner.TheVariants.{Here, There}
use Rattle.type_parameters.specs.declared.Parameters.{Parameters}
use Rattle.type_kinds.specs.declared.Kind.{Kind}
use Rattle.type_counts.specs.declared.Refusal.TheVariants.{Ends, BadTarget}
use Rattle.cdr.specs.Align.{behind_gap, index_of}
use Rattle.cdr_fields.specs.Encapsulation.{start, field_of}
use Rattle.type_kinds.specs.Forms.{form_of}
use Rattle.type_numbers.specs.{indirection_kind}
use Rattle.type_kinds.specs.Parts.{place_of, written_at, field_in, place_before, target_of, aimed, spot_at}
use Rattle.type_parameters.specs.Parameters.{parameters_after, parameters_at}
use Rattle.type_list.specs.Met.{find_kind, kind_no, parameters_of, inside_of}
use Rattle.type_fields.specs.Fields.{top_only}
use Rattle.type_walk.specs.Walk.{Walk, Walked, is_barred, refused_as, goes_on_at}
use Rattle.type_walk.specs.Types.{target_step, aimed_step, indirection_at}
use Rattle.cdr_fields.proofs.FieldsRead.{field-facts}
use Rattle.type_laws.proofs.Sound.{NotTop, Good}
use Rattle.type_laws.proofs.ListGrows.{Grows, grows-on, grows-more, kind-last, found-low, kind-again, parameters-again}
use Rattle.type_laws.proofs.InnerKnown.{Rises, Closed, Comes, opens-child}
use Rattle.type_laws.proofs.WrittenSpan.{RowOf, spans-to}
use Rattle.type_laws.proofs.WrittenSpan.Span.{span}
use Rattle.type_laws.proofs.WrittenSpan.Spans.{end, past, over as passing}
use Rattle.type_laws.proofs.PartReadAgain.{field-there, Lies, field-again, field-over}
use Rattle.type_laws.proofs.ByCases.{on-field, on-cond, Gives}
use Rattle.type_laws.proofs.NotTop.{after-not-top, unbarred-not-top}
use Rattle.type_laws.proofs.CheckedSoFar.{Fits, Below, split, bar-before, bar-last, goes_none, Tops, Well, In}

module _ (v : List ℕ) where
  module _ (s : List ℕ) (b : Place) (order : Order) (i : Index) (w : Walk) (h : Lies v s b.0) (f : Fits w.kinds) (l : Below w.kinds (b.0 + i.0)) (t₀ : Tops v w) where
    module _ (kind : ℕ) (next : Index) (r : field_of s i Four order ≡ Some (kind, next)) where
      abbrev over : (i.0 + 4 ≤ next.0) × (next.0 ≤ length s)
      over = field-over v s b h i Four order kind next r

      -- an indirection to the place p
      target : kind ≡ indirection_kind → (x : ℕ) (j : Index) → field_of s next Four order ≡ Some (x, j) → (p : Place) → target_of (place_before b j) x ≡ Some p
          → Gives (Well v w.kinds b order i) (target_step w p j)
      unfolding target_step spot_at aimed inside_of
      target k x j q p t =
          on-cond Q (ltb (find_kind w.kinds p) (length w.kinds)) (cond (get_or w.barred (find_kind w.kinds p) false) (refused_as BadTarget w) (goes_on_at j w)) (refused_as BadTarget w)
          (λ e. on-cond Q (get_or w.barred (find_kind w.kinds p) false) (refused_as BadTarget w) (goes_on_at j w) (λ c. tt) (λ c. found e c)) (λ e. tt)
        where
          Q : Walked → Type 0
          Q = Gives (Well v w.kinds b order i)

          fitting : find_kind w.kinds p < length w.kinds → get_or w.barred (find_kind w.kinds p) false ≡ false → NotTop (parameters_of v w.kinds (find_kind w.kinds p))
          fitting a c =
              split 0 (find_kind w.kinds p) (λ o. t₀.below (find_kind w.kinds p) o a)
              (λ o. let z : 0 ≡ find_kind w.kinds p = omega arith in
              subst (λ (x : ℕ). NotTop (parameters_of v w.kinds x)) z (t₀.top (omega arith) (subst (λ (x : ℕ). get_or w.barred x false ≡ false) (sym z) c)))

          found : ltb (find_kind w.kinds p) (length w.kinds) ≡ true → get_or w.barred (find_kind w.kinds p) false ≡ false → Q (goes_on_at j w)
          found e c =
              let a = ltb-true (find_kind w.kinds p) (length w.kinds) e in
              let o = field-over v s b h next Four order x j q in
              record {
                on = goes_none v w.kinds _ f (λ n a. omega (arith, l n a, over.0, o.0));
                type = There p;
                read = rw (field-again v s b h i Four order kind next r, eq-eqb kind indirection_kind k, field-again v s b h next Four order x j q, t);
                known = a;
                born = λ n a l. absurd (omega arith);
                spans = past (end refl);
                fit = λ n. rw (found-low v w.kinds p a) (fitting a c);
                tops = λ n. t₀;
                new = λ n. absurd (omega arith);
              }

      target-by : kind ≡ indirection_kind → (x : ℕ) (j : Index) → field_of s next Four order ≡ Some (x, j) → (t : Option Place) → target_of (place_before b j) x ≡ t
          → Gives (Well v w.kinds b order i) (aimed_step t w j)
      target-by k x j q (Some p) t = target k x j q p t
      target-by k x j q None t = tt

      pub indirection : kind ≡ indirection_kind → Gives (Well v w.kinds b order i) (indirection_at s b order next w)
      unfolding indirection_at
      indirection k =
          on-field (Gives (Well v w.kinds b order i)) (field_of s next Four order) (refused_as Ends w) (λ x j. aimed_step (target_of (place_before b j) x) w j) (λ e. tt)
          (λ x j q. target-by k x j q (target_of (place_before b j) x) refl)

      -- a kind that is met: the list with it, and what its parameters give
      module _ (k : kind ≡ indirection_kind → ⊥) (c : length w.kinds < 64) (top : 0 < length w.kinds → top_only kind ≡ false) where
        abbrev here : Place
        here = place_before b next

        abbrev its : Kind
        its = written_at here b order

        abbrev pub m₁ : List Kind
        m₁ = w.kinds ++ (its ∷ [])

        pub more : length m₁ ≡ length w.kinds + 1
        more = length-append w.kinds (its ∷ [])

        pub fits₁ : Fits m₁
        fits₁ = omega (arith, more)

        grows₁ : Grows w.kinds m₁
        grows₁ = grows-more w.kinds its

        kind₁ : kind_no m₁ (length w.kinds) ≡ its
        kind₁ = kind-last w.kinds its

        new-place : (kind_no m₁ (length w.kinds)).place.0 ≡ here.0
        new-place = ap (λ (x : Kind). x.place.0) kind₁

        old_below : (j : ℕ) → j < length w.kinds → (kind_no m₁ j).place.0 < here.0
        old_below j a = rw (grows₁.same j a) (omega (arith, l j a, over.0))

        pub below₁ : Below m₁ (b.0 + next.0)
        below₁ j a =
            split j (length w.kinds) (λ d. omega (arith, old_below j d, over.0))
            (λ d. let e : length w.kinds ≡ j = omega (arith, more) in
            let n : (kind_no m₁ j).place.0 ≡ here.0 = subst (λ (x : ℕ). (kind_no m₁ x).place.0 ≡ here.0) e new-place in
            omega (arith, over.0))

        -- the number is read again at its own place
        there : field_in v b (index_of (here.0 - b.0)) Four order ≡ Some (kind, next)
        there =
            let z : index_of (here.0 - b.0) ≡ index_of (next.0 - 4) = ap index_of (omega (arith, over.0)) in
            ap (λ (x : Index). field_in v b x Four order) z ∙ field-again v s b h (index_of (next.0 - 4)) Four order kind next (field-there s i order kind next r)

        its-are : parameters_at v its ≡ parameters_after (form_of kind) v b order kind next
        unfolding parameters_at
        its-are = rw there

        met₁ : parameters_of v m₁ (length w.kinds) ≡ parameters_after (form_of kind) v b order kind next
        unfolding parameters_of
        met₁ = ap (parameters_at v) kind₁ ∙ its-are

        rises₁ : Rises w.kinds → Rises m₁
        rises₁ t x y a l =
            split y (length w.kinds) (λ d. rw (grows₁.same x (omega arith), grows₁.same y d) (t x y a d))
            (λ d. let e : length w.kinds ≡ y = omega (arith, more) in
            subst (λ (z : ℕ). (kind_no m₁ x).place.0 < (kind_no m₁ z).place.0) e (rw new-place (old_below x (omega arith))))

        -- the kind that is met, and those before it
        unfoldable pub w₁ : Walk
        w₁ = record { kinds = m₁; barred = w.barred ++ (is_barred (form_of kind) ∷ []) }

        barred₁ : get_or (w.barred ++ (is_barred (form_of kind) ∷ [])) (length w.kinds) false ≡ is_barred (form_of kind)
        barred₁ = subst (λ (n : ℕ). get_or (w.barred ++ (is_barred (form_of kind) ∷ [])) n false ≡ is_barred (form_of kind)) t₀.long (bar-last w.barred (is_barred (form_of kind)) false)

        pub tops₁ : Tops v w₁
        unfolding w₁
        tops₁ =
            record {
              long = length-append w.barred (is_barred (form_of kind) ∷ []) ∙ ap (λ (n : ℕ). n + 1) t₀.long ∙ sym more;
              below = λ j o a. split j (length w.kinds) (λ d. rw (parameters-again v w.kinds m₁ j grows₁ d) (t₀.below j o d))
                  (λ d. let e : length w.kinds ≡ j = omega (arith, more) in
                  subst (λ (x : ℕ). NotTop (parameters_of v m₁ x)) e (rw met₁ (after-not-top v b order kind next (top (omega arith)) (form_of kind) refl)));
              top = λ o e. split 0 (length w.kinds)
                  (λ d. rw (parameters-again v w.kinds m₁ 0 grows₁ d) (t₀.top d (sym (bar-before w.barred (is_barred (form_of kind)) false 0 (omega (arith, t₀.long))) ∙ e)))
                  (λ d. let z : length w.kinds ≡ 0 = omega arith in
                  let u : is_barred (form_of kind) ≡ false =
                  sym barred₁ ∙ subst (λ (x : ℕ). get_or (w.barred ++ (is_barred (form_of kind) ∷ [])) x false ≡ false) (sym z) e in
                  subst (λ (x : ℕ). NotTop (parameters_of v m₁ x)) z (rw met₁ (unbarred-not-top v b order kind next (form_of kind) u)));
            }

        module _ (i' : Index) (w' : Walk) (z : In v (length w.kinds) m₁ (form_of kind) b order kind next i' w') where
          kept : parameters_of v w'.kinds (length w.kinds) ≡ parameters_after (form_of kind) v b order kind next
          kept = parameters-again v m₁ w'.kinds (length w.kinds) z.on.grows (omega (arith, more)) ∙ met₁

          not_top : 0 < length w.kinds → NotTop (parameters_of v w'.kinds (length w.kinds))
          not_top o = rw kept (after-not-top v b order kind next (top o) (form_of kind) refl)

          kind-kept : kind_no w'.kinds (length w.kinds) ≡ its
          kind-kept = kind-again m₁ w'.kinds (length w.kinds) z.on.grows (omega (arith, more)) ∙ kind₁

          body_kept : parameters_at v (kind_no w'.kinds (length w.kinds)) ≡ parameters_after (form_of kind) v b order kind next
          body_kept = ap (parameters_at v) kind-kept ∙ its-are

          comes : (j : ℕ) → length w.kinds ≤ j → j < length w'.kinds → Comes v w'.kinds (Here its ∷ []) j
          comes j a d =
              ⊎_elim
              (λ (e : length w.kinds ≡ j). inl (subst (λ (x : ℕ). Among (Here (kind_no w'.kinds x)) (Here its ∷ [])) e
              (subst (λ (x : Kind). Among (Here x) (Here its ∷ [])) (sym kind-kept) foremost)))
              (λ q. inr (opens-child v m₁ w'.kinds (length w.kinds) (parameters_after (form_of kind) v b order kind next) body_kept z.body.opens j
              (omega arith) (omega (arith, more)) d)) (eq-or-lt_of_le a)

          pub well : Well v w.kinds b order i i' w'
          unfolding spot_at inside_of
          well =
              record {
                on =
                    record {
                      grows = grows-on grows₁ z.on.grows;
                      fits = z.on.fits;
                      below = z.on.below;
                      good = λ j a d. ⊎_elim
                          (λ (e : length w.kinds ≡ j). subst (Good v w'.kinds) e (record { sound = rw kept z.body.sound; below = not_top }))
                          (λ q. z.on.good j (omega (arith, more)) d) (eq-or-lt_of_le a);
                      closes = λ j a d. ⊎_elim
                          (λ (e : length w.kinds ≡ j). subst (λ (x : ℕ). Closed v w'.kinds (parameters_at v (kind_no w'.kinds x))) e
                          (subst (Closed v w'.kinds) (sym body_kept) z.body.opens.known))
                          (λ q. z.on.closes j (omega (arith, more)) d) (eq-or-lt_of_le a);
                      rises = λ t. z.on.rises (rises₁ t);
                    };
                type = Here its;
                read = rw (field-again v s b h i Four order kind next r, ne_eqb kind indirection_kind k, z.passes);
                known = (length w.kinds, omega (arith, z.on.grows.count, more), kind-kept);
                born = comes;
                spans =
                    passing kind-kept
                    (span {j = length w.kinds} z.body.row (omega (arith, z.on.grows.count, more))
                    (subst (λ (x : Parameters). RowOf v w'.kinds x z.body.row) (sym body_kept) z.body.rowed)
                    (spans-to v w'.kinds more z.body.spans))
                    (end refl);
                fit = λ o. rw its-are (after-not-top v b order kind next (top o) (form_of kind) refl);
                tops = z.tops;
                new = λ o.
                    let e = (field-facts s i Four order kind next r).ends in
                    let q : here.0 ≡ b.0 + behind_gap start i.0 4 = omega (arith, e) in
                    kind-kept ∙ ap (λ (n : ℕ). written_at (place_of n) b order) q;
              }

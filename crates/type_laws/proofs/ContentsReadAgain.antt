-- What follows a kind is read again without a fault, where the types inside are.
use Rattle.std.specs.Prelude.{Some, Result, Ok}
use mathlib.Core.Path.{◌≡◌, refl, sym, ◌∙◌, ap, subst}
use mathlib.Core.List.{List, [], ◌∷◌}
use mathlib.Core.Bool.{false, cond}
use mathlib.Core.Logic.{inl, inr, ⊎_elim}
use Prim.Native.Nat.{ℕ, zero, suc, ◌+◌, ◌-◌, ◌≤◌, ◌<◌}
use native.Mathlib.Omega.{arith}
use borrow.Author.Tests.{lt-ltb, eqb-true}
use lib.Dec.{eqb}
use lib.ListN.{length, get_or, take, drop}
use Rattle.choices.specs.Lists.{Among}
use Rattle.cdr.specs.declared.Index.{Index}
use Rattle.cdr.specs.declared.Place.{Place}
use Rattle.cdr.specs.declared.Order.{Order}
use Rattle.cdr.specs.declared.Size.TheVariants.{Four}
use Rattle.type_kinds.specs.declared.Inner.TheVariants.{Here}
use Rattle.type_kinds.specs.declared.Form.{Form}
use Rattle.type_kinds.specs.declared.Form.TheVariants.{Unlisted, Plain, Bounded, Composite}
use Rattle.type_kinds.specs.declared.Layout.{Layout}
use Rattle.type_kinds.specs.declared.Layout.TheVariants.{Objref as objref, Struct as struct, Union as union, Enum as enum, Sequence as sequence}
use Rattle.type_kinds.specs.declared.Layout.TheVariants.{Array as array, Alias as alias, Exception as exception}
use Rattle.type_kinds.specs.declared.Labels.{Labels}
use Rattle.type_kinds.specs.declared.Labels.TheVariants.{Of, NoLabels}
use Rattle.type_kinds.specs.declared.Inert.TheVariants.{Leaf, Text, Objref, Enum}
use Rattle.type_parameters.specs.declared.Parameters.{Parameters}
use Rattle.type_parameters.specs.declared.Parameters.TheVariants.{Struct, Exception, Union, Sequence, Array, Alias}
use Rattle.type_kinds.specs.declared.Kind.{Kind}
use Rattle.type_counts.specs.declared.Refusal.TheVariants.{BadEncapsulation}
use Rattle.cdr.specs.Align.{index_of}
use Rattle.cdr.specs.Orders.{order_of}
use Rattle.type_kinds.specs.Forms.{form_of}
use Rattle.type_kinds.specs.Parts.{place_of, place_in, skip_field, names_in}
use Rattle.type_kinds.specs.Members.{members_from, types_of}
use Rattle.type_parameters.specs.Parameters.{member_fields, type_in, element_in, union_in, parameters_in, encapsulated}
use Rattle.type_list.specs.Met.{kind_no}
use Rattle.type_unions.specs.Discriminants.{labels_for}
use Rattle.type_unions.specs.Arms.{no_default}
use Rattle.type_counts.specs.Counts.{names_step, number_step, length_step, head_step, exception_step, enum_step, part_of}
use Rattle.type_fields.specs.Fields.{bad_default, switch_step}
use Rattle.type_walk.specs.Walk.{Walk, closed_at, refused_as, goes_on_at, on_step, count_then, after_type}
use Rattle.type_walk.specs.Types.{Checker, name_step, members_at, labels_at, switch_head, cases_then, switched_at, discriminant_at, contents_at, ended_at, composite_at}
use Rattle.type_walk.specs.Types.{inside_at}
use Rattle.type_walk.proofs.TypeAtCases.{Found, part-facts}
use Rattle.type_laws.proofs.Sound.{Fitting, FieldsRead, Labelled}
use Rattle.type_laws.proofs.ListGrows.{Grows, known-grows, fitting-again, labels-grow}
use Rattle.type_laws.proofs.InnerKnown.{no-among, Switch, comes-grows, one_known, more-known, comes-first, comes-later, comes-typed}
use Rattle.type_laws.proofs.InnerKnown.Lodged.{member}
use Rattle.type_laws.proofs.WrittenSpan.{spans-grow, spans_on}
use Rattle.type_laws.proofs.WrittenSpan.Spans.{end}
use Rattle.type_laws.proofs.PartReadAgain.{Lies, lies-part, octet-again, field-again, field-over, counted-again, names-again, number_read, head-again}
use Rattle.type_laws.proofs.PartReadAgain.{exception-again, length-read, enum-again, switch-read, name-again}
use Rattle.type_laws.proofs.ByCases.{on-cond, on-step, on-count, on_switch, on-part, Gives, gives_then, gives-map}
use Rattle.type_laws.proofs.CheckedSoFar.{Fits, Below, split, Goes, goes_none, goes_on, goes_over, Tops, tops-closed, Well, Run, Body, Par, In}
use Rattle.type_laws.proofs.CheckedSoFar.{flat-body, typed-body, Checks}
use Rattle.type_counts.specs.declared.Refusal.{Refusal}

module _ (v : List ℕ) where
  module _ (go : Checker) (hold : Checks v go) where
    module _ (s : List ℕ) (b : Place) (order : Order) (h : Lies v s b.0) where
      members : (labels : Labels) (default : ℕ) (first : Index) (n done : ℕ) (i : Index) (w : Walk) → Fits w.kinds → Below w.kinds (b.0 + i.0)
          → 0 < length w.kinds → Tops v w → Gives (Run v w.kinds labels b order n i) (members_at v go labels default s b order first n done i w)
      unfolding members_at members_from types_of
      members labels default first zero done i w f l o t =
          record { on = goes_none v w.kinds _ f l; whole = refl; all = tt; known = λ x h. no-among x h; born = λ j a l. absurd (omega arith); spans = end refl; tops = t }
      members labels default first (suc n) done i w f l o t =
          on-step (Gives (Run v w.kinds labels b order (suc n) i)) (name_step labels v s b order default done first i) w
          (λ j. after_type (go s b order j w) (λ k w'. members_at v go labels default s b order first n (done + 1) k w')) (λ r e. tt) (λ j e.
          let a = name-again v s b h order labels default done first i j e in
          gives_then (Well v w.kinds b order j) (Run v w.kinds labels b order (suc n) i) (go s b order j w)
          (λ k w'. members_at v go labels default s b order first n (done + 1) k w')
          (hold s b order j w h f (λ x y. omega (arith, l x y, a.1)) o t)
          (λ k y.
          let w₁ = (go s b order j w).walk in
          let ts = types_of (members_from labels v b order n k) in
          let is = a.0 ∙ y.read in
          gives-map (Run v w₁.kinds labels b order n k) (Run v w.kinds labels b order (suc n) i) (members_at v go labels default s b order first n (done + 1) k w₁)
          (λ i' z. record {
            on = goes_on v w.kinds w₁.kinds _ _ _ y.on z.on;
            whole = rw is (ap suc z.whole);
            all = rw is (fitting-again v w₁.kinds _ z.on.grows y.type (y.known, y.fit o), z.all);
            known = rw is (more-known _ y.type ts (known-grows w₁.kinds _ z.on.grows y.type y.known) z.known);
            born = λ x p q. rw is (split x (length w₁.kinds)
                (λ d. comes-first v _ y.type ts x (comes-grows v w₁.kinds _ z.on.grows (y.type ∷ []) x d (y.born x p d)))
                (λ d. comes-later v _ y.type ts x (z.born x d q)));
            spans = rw is (spans_on v _ y.type ts _ _ _ (spans-grow v w₁.kinds _ z.on.grows y.spans) z.spans);
            tops = z.tops;
          })
          (members labels default first n (done + 1) k w₁ y.on.fits y.on.below (omega (arith, o, y.on.grows.count)) (y.tops o))))

      -- members that were all read
      fields_read : (m : List Kind) (labels : Labels) (n : ℕ) (i i' : Index) (w' : Walk) → Run v m labels b order n i i' w' → FieldsRead labels v w'.kinds (member_fields b order n i)
      fields_read m labels n i i' w' z = record { whole = z.whole; all = z.all }

      module _ (w : Walk) (f : Fits w.kinds) (l : Below w.kinds (b.0 + 1)) (some : 0 < length w.kinds) (t₀ : Tops v w) where
        still : (i : Index) → 1 ≤ i.0 → Goes v w.kinds w.kinds (b.0 + i.0)
        still i o = goes_none v w.kinds _ f (λ j a. omega (arith, l j a))

        objrefs : Gives (Par v w.kinds objref b order) (contents_at v go objref s b order w)
        objrefs = on-step (Gives (Par v w.kinds objref b order)) (names_step s order) w (λ i. goes_on_at i w) (λ r e. tt) (λ i e. named i e)
          where
            named : (i : Index) → names_step s order ≡ Ok i → Par v w.kinds objref b order i w
            named i e = record { on = still i (names-again v s b h order i e).1; body = flat-body v w.kinds Objref tt; tops = t₀ }

        enums : Gives (Par v w.kinds enum b order) (contents_at v go enum s b order w)
        enums = on-step (Gives (Par v w.kinds enum b order)) (enum_step s order) w (λ i. goes_on_at i w) (λ r e. tt) (λ i e. named i e)
          where
            named : (i : Index) → enum_step s order ≡ Ok i → Par v w.kinds enum b order i w
            named i e =
                let a = enum-again v s b h order i e in
                record { on = still i a.4; body = rw a.2 (flat-body v w.kinds (Enum a.0) a.3); tops = t₀ }

        -- members without labels behind id, name and count
        counted : (layout : Layout) (step : Result (ℕ × Index) Refusal)
            → ((n : ℕ) (i : Index) → step ≡ Ok (n, i)
            → (1 ≤ i.0) × ((i' : Index) (w' : Walk) → Run v w.kinds NoLabels b order n i i' w' → Body v w.kinds w'.kinds (parameters_in layout v b order)))
            → Gives (Par v w.kinds layout b order) (count_then step w (λ n i. members_at v go NoLabels no_default s b order i n 0 i w))
        counted layout step is =
            on-count (Gives (Par v w.kinds layout b order)) step w (λ n i. members_at v go NoLabels no_default s b order i n 0 i w) (λ r e. tt) (λ n i e.
            gives-map (Run v w.kinds NoLabels b order n i) (Par v w.kinds layout b order) (members_at v go NoLabels no_default s b order i n 0 i w)
            (λ i' z. record { on = z.on; body = (is n i e).1 i' _ z; tops = z.tops })
            (members NoLabels no_default i n 0 i w f (λ j c. omega (arith, l j c, (is n i e).0)) some t₀))

        structs : Gives (Par v w.kinds struct b order) (contents_at v go struct s b order w)
        structs = counted struct (head_step s order) (λ n i e.
            let a = head-again v s b h order n i e in
            let p = Struct (member_fields b order n i) in
            (a.2, λ i' w' z. rw a.0 (typed-body v w.kinds w'.kinds p (a.1, fields_read w.kinds NoLabels n i i' w' z) z.known refl z.born z.spans)))

        exceptions : Gives (Par v w.kinds exception b order) (contents_at v go exception s b order w)
        exceptions = counted exception (exception_step s order) (λ n i e.
            let a = exception-again v s b h order n i e in
            let p = Exception (member_fields b order n i) in
            (a.1, λ i' w' z. rw a.0 (typed-body v w.kinds w'.kinds p (fields_read w.kinds NoLabels n i i' w' z) z.known refl z.born z.spans)))

        -- one type that was read
        fitting : (w' : Walk) (i i' : Index) → (y : Well v w.kinds b order i i' w') → Fitting v w'.kinds y.type
        fitting w' i i' y = (y.known, y.fit some)

        aliases : Gives (Par v w.kinds alias b order) (contents_at v go alias s b order w)
        unfolding type_in
        aliases =
            on-step (Gives (Par v w.kinds alias b order)) (names_step s order) w (λ i. go s b order i w) (λ r e. tt) (λ i e.
            let a = names-again v s b h order i e in
            gives-map (Well v w.kinds b order i) (Par v w.kinds alias b order) (go s b order i w)
            (λ i' y. record { on = y.on; body = rw (a.0, y.read) (alias-body i i' _ y); tops = y.tops some })
            (hold s b order i w h f (λ j c. omega (arith, l j c, a.1)) some t₀))
          where
            alias-body : (i i' : Index) (w' : Walk) (y : Well v w.kinds b order i i' w') → Body v w.kinds w'.kinds (Alias y.type)
            alias-body i i' w' y = typed-body v w.kinds w'.kinds (Alias y.type) (fitting w' i i' y) (one_known w'.kinds y.type y.known) refl y.born y.spans

        sequenced : (w' : Walk) (i next : Index) → Well v w.kinds b order (index_of 1) i w' → number_step s i order ≡ Ok next → Par v w.kinds sequence b order next w'
        unfolding element_in
        sequenced w' i next y e =
            let x = number_read v s b h order i next e in
            record {
              on = goes_over v w.kinds w'.kinds _ _ (omega (arith, (field-over v s b h i Four order x.0 next x.1).0)) y.on;
              body = rw (y.read, field-again v s b h i Four order x.0 next x.1) (sequence-body x.0);
              tops = y.tops some;
            }
          where
            sequence-body : (bound : ℕ) → Body v w.kinds w'.kinds (Sequence y.type bound)
            sequence-body bound = typed-body v w.kinds w'.kinds (Sequence y.type bound) (fitting w' (index_of 1) i y) (one_known w'.kinds y.type y.known) refl y.born y.spans

        sequences : Gives (Par v w.kinds sequence b order) (contents_at v go sequence s b order w)
        sequences =
            gives_then (Well v w.kinds b order (index_of 1)) (Par v w.kinds sequence b order) (go s b order (index_of 1) w)
            (λ i w'. on_step (number_step s i order) w' (λ next. goes_on_at next w')) (hold s b order (index_of 1) w h f l some t₀)
            (λ i y.
            let w₁ = (go s b order (index_of 1) w).walk in
            on-step (Gives (Par v w.kinds sequence b order)) (number_step s i order) w₁ (λ next. goes_on_at next w₁) (λ r e. tt) (λ next e. sequenced w₁ i next y e))

        repeated : (w' : Walk) (i next : Index) → Well v w.kinds b order (index_of 1) i w' → length_step s i order ≡ Ok next → Par v w.kinds array b order next w'
        unfolding element_in
        repeated w' i next y e =
            let x = length-read v s b h order i next e in
            record {
              on = goes_over v w.kinds w'.kinds _ _ (omega (arith, (field-over v s b h i Four order x.0 next x.1).0)) y.on;
              body = rw (y.read, field-again v s b h i Four order x.0 next x.1) (array-body x.0 x.2);
              tops = y.tops some;
            }
          where
            array-body : (n : ℕ) → 0 < n → Body v w.kinds w'.kinds (Array y.type n)
            array-body n o = typed-body v w.kinds w'.kinds (Array y.type n) (o, fitting w' (index_of 1) i y) (one_known w'.kinds y.type y.known) refl y.born y.spans

        arrays : Gives (Par v w.kinds array b order) (contents_at v go array s b order w)
        arrays =
            gives_then (Well v w.kinds b order (index_of 1)) (Par v w.kinds array b order) (go s b order (index_of 1) w)
            (λ i w'. on_step (length_step s i order) w' (λ next. goes_on_at next w')) (hold s b order (index_of 1) w h f l some t₀)
            (λ i y.
            let w₁ = (go s b order (index_of 1) w).walk in
            on-step (Gives (Par v w.kinds array b order)) (length_step s i order) w₁ (λ next. goes_on_at next w₁) (λ r e. tt) (λ next e. repeated w₁ i next y e))

        -- a union behind its discriminant
        module _ (i : Index) (names : names_in v b order ≡ Some i) (w₁ : Walk) (j : Index) (y : Well v w.kinds b order i j w₁) where
          labels-are : labels_at v w₁.kinds b i order ≡ labels_for v w₁.kinds (place_in y.type)
          unfolding labels_at
          labels-are = rw y.read

          module _ (labels : Labels) (q : labels_at v w₁.kinds b i order ≡ labels) (t : Labelled labels) (default n : ℕ) (next : Index)
              (e : switch_step s j order ≡ Ok (default, n, next)) (i' : Index) (w' : Walk) (z : Run v w₁.kinds labels b order n next i' w') where
            abbrev grown : Grows w₁.kinds w'.kinds
            grown = z.on.grows

            said₁ : labels_for v w₁.kinds (place_in y.type) ≡ labels
            said₁ = sym labels-are ∙ q

            said₂ : labels_for v w'.kinds (place_in y.type) ≡ labels
            said₂ = labels-grow v w₁.kinds w'.kinds (place_in y.type) grown (subst Labelled (sym said₁) t) ∙ said₁

            abbrev by₁ : Switch v w₁.kinds y.type
            by₁ = record { known = y.known; labels = labels; labelled = t; said = said₁ }

            abbrev by₂ : Switch v w'.kinds y.type
            by₂ = record { known = known-grows w₁.kinds w'.kinds grown y.type y.known; labels = labels; labelled = t; said = said₂ }

            abbrev cases : Parameters
            cases = Union (member_fields b order n next) y.type default

            union-body : 0 < n → bad_default default n ≡ false → Body v w.kinds w'.kinds cases
            union-body o d =
                record {
                  sound = (
                    fitting-again v w₁.kinds w'.kinds grown y.type (fitting w₁ i j y),
                    subst Labelled (sym said₂) t,
                    o,
                    d,
                    rw said₂ (fields_read w₁.kinds labels n next i' w' z),
                  );
                  opens =
                      record {
                        known = record { by = by₂; members = z.known };
                        born = λ k p l. split k (length w₁.kinds)
                            (λ a. comes-typed v w'.kinds cases k (comes-grows v w₁.kinds w'.kinds grown (y.type ∷ []) k a (y.born k p a)))
                            (λ a. ⊎_elim
                            (λ (o : Among (Here (kind_no w'.kinds k)) (types_of (members_from labels v b order n next))). inl (member refl w₁.kinds grown a y.on.fits by₁ o))
                            (λ o. inr o) (z.born k a l));
                      };
                  row = y.type ∷ types_of (members_from labels v b order n next);
                  rowed = (by₂, refl);
                  spans = spans_on v w'.kinds y.type (types_of (members_from labels v b order n next)) _ _ _ (spans-grow v w₁.kinds w'.kinds grown y.spans) z.spans;
                }

            unioned : Par v w.kinds union b order i' w'
            unfolding type_in union_in
            unioned =
                let x = switch-read v s b h order j default n next e in
                record {
                  on = goes_on v w.kinds w₁.kinds w'.kinds _ _ y.on z.on;
                  body = rw (names, y.read, field-again v s b h j Four order default x.0 x.1, field-again v s b h x.0 Four order n next x.2) (union-body x.3 x.4);
                  tops = z.tops;
                }

          switched-by : (labels : Labels) → labels_at v w₁.kinds b i order ≡ labels
              → Gives (Par v w.kinds union b order) (cases_then (switch_head labels s j order) w₁ (λ default n next. members_at v go labels default s b order next n 0 next w₁))
          switched-by NoLabels q = tt
          switched-by (Of size limit) q =
              on_switch (Gives (Par v w.kinds union b order)) (switch_step s j order) w₁ (λ default n next. members_at v go (Of size limit) default s b order next n 0 next w₁)
              (λ r e. tt) (λ default n next e.
              let x = switch-read v s b h order j default n next e in
              gives-map (Run v w₁.kinds (Of size limit) b order n next) (Par v w.kinds union b order) (members_at v go (Of size limit) default s b order next n 0 next w₁)
              (λ i' z. unioned (Of size limit) q tt default n next e i' _ z)
              (members (Of size limit) default next n 0 next w₁ y.on.fits
              (λ k c. omega (arith, y.on.below k c, (field-over v s b h j Four order default x.0 x.1).0, (field-over v s b h x.0 Four order n next x.2).0))
              (omega (arith, some, y.on.grows.count)) (y.tops some)))

          switched : Gives (Par v w.kinds union b order) (switched_at v go (labels_at v w₁.kinds b i order) s b order j w₁)
          unfolding switched_at
          switched = switched-by (labels_at v w₁.kinds b i order) refl

        unions : Gives (Par v w.kinds union b order) (contents_at v go union s b order w)
        unfolding discriminant_at
        unions =
            on-step (Gives (Par v w.kinds union b order)) (names_step s order) w
            (λ i. after_type (go s b order i w) (λ j w'. switched_at v go (labels_at v w'.kinds b i order) s b order j w')) (λ r e. tt) (λ i e.
            let a = names-again v s b h order i e in
            gives_then (Well v w.kinds b order i) (Par v w.kinds union b order) (go s b order i w)
            (λ j w'. switched_at v go (labels_at v w'.kinds b i order) s b order j w') (hold s b order i w h f (λ j c. omega (arith, l j c, a.1)) some t₀)
            (λ j y. switched i a.0 _ j y))

        parameters : (layout : Layout) → Gives (Par v w.kinds layout b order) (contents_at v go layout s b order w)
        parameters objref = objrefs
        parameters struct = structs
        parameters union = unions
        parameters enum = enums
        parameters sequence = sequences
        parameters array = arrays
        parameters alias = aliases
        parameters exception = exceptions

    -- what follows a kind
    module _ (s : List ℕ) (b : Place) (order : Order) (i : Index) (w : Walk) (kind here : ℕ) (h : Lies v s b.0) (f : Fits w.kinds) (l : Below w.kinds (b.0 + i.0)) (some : 0 < length w.kinds) (t₀ : Tops v w) where
      plain : form_of kind ≡ Plain → In v here w.kinds Plain b order kind i i (closed_at w here)
      unfolding closed_at
      plain e = record { on = goes_none v w.kinds _ f l; passes = refl; body = flat-body v w.kinds (Leaf kind) e; tops = λ o. tops-closed v w here o t₀ }

      bounded : (next : Index) → number_step s i order ≡ Ok next → In v here w.kinds Bounded b order kind i next (closed_at w here)
      unfolding closed_at skip_field
      bounded next e =
          let x = number_read v s b h order i next e in
          let a = field-again v s b h i Four order x.0 next x.1 in
          record {
            on = goes_none v w.kinds _ f (λ j c. omega (arith, l j c, (field-over v s b h i Four order x.0 next x.1).0));
            passes = rw a;
            body = rw a (flat-body v w.kinds (Text x.0) tt);
            tops = λ o. tops-closed v w here o t₀;
          }

      module _ (layout : Layout) (x e : ℕ) (o : Order) (d : Found s i order x e o) where
        ended : (i' : Index) (w' : Walk) → i'.0 ≡ e - x → Par v w.kinds layout (place_of (b.0 + x)) o i' w'
            → In v here w.kinds (Composite layout) b order kind i (index_of e) (closed_at w' here)
        unfolding closed_at encapsulated
        ended i' w' z y =
            let a = field-again v s b h i Four order d.size d.from d.read in
            let n : order_of (get_or v (b.0 + x) 0) ≡ Some o = ap order_of (sym (octet-again v s b h x (omega (arith, d.some, d.ends)))) ∙ d.named in
            let k : index_of (d.from.0 + d.size) ≡ index_of e = ap index_of (omega (arith, d.start, d.size_is)) in
            record {
              on = goes_over v w.kinds w'.kinds _ _ (omega (arith, d.some)) y.on;
              passes = counted-again v s b h i order d.size d.from d.read (omega (arith, d.start, d.size_is, d.ends)) ∙ ap Some k;
              body = rw (a, d.start, lt-ltb (b.0 + x) (length v) (omega (arith, d.some, d.ends, h.long)), n) y.body;
              tops = λ o. tops-closed v w' here o y.tops;
            }

        part : Gives (In v here w.kinds (Composite layout) b order kind i)
            (ended_at here (e - x) e (contents_at v go layout (take (e - x) (drop x s)) (place_of (b.0 + x)) o w))
        unfolding ended_at
        part =
            gives_then (Par v w.kinds layout (place_of (b.0 + x)) o) (In v here w.kinds (Composite layout) b order kind i) (contents_at v go layout (take (e - x) (drop x s)) (place_of (b.0 + x)) o w)
            (λ i' w'. cond (eqb i'.0 (e - x)) (goes_on_at (index_of e) (closed_at w' here)) (refused_as BadEncapsulation w'))
            (parameters (take (e - x) (drop x s)) (place_of (b.0 + x)) o (lies-part v s b.0 x e h (omega (arith, d.some)) d.ends) w f
            (λ j c. omega (arith, l j c, (field-over v s b h i Four order d.size d.from d.read).0, d.start)) some t₀ layout)
            (λ i' y.
            let w' = (contents_at v go layout (take (e - x) (drop x s)) (place_of (b.0 + x)) o w).walk in
            on-cond (Gives (In v here w.kinds (Composite layout) b order kind i)) (eqb i'.0 (e - x)) (goes_on_at (index_of e) (closed_at w' here)) (refused_as BadEncapsulation w')
            (λ z. ended i' w' (eqb-true i'.0 (e - x) z) y) (λ z. tt))

      pub inside : (form : Form) → form_of kind ≡ form → Gives (In v here w.kinds form b order kind i) (inside_at v go form s b order i w here)
      unfolding composite_at
      inside Unlisted q = tt
      inside Plain q = plain q
      inside Bounded q = on-step (Gives (In v here w.kinds Bounded b order kind i)) (number_step s i order) w (λ next. goes_on_at next (closed_at w here)) (λ r e. tt) (λ next e. bounded next e)
      inside (Composite layout) q =
          on-part (Gives (In v here w.kinds (Composite layout) b order kind i)) (part_of s i order) w
          (λ x e o. ended_at here (e - x) e (contents_at v go layout (take (e - x) (drop x s)) (place_of (b.0 + x)) o w)) (λ r e. tt) (λ x e o p. part layout x e o (part-facts s i order x e o p))

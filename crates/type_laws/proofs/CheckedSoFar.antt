-- What holds of a check that has gone on: of the list of kinds met, of a type, of members, of what follows a kind. It is carried through the
-- check of a type.
use Rattle.std.specs.Prelude.{Some}
use mathlib.Core.Path.{◌≡◌, refl, sym, ◌∙◌}
use mathlib.Core.List.{List, [], ◌∷◌, ◌++◌}
use mathlib.Core.Bool.{Bool, false}
use Prim.Native.Nat.{ℕ, zero, suc, ◌+◌, ◌≤◌, ◌<◌}
use native.Mathlib.Omega.{arith}
use borrow.Author.Tests.{ltb-true, ltb-false}
use lib.Dec.{ltb}
use lib.ListN.{length, get_or, length-set}
use lib.Seq.{get_or-set_other}
use Rattle.choices.specs.Lists.{All}
use Rattle.choices.proofs.Choices.{by-test}
use Rattle.cdr.specs.declared.Index.{Index}
use Rattle.cdr.specs.declared.Place.{Place}
use Rattle.cdr.specs.declared.Order.{Order}
use Rattle.type_kinds.specs.declared.Inner.{Inner}
use Rattle.type_kinds.specs.declared.Form.{Form}
use Rattle.type_kinds.specs.declared.Layout.{Layout}
use Rattle.type_kinds.specs.declared.Labels.{Labels}
use Rattle.type_kinds.specs.declared.Inert.{Inert}
use Rattle.type_parameters.specs.declared.Parameters.{Parameters}
use Rattle.type_parameters.specs.declared.Parameters.TheVariants.{Flat}
use Rattle.type_kinds.specs.declared.Kind.{Kind}
use Rattle.cdr.specs.Align.{behind_gap}
use Rattle.cdr_fields.specs.Encapsulation.{start}
use Rattle.type_kinds.specs.Parts.{place_of, written_at, skip_kind, spot_at}
use Rattle.type_kinds.specs.Members.{members_from, types_of}
use Rattle.type_parameters.specs.Parameters.{parameters_in, parameters_after, parameters_at}
use Rattle.type_list.specs.Met.{kind_no, parameters_of, inside_of}
use Rattle.type_walk.specs.Walk.{Walk, closed_at}
use Rattle.type_walk.specs.Types.{Checker}
use Rattle.type_laws.specs.Written.{types_by}
use Rattle.type_laws.proofs.Sound.{Known, Fitting, InertSound, Sound, NotTop, Good}
use Rattle.type_laws.proofs.ListGrows.{Grows, grows_none, grows-on, good-grows}
use Rattle.type_laws.proofs.InnerKnown.{no-among, Rises, AllKnown, Closed, Comes, Opens, closed-grows, comes-typed}
use Rattle.type_laws.proofs.WrittenSpan.{RowOf, Spans}
use Rattle.type_laws.proofs.WrittenSpan.Spans.{end}
use Rattle.type_laws.proofs.PartReadAgain.{Lies}
use Rattle.type_laws.proofs.ByCases.{Gives}

abbrev pub Fits : List Kind → Type 0
Fits m = length m ≤ 64

abbrev pub Below : List Kind → ℕ → Type 0
Below m x = (j : ℕ) → j < length m → (kind_no m j).place.0 < x

pub split : {A : Type 0} (j n : ℕ) → (j < n → A) → (n ≤ j → A) → A
split j n f g = by-test (ltb j n) (λ e. f (ltb-true j n e)) (λ e. g (ltb-false j n e))

-- one more mark
pub bar-before : (bs : List Bool) (b d : Bool) (j : ℕ) → j < length bs → get_or (bs ++ (b ∷ [])) j d ≡ get_or bs j d
bar-before [] b d j l = absurd (omega arith)
bar-before (c ∷ bs) b d zero l = refl
bar-before (c ∷ bs) b d (suc j) l = bar-before bs b d j (omega arith)

pub bar-last : (bs : List Bool) (b d : Bool) → get_or (bs ++ (b ∷ [])) (length bs) d ≡ b
bar-last [] b d = refl
bar-last (c ∷ bs) b d = bar-last bs b d

module _ (v : List ℕ) where
  -- from the list m to the list m', all of whose places lie before x
  pub record Goes (m m' : List Kind) (x : ℕ) : Type 0 where
    pub grows : Grows m m'
    pub fits : Fits m'
    pub below : Below m' x
    pub good : (j : ℕ) → length m ≤ j → j < length m' → Good v m' j
    pub closes : (j : ℕ) → length m ≤ j → j < length m' → Closed v m' (parameters_at v (kind_no m' j))
    pub rises : Rises m → Rises m'

  pub goes_none : (m : List Kind) (x : ℕ) → Fits m → Below m x → Goes m m x
  goes_none m x f b = record { grows = grows_none m; fits = f; below = b; good = λ j a l. absurd (omega arith); closes = λ j a l. absurd (omega arith); rises = λ r. r }

  pub goes_on : (m₁ m₂ m₃ : List Kind) (x y : ℕ) → Goes m₁ m₂ x → Goes m₂ m₃ y → Goes m₁ m₃ y
  goes_on m₁ m₂ m₃ x y g h =
      record {
        grows = grows-on g.grows h.grows;
        fits = h.fits;
        below = h.below;
        good = λ j a l. split j (length m₂) (λ k. good-grows v m₂ m₃ j h.grows k (g.good j a k)) (λ k. h.good j k l);
        closes = λ j a l. split j (length m₂) (λ k. closed-grows v m₂ m₃ h.grows j k (g.closes j a k)) (λ k. h.closes j k l);
        rises = λ r. h.rises (g.rises r);
      }

  -- the same list, read further
  pub goes_over : (m m' : List Kind) (x y : ℕ) → x ≤ y → Goes m m' x → Goes m m' y
  goes_over m m' x y l g = record { grows = g.grows; fits = g.fits; below = λ j a. omega (arith, g.below j a); good = g.good; closes = g.closes; rises = g.rises }

  -- what an indirection may lead to may stand below the top: a kind below the top, and the top if it is no longer barred
  pub record Tops (w : Walk) : Type 0 where
    pub long : length w.barred ≡ length w.kinds
    pub below : (j : ℕ) → 0 < j → j < length w.kinds → NotTop (parameters_of v w.kinds j)
    pub top : 0 < length w.kinds → get_or w.barred 0 false ≡ false → NotTop (parameters_of v w.kinds 0)

  pub tops-closed : (w : Walk) (here : ℕ) → 0 < here → Tops w → Tops (closed_at w here)
  unfolding closed_at
  tops-closed w here o t =
      record {
        long = simp length-set t.long;
        below = t.below;
        top = λ c e. t.top c (sym (get_or-set_other w.barred here 0 false false (λ q. omega arith)) ∙ e);
      }

  -- a type at an index of the encapsulation that starts at the place b
  pub record Well (m : List Kind) (b : Place) (order : Order) (i : Index) (i' : Index) (w' : Walk) : Type 0 where
    pub on : Goes m w'.kinds (b.0 + i'.0)
    pub type : Inner
    pub read : spot_at v b i order ≡ Some (type, i')
    pub known : Known w'.kinds type
    pub born : (j : ℕ) → length m ≤ j → j < length w'.kinds → Comes v w'.kinds (type ∷ []) j
    pub spans : Spans v w'.kinds (type ∷ []) (length m) (length w'.kinds)
    pub fit : 0 < length m → NotTop (inside_of v w'.kinds type)
    pub tops : 0 < length m → Tops w'
    -- a kind that is met here has this place, start and order
    pub new : length m < length w'.kinds → kind_no w'.kinds (length m) ≡ written_at (place_of (b.0 + behind_gap start i.0 4)) b order

  -- members from an index on
  pub record Run (m : List Kind) (labels : Labels) (b : Place) (order : Order) (n : ℕ) (i : Index) (i' : Index) (w' : Walk) : Type 0 where
    pub on : Goes m w'.kinds (b.0 + i'.0)
    pub whole : length (members_from labels v b order n i) ≡ n
    pub all : All (Fitting v w'.kinds) (types_of (members_from labels v b order n i))
    pub known : AllKnown w'.kinds (types_of (members_from labels v b order n i))
    pub born : (j : ℕ) → length m ≤ j → j < length w'.kinds → Comes v w'.kinds (types_of (members_from labels v b order n i)) j
    pub spans : Spans v w'.kinds (types_of (members_from labels v b order n i)) (length m) (length w'.kinds)
    pub tops : Tops w'

  -- parameters that were read, from the list m to the list m'
  pub record Body (m m' : List Kind) (p : Parameters) : Type 0 where
    pub sound : Sound v m' p
    pub opens : Opens v m m' p
    pub row : List Inner
    pub rowed : RowOf v m' p row
    pub spans : Spans v m' row (length m) (length m')

  -- what an encapsulation of a layout holds
  pub record Par (m : List Kind) (layout : Layout) (b : Place) (order : Order) (i' : Index) (w' : Walk) : Type 0 where
    pub on : Goes m w'.kinds (b.0 + i'.0)
    pub body : Body m w'.kinds (parameters_in layout v b order)
    pub tops : Tops w'

  -- what follows a kind of a form
  pub record In (here : ℕ) (m : List Kind) (form : Form) (b : Place) (order : Order) (kind : ℕ) (i : Index) (i' : Index) (w' : Walk) : Type 0 where
    pub on : Goes m w'.kinds (b.0 + i'.0)
    pub passes : skip_kind form v b i order ≡ Some i'
    pub body : Body m w'.kinds (parameters_after form v b order kind i)
    pub tops : 0 < here → Tops w'

  -- a kind that holds no other
  pub flat-body : (m : List Kind) (i : Inert) → InertSound i → Body m m (Flat i)
  flat-body m i h =
      record {
        sound = h;
        opens = record { known = λ x a. no-among x a; born = λ j a l. absurd (omega arith) };
        row = [];
        rowed = refl;
        spans = end refl;
      }

  -- a kind that holds the types of a row, all of which were read
  pub typed-body : (m m' : List Kind) (p : Parameters) → Sound v m' p → Closed v m' p → RowOf v m' p (types_by v p)
      → ((j : ℕ) → length m ≤ j → j < length m' → Comes v m' (types_by v p) j) → Spans v m' (types_by v p) (length m) (length m') → Body m m' p
  typed-body m m' p sound known rowed born spans =
      record {
        sound = sound;
        opens = record { known = known; born = λ j a l. comes-typed v m' p j (born j a l) };
        row = types_by v p;
        rowed = rowed;
        spans = spans;
      }

  abbrev pub Checks : Checker → Type 0
  Checks go =
      (s : List ℕ) (b : Place) (order : Order) (i : Index) (w : Walk) → Lies v s b.0 → Fits w.kinds → Below w.kinds (b.0 + i.0)
      → 0 < length w.kinds → Tops w → Gives (Well w.kinds b order i) (go s b order i w)

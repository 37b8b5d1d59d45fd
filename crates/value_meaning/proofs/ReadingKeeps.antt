-- What every part of a reading that holds no visit keeps, or every single step, the whole reading keeps, for any type and any sink.
use mathlib.Core.Path.{◌≡◌, refl}
use mathlib.Core.Bool.{true}
use Prim.Native.Nat.{ℕ, zero, suc}
use native.Mathlib.Omega.{arith}
use lib.Dec.{eqb}
use Rattle.choices.specs.Lists.{any_of}
use Rattle.type_kinds.specs.declared.Inner.{Inner}
use Rattle.type_kinds.specs.declared.Inert.{Inert}
use Rattle.type_kinds.specs.declared.Inert.TheVariants.{Leaf, Text, Objref, Enum}
use Rattle.type_unions.specs.Shapes.{Shape}
use Rattle.type_unions.specs.Shapes.Shape.{fault, flat, struct, exception, union, sequence, array, alias}
use Rattle.value_meaning.specs.Refusals.{is_value_refusal, room_refusal}
use Rattle.value_meaning.specs.Sinks.{Source, Item, Piece, Sink, St, failed, and_then, repeats, begun, taken, done}
use Rattle.value_meaning.specs.Visit.{Checked, leaf_at, enum_at, text_at, count_at, tag_at, run_at, profile_at, profiles_at, objref_at, inert_at}
use Rattle.value_meaning.specs.Opens.{Node, node, node_at, Open, Next, on_next, next, Own, own_of, own_at, own, closes, shuts, enter_node, reads_node}
use Rattle.value_meaning.specs.Opens.Next.{over, into}
use Rattle.value_meaning.specs.Opens.Own.{nothing, inert, count_up_to}
use Rattle.value_meaning.specs.Reading.{reads}
use Rattle.value_meaning.proofs.ByChoice.{by-choice}
use Rattle.value_meaning.proofs.PartsOfVisits.{Part, leaf-gives, enum-gives, text-gives, count_gives, tag-gives, run-gives}

-- what a visit's begin, its lack of a level and each part that holds no visit keep; G says which kinds that hold no other the type leads to,
-- and an exception's id is a text
pub record Wholes {A : Type 0} (k : Sink A) (x : Source) (G : Inert → Type 0) (P : St A → Type 0) : Type 0 where
  pub id : G (Text 0)
  pub refused : (s : St A) → P s → P (failed 55 s)
  pub visited : (s : St A) → P s → P (begun k s)
  pub leaf : (kind : ℕ) → G (Leaf kind) → (s : St A) → P s → P (leaf_at k x kind s)
  pub enum : (names : ℕ) (s : St A) → P s → P (enum_at k x names s)
  pub text : (bound : ℕ) (s : St A) → P s → P (text_at k x bound s)
  pub count : (bound : ℕ) (s : St A) → P s → P (count_at k x bound s)
  pub tag : (s : St A) → P s → P (tag_at k x s)
  pub run : (s : St A) → P s → P (run_at k x s)

module _ {A : Type 0} (k : Sink A) (x : Source) (G : Inert → Type 0) (P : St A → Type 0) (W : Wholes k x G P) where
  after-keeps : (r : St A) (f : St A → St A) → P r → (P r → P (f r)) → P (and_then r f)
  unfolding and_then
  after-keeps r f h g = by-choice P (eqb r.fault 0) (λ _. g h) (λ _. h)

  repeats-keeps : (f : St A → St A) → ((s : St A) → P s → P (f s)) → (n : ℕ) (s : St A) → P s → P (repeats f n s)
  unfolding repeats
  repeats-keeps f g zero s h = h
  repeats-keeps f g (suc n) s h = after-keeps (f s) (repeats f n) (g s h) (repeats-keeps f g n (f s))

  profile-keeps : (s : St A) → P s → P (profile_at k x s)
  unfolding profile_at
  profile-keeps s h = after-keeps (tag_at k x s) (run_at k x) (W.tag s h) (W.run (tag_at k x s))

  profiles-keeps : (s : St A) → P s → P (profiles_at k x s)
  unfolding profiles_at
  profiles-keeps s h =
      after-keeps (count_at k x 0 s) (λ u. repeats (profile_at k x) u.last u) (W.count 0 s h)
      (repeats-keeps (profile_at k x) profile-keeps (count_at k x 0 s).last (count_at k x 0 s))

  objref-keeps : (s : St A) → P s → P (objref_at k x s)
  unfolding objref_at
  objref-keeps s h = after-keeps (text_at k x 0 s) (profiles_at k x) (W.text 0 s h) (profiles-keeps (text_at k x 0 s))

  inert-keeps : (i : Inert) → G i → (s : St A) → P s → P (inert_at k x i s)
  unfolding inert_at
  inert-keeps (Leaf kind) g s h = W.leaf kind g s h
  inert-keeps (Text bound) g s h = W.text bound s h
  inert-keeps Objref g s h = objref-keeps s h
  inert-keeps (Enum names) g s h = W.enum names s h

  -- what G says of what a visit reads itself
  abbrev Reads : Own → Type 0
  Reads nothing = Unit
  Reads (inert i) = G i
  Reads (count_up_to bound) = Unit

  own-keeps : (o : Own) → Reads o → (s : St A) → P s → P (own_at k x o s)
  own-keeps nothing g s h = h
  own-keeps (inert i) g s h = inert-keeps i g s h
  own-keeps (count_up_to bound) g s h = W.count bound s h

  -- a shape that G allows
  abbrev Leads : Shape → Type 0
  Leads a = (i : Inert) → a ≡ flat i → G i

  own-reads : (a : Shape) → Leads a → Reads (own_of a)
  unfolding own_of
  own-reads fault g = tt
  own-reads (flat i) g = g i refl
  own-reads (struct ys) g = tt
  own-reads (exception ys) g = W.id
  own-reads (union d ms default) g = tt
  own-reads (sequence y bound) g = tt
  own-reads (array y n) g = tt
  own-reads (alias y) g = tt

  module _ (t : Checked) (leads : (y : Inner) → Leads (t.look y)) where
    module _ (f : Node → St A → St A) (part : (y : Inner) (s : St A) → P s → P (f (node_at t y) s)) where
      next-keeps : (a : Next) (m : Open → St A → St A) → ((o : Open) (s : St A) → P s → P (m o s)) → (s : St A) → P s
          → P (on_next a s (λ y o. and_then (f (node_at t y) s) (m o)))
      next-keeps over m g s h = h
      next-keeps (into y o) m g s h = after-keeps (f (node_at t y) s) (m o) (part y s h) (g o (f (node_at t y) s))

      closes-keeps : (n : ℕ) (o : Open) (s : St A) → P s → P (closes f t n o s)
      unfolding closes
      closes-keeps zero o s h = h
      closes-keeps (suc n) o s h = next-keeps (next o s.last) (closes f t n) (closes-keeps n) s h

    node-keeps : (l : ℕ) (a : Shape) → Leads a → (s : St A) → P s → P (reads_node k x l (node t a) s)
    unfolding reads_node enter_node shuts
    node-keeps zero a g s h = W.refused s h
    node-keeps (suc l) a g s h =
        closes-keeps (reads_node k x l) (λ y. node-keeps l (t.look y) (leads y)) _ _ (own k x a (begun k s))
        (own-keeps (own_of a) (own-reads a g) (begun k s) (W.visited s h))

    pub reads-wholes : (l : ℕ) (a : Shape) → Leads a → (s : St A) → P s → P (reads k x t l a s)
    unfolding reads
    reads-wholes l a g s h = node-keeps l a g s h

-- what a refusal other than that of no room, a visit's begin, octets taken and an item with its lack of room keep
pub record Keeps {A : Type 0} (k : Sink A) (P : St A → Type 0) : Type 0 where
  pub refused : (n : ℕ) (s : St A) → is_value_refusal n ≡ true → (n ≡ room_refusal → ⊥) → P s → P (failed n s)
  pub visited : (s : St A) → P s → P (begun k s)
  pub took : (p : Piece) (next : ℕ) (s : St A) → P s → P (taken k p next s)
  pub finished : (i : Item) (s : St A) → P s → P (done k i s)

module _ {A : Type 0} (k : Sink A) (x : Source) (P : St A → Type 0) (K : Keeps k P) where
  kept-part : (s : St A) → P s → Part k x s P P
  unfolding is_value_refusal any_of
  kept-part s h =
      record {
        ended = K.refused 50 s refl (λ z. omega arith) h;
        first = λ size p n t. K.took _ _ s h;
        run = λ n m l. K.took _ _ s h;
        more = λ n r l g. K.took _ _ r g;
        refused = K.refused;
        finished = K.finished;
      }

  wholes : Wholes k x (λ i. Unit) P
  unfolding is_value_refusal any_of
  wholes =
      record {
        id = tt;
        refused = λ s h. K.refused 55 s refl (λ z. omega arith) h;
        visited = K.visited;
        leaf = λ kind g s h. leaf-gives k x s P P (kept-part s h) kind (λ _. h);
        enum = λ names s h. enum-gives k x s P P (kept-part s h) names;
        text = λ bound s h. text-gives k x s P P (kept-part s h) bound;
        count = λ bound s h. count_gives k x s P P (kept-part s h) bound;
        tag = λ s h. tag-gives k x s P P (kept-part s h);
        run = λ s h. run-gives k x s P P (kept-part s h);
      }

  pub reads-keeps : (t : Checked) (l : ℕ) (a : Shape) (s : St A) → P s → P (reads k x t l a s)
  reads-keeps t l a s h = reads-wholes k x (λ i. Unit) P wholes t (λ y i e. tt) l a (λ i e. tt) s h

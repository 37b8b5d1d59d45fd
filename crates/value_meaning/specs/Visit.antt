-- What a visit does with its own octets, kind by kind, without a reader inside it.
--   Checked        a checked type: what each type inside it looks like, and nothing else
--   checked        the same of octets and the kinds met in them
--   size_of         the octets of a primitive: 2 for short and ushort, 4 for long, ulong and float, 8 for double, longlong and ulonglong, 1
--                  for boolean, char and octet
--   content_of      "signed content is sign-extended"
--   leaf_done       "51 boolean above 1", or the item
--   leaf_at         "Null, void: nothing"; else a primitive
--   enum_done       "52 enum not below count", or the item
--   enum_at         an enum, which is an unsigned long
--   text_done       "zeros (53)", or the item: "text 18 and its length without the zero"
--   text_got        "length 0 (53), bound (54), end (50), zeros (53)"
--   text_at         "string: length with its final zero"
--   count_done      "54 over its bound", or the item: "counts 19"
--   count_at        a count, which is then the number taken last
--   tag_done        "tags 5"
--   tag_at          a tag
--   run_done        "octet runs 256 and their length"
--   run_got         the octets behind their length, which has no item of its own
--   run_at          counted octets
--   profile_at      "tag and counted octets for each profile"
--   profiles_at     "count, then tag and counted octets for each profile"
--   objref_at       "objref: text, count, then tag and counted octets for each profile, all one visit"
--   inert_at        what is read of a kind that holds no other
use Rattle.std.specs.Prelude.{◌-◌, ◌||◌}
use Rattle.choices.specs.{ℕ, List, cond, ltb, leb, eqb, choose}
use Rattle.cdr.specs.{Size, One, Two, Four, Eight, octets, Number.sign_extended}
use Rattle.value_items.specs.Items.{signed_kind}
use Rattle.type_numbers.specs.Kinds.{short_kind, long_kind, unsigned_short_kind, unsigned_long_kind, float_kind, double_kind, boolean_kind, enum_kind}
use Rattle.type_numbers.specs.Kinds.{string_kind, sequence_kind, long_long_kind, unsigned_long_long_kind, run_kind}
use Rattle.cdr_text.specs.Text.{over_bound, ends_text}
use Rattle.type_kinds.specs.{Inner, Inert, Leaf, Text, Objref, Enum, Kind}
use Rattle.type_unions.specs.{Shape, look}
use Rattle.value_meaning.specs.Sinks.{Source, item, Sink, St, failed, and_then, repeats, done, number_taken, octets_step}

pub record Checked : Type 0 where
  pub look : Inner → Shape

abbrev pub checked : List ℕ → List Kind → Checked
checked v ks = record { look = λ x. look v ks x }

unfoldable pub size_of : ℕ → Size
size_of kind =
    cond (eqb kind short_kind || eqb kind unsigned_short_kind) Two
    (cond (eqb kind long_kind || (eqb kind unsigned_long_kind || eqb kind float_kind)) Four
    (cond (eqb kind double_kind || (eqb kind long_long_kind || eqb kind unsigned_long_long_kind)) Eight
    One))

unfoldable pub content_of : ℕ → ℕ → ℕ
content_of kind n = cond (signed_kind kind) (sign_extended (octets (size_of kind)) n) n

module _ {A : Type 0} (k : Sink A) (x : Source) where
  unfoldable pub leaf_done : ℕ → ℕ → ℕ → St A → St A
  leaf_done kind p n s =
      choose (eqb kind boolean_kind)
      (λ _. choose (ltb 1 n) (λ _. failed 51 s) (λ _. done k (item kind p n) s))
      (λ _. done k (item kind p (content_of kind n)) s)

  unfoldable pub leaf_at : ℕ → St A → St A
  leaf_at kind s = choose (ltb kind short_kind) (λ _. s) (λ _. number_taken k x (size_of kind) (leaf_done kind) s)

  unfoldable pub enum_done : ℕ → ℕ → ℕ → St A → St A
  enum_done names p n s = choose (leb names n) (λ _. failed 52 s) (λ _. done k (item enum_kind p n) s)

  unfoldable pub enum_at : ℕ → St A → St A
  enum_at names s = number_taken k x Four (enum_done names) s

  unfoldable pub text_done : ℕ → ℕ → List ℕ → St A → St A
  text_done n p these s = choose (ends_text these) (λ _. done k (item string_kind p (n - 1)) s) (λ _. failed 53 s)

  unfoldable pub text_got : ℕ → ℕ → ℕ → St A → St A
  text_got bound p n s =
      choose (eqb n 0)
      (λ _. failed 53 s)
      (λ _. choose (over_bound (n - 1) bound)
      (λ _. failed 54 s)
      (λ _. octets_step k x n (text_done n) s))

  unfoldable pub text_at : ℕ → St A → St A
  text_at bound s = number_taken k x Four (text_got bound) s

  unfoldable pub count_done : ℕ → ℕ → ℕ → St A → St A
  count_done bound p n s = choose (over_bound n bound) (λ _. failed 54 s) (λ _. done k (item sequence_kind p n) s)

  unfoldable pub count_at : ℕ → St A → St A
  count_at bound s = number_taken k x Four (count_done bound) s

  unfoldable pub tag_done : ℕ → ℕ → St A → St A
  tag_done p n s = done k (item unsigned_long_kind p n) s

  unfoldable pub tag_at : St A → St A
  tag_at s = number_taken k x Four tag_done s

  unfoldable pub run_done : ℕ → ℕ → List ℕ → St A → St A
  run_done n p these s = done k (item run_kind p n) s

  unfoldable pub run_got : ℕ → ℕ → St A → St A
  run_got p n s = octets_step k x n (run_done n) s

  unfoldable pub run_at : St A → St A
  run_at s = number_taken k x Four run_got s

  unfoldable pub profile_at : St A → St A
  profile_at s = and_then (tag_at s) run_at

  unfoldable pub profiles_at : St A → St A
  profiles_at s = and_then (count_at 0 s) (λ u. repeats profile_at u.last u)

  unfoldable pub objref_at : St A → St A
  objref_at s = and_then (text_at 0 s) profiles_at

  unfoldable pub inert_at : Inert → St A → St A
  inert_at (Leaf kind) s = leaf_at kind s
  inert_at (Text bound) s = text_at bound s
  inert_at Objref s = objref_at s
  inert_at (Enum names) s = enum_at names s

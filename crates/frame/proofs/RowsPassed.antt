-- The ways out of the table where its last rows decide, and that a size which its type allows has room for the request id.
use Rattle.std.specs.Prelude.{Ok, Err}
use mathlib.Core.Path.{◌≡◌, refl}
use mathlib.Core.List.{List}
use mathlib.Core.Bool.{Bool, true, false, cond, ◌&&◌, ◌||◌, false≢true}
use Prim.Native.Nat.{ℕ, ◌-◌, ◌≤◌}
use native.Mathlib.Omega.{arith}
use lib.Dec.{leb, eqb}
use lib.ListN.{length}
use borrow.Author.Tests.{le-ltb, eq-eqb, leb-true, eqb-true}
use Rattle.frame.specs.declared.Refusal.TheVariants.{NoSuchVersion, NoSuchFlags, NoSuchType, NotInEights}
use Rattle.version.specs.Versions.{flags_allowed, type_exists, body_starts_with_id}
use Rattle.frame.specs.Messages.{version_exists, is_request_or_reply, has_request_id}
use Rattle.frame.specs.Header.{header_size, giop, magic_at, major_at, flags_at, minor_at, message_type_at, more_at, size_at, header_of}
use Rattle.frame.specs.Inner.{IdThere}
use Rattle.frame.specs.Frames.{size_allowed, fragment_allowed, eights_allowed, sized_of, message_of}

-- by whether the type is a request or reply, whether bodies start with an id, a fragment, a cancel
id-by : (r b f c : Bool) (size : ℕ) → (c ≡ true → r ≡ false)
    → cond r (leb (cond b 4 1) size) (cond f (leb 4 size) (cond c (eqb size 4) (eqb size 0))) ≡ true
    → (c || (b && (r || f))) ≡ true
    → 4 ≤ size
id-by r b true true size x h k = leb-true 4 size (rw (x refl) at h)
id-by r b false true size x h k = let e = eqb-true size 4 (rw (x refl) at h) in omega arith
id-by r false f false size x h k = absurd (false≢true k)
id-by true true f false size x h k = leb-true 4 size h
id-by false true true false size x h k = leb-true 4 size h
id-by false true false false size x h k = absurd (false≢true k)

cancel-apart : (kind : ℕ) → eqb kind 2 ≡ true → is_request_or_reply kind ≡ false
unfolding is_request_or_reply
cancel-apart kind e = rw (eqb-true kind 2 e)

pub id-fits : (minor kind size : ℕ) → size_allowed minor kind size ≡ true → has_request_id minor kind ≡ true → 4 ≤ size
unfolding size_allowed has_request_id
id-fits minor kind size h k =
    id-by (is_request_or_reply kind) (body_starts_with_id minor) (eqb kind 7) (eqb kind 2) size (cancel-apart kind) h k

module _ (v : List ℕ) where
  module _ (e : size_at v ≡ length v - header_size) where
    module _ (a : size_allowed (minor_at v) (message_type_at v) (size_at v) ≡ true) where
      pub id-there : header_size ≤ length v → IdThere v
      id-there h =
          record { header = h; id = λ k. let f = id-fits (minor_at v) (message_type_at v) (size_at v) a k in omega arith }

      module _ (f : fragment_allowed (minor_at v) (message_type_at v) (more_at v) ≡ true) where
        pub sized-last : (t : Bool) → eights_allowed (more_at v) (size_at v) ≡ t → sized_of v ≡ cond t (Ok (header_of v)) (Err NotInEights)
        unfolding sized_of
        sized-last true g =
            rw (le-ltb (length v - header_size) (size_at v) (omega arith), le-ltb (size_at v) (length v - header_size) (omega arith), a, f, g)
        sized-last false g =
            rw (le-ltb (length v - header_size) (size_at v) (omega arith), le-ltb (size_at v) (length v - header_size) (omega arith), a, f, g)

module _ (v : List ℕ) where
  module _ (s : header_size ≤ length v) where
    module _ (m : magic_at v ≡ giop) where
      -- the three rows that are left before the size, by their tests
      pub message-by : (a b c : Bool) → version_exists (major_at v) (minor_at v) ≡ a → flags_allowed (minor_at v) (flags_at v) ≡ b
          → type_exists (minor_at v) (message_type_at v) ≡ c
          → message_of v ≡ cond a (cond b (cond c (sized_of v) (Err NoSuchType)) (Err NoSuchFlags)) (Err NoSuchVersion)
      unfolding message_of
      message-by false b c e f g = rw (le-ltb (length v) header_size s, eq-eqb (magic_at v) giop m, e)
      message-by true false c e f g = rw (le-ltb (length v) header_size s, eq-eqb (magic_at v) giop m, e, f)
      message-by true true false e f g = rw (le-ltb (length v) header_size s, eq-eqb (magic_at v) giop m, e, f, g)
      message-by true true true e f g = rw (le-ltb (length v) header_size s, eq-eqb (magic_at v) giop m, e, f, g)

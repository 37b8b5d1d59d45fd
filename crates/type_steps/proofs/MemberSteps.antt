-- A kind's steps to its members, one after the other.
use Rattle.std.specs.Prelude.{Some, None}
use mathlib.Core.Path.{◌≡◌, refl, ◌∙◌, subst}
use lib.ListN.{length}
use mathlib.Core.List.{List}
use mathlib.Core.Bool.{Bool, false, ◌||◌}
use Prim.Native.Nat.{ℕ, suc, ◌+◌, ◌-◌, ◌≤◌, ◌<◌}
use native.Mathlib.Omega.{arith}
use native.Mathlib.Nat.{sub-zero}
use Rattle.cdr.specs.declared.Index.{Index}
use Rattle.cdr.specs.declared.Place.{Place}
use Rattle.cdr.specs.declared.Order.{Order}
use Rattle.type_kinds.specs.declared.Labels.{Labels}
use Rattle.type_kinds.specs.Parts.{place_in, member_at}
use Rattle.type_kinds.specs.Members.{members_from, types_of}
use Rattle.choices.specs.Lists.{any_of}
use Rattle.type_kinds.specs.declared.Inner.{Inner}
use Rattle.type_kinds.specs.declared.Kind.{Kind}
use Rattle.type_steps.specs.Steps.{stands, any_stands}
use Rattle.type_steps.specs.Inner.{Noted}
use Rattle.type_steps.proofs.StepNoted.{noted-none, noted-same, noted-both}

-- some of n members has the position
abbrev pub among : Labels → List ℕ → List Kind → Place → Order → ℕ → Index → ℕ → Bool
among labels v m b order n at z = any_stands m z (types_of (members_from labels v b order n at))

-- k of n members are done: what the others add to the table now is what all add to the table before
pub record Members (labels : Labels) (v : List ℕ) (m : List Kind) (b : Place) (order : Order) (i n : ℕ) (before : List ℕ) (first : Index)
    (now : List ℕ) (at : Index) (k : ℕ) : Type 0 where
  pub low : k ≤ n
  pub long : length now ≡ length before
  pub on : (after : List ℕ) → Noted (length m) now i (among labels v m b order (n - k) at) after
      → Noted (length m) before i (among labels v m b order n first) after

module _ {labels : Labels} {v : List ℕ} {m : List Kind} {b : Place} {order : Order} {i n : ℕ} {before : List ℕ} {first : Index} where
  pub members-none : Members labels v m b order i n before first before first 0
  members-none = record { low = omega arith; long = refl; on = rw (sub-zero n) (λ after d. d) }

  module _ {now : List ℕ} {at : Index} {k : ℕ} (r : Members labels v m b order i n before first now at k) where
    left-suc : k < n → n - k ≡ suc (n - (k + 1))
    left-suc h = omega arith

    -- no member that is left gives a step
    done : ((z : ℕ) → among labels v m b order (n - k) at z ≡ false)
        → Noted (length m) before i (among labels v m b order n first) now
    done h = r.on now (noted-none (length m) now i (among labels v m b order (n - k) at) (λ z l. h z))

    pub members-all : n ≤ k → Noted (length m) before i (among labels v m b order n first) now
    unfolding members_from types_of any_of
    members-all h = let e : n - k ≡ 0 = omega arith in done (λ z. rw e)

    pub members-cut : k < n → member_at labels v b at order ≡ None
        → Noted (length m) before i (among labels v m b order n first) now
    unfolding members_from types_of any_of
    members-cut h s = done (λ z. rw (left-suc h, s))

    module _ (h : k < n) {x : Inner} {next : Index} (s : member_at labels v b at order ≡ Some (x, next)) where
      one_more : (z : ℕ)
          → (stands m (place_in x) z || among labels v m b order (n - (k + 1)) next z) ≡ among labels v m b order (n - k) at z
      unfolding members_from types_of any_of
      one_more z = rw (left-suc h, s)

      pub members-more : {p : Place} {then : List ℕ} → p ≡ place_in x → Noted (length m) now i (stands m p) then
          → Members labels v m b order i n before first then next (k + 1)
      members-more {p} {then} is d =
          record {
            low = omega (arith, h);
            long = d.long ∙ r.long;
            on = λ after e.
                r.on after
                (noted-same (length m) now i _ (among labels v m b order (n - k) at) after (λ z l. one_more z)
                (noted-both (length m) now i (stands m (place_in x)) (among labels v m b order (n - (k + 1)) next) then after (subst (λ (r : Place). Noted (length m) now i (stands m r) then) is d) e));
          }

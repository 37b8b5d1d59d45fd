-- A body that was read: its parts are among its octets, and each component whose number is below their count is there.
use Rattle.std.specs.Prelude.{Option, Some, None, Result, Ok, Err}
use mathlib.Core.Path.{◌≡◌, refl, subst, ◌∙◌}
use mathlib.Core.List.{List}
use mathlib.Core.Bool.{Bool, true, false, cond}
use Prim.Native.Nat.{ℕ, ◌+◌, ◌≤◌}
use native.Mathlib.Omega.{arith}
use borrow.Author.Tests.{ltb-false}
use lib.Dec.{ltb}
use lib.ListN.{length}
use Rattle.choices.specs.Branch.{choose}
use Rattle.choices.proofs.Choices.{by-test, clash}
use Rattle.choices.proofs.Tuples.{ok-triple}
use Rattle.cdr.specs.Limit.{octets_limit}
use Rattle.cdr.specs.declared.Index.{Index}
use Rattle.cdr.specs.declared.Order.{Order}
use Rattle.cdr_fields.specs.Encapsulation.{start}
use Rattle.version.specs.Versions.{has_components}
use Rattle.profile_parts.specs.declared.Refusal.TheVariants.{TooLong, AfterKey}
use Rattle.profile_parts.specs.Parts.{order_part_at, version_at, host_at, port_at, key_at, component_count_at}
use Rattle.profile_parts.proofs.PartsWithin.{host-inside, key-inside, or-ends, component-is as inner-is}
use Rattle.cdr_fields.specs.Tagged.{skip_tagged}
use Rattle.cdr_fields.proofs.TaggedWithin.{skip-none, each_stands, tagged-inside}
use Rattle.cdr_fields.specs.declared.Extent.{Extent}
use Rattle.profile.specs.declared.Head.{Head}
use Rattle.profile.specs.declared.Profile.{Profile}
use Rattle.profile.specs.List.{listed, list_from, on_component_count, counted_list, list_at}
use Rattle.profile.specs.Profile.{on_order_part, on_version, on_span, on_number, on_list, profile_of}
use Rattle.profile.specs.Inner.{list_then, key_then, port_then, host_then, version_then}
use Rattle.profile.specs.Within.{ReadsWithin, FindsAll}
use Rattle.profile.proofs.StageAnswers.{component-is, component-there, component-behind}
use Rattle.profile_parts.specs.declared.Refusal.{Refusal}

-- the index after all components
record Passed (v : List ℕ) (order : Order) (count : ℕ) (first : Index) : Type 0 where
  end : Index
  passed : skip_tagged v order count first ≡ Some end

-- what the stages of the reading have shown of a body when it is read
record Shown (v : List ℕ) (p : Profile) : Type 0 where
  host : p.host.from.0 + p.host.length + 1 ≤ length v
  key : p.key.from.0 + p.key.length ≤ length v
  list : Passed v p.head.order p.components p.first

module _ (v : List ℕ) where
  module _ (order : Order) where
    skipped : (s : Option Index) (count : ℕ) (first : Index) → skip_tagged v order count first ≡ s → (c : ℕ) (f : Index) (e : ℕ) → listed v count first s ≡ Ok (c, f, e)
        → Passed v order c f
    skipped (Some i) count first q c f e h =
        let parts = ok-triple h in
        record {
          end = i;
          passed = subst (λ (x : Index). skip_tagged v order c x ≡ Some i) parts.1 (subst (λ (x : ℕ). skip_tagged v order x first ≡ Some i) parts.0 q);
        }
    skipped None count first q c f e h = clash cc

    counted : (p : Result (ℕ × Index) Refusal) (c : ℕ) (f : Index) (e : ℕ) → on_component_count p (λ n next. list_from v next n order) ≡ Ok (c, f, e) → Passed v order c f
    unfolding list_from
    counted (Ok (n, next)) c f e h = skipped (skip_tagged v order n next) n next refl c f e h
    counted (Err r) c f e h = clash cc

    none : (i : Index) (b : Bool) (c : ℕ) (f : Index) (e : ℕ) → cond {A = Result (ℕ × Index × ℕ) Refusal} b (Err AfterKey) (Ok (0, i, 0)) ≡ Ok (c, f, e) → Passed v order c f
    none i true c f e h = clash cc
    none i false c f e h =
        subst (λ (x : ℕ). Passed v order x f) (ok-triple h).0 (record { end = f; passed = skip-none v order f })

    at-list : (i : Index) (minor c : ℕ) (f : Index) (e : ℕ) → list_at v i minor order ≡ Ok (c, f, e) → Passed v order c f
    unfolding list_at counted_list
    at-list i minor c f e h =
        by-test (has_components minor) (λ t. counted (component_count_at v i order) c f e (rw t at h)) (λ t. none i (ltb i.0 (length v)) c f e (rw t at h))

  module _ (p : Profile) where
    on-list : (l : Result (ℕ × Index × ℕ) Refusal) (head : Head) (host : Extent) (port : ℕ) (key : Extent) (i : Index) → list_at v i head.minor head.order ≡ l
        → host.from.0 + host.length + 1 ≤ length v → key.from.0 + key.length ≤ length v
        → on_list l (λ count first extra. (Ok (record { head = head; host = host; port = port; key = key; components = count; first = first; extra = extra }))) ≡ Ok p
        → Shown v p
    on-list (Ok (count, first, extra)) head host port key i q host_in key_in h =
        let e : record { head = head; host = host; port = port; key = key; components = count; first = first; extra = extra } ≡ p = cc in
        subst (Shown v) e (record { host = host_in; key = key_in; list = at-list head.order i head.minor count first extra q })
    on-list (Err r) head host port key i q host_in key_in h = clash cc

    on-key : (k : Result (Extent × Index) Refusal) (head : Head) (host : Extent) (port : ℕ) (i : Index) → key_at v i head.order ≡ k → host.from.0 + host.length + 1 ≤ length v
        → on_span k (λ key next. list_then v head host port key next) ≡ Ok p → Shown v p
    unfolding list_then
    on-key (Ok (octets, next)) head host port i q host_in h =
        let f = key-inside v i head.order octets next q in
        on-list (list_at v next head.minor head.order) head host port octets next refl host_in (omega (arith, f.0, f.1)) h
    on-key (Err r) head host port i q host_in h = clash cc

    on-port : (n : Result (ℕ × Index) Refusal) (head : Head) (host : Extent) → host.from.0 + host.length + 1 ≤ length v
        → on_number n (λ port next. key_then v head host port next) ≡ Ok p → Shown v p
    unfolding key_then
    on-port (Ok (port, next)) head host host_in h = on-key (key_at v next head.order) head host port next refl host_in h
    on-port (Err r) head host host_in h = clash cc

    on-host : (k : Result (Extent × Index) Refusal) (head : Head) (i : Index) → host_at v i head.order ≡ k → on_span k (λ host next. port_then v head host next) ≡ Ok p → Shown v p
    unfolding port_then
    on-host (Ok (octets, next)) head i q h =
        let f = host-inside v i head.order octets next q in
        on-port (port_at v next head.order) head octets (omega (arith, f.0, f.1)) h
    on-host (Err r) head i q h = clash cc

    on-version : (k : Result (ℕ × ℕ × Index) Refusal) (order : Order)
        → on_version k (λ major minor next. host_then v (record { order = order; major = major; minor = minor }) next) ≡ Ok p → Shown v p
    unfolding host_then
    on-version (Ok (major, minor, next)) order h = on-host (host_at v next order) (record { order = order; major = major; minor = minor }) next refl h
    on-version (Err r) order h = clash cc

    on-order : (k : Result (Order × Index) Refusal) → on_order_part k (λ order next. version_then v order next) ≡ Ok p → Shown v p
    unfolding version_then
    on-order (Ok (order, next)) h = on-version (version_at v next) order h
    on-order (Err r) h = clash cc

    shown : profile_of v ≡ Ok p → (length v ≤ octets_limit) × Shown v p
    unfolding profile_of choose version_then host_then port_then key_then list_then
    shown h =
        by-test (ltb octets_limit (length v)) (λ t. let q : (Err TooLong) ≡ Ok p = rw t at h in clash cc)
        (λ t. (ltb-false octets_limit (length v) t, on-order (order_part_at v start) (rw t at h)))

pub reads-within : ReadsWithin
reads-within v p h = let s = shown v p h in record { limit = s.0; host = s.1.host; key = s.1.key }

pub finds-all : FindsAll
finds-all v p h number l =
    let o = p.head.order in
    let a = (shown v p h).1.list in
    let s = each_stands v o number p.components p.first a.end l a.passed in
    let there = inner-is v s.at o ∙ or-ends s.there in
    let c = component-behind v o p.first number s.at s.passed ∙ there in
    let f = tagged-inside v s.at o s.tag s.octets s.next s.there in
    record {
      tag = s.tag;
      octets = s.octets;
      answer = component-is v number (Ok p) h ∙ component-there v number p l (Ok (s.tag, s.octets, s.next)) c;
      within = omega (arith, f.0, f.1);
    }

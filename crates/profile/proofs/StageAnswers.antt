-- What each stage of the reading of a body comes to, by the part that stands there.
use Rattle.std.specs.Prelude.{Option, Some, None, Result, Ok, Err}
use mathlib.Core.Path.{◌≡◌, ap, ◌∙◌}
use mathlib.Core.List.{List}
use mathlib.Core.Bool.{true, false}
use Prim.Native.Nat.{ℕ, ◌≤◌, ◌<◌}
use lib.ListN.{length}
use borrow.Author.Tests.{lt-ltb, le-ltb, le-leb, lt-leb}
use Rattle.choices.specs.Branch.{choose}
use Rattle.cdr.specs.Limit.{octets_limit}
use Rattle.cdr.specs.declared.Index.{Index}
use Rattle.cdr.specs.declared.Order.{Order}
use Rattle.cdr_fields.specs.Encapsulation.{start}
use Rattle.profile_parts.specs.declared.Refusal.TheVariants.{TooLong, Ends, AfterKey, NoSuchComponent}
use Rattle.profile_parts.specs.Parts.{order_part_at, version_at, host_at, port_at, key_at, component_count_at, component_at, component_part}
use Rattle.version.specs.Versions.{has_components}
use Rattle.cdr_fields.specs.Tagged.{skip_tagged}
use Rattle.cdr_fields.proofs.TaggedWithin.{behind-is}
use Rattle.cdr_fields.specs.declared.Extent.{Extent}
use Rattle.profile.specs.declared.Head.{Head}
use Rattle.profile.specs.declared.Profile.{Profile}
use Rattle.profile.specs.List.{listed, list_from, on_component_count, counted_list, list_at, component_from}
use Rattle.profile.specs.Profile.{on_order_part, on_version, on_span, on_number, on_list, profile_of, found_from, component_then, component_in, component_of}
use Rattle.profile.specs.Inner.{list_then, key_then, port_then, host_then, version_then}
use Rattle.profile_parts.specs.declared.Refusal.{Refusal}

module _ (v : List ℕ) (order : Order) where
  pub counted-none : (i : Index) (r : Refusal) → component_count_at v i order ≡ Err r → counted_list v i order ≡ Err r
  unfolding counted_list
  counted-none i r e = ap (λ (x : Result (ℕ × Index) Refusal). on_component_count x (λ n next. list_from v next n order)) e

  pub counted_is : (i : Index) (count : ℕ) (first : Index) → component_count_at v i order ≡ Ok (count, first) → (s : Option Index) → skip_tagged v order count first ≡ s
      → counted_list v i order ≡ listed v count first s
  unfolding counted_list list_from
  counted_is i count first e s f =
      ap (λ (x : Result (ℕ × Index) Refusal). on_component_count x (λ n next. list_from v next n order)) e ∙ ap (listed v count first) f

  pub component-behind : (first : Index) (n : ℕ) (i : Index) → skip_tagged v order n first ≡ Some i → component_from v first n order ≡ component_at v i order
  unfolding component_from component_at
  component-behind first n i e = ap component_part (behind-is v order first n (Some i) e)

  pub component-missing : (first : Index) (n : ℕ) → skip_tagged v order n first ≡ None → component_from v first n order ≡ Err Ends
  unfolding component_from
  component-missing first n e = ap component_part (behind-is v order first n None e)

  module _ (i : Index) (minor : ℕ) where
    pub list-from-1 : has_components minor ≡ true → list_at v i minor order ≡ counted_list v i order
    unfolding list_at
    list-from-1 h = rw h

    pub list-after-key : has_components minor ≡ false → i.0 < length v → list_at v i minor order ≡ Err AfterKey
    unfolding list_at
    list-after-key h l = rw (h, lt-ltb i.0 (length v) l)

    pub list-none : has_components minor ≡ false → length v ≤ i.0 → list_at v i minor order ≡ Ok (0, i, 0)
    unfolding list_at
    list-none h l = rw (h, le-ltb i.0 (length v) l)

module _ (v : List ℕ) where
  pub profile-too-long : octets_limit < length v → profile_of v ≡ Err TooLong
  unfolding profile_of choose
  profile-too-long h = rw (lt-ltb octets_limit (length v) h)

  -- of a body that is not too long: what its reading comes to, by the part that is read next and those before it
  module _ (short : length v ≤ octets_limit) where
    pub at-order : (p : Result (Order × Index) Refusal) → order_part_at v start ≡ p → profile_of v ≡ on_order_part p (λ order next. version_then v order next)
    unfolding profile_of choose version_then host_then port_then key_then list_then
    at-order p e = rw (le-ltb octets_limit (length v) short, e)

    module _ {order : Order} {i : Index} (one : order_part_at v start ≡ Ok (order, i)) where
      pub at-version : (p : Result (ℕ × ℕ × Index) Refusal) → version_at v i ≡ p
          → profile_of v ≡ on_version p (λ major minor next. host_then v (record { order = order; major = major; minor = minor }) next)
      unfolding version_then
      at-version p e =
          at-order (Ok (order, i)) one
          ∙ ap (λ (x : Result (ℕ × ℕ × Index) Refusal). on_version x (λ major minor next. host_then v (record { order = order; major = major; minor = minor }) next)) e

      module _ {major minor : ℕ} {j : Index} (two : version_at v i ≡ Ok (major, minor, j)) where
        abbrev pub head : Head
        head = record { order = order; major = major; minor = minor }

        pub at-host : (p : Result (Extent × Index) Refusal) → host_at v j order ≡ p → profile_of v ≡ on_span p (λ host next. port_then v head host next)
        unfolding host_then
        at-host p e = at-version (Ok (major, minor, j)) two ∙ ap (λ (x : Result (Extent × Index) Refusal). on_span x (λ host next. port_then v head host next)) e

        module _ {host : Extent} {k : Index} (three : host_at v j order ≡ Ok (host, k)) where
          pub at-port : (p : Result (ℕ × Index) Refusal) → port_at v k order ≡ p → profile_of v ≡ on_number p (λ port next. key_then v head host port next)
          unfolding port_then
          at-port p e = at-host (Ok (host, k)) three ∙ ap (λ (x : Result (ℕ × Index) Refusal). on_number x (λ port next. key_then v head host port next)) e

          module _ {port : ℕ} {l : Index} (four : port_at v k order ≡ Ok (port, l)) where
            pub at-key : (p : Result (Extent × Index) Refusal) → key_at v l order ≡ p → profile_of v ≡ on_span p (λ key next. list_then v head host port key next)
            unfolding key_then
            at-key p e = at-port (Ok (port, l)) four ∙ ap (λ (x : Result (Extent × Index) Refusal). on_span x (λ key next. list_then v head host port key next)) e

            module _ {key : Extent} {m : Index} (five : key_at v l order ≡ Ok (key, m)) where
              abbrev pub told : ℕ → Index → ℕ → Result Profile Refusal
              told count first extra =
                  Ok (record { head = head; host = host; port = port; key = key; components = count; first = first; extra = extra })

              pub at-components : (p : Result (ℕ × Index × ℕ) Refusal) → list_at v m minor order ≡ p → profile_of v ≡ on_list p told
              unfolding list_then
              at-components p e = at-key (Ok (key, m)) five ∙ ap (λ (x : Result (ℕ × Index × ℕ) Refusal). on_list x told) e

  module _ (number : ℕ) where
    pub component-is : (a : Result Profile Refusal) → profile_of v ≡ a → component_of v number ≡ component_in v number a
    unfolding component_of
    component-is a e = ap (component_in v number) e

    pub component-beyond : (p : Profile) → p.components ≤ number → component_then v p number ≡ Err NoSuchComponent
    unfolding component_then choose
    component-beyond p h = rw (le-leb p.components number h)

    pub component-there : (p : Profile) → number < p.components → (c : Result (ℕ × Extent × Index) Refusal) → component_from v p.first number p.head.order ≡ c
        → component_then v p number ≡ found_from c
    unfolding component_then choose
    component-there p h c e = rw (lt-leb p.components number h, e)

-- What a single visit does, without a reader inside it: what it reads itself, what it leaves open, and which type that leads to next.
--   Node       a kind that is visited: the checked type that it stands in, and what it looks like; `node` the same from its parts, `node_at` a
--              type inside another
--   Open       what is still to be entered of a visit
--                shut      nothing
--                each      n times a type: elements, or once an alias's type
--                row       the types of members, in order
--                switch    a union before its discriminant
--                pick      a union behind its discriminant
--   Next       what is entered next: nothing more, or a type, and what stays open then; `on_next` what follows each
--   next       what is entered next, by the number taken last: "union: discriminant, then the member with that label, else the default, else
--              none"; a discriminant takes one number, through any aliases, so the one taken last is its own
--   entries    how often something can be entered
--   Own        what a visit reads itself: nothing, what a kind that holds no other holds, or a count with a bound
--   own_of      the same of a shape: "exception: a text id, then members"; "sequence: count, then elements"
--   own_at      what is read of it
--   own        what a visit does with its own octets
--   unless     what stays open if nothing is refused
--   opens      what a visit leaves open, by the refusal's number and the number taken last behind its own octets
--   Begun      the state behind a visit's own octets, and what the visit leaves open; `begins` both
--   closes     enters what is open in a type, one after the other, at most n times; f visits a kind, one level down
--   shuts      the same until nothing is open
--   enter_node  what a visit does: its own octets, then what it leaves open
--   reads_node  a visit with so many levels left; "55 a visit with 64 open above it, not counted"
use Rattle.std.specs.Prelude.{◌∷◌}
use Rattle.choices.specs.{ℕ, zero, suc, List, [], eqb, length, choose}
use Rattle.type_kinds.specs.{Inner, Inert, Text, Member}
use Rattle.type_unions.specs.{Shape, fault, flat, struct, exception, union, sequence, array, alias, Arms.on_arm, Arms.chosen_of}
use Rattle.value_meaning.specs.{Sinks.Source, Sinks.Sink, Sinks.St, Sinks.failed, Sinks.and_then, Sinks.begun, Visit.Checked, Visit.count_at}
use Rattle.value_meaning.specs.{Visit.inert_at}

pub record Node : Type 0 where
  pub type : Checked
  pub at : Shape

abbrev pub node : Checked → Shape → Node
node t p = record { type = t; at = p }

abbrev pub node_at : Checked → Inner → Node
node_at t x = node t (t.look x)

pub data Open : Type 0 where
  shut : Open
  each : Inner → ℕ → Open
  row : List Inner → Open
  switch : Inner → List Member → ℕ → Open
  pick : List Member → ℕ → Open

pub data Next : Type 0 where
  over : Next
  into : Inner → Open → Next

abbrev pub on_next : {B : Type 0} → Next → B → (Inner → Open → B) → B
on_next over b f = b
on_next (into x o) b f = f x o

unfoldable pub next : Open → ℕ → Next
next shut last = over
next (each x zero) last = over
next (each x (suc n)) last = into x (each x n)
next (row []) last = over
next (row (x ∷ xs)) last = into x (row xs)
next (switch d ms default) last = into d (pick ms default)
next (pick ms default) last = on_arm (chosen_of ms default last) (λ x. into x shut) over

unfoldable pub entries : Open → ℕ
entries shut = 0
entries (each x n) = n
entries (row xs) = length xs
entries (switch d ms default) = 2
entries (pick ms default) = 1

pub data Own : Type 0 where
  nothing : Own
  inert : Inert → Own
  count_up_to : ℕ → Own

unfoldable pub own_of : Shape → Own
own_of fault = nothing
own_of (flat i) = inert i
own_of (struct xs) = nothing
own_of (exception xs) = inert (Text 0)
own_of (union d ms default) = nothing
own_of (sequence x bound) = count_up_to bound
own_of (array x n) = nothing
own_of (alias x) = nothing

abbrev pub unless : ℕ → Open → Open
unless refusal o = choose (eqb refusal 0) (λ _. o) (λ _. shut)

unfoldable pub opens : Shape → ℕ → ℕ → Open
opens fault refusal last = shut
opens (flat i) refusal last = shut
opens (struct xs) refusal last = row xs
opens (exception xs) refusal last = unless refusal (row xs)
opens (union d ms default) refusal last = switch d ms default
opens (sequence x bound) refusal last = unless refusal (each x last)
opens (array x n) refusal last = each x n
opens (alias x) refusal last = each x 1

pub record Begun (A : Type 0) : Type 0 where
  pub state : St A
  pub still : Open

module _ {A : Type 0} (k : Sink A) (x : Source) where
  abbrev pub own_at : Own → St A → St A
  own_at nothing s = s
  own_at (inert i) s = inert_at k x i s
  own_at (count_up_to bound) s = count_at k x bound s

  abbrev pub own : Shape → St A → St A
  own p s = own_at (own_of p) s

  abbrev pub begins : Shape → St A → Begun A
  begins p s = record { state = own p s; still = opens p (own p s).fault (own p s).last }

module _ {A : Type 0} (f : Node → St A → St A) (t : Checked) where
  unfoldable pub closes : ℕ → Open → St A → St A
  closes zero o s = s
  closes (suc n) o s = on_next (next o s.last) s (λ x o'. and_then (f (node_at t x) s) (closes n o'))

  unfoldable pub shuts : Open → St A → St A
  shuts o s = closes (entries o) o s

module _ {A : Type 0} (k : Sink A) (x : Source) where
  unfoldable pub enter_node : (Node → St A → St A) → Node → St A → St A
  enter_node f q s = shuts f q.type (begins k x q.at s).still (begins k x q.at s).state

  unfoldable pub reads_node : ℕ → Node → St A → St A
  reads_node zero q s = failed 55 s
  reads_node (suc l) q s = enter_node (reads_node l) q (begun k s)

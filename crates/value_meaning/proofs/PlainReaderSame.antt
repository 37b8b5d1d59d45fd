-- The plain reader gives what the reading gives, for any type, source, sink and state that is not refused: what is left to do by its list is
-- the same before and behind a step, and each step leaves one step less.
use Rattle.std.specs.Prelude.{Option, Some, None}
use mathlib.Core.Path.{◌≡◌, refl, sym, ap, ◌∙◌}
use mathlib.Core.List.{List, [], ◌∷◌}
use mathlib.Core.Bool.{Bool, true, false}
use Prim.Native.Nat.{ℕ, zero, suc, ◌+◌, ◌-◌, ◌<◌, ◌≤◌}
use native.Mathlib.Omega.{arith}
use lib.Dec.{eqb, leb}
use lib.ListN.{length}
use borrow.Author.Tests.{eqb-true, eqb-false, eq-eqb, ne_eqb, le-leb, lt-leb, leb-true, leb-false}
use Rattle.choices.specs.Branch.{choose}
use Rattle.choices.proofs.Choices.{by-test}
use Rattle.type_unions.specs.Arms.{on_arm, chosen_of}
use Rattle.type_unions.specs.Shapes.{Shape}
use Rattle.type_unions.specs.Shapes.Shape.{fault, flat, struct, exception, union, sequence, array, alias}
use Rattle.value_meaning.specs.Sinks.{Source, Sink, St, failed, and_then, begun}
use Rattle.value_meaning.specs.Visit.{Checked}
use Rattle.value_meaning.specs.Reading.{logging, levels, at_start, top_of, reading, reads}
use Rattle.value_meaning.specs.Opens.{Node, node, node_at, Open, Next, on_next, next, entries, own_of, opens, own, begins, closes, shuts}
use Rattle.value_meaning.specs.Opens.{enter_node, reads_node}
use Rattle.value_meaning.specs.Opens.Open.{shut, each, row, switch, pick}
use Rattle.value_meaning.specs.Opens.Next.{over, into}
use Rattle.value_meaning.proofs.PlainReader.{Frame, frame, Plain, plain, stopped, entered, step, run}
use Rattle.value_meaning.proofs.ByChoice.{by-choice}
use Rattle.value_meaning.proofs.ReadingCases.{after-go, after_stop, after_none}
use Rattle.type_kinds.specs.declared.Inner.{Inner}

-- ---- how many steps

-- steps from a state on, if nothing is refused
unfoldable pub further : {A : Type 0} → St A → (St A → ℕ) → ℕ
further s c = choose (eqb s.fault 0) (λ _. c s) (λ _. 0)

module _ {A : Type 0} (f : Node → St A → St A) (c : Node → St A → ℕ) (t : Checked) where
  -- the steps in which what is open is entered and ends; f visits a kind, c are the steps of that
  unfoldable pub closes_cost : ℕ → Open → St A → ℕ
  closes_cost zero o s = 1
  closes_cost (suc n) o s =
      on_next (next o s.last) 1 (λ p o'. suc (c (node_at t p) s + further (f (node_at t p) s) (closes_cost n o')))

  -- the same, of all that is open
  unfoldable pub shuts_cost : Open → St A → ℕ
  shuts_cost o s = closes_cost (entries o) o s

module _ {A : Type 0} (k : Sink A) (x : Source) where
  -- the steps behind a visit's own octets, to its end
  unfoldable pub enter_cost : (Node → St A → St A) → (Node → St A → ℕ) → Node → St A → ℕ
  enter_cost f c q s = further (begins k x q.at s).state (shuts_cost f c q.type (begins k x q.at s).still)

  -- the steps from a visit's begin to its end, by the recursion of `reads_node`
  unfoldable pub cost : ℕ → Node → St A → ℕ
  cost zero q s = 0
  cost (suc l) q s = enter_cost (reads_node k x l) (cost l) q (begun k s)

-- ---- what is open and what is next

-- what is entered next leaves one entry less, and where no entry is left nothing is
abbrev Turn : ℕ → Next → Type 0
Turn n over = Unit
Turn zero (into p o) = ⊥
Turn (suc n) (into p o) = n ≡ entries o

arm-turn : (a : Option Inner) → Turn 1 (on_arm a (λ y. into y shut) over)
unfolding entries
arm-turn (Some y) = refl
arm-turn None = tt

turn : (o : Open) (last : ℕ) → Turn (entries o) (next o last)
unfolding entries next
turn shut last = tt
turn (each y zero) last = tt
turn (each y (suc n)) last = refl
turn (row []) last = tt
turn (row (y ∷ ys)) last = refl
turn (switch d ms default) last = refl
turn (pick ms default) last = arm-turn (chosen_of ms default last)

module _ {A : Type 0} (f : Node → St A → St A) (t : Checked) where
  abbrev shuts_by : Next → St A → St A
  shuts_by a s = on_next a s (λ p o. and_then (f (node_at t p) s) (shuts f t o))

  closes_by : (n : ℕ) (o : Open) (s : St A) (a : Next) → next o s.last ≡ a → Turn n a → closes f t n o s ≡ shuts_by a s
  unfolding closes shuts
  closes_by zero o s over e h = refl
  closes_by zero o s (into p o') e h = absurd h
  closes_by (suc n) o s over e h = rw e
  closes_by (suc n) o s (into p o') e h = rw e (ap (λ (i : ℕ). and_then (f (node_at t p) s) (closes f t i o')) h)

  -- what is open is shut by entering what is next, and then shutting what stays open
  pub shuts-next : (o : Open) (s : St A) → shuts f t o s ≡ shuts_by (next o s.last) s
  unfolding shuts
  shuts-next o s = closes_by (entries o) o s (next o s.last) refl (turn o s.last)

  module _ (c : Node → St A → ℕ) where
    abbrev cost_by : Next → St A → ℕ
    cost_by a s = on_next a 1 (λ p o. suc (c (node_at t p) s + further (f (node_at t p) s) (shuts_cost f c t o)))

    cost-by : (n : ℕ) (o : Open) (s : St A) (a : Next) → next o s.last ≡ a → Turn n a → closes_cost f c t n o s ≡ cost_by a s
    unfolding closes_cost shuts_cost
    cost-by zero o s over e h = refl
    cost-by zero o s (into p o') e h = absurd h
    cost-by (suc n) o s over e h = rw e
    cost-by (suc n) o s (into p o') e h = rw e (ap (λ (i : ℕ). suc (c (node_at t p) s + further (f (node_at t p) s) (closes_cost f c t i o'))) h)

    cost-next : (o : Open) (s : St A) → shuts_cost f c t o s ≡ cost_by (next o s.last) s
    unfolding shuts_cost
    cost-next o s = cost-by (entries o) o s (next o s.last) refl (turn o s.last)

-- ---- steps one after the other

module _ {A : Type 0} where
  after-after : (r : St A) (g h : St A → St A) → and_then (and_then r g) h ≡ and_then r (λ u. and_then (g u) h)
  unfolding and_then choose
  after-after r g h = by-test (eqb r.fault 0) (λ e. rw e) (λ e. rw e (rw e))

  further-after : (r : St A) (a b : St A → ℕ) (g : St A → St A)
      → further r a + further (and_then r g) b ≡ further r (λ u. a u + further (g u) b)
  unfolding and_then further choose
  further-after r a b g = by-test (eqb r.fault 0) (λ e. rw e) (λ e. rw e (rw e))

  further-go : (c : St A → ℕ) (s : St A) → s.fault ≡ 0 → further s c ≡ c s
  unfolding further choose
  further-go c s e = rw (eq-eqb s.fault 0 e)

  further-zero : (c : St A → ℕ) (s : St A) → c s ≡ 0 → further s c ≡ 0
  unfolding further choose
  further-zero c s h = by-test (eqb s.fault 0) (λ e. rw e h) (λ e. rw e)

  further-none : (c : St A → ℕ) (s : St A) → (s.fault ≡ 0 → ⊥) → further s c ≡ 0
  unfolding further choose
  further-none c s e = rw (ne_eqb s.fault 0 e)

-- ---- a refused visit leaves nothing open

module _ {A : Type 0} (k : Sink A) (x : Source) where
  refused-shut : (p : Shape) (s : St A) → s.fault ≡ 0 → ((own k x p s).fault ≡ 0 → ⊥)
      → opens p (own k x p s).fault (own k x p s).last ≡ shut
  unfolding opens own_of choose
  refused-shut fault s e z = refl
  refused-shut (flat i) s e z = refl
  refused-shut (struct ys) s e z = absurd (z e)
  refused-shut (exception ys) s e z = rw (ne_eqb _ _ z)
  refused-shut (union d ms default) s e z = absurd (z e)
  refused-shut (sequence y bound) s e z = rw (ne_eqb _ _ z)
  refused-shut (array y n) s e z = absurd (z e)
  refused-shut (alias y) s e z = absurd (z e)

  -- ---- what is left to do by the list, and in how many steps

  abbrev level : List Frame → ℕ
  level ws = levels - length ws

  unfoldable pub rest : List Frame → St A → St A
  rest [] s = s
  rest (w ∷ ws) s = and_then (shuts (reads_node k x (level (w ∷ ws))) w.type w.still s) (rest ws)

  unfoldable pub left : List Frame → St A → ℕ
  left [] s = 0
  left (w ∷ ws) s =
      shuts_cost (reads_node k x (level (w ∷ ws))) (cost k x (level (w ∷ ws))) w.type w.still s
      + further (shuts (reads_node k x (level (w ∷ ws))) w.type w.still s) (left ws)

  abbrev pub rest_of : Plain A → St A
  rest_of c = rest c.list c.state

  abbrev pub left_of : Plain A → ℕ
  left_of c = left c.list c.state

  -- one level below what is open
  abbrev below : List Frame → ℕ
  below ws = levels - suc (length ws)

  no-level : (ws : List Frame) → leb levels (length ws) ≡ true → level ws ≡ 0
  no-level ws e = let h = leb-true levels (length ws) e in omega arith

  some_level : (ws : List Frame) → leb levels (length ws) ≡ false → level ws ≡ suc (below ws)
  some_level ws e = let h = leb-false levels (length ws) e in omega arith

  module _ (q : Node) (ws : List Frame) where
    -- a visit that has a level: what its own octets leave open, if they are not refused, stands on the list
    begun-rest : (s : St A) → s.fault ≡ 0
        → rest_of (stopped (frame q.type (begins k x q.at s).still ∷ ws) (begins k x q.at s).state) ≡ and_then
        (enter_node k x (reads_node k x (below ws)) q s) (rest ws)
    unfolding rest enter_node shuts entries closes
    begun-rest s e =
        let u : St A = (begins k x q.at s).state in
        by-choice (λ (c : Plain A). rest_of c ≡ and_then (enter_node k x (reads_node k x (below ws)) q s) (rest ws)) (eqb u.fault 0)
        (λ t. refl)
        (λ t.
        let z : u.fault ≡ 0 → ⊥ = eqb-false u.fault 0 t in
        sym (ap (λ (o : Open). and_then (shuts (reads_node k x (below ws)) q.type o u) (rest ws)) (refused-shut q.at s e z) ∙ after_stop (rest ws) u z))

    begun-left : (s : St A) → s.fault ≡ 0
        → left_of (stopped (frame q.type (begins k x q.at s).still ∷ ws) (begins k x q.at s).state)
        ≡ enter_cost k x (reads_node k x (below ws)) (cost k x (below ws)) q s + further (enter_node k x (reads_node k x (below ws)) q s) (left ws)
    unfolding left enter_node enter_cost shuts entries closes
    begun-left s e =
        let u : St A = (begins k x q.at s).state in
        let o : Open = (begins k x q.at s).still in
        let f : Node → St A → St A = reads_node k x (below ws) in
        let c : Node → St A → ℕ = cost k x (below ws) in
        by-choice (λ (r : Plain A). left_of r ≡ further u (shuts_cost f c q.type o) + further (shuts f q.type o u) (left ws)) (eqb u.fault 0)
        (λ t. ap (λ (n : ℕ). n + further (shuts f q.type o u) (left ws)) (sym (further-go (shuts_cost f c q.type o) u (eqb-true u.fault 0 t))))
        (λ t.
        let z : u.fault ≡ 0 → ⊥ = eqb-false u.fault 0 t in
        let a = further-none (shuts_cost f c q.type o) u z in
        let b = ap (λ (i : Open). further (shuts f q.type i u) (left ws)) (refused-shut q.at s e z) ∙ further-none (left ws) u z in
        omega (arith, a, b))

    entered-rest : (s : St A) → s.fault ≡ 0 → rest_of (entered k x q ws s) ≡ and_then (reads_node k x (level ws) q s) (rest ws)
    unfolding entered reads_node rest
    entered-rest s e =
        by-choice (λ (c : Plain A). rest_of c ≡ and_then (reads_node k x (level ws) q s) (rest ws)) (leb levels (length ws))
        (λ t. sym (ap (λ (i : ℕ). and_then (reads_node k x i q s) (rest ws)) (no-level ws t) ∙ after_stop (rest ws) (failed 55 s) (λ z. omega arith)))
        (λ t. begun-rest (begun k s) e ∙ ap (λ (i : ℕ). and_then (reads_node k x i q s) (rest ws)) (sym (some_level ws t)))

    entered-left : (s : St A) → s.fault ≡ 0
        → left_of (entered k x q ws s) ≡ cost k x (level ws) q s + further (reads_node k x (level ws) q s) (left ws)
    unfolding entered reads_node cost left
    entered-left s e =
        by-choice (λ (c : Plain A). left_of c ≡ cost k x (level ws) q s + further (reads_node k x (level ws) q s) (left ws)) (leb levels (length ws))
        (λ t. sym (ap (λ (i : ℕ). cost k x i q s + further (reads_node k x i q s) (left ws)) (no-level ws t)
        ∙ ap (λ (i : ℕ). 0 + i) (further-none (left ws) (failed 55 s) (λ z. omega arith))))
        (λ t. begun-left (begun k s) e ∙ ap (λ (i : ℕ). cost k x i q s + further (reads_node k x i q s) (left ws)) (sym (some_level ws t)))

  -- ---- a visit's begin, by what is found

  module _ (q : Node) (ws : List Frame) (s r : St A) where
    pub entered-deep : levels ≤ length ws → entered k x q ws s ≡ plain [] (failed 55 s)
    unfolding entered choose
    entered-deep h = rw (le-leb levels (length ws) h)

    pub entered-stop : length ws < levels → r ≡ own k x q.at (begun k s) → (r.fault ≡ 0 → ⊥) → entered k x q ws s ≡ plain [] r
    unfolding entered choose
    entered-stop h e z = rw (lt-leb levels (length ws) h, sym e, ne_eqb r.fault 0 z)

    pub entered-more : length ws < levels → r ≡ own k x q.at (begun k s) → r.fault ≡ 0
        → entered k x q ws s ≡ plain (frame q.type (opens q.at 0 r.last) ∷ ws) r
    unfolding entered choose
    entered-more h e z = rw (lt-leb levels (length ws) h, sym e, z)

  -- ---- a step, by what is next

  module _ (t : Checked) (o : Open) (ws : List Frame) (s : St A) (e : s.fault ≡ 0) where
    abbrev f : Node → St A → St A
    f = reads_node k x (below ws)

    abbrev c : Node → St A → ℕ
    c = cost k x (below ws)

    abbrev step_by : Next → Plain A
    step_by a = on_next a (plain ws s) (λ p o'. entered k x (node_at t p) (frame t o' ∷ ws) s)

    rest-by : (a : Next) → shuts f t o s ≡ shuts_by f t a s → rest_of (step_by a) ≡ rest (frame t o ∷ ws) s
    unfolding rest
    rest-by over h = sym (ap (λ (u : St A). and_then u (rest ws)) h ∙ after-go (rest ws) s e)
    rest-by (into p o') h =
        entered-rest (node_at t p) (frame t o' ∷ ws) s e
        ∙ sym (ap (λ (u : St A). and_then u (rest ws)) h ∙ after-after (f (node_at t p) s) (shuts f t o') (rest ws))

    left_by : (a : Next) → shuts f t o s ≡ shuts_by f t a s → shuts_cost f c t o s ≡ cost_by f t c a s → left (frame t o ∷ ws) s ≡ suc (left_of (step_by a))
    unfolding left
    left_by over h i = let r = ap (λ (u : St A). further u (left ws)) h ∙ further-go (left ws) s e in omega (arith, i, r)
    left_by (into p o') h i =
        let r = ap (λ (u : St A). further u (left ws)) h in
        let j = further-after (f (node_at t p) s) (shuts_cost f c t o') (left ws) (shuts f t o') in
        let l = entered-left (node_at t p) (frame t o' ∷ ws) s e in
        omega (arith, i, r, j, l)

  module _ (w : Frame) (ws : List Frame) (s : St A) (e : s.fault ≡ 0) where
    -- what is left to do is the same behind a step
    pub rest-step : rest_of (step k x (w ∷ ws) s) ≡ rest (w ∷ ws) s
    unfolding step
    rest-step = rest-by w.type w.still ws s e (next w.still s.last) (shuts-next (reads_node k x (below ws)) w.type w.still s)

    -- and there is one step less
    pub left_step : left (w ∷ ws) s ≡ suc (left_of (step k x (w ∷ ws) s))
    unfolding step
    left_step =
        left_by w.type w.still ws s e (next w.still s.last) (shuts-next (reads_node k x (below ws)) w.type w.still s)
        (cost-next (reads_node k x (below ws)) w.type (cost k x (below ws)) w.still s)

  -- ---- a list of at most 64; where something is refused nothing is open

  abbrev Clean : List Frame → St A → Type 0
  Clean [] s = Unit
  Clean (w ∷ ws) s = s.fault ≡ 0

  pub record Ready (p : Plain A) : Type 0 where
    pub few : length p.list ≤ levels
    pub clean : Clean p.list p.state

  clean-any : (ws : List Frame) (s : St A) → s.fault ≡ 0 → Clean ws s
  clean-any [] s e = tt
  clean-any (w ∷ ws) s e = e

  entered-ready : (q : Node) (ws : List Frame) (s : St A) → Ready (entered k x q ws s)
  unfolding entered
  entered-ready q ws s =
      by-choice Ready (leb levels (length ws)) (λ t. record { few = omega arith; clean = tt }) (λ t.
      by-choice Ready (eqb (begins k x q.at (begun k s)).state.fault 0)
      (λ z. record { few = let h = leb-false levels (length ws) t in omega arith; clean = eqb-true _ _ z })
      (λ z. record { few = omega arith; clean = tt }))

  ready_by : (w : Frame) (ws : List Frame) (s : St A) (a : Next) → Ready (plain (w ∷ ws) s)
      → Ready (on_next a (plain ws s) (λ p o. entered k x (node_at w.type p) (frame w.type o ∷ ws) s))
  ready_by w ws s over r = record { few = let h = r.few in omega arith; clean = clean-any ws s r.clean }
  ready_by w ws s (into p o) r = entered-ready (node_at w.type p) (frame w.type o ∷ ws) s

  pub step-ready : (ws : List Frame) (s : St A) → Ready (plain ws s) → Ready (step k x ws s)
  unfolding step
  step-ready [] s r = r
  step-ready (w ∷ ws) s r = ready_by w ws s (next w.still s.last) r

  -- ---- the whole run

  pub run-rest : (n : ℕ) (ws : List Frame) (s : St A) → Ready (plain ws s) → left ws s ≤ n → run k x n (plain ws s) ≡ plain [] (rest ws s)
  unfolding run left rest step
  run-rest zero [] s r h = refl
  run-rest zero (w ∷ ws) s r h = let z = left_step w ws s r.clean in absurd (omega (arith, h, z))
  run-rest (suc n) [] s r h = run-rest n [] s r (omega arith)
  run-rest (suc n) (w ∷ ws) s r h =
      let p : Plain A = step k x (w ∷ ws) s in
      let z = left_step w ws s r.clean in
      run-rest n p.list p.state (step-ready (w ∷ ws) s r) (omega (arith, h, z)) ∙ ap (plain []) (rest-step w ws s r.clean)

  module _ (q : Node) (s : St A) (e : s.fault ≡ 0) where
    pub start-rest : rest_of (entered k x q [] s) ≡ reads_node k x levels q s
    unfolding rest
    start-rest = entered-rest q [] s e ∙ after_none (reads_node k x levels q s) (rest []) (λ u. refl)

    start_left : left_of (entered k x q [] s) ≡ cost k x levels q s
    unfolding left
    start_left =
        let z = further-zero (left []) (reads_node k x levels q s) refl in
        let l = entered-left q [] s e in
        omega (arith, z, l)

    -- the plain reader gives what the reading gives, in so many steps or more
    pub plain-reads : (n : ℕ) → cost k x levels q s ≤ n → run k x n (entered k x q [] s) ≡ plain [] (reads_node k x levels q s)
    plain-reads n h =
        let p : Plain A = entered k x q [] s in
        let l = start_left in
        run-rest n p.list p.state (entered-ready q [] s) (omega (arith, h, l)) ∙ ap (plain []) start-rest

-- and of the whole reading of a value, from its start, with any room: there is a number of steps from which on every run gives it
pub plain-reading : (full : ℕ → Bool) (x : Source) (t : Checked)
    → (n : ℕ) × ((m : ℕ) → n ≤ m → run (logging full) x m (entered (logging full) x (node t (top_of t)) [] at_start) ≡ plain [] (reading full x t))
unfolding reading reads
plain-reading full x t =
    (cost (logging full) x levels (node t (top_of t)) at_start, λ m h. plain-reads (logging full) x (node t (top_of t)) at_start refl m h)

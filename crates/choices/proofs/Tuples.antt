-- Tuples that are told in an `Option` or a `Result`: where these are equal, so is each part.
use mathlib.Core.Path.{◌≡◌, ap}
use Rattle.std.specs.Prelude.{Option, Some, Result, Ok}

pub some-pair : {A B : Type 0} {a x : A} {b y : B} → ◌≡◌ {A = Option (A × B)} (Some (a, b)) (Some (x, y)) → (a ≡ x) × (b ≡ y)
some-pair {A = A} {B = B} {a = a} {x = x} {b = b} {y = y} e =
    let f : ◌≡◌ {A = A × B} (a, b) (x, y) = cc in
    (ap (λ (w : A × B). w.0) f, ap (λ (w : A × B). w.1) f)

pub ok-pair : {A B E : Type 0} {a x : A} {b y : B} → ◌≡◌ {A = Result (A × B) E} (Ok (a, b)) (Ok (x, y)) → (a ≡ x) × (b ≡ y)
ok-pair {A = A} {B = B} {a = a} {x = x} {b = b} {y = y} e =
    let f : ◌≡◌ {A = A × B} (a, b) (x, y) = cc in
    (ap (λ (w : A × B). w.0) f, ap (λ (w : A × B). w.1) f)

pub some-triple : {A B C : Type 0} {a x : A} {b y : B} {c z : C} → ◌≡◌ {A = Option (A × B × C)} (Some (a, b, c)) (Some (x, y, z))
    → (a ≡ x) × (b ≡ y) × (c ≡ z)
some-triple {A = A} {B = B} {C = C} {a = a} {x = x} {b = b} {y = y} {c = c} {z = z} e =
    let f : ◌≡◌ {A = A × B × C} (a, b, c) (x, y, z) = cc in
    (ap (λ (w : A × B × C). w.0) f, ap (λ (w : A × B × C). w.1) f, ap (λ (w : A × B × C). w.2) f)

pub ok-triple : {A B C E : Type 0} {a x : A} {b y : B} {c z : C} → ◌≡◌ {A = Result (A × B × C) E} (Ok (a, b, c)) (Ok (x, y, z))
    → (a ≡ x) × (b ≡ y) × (c ≡ z)
ok-triple {A = A} {B = B} {C = C} {a = a} {x = x} {b = b} {y = y} {c = c} {z = z} e =
    let f : ◌≡◌ {A = A × B × C} (a, b, c) (x, y, z) = cc in
    (ap (λ (w : A × B × C). w.0) f, ap (λ (w : A × B × C). w.1) f, ap (λ (w : A × B × C). w.2) f)

-- A `?` behind `ok_or`: where it leaves the function, there was none, and what is returned is the error that stood for it.
use mathlib.Core.Path.{◌≡◌, ap, ◌∙◌}
use Rattle.std.specs.Prelude.{Option, None, Result, Err}
use Rattle.std.specs.Option.{ok_or}
use Rattle.std.specs.Result.{IsErrAnd}
use Rattle.choices.proofs.Exits.{exit-error, error-of-none}

pub exit-none : {T U E : Type 0} {o : Option T} {r : Result T E} {result : Result U E} {e f : E}
    → IsErrAnd result (λ x. x ≡ f) → r ≡ ok_or o e → r ≡ Err f → (o ≡ None) × (result ≡ Err e)
exit-none h v w = let none = error-of-none v w in (none.0, exit-error h ∙ ap Err none.1)

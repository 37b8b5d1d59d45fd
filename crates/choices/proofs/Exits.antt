-- What `?` returns where it leaves a function: none, or the error that a `Result` has, or that `ok_or` put in the place of none.
use mathlib.Core.Path.{◌≡◌, refl, ap, ◌∙◌}
use Rattle.std.specs.Prelude.{Option, Some, None, Result, Ok, Err}
use Rattle.std.specs.Option.{ok_or}
use Rattle.std.specs.Result.{IsErrAnd}
use Rattle.std.proofs.lemmas.Result.{err_from_is_err_and}
use Rattle.choices.proofs.Choices.{clash}

-- what is returned is the error that `?` met
pub exit-error : {T E : Type 0} {r : Result T E} {f : E} → IsErrAnd r (λ x. x ≡ f) → r ≡ Err f
exit-error {r = r} h = let p = err_from_is_err_and r h in p.1 ∙ ap Err p.2

-- an error that `ok_or` gave stands for none
pub error-of-none : {T E : Type 0} {o : Option T} {r : Result T E} {e f : E} → r ≡ ok_or o e → r ≡ Err f → (o ≡ None) × (f ≡ e)
error-of-none {o = None} v w = (refl, cc)
error-of-none {o = Some x} v w = clash cc

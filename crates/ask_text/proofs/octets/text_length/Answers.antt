-- No octets are one character, others two each; and one behind them.
use mathlib.Core.Path.{sym, ◌∙◌}
use Rattle.ask_text.proofs.OctetsPut.{some-length}
use Rattle.ask_text.proofs.octets.text_length.Goals as goal

pub returns : goal.returns
returns c = λ b. sym (some-length c.args.octets.now b (sym c.is_empty.ensures ∙ c.if-is_empty.false))

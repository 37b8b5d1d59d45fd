-- Up to 9 from 0 on, and a letter by its last four bits.
use Rattle.hexline.proofs.DigitValues.{numeral-least, numeral-value, letter-value}
use Rattle.hexline.proofs.digit_value.Goals as goal

pub overflow_sub-result : goal.overflow_sub-result
overflow_sub-result c = numeral-least c.args.c c.requires

pub returns-then-c-le57 : goal.returns-then-c-le57
returns-then-c-le57 c = numeral-value c.args.c c.if-c-le57.true

pub returns-else-c-le57 : goal.returns-else-c-le57
returns-else-c-le57 c = letter-value c.args.c c.requires c.if-c-le57.false

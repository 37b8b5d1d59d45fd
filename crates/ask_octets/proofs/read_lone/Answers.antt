-- One word, and what it stands for.
use Rattle.ask_octets.proofs.WordsRead.{lone-and-more}
use Rattle.ask_octets.proofs.read_lone.Goals as goal

pub returns-then-first_end-line : goal.returns-then-first_end-line
returns-then-first_end-line c =
    lone-and-more c.args.line.now _ c.first_end.ensures _ c.if-first_end-line.true

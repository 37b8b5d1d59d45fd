-- The octets that were read are a message.
use Rattle.ask_octets.proofs.OctetsStand.{lone-stands, octets-not, octets-are}
use Rattle.ask_headers.specs.HeaderQuestions.{header_asked, no_header_question}
use Rattle.ask_headers.proofs.answer_header.Goals as goal

pub returns-in_default : goal.returns-in_default
returns-in_default c =
    rw (octets-not (lone-stands c.args.rest.now c.requires c.read_lone.ensures) c.in_default.is no_header_question header_asked) c.no_question.ensures

pub returns : goal.returns
returns c =
    rw (octets-are (lone-stands c.args.rest.now c.requires c.read_lone.ensures) _ c.in-Some.is no_header_question header_asked) c.write_header.ensures

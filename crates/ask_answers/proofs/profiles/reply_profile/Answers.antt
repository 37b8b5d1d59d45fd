-- The word is read, and the body, which stands in the memory then, or the number of its refusal is told.
use lib.Seq.{length-take-le}
use Rattle.ask_answers.specs.Questions.{profile_asked}
use Rattle.ask_answers.proofs.WordsStand.{lone-held, octets-not, octets-asked, octets-within}
use Rattle.ask_answers.proofs.BodiesHeld.{profile-held, profile-refused}
use Rattle.ask_answers.proofs.NothingHeld.{none-held}
use Rattle.ask_answers.proofs.profiles.reply_profile.Goals as goal

pub returns-in_default : goal.returns-in_default
returns-in_default c =
    let read = lone-held c.args.rest.now c.requires.0 c.read_lone.ensures in
    none-held _ _ (octets-not read c.in_default.is (λ v. profile_asked v))

pub returns-in-Ok : goal.returns-in-Ok
returns-in-Ok c =
    let read = lone-held c.args.rest.now c.requires.0 c.read_lone.ensures in
    rw (octets-asked read _ c.in-Some.is (λ v. profile_asked v))
    (profile-held _ _ c.read.ensures _ c.in-Ok.is c.args.memory.now c.requires.1 _ _ c.write_octets.ensures _ (length-take-le _ _ (octets-within read _ c.in-Some.is)))

pub returns-in-Err : goal.returns-in-Err
returns-in-Err c =
    let read = lone-held c.args.rest.now c.requires.0 c.read_lone.ensures in
    rw (octets-asked read _ c.in-Some.is (λ v. profile_asked v)) (profile-refused _ _ c.read.ensures _ c.in-Err.is _ c.number.ensures _)

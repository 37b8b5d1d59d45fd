-- The digits fit, and the LF behind them.
use Rattle.std.proofs.Common.{arith}
use Rattle.decimals.proofs.CharactersPut.{put_then, put_one}
use Rattle.recording_text.proofs.MessagePut.{message-put}
use Rattle.recording_text.proofs.text.put_message.Goals as goal

pub returns : goal.returns
returns c =
    put_then (message-put c.args.message.now c.args.out.now c.args.at _ _ (omega (arith, c.requires)) c.encode.ensures) (put_one _ _ 10)

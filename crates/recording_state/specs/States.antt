-- Where a recording stands between blocks.
--   fresh_state   the start of a recording
use Rattle.join_places.specs.Places.{fresh_record}
use Rattle.recording_state.specs.declared.State.{State}

abbrev pub fresh_state : State
fresh_state = record { messages = fresh_record; lines = 0; kept = 0 }

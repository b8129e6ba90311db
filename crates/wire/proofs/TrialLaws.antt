-- The worked cases compute. Assumes nothing.
use mathlib.Core.Path.{◌≡◌, refl}
use mathlib.Core.List.{map}
use Rattle.endian.specs.Bytes.{words}
use Rattle.kinds.specs.Kinds.{entries_of}
use Rattle.wire.specs.Body.{message_at}
use Rattle.wire.specs.Trials.{trials, computed, expected}

pub trials_hold : map computed trials ≡ map expected trials
unfolding entries_of message_at words
trials_hold = refl

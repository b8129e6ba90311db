-- The worked cases compute. Assumes nothing.
use mathlib.Core.Path.{◌≡◌, refl}
use mathlib.Core.List.{map}
use Rattle.frames.specs.Frame.{next_frame}
use Rattle.frames.specs.Trials.{trials, computed, expected}

pub trials_hold : map computed trials ≡ map expected trials
unfolding next_frame
trials_hold = refl

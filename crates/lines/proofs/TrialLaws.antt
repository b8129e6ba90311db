-- The worked lines are as written out, and there is a line of 358 bytes. Computed. Assumes nothing.
use mathlib.Core.Path.{◌≡◌, refl}
use mathlib.Core.List.{map}
use lib.ListN.{length}
use Rattle.decimal.specs.Decimal.{decimal, decimal_by}
use Rattle.text.specs.Text.{spaced}
use Rattle.lines.specs.Line.{line_bytes}
use Rattle.lines.specs.Trials.{Trial, trials, longest}

pub trials_hold : map (λ (t : Trial). line_bytes t.line) trials ≡ map (λ (t : Trial). t.bytes) trials
unfolding spaced decimal decimal_by
trials_hold = refl

pub length_longest : length (line_bytes longest) ≡ 358
unfolding spaced decimal decimal_by
length_longest = refl

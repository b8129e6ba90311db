-- Every worked case comes out as it must: one theorem over the list, by computation. Assumes nothing.
use mathlib.Core.Path.{◌≡◌, refl}
use mathlib.Core.List.{map}
use Rattle.graph.specs.Acyclic.{pointed, peel, acyclic}
use Rattle.graph.specs.Order.{next, write as writes, greedy}
use Rattle.graph.specs.Reached.{spread, rounds, reachedb}
use Rattle.graph.specs.Check.{may_stand, all_stand, orderb}
use Rattle.orders.specs.Entries.{entry_at, entries_from, entries_in}
use Rattle.orders.specs.Good.{apartb, goodb}
use Rattle.orders.specs.Order.{in_orderb, check_result}
use Rattle.orders.specs.Write.{order_written, write_result}
use Rattle.sites.specs.Sites.{sites_of}
use Rattle.method.specs.Records.{tickets_of}
use Rattle.method.specs.Slots.{slot_of, free_slot, kept, active_rows}
use Rattle.method.specs.Conditions.{unprepared, has_pred, held_back}
use Rattle.method.specs.Calls.{checks}
use Rattle.method.specs.Effects.{padded, opened, based, new_row, reported, committed_row, raised, decided, stays, swept_row, swept_count, effect, act, step}
use Rattle.method.specs.Trials.{Trial, ask, trials}

pub trials_hold : map (λ (c : Trial). ask c.question) trials ≡ map (λ (c : Trial). c.outcome) trials
unfolding pointed peel acyclic next writes greedy spread rounds reachedb may_stand all_stand orderb entry_at entries_from entries_in apartb goodb in_orderb check_result order_written write_result sites_of tickets_of slot_of free_slot kept active_rows unprepared has_pred held_back checks padded opened based new_row reported committed_row raised decided stays swept_row swept_count effect act step trials
trials_hold = refl

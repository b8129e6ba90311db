-- Every worked case comes out as it must: one theorem over the list, by computation. Assumes nothing.
use mathlib.Core.Path.{◌≡◌, refl}
use mathlib.Core.List.{map}
use Rattle.endian.specs.Bytes.{words, word_bytes}
use Rattle.graph.specs.Acyclic.{pointed, peel, acyclic}
use Rattle.graph.specs.Order.{next, write as writes, greedy}
use Rattle.graph.specs.Reached.{spread, rounds, reachedb}
use Rattle.graph.specs.Check.{may_stand, all_stand, orderb}
use Rattle.orders.specs.Entries.{entry_at, entries_from, entries_in, flat_of}
use Rattle.orders.specs.Good.{apartb, goodb}
use Rattle.orders.specs.Order.{in_orderb}
use Rattle.sites.specs.Sites.{sites_of}
use Rattle.kinds.specs.Kinds.{entries_of}
use Rattle.wire.specs.Body.{message_at}
use Rattle.method.specs.Records.{tickets_of, closed}
use Rattle.method.specs.Slots.{slot_of, free_slot, kept, active_rows, entry_of}
use Rattle.method.specs.Conditions.{unprepared, has_pred, held_back}
use Rattle.method.specs.Calls.{checks}
use Rattle.method.specs.Effects.{padded, opened, based, new_row, reported, committed_row, raised, decided, stays, swept_row, swept_count, effect, act, step}
use Rattle.replies.specs.Desk.{desk}
use Rattle.replies.specs.Trials.{Trial, lines_of, trials}

pub trials_hold : map (λ (c : Trial). lines_of closed c.bodies) trials ≡ map (λ (c : Trial). c.lines) trials
unfolding words word_bytes pointed peel acyclic next writes greedy spread rounds reachedb may_stand all_stand orderb entry_at entries_from entries_in flat_of apartb goodb in_orderb sites_of entries_of message_at tickets_of slot_of free_slot kept active_rows entry_of unprepared has_pred held_back checks padded opened based new_row reported committed_row raised decided stays swept_row swept_count effect act step desk trials
trials_hold = refl

-- How a turn's number stands for a place that waits.
use Rattle.std.specs.Prelude.{ℕ, ◌/◌, ◌%◌, List, map}
use Rattle.std.specs.BinaryHeap.{heap_items}
use Rattle.std.specs.declared.cmp.Reverse.{Reverse}
use Rattle.line_network.specs.declared.length.Length.{Length}
use Rattle.line_network.specs.declared.queue.Queue.{Queue}
use Rattle.line_network.specs.declared.turn.Turn.{Turn}
use Rattle.line_network.specs.inner.Lengths.{Distance, distance_of}

-- a place whose lines are still to be relaxed, and its label when it was put there
pub record Waiting : Type 0 where
  pub distance : Distance
  pub place : ℕ

abbrev pub entry : Distance → ℕ → Waiting
entry d k = record { distance = d; place = k }

-- the length with which the place of a turn waits
abbrev pub way_of : Turn → Length
way_of t = record { number = t.number / 2048 }

abbrev pub waiting_of : Turn → Waiting
waiting_of t = record { distance = distance_of (way_of t); place = t.number % 2048 }

-- the places that wait
abbrev pub waits : Queue → List Waiting
waits queue = map (λ (t : Reverse Turn). waiting_of t.0) (heap_items queue.turns)

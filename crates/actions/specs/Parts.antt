-- What is left of a slot and its part of the memory, and of a lent slice that is written to.
-- Assumes nothing.
use Rattle.std.specs.Prelude.{ℕ, ◌≡◌, List}
use Rattle.std.proofs.Math.ListN as lists
use Rattle.protocol.specs.declared.Link.{Link}
use Rattle.rules.specs.Server as rules
use Rattle.rules.specs.Server.{Row}
use Rattle.rules.specs.Links.{enters}
use Rattle.rules.specs.Rows.{cleared_if}
use Rattle.rules.specs.Slots.{moved}
use Rattle.memory.specs.Memory.{rows_in, memory_of, requests_of, kept_of}
use Rattle.writer.specs.Write.{Wrote}
use Rattle.slots.specs.declared.state.Slot.{Slot}
use Rattle.slots.specs.State.{slot_of}
use Rattle.table.specs.Slots.{slot_in, OthersStay}
use Rattle.actions.specs.declared.parts.Acted.{Acted}

-- slot k with its part of the memory
abbrev pub slot_with : Slot → ℕ → List ℕ → rules.Slot
slot_with x k memory = slot_of x (requests_of (memory_of memory) k) (kept_of (memory_of memory) k)

-- of the table
abbrev pub slot_now : List Slot → ℕ → List ℕ → rules.Slot
slot_now slots k memory = slot_with (slot_in slots k) k memory

-- a slot struct and its part of the memory are this slot, and the rows are these
pub record Leaves (k : ℕ) (slot : rules.Slot) (rows : List Row) (before after : List ℕ) (x : Slot) : Type 0 where
  pub struct : slot_of x slot.requests slot.kept ≡ slot
  pub memory : memory_of after ≡ record {
    rows = rows;
    requests = lists.set (memory_of before).requests k slot.requests;
    kept = lists.set (memory_of before).kept k slot.kept;
  }

-- the link is moved, with what follows from that
abbrev pub Moves : ℕ → Link → Slot → List ℕ → List ℕ → Slot → Type 0
Moves k l x before after r =
    Leaves k (moved l (slot_with x k before)) (cleared_if (enters x.link.alignment l.alignment) k (rows_in before)) before after r

-- the same in the table, whose other slots stay
pub record MovesAt (k : ℕ) (l : Link) (slots slots' : List Slot) (before after : List ℕ) : Type 0 where
  pub moves : Moves k l (slot_in slots k) before after (slot_in slots' k)
  pub others : OthersStay k slots slots'

-- ---- what is left and written
-- both, of an event before its end
pub record Acts (k : ℕ) (slot : rules.Slot) (rows : List Row) (p before after out out' : List ℕ) (r : Acted) : Type 0 where
  pub left : Leaves k slot rows before after r.slot
  pub wrote : Wrote p out out' r.written

-- the same in the table, whose other slots stay
pub record ActsAt (k : ℕ) (slot : rules.Slot) (rows : List Row) (p : List ℕ) (slots slots' : List Slot) (before after out out' : List ℕ) (n : ℕ) : Type 0 where
  pub acts : Acts k slot rows p before after out out' (record { slot = slot_in slots' k; written = n })
  pub others : OthersStay k slots slots'

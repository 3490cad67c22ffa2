-- The request lists by their rooms: those in use come first, in order.
-- Assumes nothing.
use Rattle.std.specs.Prelude.{◌≡◌, ℕ, suc, ◌+◌, ◌-◌, Bool, true, false, not, ◌&&◌, Option, Some, None, List, [], ◌∷◌, ◌++◌, length, replicate, nat_lt, slice_index_or, slice_set}
use Rattle.laws.specs.Choice.{pick}
use Rattle.laws.specs.Lists.{part, table}
use Rattle.laws.specs.Puts.{put_at}
use Rattle.laws.specs.Tables.{has}
use Rattle.protocol.specs.declared.CsaNumber.{CsaNumber}
use Rattle.protocol.specs.Fields.{field2, field4, put4}
use Rattle.protocol.specs.Numbers.{newer, csa_of}
use Rattle.rules.specs.Server.{requests_most, Entry, Request}
use Rattle.rules.specs.Requests.{asks, up_to_date, Wanted, join}
use Rattle.rules.specs.Rows.{entry_row}
use Rattle.memory.specs.Layout.{number_place, list_place}
use Rattle.memory.specs.Memory.{entry_named, tagged_entry, room_name, rows_in, request_in, requests_in, memory_of, requests_put, requests_of}

-- the request that a tag and the octets of a room hold
unfoldable pub request_of : ℕ → List ℕ → Request
request_of tag v = record { entry = tagged_entry tag (room_name v 0); number = csa_of (field4 v number_place) }

-- the octets of a room before the name is put there
abbrev pub head_of : ℕ → ℕ → List ℕ
head_of n bits = n ∷ 0 ∷ 0 ∷ 0 ∷ put4 bits (replicate 20 0)

-- all rooms of slot k's list
unfoldable pub rooms_in : List ℕ → ℕ → List Request
rooms_in s k = table (request_in s k) requests_most 0

-- what stands past the last room
abbrev pub no_request : Request
no_request = record { entry = entry_named []; number = csa_of 0 }

-- what a function ensures that changes slot k's list and nothing else: n rooms in use, and what the rooms hold
pub record Listed (k n : ℕ) (rooms : List Request) (before after : List ℕ) : Type 0 where
  pub used : field2 after (list_place k) ≡ n
  pub held : rooms_in after k ≡ rooms
  pub others : memory_of after ≡ requests_put k (requests_in after k) (memory_of before)

-- the request goes: it is for the entry, and its number is no greater than the one given, if one is
abbrev pub goes : Option CsaNumber → Entry → Request → Bool
goes None e q = asks e q
goes (Some n) e q = asks e q && not (newer q.number n)

-- slot k's list with a number of requests that found no room
abbrev pub wanted_now : ℕ → ℕ → List ℕ → Wanted
wanted_now k missed s = record { requests = requests_of (memory_of s) k; missed = missed }

-- what a function ensures that has a request join slot k's list, of the memory and of the missed that it answers
pub record Joins (k : ℕ) (e : Entry) (n : CsaNumber) (missed : ℕ) (before after : List ℕ) (r : ℕ) : Type 0 where
  pub list : memory_of after ≡ requests_put k (join e n (wanted_now k missed before)).requests (memory_of before)
  pub count : r ≡ (join e n (wanted_now k missed before)).missed
  pub kept : has (asks e) (requests_of (memory_of before) k) ≡ false → nat_lt (length (requests_of (memory_of before) k)) requests_most ≡ false → after ≡ before

-- the list and the missed count after a summary of the entry: as `taken_in` of the rules, for a record of this key, originator and number
abbrev pub wanted_after : ℕ → Entry → CsaNumber → ℕ → List ℕ → Wanted
wanted_after k e n missed s = pick (up_to_date n (entry_row e (rows_in s))) (wanted_now k missed s) (join e n (wanted_now k missed s))

pub record TakesIn (k : ℕ) (e : Entry) (n : CsaNumber) (missed : ℕ) (before after : List ℕ) (r : ℕ) : Type 0 where
  pub list : memory_of after ≡ requests_put k (wanted_after k e n missed before).requests (memory_of before)
  pub count : r ≡ (wanted_after k e n missed before).missed
  pub kept : up_to_date n (entry_row e (rows_in before)) ≡ true → after ≡ before
  pub full : has (asks e) (requests_of (memory_of before) k) ≡ false → nat_lt (length (requests_of (memory_of before) k)) requests_most ≡ false → after ≡ before

-- what a function ensures that goes past request i, one of those that go or one to move to w
pub record Removes (k : ℕ) (p : Request → Bool) (i w : ℕ) (before after : List ℕ) (r : ℕ) : Type 0 where
  pub next : r ≡ pick (p (slice_index_or (rooms_in before k) i no_request)) w (suc w)
  pub list : Listed k (field2 before (list_place k))
      (pick (p (slice_index_or (rooms_in before k) i no_request)) (rooms_in before k) (slice_set (rooms_in before k) w (slice_index_or (rooms_in before k) i no_request))) before after
  pub kept : w ≡ i → after ≡ before

-- the memory with the first `by` of the n octets at a place behind the others
abbrev pub rotated_at : ℕ → ℕ → ℕ → List ℕ → List ℕ
rotated_at at n by s = put_at s at (part s (at + by) (n - by) ++ part s at by)

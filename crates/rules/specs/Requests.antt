-- Document 01, 'Alignment', 'Taking in', and 'Updates': the request list of a slot.
-- Assumes nothing.
use Rattle.std.specs.Prelude.{ℕ, Bool, false, not, ◌&&◌, List, [], ◌∷◌, ◌++◌, ltb, length, take, drop}
use Rattle.laws.specs.Choice.{pick}
use Rattle.laws.specs.Tables.{has, change, without}
use Rattle.protocol.specs.declared.CsaNumber.{CsaNumber}
use Rattle.protocol.specs.Numbers.{newer, one_more}
use Rattle.protocol.specs.Messages.{CsaRecord}
use Rattle.rules.specs.Server.{requests_most, Entry, same_entry, Row, free, used, Request}
use Rattle.rules.specs.Rows.{entry_row}

abbrev pub entry_of : CsaRecord → Entry
entry_of r = record { key = r.key; originator = r.originator }

-- the request is for the entry
abbrev pub asks : Entry → Request → Bool
asks e q = same_entry q.entry e

-- the row of an entry has a number no smaller
abbrev pub up_to_date : CsaNumber → Row → Bool
up_to_date n free = false
up_to_date n (used e v m) = not (newer n v.number)

-- a request list and the number of requests that found no room
pub record Wanted : Type 0 where
  pub requests : List Request
  pub missed : ℕ

abbrev pub raised : CsaNumber → Request → Request
raised n q = record { entry = q.entry; number = pick (newer n q.number) n q.number }

-- 'one per entry, in its first place, with the largest number; with 64 there a new one adds one to missed, which stops at 65535'
abbrev pub join : Entry → CsaNumber → Wanted → Wanted
join e n w =
    pick (has (asks e) w.requests) (record { requests = change (asks e) (raised n) w.requests; missed = w.missed })
    (pick (ltb (length w.requests) requests_most)
    (record { requests = w.requests ++ (record { entry = e; number = n } ∷ []); missed = w.missed })
    (record { requests = w.requests; missed = one_more w.missed }))

-- 'a summary of an absent or newer entry joins the request list'
abbrev pub taken_in : List Row → CsaRecord → Wanted → Wanted
taken_in rows r w = pick (up_to_date r.number (entry_row (entry_of r) rows)) w (join (entry_of r) r.number w)

abbrev pub all_taken_in : List Row → List CsaRecord → Wanted → Wanted
all_taken_in rows [] w = w
all_taken_in rows (r ∷ rs) w = all_taken_in rows rs (taken_in rows r w)

-- 'Acknowledging drops p's request with a number no greater'
abbrev pub acknowledged : Entry → CsaNumber → List Request → List Request
acknowledged e n qs = without (λ q. asks e q && not (newer q.number n)) qs

-- 'N set: drop its request'
abbrev pub dropped : Entry → List Request → List Request
dropped e qs = without (asks e) qs

-- 'first 4 requests, which move to the list's end'
abbrev pub rotated : List Request → List Request
rotated qs = drop 4 qs ++ take 4 qs

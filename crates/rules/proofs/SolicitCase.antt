-- Document 02, L2, evaluated, on the server and on the history: answers to a CSUS wait until they are acknowledged; null records and entries with
-- remaining 0 do not; an entry from this very slot does; asked twice is once; a purged row that was asked for stays.
-- Assumes nothing.
use Prim.Native.Nat.{ℕ}
use mathlib.Core.Path.{◌≡◌, refl}
use mathlib.Core.Bool.{false}
use mathlib.Core.List.{List, [], ◌∷◌, ◌++◌, map}
use lib.IntN.{pos}
use Rattle.laws.specs.Choice.{pick}
use Rattle.protocol.specs.declared.CsaNumber.{CsaNumber}
use Rattle.protocol.specs.Numbers.{first_number, next_csa, purged, csa_number}
use Rattle.protocol.specs.Messages.{CsaRecord, csu_request, csu_reply, csus}
use Rattle.protocol.specs.Checksum.{total}
use Rattle.protocol.specs.Layouts.{record_octets, records_octets, receivers_octets, mandatory, layout, packet_of}
use Rattle.protocol.specs.Checks.{head_check, element_check, elements_check, mandatory_check}
use Rattle.protocol.specs.Answers.{fixed_code}
use Rattle.protocol.specs.Reading.{record_at, records_at, receivers_at, message_at, read_packet}
use Rattle.rules.specs.Server.{Row, free, used, Server, fresh, rows_used}
use Rattle.rules.specs.Rows.{next}
use Rattle.rules.specs.Updates.{stepped}
use Rattle.rules.specs.Events.{Event, purge, code_of, acted, step, written_at, run, items}
use Rattle.rules.specs.History.{Known, waits_at, History, add, history_from, no_history}
use Rattle.rules.proofs.CaseEvents.{server, settings, says, polled, begun, begun_slave, sets}

-- ---- the packets
abbrev summary : ℕ → List ℕ → CsaNumber → CsaRecord
summary key originator n = record { hops = 1; null = false; number = n; key = key ∷ []; originator = originator; payload = [] }

-- our entry A, and an entry of the peer in slot 0
abbrev ours : CsaNumber → CsaRecord
ours n = summary 65 (server 2) n

abbrev theirs : ℕ → CsaRecord
theirs key = summary key (server 1) (csa_number (pos 5))

abbrev second : CsaNumber
second = stepped first_number (next_csa first_number)

abbrev update : ℕ → ℕ → ℕ → Event
update now key hops =
    says 0 now (csu_request
    (record { hops = hops; null = false; number = csa_number (pos 5); key = key ∷ []; originator = server 1; payload = 121 ∷ [] } ∷ []))

abbrev solicits : ℕ → ℕ → List CsaRecord → Event
solicits k now rs = says k now (csus rs)

abbrev replies : ℕ → ℕ → CsaRecord → Event
replies k now r = says k now (csu_reply (r ∷ []))

-- ---- a look: the keys of the entries that wait for slots 0 and 1, by the server and by the history, and the rows in use
abbrev row_keys : ℕ → List Row → List (List ℕ)
row_keys k [] = []
row_keys k (free ∷ rows) = row_keys k rows
row_keys k (used e v m ∷ rows) = pick (m k) (e.key ∷ row_keys k rows) (row_keys k rows)

abbrev known_keys : ℕ → List Known → List (List ℕ)
known_keys k [] = []
known_keys k (x ∷ xs) = pick (waits_at x.acts k) (x.entry.key ∷ known_keys k xs) (known_keys k xs)

record Shown : Type 0 where
  marks0 : List (List ℕ)
  marks1 : List (List ℕ)
  waits0 : List (List ℕ)
  waits1 : List (List ℕ)
  rows : ℕ

abbrev shown : Server → History → Shown
shown s h = record {
  marks0 = row_keys 0 s.rows;
  marks1 = row_keys 1 s.rows;
  waits0 = known_keys 0 h.entries;
  waits1 = known_keys 1 h.entries;
  rows = rows_used s.rows;
}

-- the two agree; keys are of one octet
abbrev keys : List ℕ → List (List ℕ)
keys l = map (λ x. x ∷ []) l

abbrev expect : List ℕ → List ℕ → ℕ → Shown
expect a b n = record { marks0 = keys a; marks1 = keys b; waits0 = keys a; waits1 = keys b; rows = n }

data Action : Type 0 where
  does : List Event → Action
  look : Action

abbrev play : List Action → Server → History → List Shown
play [] s h = []
play (does es ∷ more) s h = play more (run s es) (history_from settings h (items s es))
play (look ∷ more) s h = shown s h ∷ play more s h

-- A is ours and known at both peers; slot 1 asks for it, its answer is lost, another number is acknowledged, then this one
abbrev lost : List Action
lost =
    does begun_slave ∷ does begun ∷ does (sets 120 (65 ∷ []))
    ∷ look ∷ does (replies 0 2 (ours first_number) ∷ replies 1 2 (ours first_number) ∷ [])
    ∷ look ∷ does (solicits 1 2 (ours first_number ∷ []) ∷ polled 1 2 ∷ replies 1 2 (ours second) ∷ [])
    ∷ look ∷ does (replies 1 2 (ours first_number) ∷ []) ∷ look ∷ []

-- asked twice in one packet; null records, of a greater number and of an absent entry
abbrev twice : List Action
twice =
    does (solicits 1 2 (ours first_number ∷ ours first_number ∷ []) ∷ [])
    ∷ look ∷ does (replies 1 2 (ours first_number) ∷ [])
    ∷ look ∷ does (solicits 1 2 (ours second ∷ theirs 90 ∷ []) ∷ []) ∷ look ∷ []

-- B comes from slot 0 and is asked for there, and C, which has remaining 0
abbrev own : List Action
own =
    does (update 2 66 16 ∷ replies 1 2 (theirs 66) ∷ [])
    ∷ look ∷ does (solicits 0 2 (theirs 66 ∷ []) ∷ [])
    ∷ look ∷ does (replies 0 2 (theirs 66) ∷ update 2 67 1 ∷ solicits 0 2 (theirs 67 ∷ []) ∷ []) ∷ look ∷ []

-- A is purged and acknowledged at slot 0, which then asks for it: its row stays until both have acknowledged
abbrev purges : List Action
purges =
    does (purge (65 ∷ []) ∷ replies 0 2 (ours purged) ∷ [])
    ∷ look ∷ does (solicits 0 2 (ours first_number ∷ []) ∷ replies 1 2 (ours purged) ∷ [])
    ∷ look ∷ does (replies 0 2 (ours purged) ∷ []) ∷ look ∷ []

solicited : play (lost ++ (twice ++ (own ++ purges))) (fresh settings) no_history
    ≡ expect (65 ∷ []) (65 ∷ []) 1 ∷ expect [] [] 1 ∷ expect [] (65 ∷ []) 1 ∷ expect [] [] 1
    ∷ expect [] (65 ∷ []) 1 ∷ expect [] [] 1 ∷ expect [] [] 1
    ∷ expect [] [] 2 ∷ expect (66 ∷ []) [] 2 ∷ expect [] [] 3
    ∷ expect [] (65 ∷ []) 3 ∷ expect (65 ∷ []) [] 3 ∷ expect [] [] 2 ∷ []
unfolding code_of acted step written_at add next total record_octets records_octets receivers_octets mandatory layout packet_of head_check element_check
    elements_check mandatory_check fixed_code record_at records_at receivers_at message_at read_packet
solicited = refl

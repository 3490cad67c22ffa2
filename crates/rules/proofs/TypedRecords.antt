-- The requests of a slot stay as `Typed` says, and the records that are written are good ones.
-- Assumes nothing.
use Prim.Native.Nat.{ℕ, zero, suc, ◌+◌, ◌-◌, ◌%◌, ◌≤◌, ◌<◌}
use mathlib.Core.Path.{◌≡◌, refl, sym}
use mathlib.Core.Bool.{Bool, true, false, not, ◌&&◌, false≢true}
use mathlib.Core.List.{List, [], ◌∷◌, ◌++◌, map}
use native.Mathlib.Nat.{le_trans}
use native.Mathlib.Omega.{arith}
use lib.Dec.{ltb}
use lib.ListN.{length, take, drop, length-append, length-map}
use Rattle.laws.specs.Choice.{pick}
use Rattle.laws.specs.Lists.{All}
use Rattle.laws.specs.Tables.{has, find, change}
use Rattle.protocol.specs.declared.CsaNumber.{CsaNumber}
use Rattle.protocol.specs.declared.Kind.{Kind}
use Rattle.protocol.specs.declared.Kind.TheVariants.{Ca, CsuRequest, CsuReply, Csus}
use Rattle.protocol.specs.Sizes.{id_length, records_most}
use Rattle.protocol.specs.Numbers.{newer, one_more}
use Rattle.protocol.specs.Messages.{CsaRecord, summary_of}
use Rattle.protocol.specs.WellFormed.{GoodRecord, GoodRecords}
use Rattle.rules.specs.Server.{holds, rows_most, requests_most, Entry, Value, Row, free, used, is_used, waits_for, row_at, Request}
use Rattle.rules.specs.Rows.{entry_row, next, used1, rows_of, next_used, next_waiting}
use Rattle.rules.specs.Requests.{entry_of, asks, up_to_date, Wanted, raised, join, taken_in, all_taken_in, acknowledged, rotated}
use Rattle.rules.specs.Updates.{hops_most, UpdateRule, null, purge_absent, full, stored, equal, older, update_rule, requests_by, is_acknowledged}
use Rattle.rules.specs.Updates.{Updated, by_rule, all_updated, record_of, null_record, solicited_of, solicited, all_solicited}
use Rattle.rules.specs.Alignment.{summary_record}
use Rattle.rules.specs.Poll.{request_record, held_record}
use Rattle.laws.proofs.Each.{picked, all_at, all_map, all_append, all_take, all_drop, all_without, all_find, all_change}
use Rattle.laws.proofs.Bools.{pick_of}
use Rattle.rules.proofs.Typed.{GoodEntry, GoodNumber, GoodValue, TypedRow, GoodRequest}
use Rattle.rules.proofs.TypedRows.{Update, TypedRows, entry_good, rows_by_lem}

-- ---- requests
abbrev pub GoodRequests : List Request → Type 0
GoodRequests qs = All GoodRequest qs

abbrev GoodWanted : Wanted → Type 0
GoodWanted w = GoodRequests w.requests

raised_good : (n : CsaNumber) → GoodNumber n → (q : Request) → GoodRequest q → GoodRequest (raised n q)
raised_good n h q g = record { entry = g.entry; number = pick_of GoodNumber (newer n q.number) n q.number h g.number }

join_good : (e : Entry) (n : CsaNumber) (w : Wanted) → GoodEntry e → GoodNumber n → GoodWanted w → GoodWanted (join e n w)
join_good e n w he hn g =
    let q : Request = record { entry = e; number = n } in
    pick_of GoodWanted (has (asks e) w.requests) (record { requests = change (asks e) (raised n) w.requests; missed = w.missed })
    (pick (ltb (length w.requests) requests_most) (record { requests = w.requests ++ (q ∷ []); missed = w.missed })
    (record { requests = w.requests; missed = one_more w.missed }))
    (all_change GoodRequest (asks e) (raised n) q w.requests (raised_good n hn (find (asks e) q w.requests)) g)
    (pick_of GoodWanted (ltb (length w.requests) requests_most)
    (record { requests = w.requests ++ (q ∷ []); missed = w.missed })
    (record { requests = w.requests; missed = one_more w.missed })
    (all_append GoodRequest w.requests (q ∷ []) g (record { entry = he; number = hn }, tt)) g)

number_of : (k : Kind) (r : CsaRecord) → GoodRecord id_length k r → GoodNumber r.number
number_of k r g = record { fits = g.number_fits; not_reserved = g.not_reserved }

entry_of_lem : (k : Kind) (r : CsaRecord) → GoodRecord id_length k r → GoodEntry (entry_of r)
entry_of_lem k r g = record { some_key = g.some_key; key_fits = g.key_fits; key_octets = g.key_octets; originator = g.originator }

pub all_taken_in_lem : (k : Kind) (rows : List Row) (rs : List CsaRecord) (w : Wanted) → All (GoodRecord id_length k) rs → GoodRequests w.requests
    → GoodRequests (all_taken_in rows rs w).requests
all_taken_in_lem k rows [] w a g = g
all_taken_in_lem k rows (r ∷ rs) w a g =
    all_taken_in_lem k rows rs (taken_in rows r w) a.1
    (pick_of GoodWanted (up_to_date r.number (entry_row (entry_of r) rows)) w (join (entry_of r) r.number w) g
    (join_good (entry_of r) r.number w (entry_of_lem k r a.0) (number_of k r a.0) g))

pub rotated_good : (qs : List Request) → GoodRequests qs → GoodRequests (rotated qs)
rotated_good qs g = all_append GoodRequest (drop 4 qs) (take 4 qs) (all_drop GoodRequest 4 qs g) (all_take GoodRequest 4 qs g)

acknowledged_good : (e : Entry) (n : CsaNumber) (qs : List Request) → GoodRequests qs → GoodRequests (acknowledged e n qs)
acknowledged_good e n qs g = all_without GoodRequest (λ q. asks e q && not (newer q.number n)) qs g

requests_by_lem : (u : UpdateRule) (r : CsaRecord) (qs : List Request) → GoodRequests qs → GoodRequests (requests_by u r qs)
requests_by_lem null r qs g = all_without GoodRequest (asks (entry_of r)) qs g
requests_by_lem purge_absent r qs g = acknowledged_good (entry_of r) r.number qs g
requests_by_lem full r qs g = g
requests_by_lem stored r qs g = acknowledged_good (entry_of r) r.number qs g
requests_by_lem equal r qs g = acknowledged_good (entry_of r) r.number qs g
requests_by_lem older r qs g = acknowledged_good (entry_of r) r.number qs g

-- ---- the records of a CSU Request
pub record GoodUpdated (n : ℕ) (x : Updated) : Type 0 where
  pub rows : TypedRows x.rows
  pub requests : GoodRequests x.requests
  pub replies : All Update x.replies
  pub few : length x.replies ≤ n

by_rule_lem : (u : UpdateRule) (live : ℕ → Bool) (k : ℕ) (r : CsaRecord) (n : ℕ) (x : Updated) → Update r → GoodUpdated n x
    → GoodUpdated (suc n) (by_rule u live k r x)
by_rule_lem u live k r n x h g = record {
  rows = rows_by_lem u live k r x.rows h g.rows;
  requests = requests_by_lem u r x.requests g.requests;
  replies = pick_of (All Update) (is_acknowledged u) (x.replies ++ (r ∷ [])) x.replies (all_append Update x.replies (r ∷ []) g.replies (h, tt))
      g.replies;
  few = pick_of (λ l. length l ≤ suc n) (is_acknowledged u) (x.replies ++ (r ∷ [])) x.replies
      (let f = g.few in simp length-append (omega arith)) (let f = g.few in omega arith);
}

pub all_updated_lem : (live : ℕ → Bool) (k : ℕ) (rs : List CsaRecord) (n most : ℕ) (x : Updated) → n + length rs ≤ most → All Update rs
    → GoodUpdated n x → GoodUpdated most (all_updated live k rs x)
all_updated_lem live k [] n most x l a g = record { rows = g.rows; requests = g.requests; replies = g.replies; few = let f = g.few in omega arith }
all_updated_lem live k (r ∷ rs) n most x l a g =
    all_updated_lem live k rs (suc n) most (by_rule (update_rule r x.rows) live k r x) (omega arith) a.1
    (by_rule_lem (update_rule r x.rows) live k r n x a.0 g)

-- ---- records that are written
-- no payload, hop count 1, N clear
bare : (k : Kind) (e : Entry) (n : CsaNumber) → GoodEntry e → GoodNumber n
    → GoodRecord id_length k (record { hops = 1; null = false; number = n; key = e.key; originator = e.originator; payload = [] })
bare k e n he hn = record {
  some_hops = omega arith;
  hops_fit = omega arith;
  some_key = he.some_key;
  key_fits = he.key_fits;
  key_octets = he.key_octets;
  originator = he.originator;
  number_fits = hn.fits;
  not_reserved = hn.not_reserved;
  payload_fits = omega arith;
  payload_octets = λ at. omega arith;
  null_empty = λ h. refl;
  purged_empty = λ h. refl;
  summary_plain = λ h. refl;
  summary_empty = λ h. refl;
}

-- what is held of an entry
held : (hops : ℕ) (e : Entry) (v : Value) → 0 < hops → hops < 65536 → GoodEntry e → GoodValue v → Update (record_of hops e v)
held hops e v s f he hv = record {
  some_hops = s;
  hops_fit = f;
  some_key = he.some_key;
  key_fits = he.key_fits;
  key_octets = he.key_octets;
  originator = he.originator;
  number_fits = hv.number.fits;
  not_reserved = hv.number.not_reserved;
  payload_fits = hv.payload_fits;
  payload_octets = hv.payload_octets;
  null_empty = λ h. absurd (false≢true h);
  purged_empty = hv.purged_empty;
  summary_plain = λ h. absurd (false≢true (sym h));
  summary_empty = λ h. absurd (false≢true (sym h));
}

null_good : (r : CsaRecord) → GoodEntry (entry_of r) → GoodNumber r.number → Update (null_record r)
null_good r he hn = record {
  some_hops = omega arith;
  hops_fit = omega arith;
  some_key = he.some_key;
  key_fits = he.key_fits;
  key_octets = he.key_octets;
  originator = he.originator;
  number_fits = hn.fits;
  not_reserved = hn.not_reserved;
  payload_fits = omega arith;
  payload_octets = λ at. omega arith;
  null_empty = λ h. refl;
  purged_empty = λ h. refl;
  summary_plain = λ h. absurd (false≢true (sym h));
  summary_empty = λ h. absurd (false≢true (sym h));
}

-- ---- the records of a CSU Reply, of an answer to a CSUS, of a CSUS
pub replies_good : (rs : List CsaRecord) → All Update rs → length rs ≤ records_most → GoodRecords id_length CsuReply (map summary_of rs)
replies_good rs a l = record {
  few = rw (length-map rs summary_of) l;
  each = all_map Update (GoodRecord id_length CsuReply) summary_of
      (λ r g. bare CsuReply (entry_of r) r.number (entry_good r g) (number_of CsuRequest r g)) rs a;
}

solicited_good : (rows : List Row) → TypedRows rows → (r : CsaRecord) → GoodRecord id_length Csus r → Update (solicited rows r)
solicited_good rows g r h =
    by (entry_row (entry_of r) rows) (all_find TypedRow (holds (entry_of r)) free rows tt g)
  where
    by : (x : Row) → TypedRow x → Update (solicited_of r x)
    by free t = null_good r (entry_of_lem Csus r h) (number_of Csus r h)
    by (used e v m) t =
        pick_of Update (newer r.number v.number) (null_record r) (record_of hops_most e v) (null_good r (entry_of_lem Csus r h) (number_of Csus r h))
        (held hops_most e v (omega arith) (omega arith) t.entry t.value)

pub all_solicited_lem : (rows : List Row) (rs : List CsaRecord) → TypedRows rows → GoodRecords id_length Csus rs
    → GoodRecords id_length CsuRequest (all_solicited rows rs)
all_solicited_lem rows rs g h = record {
  few = rw (length-map rs (solicited rows)) h.few;
  each = all_map (GoodRecord id_length Csus) Update (solicited rows) (solicited_good rows g) rs h.each;
}

-- ---- rows pick_of by their place
next_few : (p : ℕ → Bool) (left n j : ℕ) → length (next p left n j) ≤ n
unfolding next
next_few p zero n j = omega arith
next_few p (suc left) zero j = omega arith
next_few p (suc left) (suc n) j =
    pick_of (λ l. length l ≤ suc n) (p j) (j ∷ next p left n (suc j)) (next p left (suc n) (suc j)) (omega (arith, next_few p left n (suc j)))
    (next_few p left (suc n) (suc j))

next_pass : (p : ℕ → Bool) (left n j : ℕ) → All (λ i. p i ≡ true) (next p left n j)
unfolding next
next_pass p zero n j = tt
next_pass p (suc left) zero j = tt
next_pass p (suc left) (suc n) j =
    picked (All (λ i. p i ≡ true)) (p j) (j ∷ next p left n (suc j)) (next p left (suc n) (suc j)) (λ e. (e, next_pass p left n (suc j)))
    (λ e. next_pass p left (suc n) (suc j))

module _ (shape : Entry → Value → CsaRecord) (k : Kind) where
  used_few : (r : Row) (rs : List CsaRecord) → length (used1 shape r rs) ≤ suc (length rs)
  used_few free rs = omega arith
  used_few (used e v m) rs = omega arith

  rows_few : (rows : List Row) (is : List ℕ) → length (rows_of shape rows is) ≤ length is
  rows_few rows [] = omega arith
  rows_few rows (i ∷ is) = omega (arith, rows_few rows is, used_few (row_at rows (i % rows_most)) (rows_of shape rows is))

  -- the record of a row is good
  abbrev Shows : Row → Type 0
  Shows free = Unit {0}
  Shows (used e v m) = GoodRecord id_length k (shape e v)

  used_each : (r : Row) (rs : List CsaRecord) → Shows r → All (GoodRecord id_length k) rs → All (GoodRecord id_length k) (used1 shape r rs)
  used_each free rs h a = a
  used_each (used e v m) rs h a = (h, a)

  rows_each : (P : ℕ → Type 0) (rows : List Row) → ((i : ℕ) → P i → Shows (row_at rows (i % rows_most))) → (is : List ℕ) → All P is
      → All (GoodRecord id_length k) (rows_of shape rows is)
  rows_each P rows h [] a = tt
  rows_each P rows h (i ∷ is) a =
      used_each (row_at rows (i % rows_most)) (rows_of shape rows is) (h i a.0) (rows_each P rows h is a.1)

-- the summaries of a CA
pub summaries_good : (rows : List Row) (j : ℕ) → TypedRows rows → GoodRecords id_length Ca (rows_of summary_record rows (next_used rows j))
summaries_good rows j g = record {
  few = le_trans (rows_few summary_record Ca rows (next_used rows j)) (next_few (λ i. is_used (row_at rows i)) (rows_most - j) 4 j);
  each = rows_each summary_record Ca (λ i. is_used (row_at rows i) ≡ true) rows
      (λ i e. by (row_at rows (i % rows_most)) (all_at TypedRow rows free tt g (i % rows_most))) (next_used rows j)
      (next_pass (λ i. is_used (row_at rows i)) (rows_most - j) 4 j);
} where
  by : (r : Row) → TypedRow r → Shows summary_record Ca r
  by free t = tt
  by (used e v m) t = bare Ca e v.number t.entry t.value.number

-- the records of an update request: what waits has hops left
pub waiting_good : (rows : List Row) (k j : ℕ) → TypedRows rows → GoodRecords id_length CsuRequest (rows_of held_record rows (next_waiting rows k j))
waiting_good rows k j g = record {
  few = le_trans (rows_few held_record CsuRequest rows (next_waiting rows k j)) (next_few (λ i. waits_for k (row_at rows (i % rows_most))) rows_most 4 j);
  each = rows_each held_record CsuRequest (λ i. waits_for k (row_at rows (i % rows_most)) ≡ true) rows
      (λ i e. by (row_at rows (i % rows_most)) (all_at TypedRow rows free tt g (i % rows_most)) e) (next_waiting rows k j)
      (next_pass (λ i. waits_for k (row_at rows (i % rows_most))) rows_most 4 j);
} where
  by : (r : Row) → TypedRow r → waits_for k r ≡ true → Shows held_record CsuRequest r
  by free t w = tt
  by (used e v m) t w = held v.remaining e v (t.hops_left k w) t.value.remaining_fits t.entry t.value

-- a CSUS
take_few : (n : ℕ) (qs : List Request) → length (take n qs) ≤ n
take_few zero qs = omega arith
take_few (suc n) [] = omega arith
take_few (suc n) (q ∷ qs) = omega (arith, take_few n qs)

pub requests_good : (qs : List Request) → GoodRequests qs → GoodRecords id_length Csus (map request_record (take 4 qs))
requests_good qs g = record {
  few = rw (length-map (take 4 qs) request_record) (take_few 4 qs);
  each = all_map GoodRequest (GoodRecord id_length Csus) request_record (λ q h. bare Csus q.entry q.number h.entry h.number) (take 4 qs)
      (all_take GoodRequest 4 qs g);
}

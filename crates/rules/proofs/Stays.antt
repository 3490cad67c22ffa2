-- An entry that is still held after an event is still in its row.
-- Assumes nothing.
use Prim.Native.Nat.{ℕ, ◌-◌}
use mathlib.Core.Path.{◌≡◌, refl, sym, ◌∙◌}
use mathlib.Core.Bool.{Bool, true, false, false≢true}
use mathlib.Core.List.{List, [], ◌∷◌, map}
use lib.ListN.{get_or-map}
use Rattle.laws.specs.Choice.{pick}
use Rattle.laws.specs.Tables.{has, change}
use Rattle.laws.proofs.Cells.{has_true, has_false, each_change}
use Rattle.protocol.specs.declared.CsaNumber.{CsaNumber}
use Rattle.protocol.specs.Sizes.{id_length}
use Rattle.protocol.specs.Numbers.{first_number}
use Rattle.protocol.specs.Messages.{CsaRecord, Body, ca, csu_request, csu_reply, csus, hello}
use Rattle.protocol.specs.Reading.{Reading, refused, malformed, message, read_packet}
use Rattle.rules.specs.Server.{Settings, Entry, same_entry, Value, Row, free, used, is_free, holds, row_at, Slot, Server}
use Rattle.rules.specs.Links.{enters}
use Rattle.rules.specs.Rows.{unmarked, spread, filled, swept, cleared_if}
use Rattle.rules.specs.Requests.{entry_of}
use Rattle.rules.specs.Updates.{hops_most, value, changed_row, purged_row, UpdateRule, null, purge_absent, full, stored, equal, older, update_rule}
use Rattle.rules.specs.Updates.{value_of, renewed, waits_again, rows_by, Updated, by_rule, all_updated, each_row, replied, answer_waits}
use Rattle.rules.specs.Packets.{rows_on}
use Rattle.rules.specs.Refusals.{own_entry}
use Rattle.rules.specs.Events.{Event, add_peer, link_up, link_down, packet, poll, set, withdraw, purge, counts, code_of, Place, in_slot, nowhere}
use Rattle.rules.specs.Events.{place_of, alignment_at, live_in, slots_after, read_rows, rows_changed, cleared, server_if, step}
use Rattle.rules.proofs.Relation.{Inv}
use Rattle.rules.proofs.Entries.{holds_along, Alike, alike_unmarked, alike_waits_again, alike_replied, alike_answer_waits, alike_renewed, alike_changed}
use Rattle.rules.proofs.Entries.{alike_purged}
use Rattle.rules.proofs.Ends.{changed_rows, rows_at, acted_rows}
use Rattle.rules.proofs.Invariant.{swept_at, swept_holds}

-- ---- row i holds the entry x, and no other row does
module _ (x : Entry) (i : ℕ) where
  record Only (rows : List Row) : Type 0 where
    there : holds x (row_at rows i) ≡ true
    alone : (j : ℕ) → holds x (row_at rows j) ≡ true → j ≡ i

  only_each : (a b : List Row) → ((j : ℕ) → holds x (row_at b j) ≡ holds x (row_at a j)) → Only a → Only b
  only_each a b h o = record { there = h i ∙ o.there; alone = λ j e. o.alone j (sym (h j) ∙ e) }

  only_change : (p : Row → Bool) (f : Row → Row) → ((r : Row) → Alike r (f r)) → (rows : List Row) → Only rows → Only (change p f rows)
  only_change p f h rows o =
      only_each rows (change p f rows) (each_change free p f (λ a b. holds x b ≡ holds x a) (λ r. refl) rows (λ j _. (h (row_at rows j)).holders x)) o

  fill_one : (e : Entry) (v : Value) (m : ℕ → Bool) → same_entry e x ≡ false → (r : Row) → is_free r ≡ true → same_entry e x ≡ holds x r
  fill_one e v m n free h = n
  fill_one e v m n (used f w u) h = absurd (false≢true h)

  -- a free row is filled by an entry that no row holds
  fill_by : (e : Entry) (v : Value) (m : ℕ → Bool) (rows : List Row) → has (holds e) rows ≡ false → Only rows → (b : Bool) → same_entry e x ≡ b
      → Only (filled (used e v m) rows)
  fill_by e v m rows n o true z =
      absurd (false≢true (sym (has_false free (holds e) refl rows n i) ∙ holds_along e x (row_at rows i) z ∙ o.there))
  fill_by e v m rows n o false z =
      only_each rows (filled (used e v m) rows)
      (each_change free is_free (λ _. used e v m) (λ a b. holds x b ≡ holds x a) (λ r. refl) rows (λ j. fill_one e v m z (row_at rows j))) o

  only_pick : (e : Entry) (v : Value) (m : ℕ → Bool) (f : Row → Row) → ((r : Row) → Alike r (f r)) → (rows : List Row) → Only rows
      → (b : Bool) → has (holds e) rows ≡ b → Only (pick b (change (holds e) f rows) (filled (used e v m) rows))
  only_pick e v m f h rows o true z = only_change (holds e) f h rows o
  only_pick e v m f h rows o false z = fill_by e v m rows z o (same_entry e x) refl

  -- ---- the changes of the rows
  only_rule : (u : UpdateRule) (live : ℕ → Bool) (k : ℕ) (r : CsaRecord) (rows : List Row) → Only rows → Only (rows_by u live k r rows)
  only_rule null live k r rows o = o
  only_rule purge_absent live k r rows o = o
  only_rule full live k r rows o = o
  only_rule stored live k r rows o =
      only_pick (entry_of r) (value_of r) (spread live k (r.hops - 1)) (renewed live k r) (alike_renewed live k r) rows o (has (holds (entry_of r)) rows) refl
  only_rule equal live k r rows o = only_change (holds (entry_of r)) (unmarked k) (alike_unmarked k) rows o
  only_rule older live k r rows o = only_change (holds (entry_of r)) (waits_again k) (alike_waits_again k) rows o

  only_updated : (live : ℕ → Bool) (k : ℕ) (rs : List CsaRecord) (u : Updated) → Only u.rows → Only (all_updated live k rs u).rows
  only_updated live k [] u o = o
  only_updated live k (r ∷ rs) u o =
      only_updated live k rs (by_rule (update_rule r u.rows) live k r u) (only_rule (update_rule r u.rows) live k r u.rows o)

  only_records : (f : CsaNumber → Row → Row) → ((n : CsaNumber) (r : Row) → Alike r (f n r)) → (rs : List CsaRecord) (rows : List Row) → Only rows
      → Only (each_row f rs rows)
  only_records f h [] rows o = o
  only_records f h (r ∷ rs) rows o =
      only_records f h rs (change (holds (entry_of r)) (f r.number) rows) (only_change (holds (entry_of r)) (f r.number) (h r.number) rows o)

  only_body : (b : Body) (live : ℕ → Bool) (k : ℕ) (rows : List Row) → Only rows → Only (rows_on b live k rows)
  only_body (hello t f ids) live k rows o = o
  only_body (ca n f rs) live k rows o = o
  only_body (csu_request rs) live k rows o = only_updated live k rs (record { rows = rows; requests = []; replies = [] }) o
  only_body (csu_reply rs) live k rows o = only_records (replied k) (alike_replied k) rs rows o
  only_body (csus rs) live k rows o = only_records (answer_waits k) (alike_answer_waits k) rs rows o

  only_read : (r : Reading) (live : ℕ → Bool) (k : ℕ) (rows : List Row) → Only rows → Only (read_rows r live k rows)
  only_read (refused c) live k rows o = o
  only_read (malformed at) live k rows o = o
  only_read (message m) live k rows o = only_body m.body live k rows o

  only_event : (e : Event) (s : Settings) (live : ℕ → Bool) (rows : List Row) → Only rows → Only (rows_changed e s live rows)
  only_event (add_peer k id) s live rows o = o
  only_event (link_up k now) s live rows o = o
  only_event (link_down k now) s live rows o = o
  only_event (packet k now p room) s live rows o = only_read (read_packet id_length p) live k rows o
  only_event (poll k now room) s live rows o = o
  only_event (set key payload) s live rows o =
      only_pick (own_entry s key) (value first_number payload hops_most) live (changed_row live payload) (alike_changed live payload) rows o
      (has (holds (own_entry s key)) rows) refl
  only_event (withdraw key) s live rows o = only_change (holds (own_entry s key)) (changed_row live []) (alike_changed live []) rows o
  only_event (purge key) s live rows o = only_change (holds (own_entry s key)) (purged_row live) (alike_purged live) rows o

  only_cleared_if : (b : Bool) (k : ℕ) (rows : List Row) → Only rows → Only (cleared_if b k rows)
  only_cleared_if true k rows o =
      only_each rows (map (unmarked k) rows) (λ j. rw (get_or-map (unmarked k) rows j free) ((alike_unmarked k (row_at rows j)).holders x)) o
  only_cleared_if false k rows o = o

  only_cleared : (w : Place) (before after : List Slot) (rows : List Row) → Only rows → Only (cleared w before after rows)
  only_cleared (in_slot k) before after rows o = only_cleared_if (enters (alignment_at before k) (alignment_at after k)) k rows o
  only_cleared nowhere before after rows o = o

  -- ---- the sweep frees a row, or leaves it
  stays_swept : (rows : List Row) → Only rows → has (holds x) (swept rows) ≡ true → holds x (row_at (swept rows) i) ≡ true
  stays_swept rows o h =
      let f = has_true free (holds x) (swept rows) h in
      let z : f.0 ≡ i = o.alone f.0 (swept_holds x (row_at rows f.0) (row_at (swept rows) f.0) (swept_at rows f.0) f.1) in
      rw (← z) f.1

  stays_acted : (s : Server) (e : Event) → Only s.rows → has (holds x) (swept (rows_at s e)) ≡ true → holds x (row_at (swept (rows_at s e)) i) ≡ true
  stays_acted s e o h =
      stays_swept (rows_at s e)
      (only_cleared (place_of e) s.slots (slots_after (place_of e) e s) (changed_rows s e) (only_event e s.settings (live_in s.slots) s.rows o)) h

  stays_if : (s : Server) (e : Event) → Inv s → Only s.rows → (b : Bool) → counts e (code_of s e) ≡ b → has (holds x) (server_if b s e).rows ≡ true
      → holds x (row_at (server_if b s e).rows i) ≡ true
  stays_if s e v o true c = rw (acted_rows s e v c) (stays_acted s e o)
  stays_if s e v o false c = λ h. o.there

pub stays : (s : Server) → Inv s → (e : Event) (i : ℕ) (x : Entry) → holds x (row_at s.rows i) ≡ true → has (holds x) (step s e).rows ≡ true
    → holds x (row_at (step s e).rows i) ≡ true
unfolding step
stays s v e i x p h = stays_if x i s e v (record { there = p; alone = λ j q. v.rows.once x j i q p }) (counts e (code_of s e)) refl h

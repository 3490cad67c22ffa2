-- The end of an event: the rows are swept, or as they were. An event that changes no row but by puts, and empties no waiting list, has none to
-- free, since the one before it left none.
-- Assumes nothing.
use Prim.Native.Nat.{ℕ, suc}
use mathlib.Core.Path.{◌≡◌, refl, sym, ap, ◌∙◌}
use mathlib.Core.Bool.{Bool, true, false, not, ◌&&◌, ◌||◌, false≢true}
use mathlib.Core.List.{List, [], ◌∷◌}
use mathlib.Core.Logic.{◌⊎◌, inl, inr}
use lib.ListN.{get_or, get_or-map}
use lib.ListN as lists
use Rattle.laws.specs.Choice.{pick}
use Rattle.laws.specs.Tables.{change}
use Rattle.laws.proofs.Bools.{or_false, or_mono}
use Rattle.laws.proofs.Cells.{set_here, each_change}
use Rattle.protocol.specs.declared.Alignment.TheVariants.{Down}
use Rattle.protocol.specs.declared.CsaNumber.{CsaNumber}
use Rattle.protocol.specs.Sizes.{id_length}
use Rattle.protocol.specs.Messages.{CsaRecord, Body, ca, csu_request, csu_reply, csus, hello}
use Rattle.protocol.specs.Reading.{Reading, refused, malformed, message, read_packet}
use Rattle.rules.specs.Server.{Settings, Row, free, used, holds, row_at, Slot, fresh_slot, Server}
use Rattle.rules.specs.Links.{enters}
use Rattle.rules.specs.Rows.{is_purged, any_slot, to_free, swept_row, swept, swept_if, cleared_if}
use Rattle.rules.specs.Requests.{entry_of}
use Rattle.rules.specs.Updates.{answer_waits, all_answers_wait}
use Rattle.rules.specs.Packets.{rows_on}
use Rattle.rules.specs.Events.{Event, add_peer, link_up, link_down, packet, poll, set, withdraw, purge, code_of, counts, Place, in_slot, nowhere}
use Rattle.rules.specs.Events.{place_of, alignment_at, live_in, peer_slot, slots_after, read_rows, rows_changed, empties_in, enters_at, cleared, body_changes}
use Rattle.rules.specs.Events.{read_changes, changes_rows, acted}
use Rattle.rules.proofs.Relation.{Inv}
use Rattle.rules.proofs.CodeTold.{not_in_use}
use Rattle.rules.proofs.SolicitLaws.{still_waits}

-- ---- the sweep leaves none to free, and nothing to do for another
not_free : (r : Row) (b : Bool) → to_free r ≡ b → to_free (pick b free r) ≡ false
not_free r true e = refl
not_free r false e = e

pub swept_freed : (rows : List Row) (i : ℕ) → to_free (row_at (swept rows) i) ≡ false
swept_freed rows i = rw (get_or-map swept_row rows i free) (not_free (row_at rows i) (to_free (row_at rows i)) refl)

pub swept_same : (rows : List Row) → ((i : ℕ) → to_free (row_at rows i) ≡ false) → swept rows ≡ rows
swept_same [] h = refl
swept_same (r ∷ rows) h = rw (h 0, swept_same rows (λ i. h (suc i)))

-- ---- more marks leave no row to free that was not
any_more : (m n : ℕ → Bool) → ((j : ℕ) → m j ≡ true → n j ≡ true) → any_slot m ≡ true → any_slot n ≡ true
any_more m n h =
    or_mono (m 0) _ (n 0) _ (h 0) (or_mono (m 1) _ (n 1) _ (h 1) (or_mono (m 2) _ (n 2) _ (h 2) (or_mono (m 3) _ (n 3) _ (h 3)
    (or_mono (m 4) _ (n 4) _ (h 4) (or_mono (m 5) _ (n 5) _ (h 5) (or_mono (m 6) (m 7) (n 6) (n 7) (h 6) (h 7)))))))

freed_more : (p a b : Bool) → (a ≡ true → b ≡ true) → (p && not a) ≡ false → (p && not b) ≡ false
freed_more true true b h e = rw (h refl)
freed_more true false b h e = absurd (false≢true (sym e))
freed_more false a b h e = refl

abbrev Freed : Row → Row → Type 0
Freed x y = to_free x ≡ false → to_free y ≡ false

answer_freed : (k : ℕ) (n : CsaNumber) (r : Row) → Freed r (answer_waits k n r)
answer_freed k n free = λ h. h
answer_freed k n (used e v m) = freed_more (is_purged v.number) (any_slot m) _ (any_more m _ (λ j. still_waits k j n (used e v m)))

answers_freed : (k : ℕ) (rs : List CsaRecord) (rows : List Row) (i : ℕ) → Freed (row_at rows i) (row_at (all_answers_wait k rs rows) i)
answers_freed k [] rows i h = h
answers_freed k (r ∷ rs) rows i h =
    answers_freed k rs (change (holds (entry_of r)) (answer_waits k r.number) rows) i
    (each_change free (holds (entry_of r)) (answer_waits k r.number) Freed (λ x z. z) rows (λ j _. answer_freed k r.number (row_at rows j)) i h)

-- ---- an event that changes no row so that it is to be freed
body_freed : (b : Body) (live : ℕ → Bool) (k : ℕ) (rows : List Row) → body_changes b ≡ false → (i : ℕ)
    → Freed (row_at rows i) (row_at (rows_on b live k rows) i)
body_freed (hello i f ids) live k rows h j z = z
body_freed (ca n f rs) live k rows h j z = z
body_freed (csu_request rs) live k rows h j z = absurd (false≢true (sym h))
body_freed (csu_reply rs) live k rows h j z = absurd (false≢true (sym h))
body_freed (csus rs) live k rows h j z = answers_freed k rs rows j z

read_freed : (r : Reading) (live : ℕ → Bool) (k : ℕ) (rows : List Row) → read_changes r ≡ false → (i : ℕ)
    → Freed (row_at rows i) (row_at (read_rows r live k rows) i)
read_freed (refused c) live k rows h i z = z
read_freed (malformed at) live k rows h i z = z
read_freed (message m) live k rows h i z = body_freed m.body live k rows h i z

changed_freed : (e : Event) (s : Settings) (live : ℕ → Bool) (rows : List Row) → changes_rows e ≡ false → (i : ℕ)
    → Freed (row_at rows i) (row_at (rows_changed e s live rows) i)
changed_freed (add_peer k id) s live rows h i z = z
changed_freed (link_up k now) s live rows h i z = z
changed_freed (link_down k now) s live rows h i z = z
changed_freed (packet k now p room) s live rows h i z = read_freed (read_packet id_length p) live k rows h i z
changed_freed (poll k now room) s live rows h i z = z
changed_freed (set key payload) s live rows h i z = absurd (false≢true (sym h))
changed_freed (withdraw key) s live rows h i z = absurd (false≢true (sym h))
changed_freed (purge key) s live rows h i z = absurd (false≢true (sym h))

cleared_same : (w : Place) (before after : List Slot) (rows : List Row) → enters_at w before after ≡ false → cleared w before after rows ≡ rows
cleared_same (in_slot k) before after rows h = ap (λ b. cleared_if b k rows) h
cleared_same nowhere before after rows h = refl

-- ---- a slot that gets a peer has no waiting list to empty
down_here : (slots : List Slot) (k : ℕ) (id : List ℕ)
    → (get_or (lists.set slots k (peer_slot id)) k fresh_slot ≡ peer_slot id) ⊎ (get_or (lists.set slots k (peer_slot id)) k fresh_slot ≡ fresh_slot)
    → alignment_at (lists.set slots k (peer_slot id)) k ≡ Down
down_here slots k id (inl e) = ap (λ (x : Slot). x.link.alignment) e
down_here slots k id (inr e) = ap (λ (x : Slot). x.link.alignment) e

module _ (s : Server) (e : Event) where
  abbrev pub changed_rows : List Row
  changed_rows = rows_changed e s.settings (live_in s.slots) s.rows

  -- the rows of an event that counts, before purged ones that wait for nobody are freed
  abbrev pub rows_at : List Row
  rows_at = cleared (place_of e) s.slots (slots_after (place_of e) e s) changed_rows

empties_same : (s : Server) (e : Event) → Inv s → counts e (code_of s e) ≡ true
    → cleared (empties_in e) s.slots (slots_after (place_of e) e s) (changed_rows s e) ≡ rows_at s e
unfolding code_of
empties_same s (add_peer k id) v c =
    let before : alignment_at s.slots k ≡ Down = (v.peers k).none (not_in_use s k id c) in
    let after : alignment_at (lists.set s.slots k (peer_slot id)) k ≡ Down = down_here s.slots k id (set_here fresh_slot (peer_slot id) s.slots k) in
    λ i. cleared_if (enters (sym before i) (sym after i)) k s.rows
empties_same s (link_up k now) v c = refl
empties_same s (link_down k now) v c = refl
empties_same s (packet k now p room) v c = refl
empties_same s (poll k now room) v c = refl
empties_same s (set key payload) v c = refl
empties_same s (withdraw key) v c = refl
empties_same s (purge key) v c = refl

-- ---- the end
module _ (s : Server) (e : Event) (v : Inv s) (c : counts e (code_of s e) ≡ true) where
  abbrev after : List Slot
  after = slots_after (place_of e) e s

  abbrev left : List Row
  left = cleared (empties_in e) s.slots after (changed_rows s e)

  ended_by : (b : Bool) → (changes_rows e || enters_at (empties_in e) s.slots after) ≡ b → swept_if b left ≡ swept left
  ended_by true h = refl
  ended_by false h =
      let f = or_false (changes_rows e) (enters_at (empties_in e) s.slots after) h in
      let q : left ≡ changed_rows s e = cleared_same (empties_in e) s.slots after (changed_rows s e) f.1 in
      let g : (i : ℕ) → to_free (row_at (changed_rows s e) i) ≡ false =
      λ i. changed_freed e s.settings (live_in s.slots) s.rows f.0 i (v.freed i) in
      q ∙ sym (swept_same (changed_rows s e) g) ∙ ap swept (sym q)

  pub acted_rows : (acted s e).rows ≡ swept (rows_at s e)
  unfolding acted
  acted_rows = ended_by (changes_rows e || enters_at (empties_in e) s.slots after) refl ∙ ap swept (empties_same s e v c)

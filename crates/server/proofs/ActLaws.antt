-- What a taken packet does, by its type.
-- Assumes nothing.
use Prim.Native.Nat.{ℕ}
use mathlib.Core.Path.{◌≡◌, refl, sym, ap, subst, ◌∙◌}
use mathlib.Core.Bool.{Bool, true, false}
use mathlib.Core.List.{List}
use Rattle.protocol.specs.declared.Alignment.{Alignment}
use Rattle.protocol.specs.declared.Alignment.TheVariants.{Down, Negotiate, Summarize, Update, Aligned}
use Rattle.protocol.specs.declared.CaHead.{CaHead}
use Rattle.protocol.specs.declared.Kind.TheVariants.{Ca, CsuRequest, CsuReply, Hello}
use Rattle.protocol.specs.declared.Link.{Link}
use Rattle.protocol.specs.Fields.{field2}
use Rattle.laws.specs.Tables.{on}
use Rattle.protocol.specs.Messages.{CsaRecord, Message, Body}
use Rattle.rules.specs.Server as rules
use Rattle.rules.specs.Server.{Row}
use Rattle.rules.specs.Links as links
use Rattle.rules.specs.Links.{enters, hello_move}
use Rattle.rules.specs.Rows.{cleared_if}
use Rattle.rules.specs.Slots.{aligned_if, moved}
use Rattle.rules.specs.Sent.{octets_of}
use Rattle.rules.specs.Alignment.{CaPacket, rule_for, ca_slot, ca_sent_by}
use Rattle.rules.specs.Events.{live_in}
use Rattle.rules.specs.Updates.{all_replied}
use Rattle.rules.specs.Packets.{names_us, slot_on, rows_on, sent_on}
use Rattle.rules.proofs.PastLaws.{enters_same, moved_link}
use Rattle.memory.specs.Memory.{is_marked, rows_in, memory_of}
use Rattle.memory.specs.Entries.{rows_as}
use Rattle.wire.specs.declared.read.Head.{Head}
use Rattle.wire.specs.Views.{records_of, receivers_of, message_of}
use Rattle.slots.specs.declared.state.Slot.{Slot}
use Rattle.actions.specs.declared.parts.Acted.{Acted}
use Rattle.actions.specs.Parts.{slot_with, slot_now, Leaves, Moves, MovesAt, Acts, ActsAt}
use Rattle.actions.specs.Steps.{head_at, ca_packet_by, ca_packet_at, TakesCa, TakesRequest}
use Rattle.actions.proofs.PartLaws.{leaves_as, leaves_rows, wrote_none}
use Rattle.actions.proofs.MoveLaws.{put_at_lem, put_others}
use Rattle.table.specs.Slots.{slot_in}
use Rattle.server.specs.State.{slots_of}
use Rattle.server.specs.Events.{ActsOn}
use Rattle.server.proofs.ReadLaws.{body_is}

-- ---- nothing is entered
pub enters_none : (none : Bool) (a : Alignment) → enters a (aligned_if none a) ≡ false
enters_none none Down = refl
enters_none none Negotiate = refl
enters_none none (Summarize r) = refl
enters_none true Update = refl
enters_none false Update = refl
enters_none none Aligned = refl

not_cleared : (b : Bool) (k : ℕ) (rows : List Row) → b ≡ false → rows ≡ cleared_if b k rows
not_cleared b k rows e = sym (ap (λ (c : Bool). cleared_if c k rows) e)

-- ---- a link moved
pub moves_rows : (k : ℕ) (l : Link) (x : Slot) (before after : List ℕ) (r : Slot) → Moves k l x before after r
    → let y = moved l (slot_with x k before) in
    Leaves k y (cleared_if (enters x.link.alignment y.link.alignment) k (rows_in before)) before after r
moves_rows k l x before after r t =
    let y : rules.Slot = moved l (slot_with x k before) in
    leaves_as t y (cleared_if (enters x.link.alignment y.link.alignment) k (rows_in before)) refl
    (ap (λ (m : Link). cleared_if (enters x.link.alignment m.alignment) k (rows_in before)) (sym (moved_link l (slot_with x k before))))

-- ---- by the type
abbrev ActsBy : Body → Message → (ℕ → Bool) → ℕ → ℕ → rules.Settings → List Slot → List Slot → List ℕ → List ℕ → List ℕ → List ℕ → ℕ → Type 0
ActsBy b m live k now s t t' before after out out' n =
    let x = slot_now t k before in
    let y = slot_on b s live k now (rows_in before) m x in
    ActsAt k y (cleared_if (enters x.link.alignment y.link.alignment) k (rows_on b live k (rows_in before)))
    (octets_of (sent_on b s live k (rows_in before) m x)) t t' before after out out' n

module _ {k : ℕ} {slot : rules.Slot} {rows : List Row} {p : List ℕ} {t t' : List Slot} {before after out out' : List ℕ} {n : ℕ}
    (a : ActsAt k slot rows p t t' before after out out' n) where
  acts_rows : (rows' : List Row) → rows ≡ rows' → ActsAt k slot rows' p t t' before after out out' n
  acts_rows rows' e = record { acts = record { left = leaves_as a.acts.left slot rows' refl e; wrote = a.acts.wrote }; others = a.others }

module _ (p : List ℕ) (h : Head) (k now : ℕ) (s : rules.Settings) (t : List Slot) (before after out : List ℕ) where
  abbrev live : ℕ → Bool
  live = live_in (slots_of t before)

  by_body : (t' : List Slot) (out' : List ℕ) (n : ℕ) (b : Body) → (message_of p h).body ≡ b → ActsBy b (message_of p h) live k now s t t' before after out out' n
      → ActsOn (message_of p h) k now s t t' before after out out' n
  by_body t' out' n b e a = subst (λ (c : Body). ActsBy c (message_of p h) live k now s t t' before after out out' n) (sym e) a

  -- a CA, whose slot is read whole and put
  pub acts_ca : (t' : List Slot) (out' : List ℕ) (x : Slot) (r : Acted) (u : links.CaRule) → x ≡ slot_in t k → h.kind ≡ Ca → u
      ≡ rule_for s.id (ca_packet_at p h) (slot_with x k before)
      → (head : CaHead) (rs : List CsaRecord) → head ≡ head_at p → rs ≡ records_of p h.records
      → ((sender : List ℕ) → TakesCa u k now s (ca_packet_by head rs sender) x before after out out' r) → ((j : ℕ) → slot_in t' j ≡ on k r.slot (slot_in t) j)
      → ActsOn (message_of p h) k now s t t' before after out out' r.written
  acts_ca t' out' x r u q e f head rs eh er a put =
      let y : rules.Slot → rules.Slot = λ z. ca_slot (rule_for s.id (ca_packet_at p h) z) s now (rows_in before) (ca_packet_at p h) z in
      let w : rules.Slot = slot_now t k before in
      let taken : TakesCa (rule_for s.id (ca_packet_at p h) w) k now s (ca_packet_at p h) (slot_in t k) before after out out' r =
      subst (λ (z : Slot). TakesCa (rule_for s.id (ca_packet_at p h) (slot_with z k before)) k now s (ca_packet_at p h) z before after out out' r) q
      (subst (λ (v : links.CaRule). TakesCa v k now s (ca_packet_at p h) x before after out out' r) f
      (subst (λ (c : CaPacket). TakesCa u k now s c x before after out out' r)
      (λ i. ca_packet_by (eh i) (er i) (message_of p h).sender) (a (message_of p h).sender))) in
      by_body t' out' r.written _ (body_is p h e)
      (record {
        acts =
            subst (λ (z : Slot). Acts k (y w) (cleared_if (enters w.link.alignment (y w).link.alignment) k (rows_in before))
            (octets_of (ca_sent_by (rule_for s.id (ca_packet_at p h) w) s (rows_in before) (ca_packet_at p h) w)) before after out out'
            (record { slot = z; written = r.written }))
            (sym (put_at_lem k t t' before after r.slot put)) taken;
        others = put_others k t t' before after r.slot put;
      })

  pub acts_request : (t' : List Slot) (out' : List ℕ) (n marks : ℕ) (rs : List CsaRecord) → h.kind ≡ CsuRequest → is_marked marks ≡ live → rs ≡ records_of p h.records
      → TakesRequest (is_marked marks) k s rs t t' before after out out' n → ActsOn (message_of p h) k now s t t' before after out out' n
  acts_request t' out' n marks rs e l er a =
      let taken : TakesRequest live k s (records_of p h.records) t t' before after out out' n =
      subst (λ (f : ℕ → Bool). TakesRequest f k s (records_of p h.records) t t' before after out out' n) l
      (subst (λ (ls : List CsaRecord). TakesRequest (is_marked marks) k s ls t t' before after out out' n) er a) in
      by_body t' out' n _ (body_is p h e)
      (acts_rows taken _
      (not_cleared _ k _ (enters_none _ (slot_in t k).link.alignment)))

  pub acts_reply : (rs : List CsaRecord) → h.kind ≡ CsuReply → rs ≡ records_of p h.records → memory_of after ≡ rows_as (all_replied k rs) before
      → ActsOn (message_of p h) k now s t t before after out out 0
  acts_reply rs e er m =
      by_body t out 0 _ (body_is p h e)
      (acts_rows (record {
        acts = record {
          left =
              leaves_rows k (slot_now t k before) before after (slot_in t k) (all_replied k (records_of p h.records) (rows_in before))
              (m ∙ ap (λ (ls : List CsaRecord). rows_as (all_replied k ls) before) er) refl;
          wrote = wrote_none out;
        };
        others = λ j q. refl;
      }) _ (not_cleared _ k _ (enters_same (slot_in t k).link.alignment)))

  pub acts_hello : (t' : List Slot) → h.kind ≡ Hello
      → MovesAt k (hello_move now (field2 p 8) (field2 p 10) (names_us s.id (message_of p h).receiver (receivers_of p h.records)) (slot_in t k).link) t
      t' before after
      → ActsOn (message_of p h) k now s t t' before after out out 0
  acts_hello t' e m =
      let l : Link = hello_move now (field2 p 8) (field2 p 10) (names_us s.id (message_of p h).receiver (receivers_of p h.records)) (slot_in t k).link in
      by_body t' out 0 _ (body_is p h e)
      (record {
        acts = record { left = moves_rows k l (slot_in t k) before after (slot_in t' k) m.moves; wrote = wrote_none out };
        others = m.others;
      })

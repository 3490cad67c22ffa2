-- Whatever is written at an event is one packet of at most 284 octets that the reader takes as what was meant, from us to that peer,
-- in our group.
-- Assumes nothing.
use Prim.Native.Nat.{ℕ, ◌≤◌}
use mathlib.Core.Path.{◌≡◌, refl, sym, ap, ◌∙◌, subst}
use mathlib.Core.Bool.{Bool, true, false}
use mathlib.Core.List.{List, []}
use mathlib.Core.Logic.{◌⊎◌, inl, inr, ⊎_elim}
use native.Mathlib.Omega.{arith}
use lib.ListN.{length}
use borrow.Author.Tests.{eqb-true}
use Rattle.laws.specs.Lists.{All}
use Rattle.protocol.specs.Sizes.{id_length}
use Rattle.protocol.specs.Messages.{Message}
use Rattle.protocol.specs.Layouts.{packet_of}
use Rattle.protocol.specs.Reading.{Reading, refused, malformed, message, read_packet}
use Rattle.protocol.specs.WellFormed.{Octets, Id, WellFormed}
use Rattle.protocol.proofs.PacketBack.{read_back, packet_octets, packet_length, packet_least}
use Rattle.protocol.proofs.ReadWellFormed.{read_well_formed}
use Rattle.rules.specs.Server.{Settings, settings_code, Server, fresh, slot_at}
use Rattle.rules.specs.Sent.{Sent, nothing, new_packet as sentPacket, again, octets_of}
use Rattle.rules.specs.Events.{Event, add_peer, link_up, link_down, packet, poll, set, withdraw, purge, code_of, counts, in_slot, place_of, live_in}
use Rattle.rules.specs.Events.{read_sent, sent_by, sent_if, written_at, run}
use Rattle.rules.specs.Written.{WrotePacket}
use Rattle.rules.proofs.Stated.{poll_codes}
use Rattle.rules.proofs.Typed.{TypedServer}
use Rattle.rules.specs.Typed.{TypedSettings, TypedEvent}
use Rattle.rules.proofs.TypedPeer.{Meant, meant, GoodSent, sent_on_lem, poll_sent_lem}
use Rattle.rules.proofs.CodeTold.{packet_in_use, in_use}
use Rattle.rules.proofs.TypedRun.{slot_typed, slot_here, accepted_settings, typed_fresh, typed_run}

-- a packet that is meant for a peer
record Wrote (s : Settings) (peer p : List ℕ) : Type 0 where
  meaning : Message
  octets : p ≡ packet_of meaning
  told : Meant s peer meaning

wrote : (s : Settings) (peer : List ℕ) (o : Sent) → GoodSent s peer o → (octets_of o ≡ []) ⊎ Wrote s peer (octets_of o)
wrote s peer nothing g = inl refl
wrote s peer (sentPacket m) g = inr record { meaning = m; octets = refl; told = g }
wrote s peer (again p) g = ⊎_elim (λ e. inl e) (λ f. inr record { meaning = f.0; octets = f.1.0; told = meant f.1.1 }) g

as_packet : (s : Server) (e : Event) (k : ℕ) → place_of e ≡ in_slot k → Wrote s.settings (slot_at s k).peer (written_at s e) → WrotePacket s e (written_at s e)
as_packet s e k at w =
    let m : Message = w.meaning in
    let good : WellFormed id_length m = w.told.good in
    record {
      slot = k;
      place = at;
      meaning = m;
      octets = w.octets;
      good = good;
      read = ap (read_packet id_length) w.octets ∙ read_back id_length m (omega arith) good;
      least = subst (λ (p : List ℕ). 8 ≤ length p) (sym w.octets) (packet_least m);
      size = subst (λ (p : List ℕ). length p ≤ 284) (sym w.octets) (packet_length id_length m (omega arith) good);
      small = subst Octets (sym w.octets) (packet_octets id_length m (omega arith) good);
      protocol = w.told.protocol;
      group = w.told.group;
      sender = w.told.sender;
      receiver = w.told.receiver;
    }

module _ (s : Server) (ts : TypedServer s) where
  read_sent_lem : (k : ℕ) (r : Reading) → ((m : Message) → r ≡ message m → WellFormed id_length m) → Id id_length (slot_at s k).peer
      → GoodSent s.settings (slot_at s k).peer (read_sent r s.settings (live_in s.slots) k s.rows (slot_at s k))
  read_sent_lem k (refused c) w i = tt
  read_sent_lem k (malformed at) w i = tt
  read_sent_lem k (message m) w i =
      sent_on_lem s.settings (slot_at s k).peer ts.settings i s.rows ts.rows m.body (live_in s.slots) k m (slot_at s k)
      (w m refl).body (slot_here s ts k)

  packet_sent : (k now : ℕ) (p : List ℕ) (room : ℕ) → Octets p → (b : Bool) → counts (packet k now p room) (code_of s (packet k now p room)) ≡ b
      → GoodSent s.settings (slot_at s k).peer (sent_if b s (packet k now p room))
  packet_sent k now p room o true c =
      read_sent_lem k (read_packet id_length p) (λ m e. read_well_formed id_length p m o e) ((slot_typed s ts k).peer (packet_in_use s k now p room c))
  packet_sent k now p room o false c = tt

  polled : (k now room : ℕ) (b : Bool) → counts (poll k now room) (code_of s (poll k now room)) ≡ b
      → GoodSent s.settings (slot_at s k).peer (sent_if b s (poll k now room))
  polled k now room true c =
      poll_sent_lem s.settings (slot_at s k).peer ts.settings
      ((slot_typed s ts k).peer (in_use s k ((poll_codes s k now room).code_0.0 (eqb-true (code_of s (poll k now room)) 0 c)).0))
      s.rows ts.rows now k (slot_at s k) (slot_here s ts k)
  polled k now room false c = tt

  -- the other events write nothing
  silent : (e : Event) → sent_by s e ≡ nothing → written_at s e ≡ []
  unfolding written_at
  silent e n = by (counts e (code_of s e)) where
    by : (b : Bool) → octets_of (sent_if b s e) ≡ []
    by true = ap octets_of n
    by false = refl

  at_event : (e : Event) → TypedEvent e → (written_at s e ≡ []) ⊎ WrotePacket s e (written_at s e)
  at_event (add_peer k id) t = inl (silent (add_peer k id) refl)
  at_event (link_up k now) t = inl (silent (link_up k now) refl)
  at_event (link_down k now) t = inl (silent (link_down k now) refl)
  at_event (packet k now p room) t =
      ⊎_elim (λ e. inl e) (λ w. inr (as_packet s (packet k now p room) k refl w))
      (unfold written_at in wrote s.settings (slot_at s k).peer (sent_if (counts (packet k now p room) (code_of s (packet k now p room))) s
      (packet k now p room))
      (packet_sent k now p room t.1 (counts (packet k now p room) (code_of s (packet k now p room))) refl))
  at_event (poll k now room) t =
      ⊎_elim (λ e. inl e) (λ w. inr (as_packet s (poll k now room) k refl w))
      (unfold written_at in wrote s.settings (slot_at s k).peer (sent_if (counts (poll k now room) (code_of s (poll k now room))) s (poll k now room))
      (polled k now room (counts (poll k now room) (code_of s (poll k now room))) refl))
  at_event (set key payload) t = inl (silent (set key payload) refl)
  at_event (withdraw key) t = inl (silent (withdraw key) refl)
  at_event (purge key) t = inl (silent (purge key) refl)

pub written_packet : (s : Server) (e : Event) → TypedServer s → TypedEvent e → (written_at s e ≡ []) ⊎ WrotePacket s e (written_at s e)
written_packet s e ts t = at_event s ts e t

-- after every list of events from a fresh server
pub written_after : (c : Settings) (es : List Event) (e : Event) → settings_code c ≡ 0 → TypedSettings c → All TypedEvent es → TypedEvent e
    → (written_at (run (fresh c) es) e ≡ []) ⊎ WrotePacket (run (fresh c) es) e (written_at (run (fresh c) es) e)
written_after c es e a h t u = written_packet (run (fresh c) es) e (typed_run (fresh c) es t (typed_fresh c (accepted_settings c a h))) u

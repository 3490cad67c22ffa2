-- What a refused event leaves: all as it was and nothing written, but for the malformed Hello (document 01, 'Answers to an event').
-- Assumes nothing.
use Prim.Native.Nat.{ℕ, zero, suc, ◌≤◌}
use mathlib.Core.Path.{◌≡◌, refl}
use mathlib.Core.Bool.{Bool, true, false, ◌&&◌}
use mathlib.Core.List.{List, [], ◌∷◌}
use mathlib.Core.Logic.{◌⊎◌, inl, inr}
use native.Mathlib.Omega.{arith}
use lib.Dec.{eqb}
use borrow.Author.Tests.{eqb-true, ne_eqb}
use Rattle.protocol.specs.Sizes.{id_length}
use Rattle.protocol.specs.Fields.{octet}
use Rattle.protocol.specs.Answers.{refuse}
use Rattle.protocol.specs.Reading.{Reading, refused, malformed, message, read_packet}
use Rattle.rules.specs.Server.{Settings, Slot, Server, slot_at}
use Rattle.rules.specs.Refusals.{or_else, no_peer, early, no_room, link_is_down, poll_code, reading_code, is_hello_type}
use Rattle.rules.specs.Events.{Event, add_peer, link_up, link_down, packet, poll, set, withdraw, purge, code_of, counts, step, written_at}
use Rattle.rules.proofs.Stated.{first_most, slot_above, peer_bad, key_bad, set_bad, number_spent, already_purged, absent, absent_or_empty, no_free_row}
use Rattle.rules.proofs.StatedPacket.{message_refusals, refused_most}

-- ---- no code is above 18
or_most : (a b n : ℕ) → a ≤ n → b ≤ n → or_else a b ≤ n
or_most zero b n f g = g
or_most (suc a) b n f g = f

reading_most : (s : Settings) (x : Slot) (r : Reading) → ((c : ℕ) → r ≡ refused c → c ≤ 18) → reading_code s x r ≤ 18
reading_most s x (refused c) h = h c refl
reading_most s x (malformed at) h = omega arith
reading_most s x (message m) h = first_most 18 (message_refusals s x m) (omega arith, (omega arith, (omega arith, (omega arith, tt))))

pub every_code : (s : Server) (e : Event) → code_of s e ≤ 18
unfolding code_of
every_code s (add_peer k id) = first_most 18 (refuse (slot_above k) 1 ∷ refuse (peer_bad s k id) 17 ∷ []) (omega arith, (omega arith, tt))
every_code s (link_up k now) = first_most 18 (no_peer s k ∷ early s now ∷ []) (omega arith, (omega arith, tt))
every_code s (link_down k now) = first_most 18 (no_peer s k ∷ early s now ∷ []) (omega arith, (omega arith, tt))
every_code s (packet k now p room) =
    or_most (poll_code s k now room) (reading_code s.settings (slot_at s k) (read_packet id_length p)) 18
    (first_most 18 (no_peer s k ∷ early s now ∷ no_room room ∷ link_is_down s k ∷ []) (omega arith, (omega arith, (omega arith, (omega arith, tt)))))
    (reading_most s.settings (slot_at s k) (read_packet id_length p) (λ c e. omega (arith, refused_most p c e)))
every_code s (poll k now room) =
    first_most 18 (no_peer s k ∷ early s now ∷ no_room room ∷ link_is_down s k ∷ []) (omega arith, (omega arith, (omega arith, (omega arith, tt))))
every_code s (set key payload) =
    first_most 18 (refuse (set_bad key payload) 17 ∷ refuse (number_spent s key) 16 ∷ refuse (absent s key && no_free_row s) 15 ∷ [])
    (omega arith, (omega arith, (omega arith, tt)))
every_code s (withdraw key) =
    first_most 18 (refuse (key_bad key) 17 ∷ refuse (absent_or_empty s key) 18 ∷ refuse (number_spent s key) 16 ∷ [])
    (omega arith, (omega arith, (omega arith, tt)))
every_code s (purge key) =
    first_most 18 (refuse (key_bad key) 17 ∷ refuse (absent s key) 18 ∷ refuse (already_purged s key) 16 ∷ [])
    (omega arith, (omega arith, (omega arith, tt)))

-- ---- a refused event
pub record Kept (s : Server) (e : Event) : Type 0 where
  pub server : step s e ≡ s
  pub written : written_at s e ≡ []

-- not counted: refused, and not the malformed Hello
pub refusal_keeps : (s : Server) (e : Event) → counts e (code_of s e) ≡ false → Kept s e
unfolding step written_at
refusal_keeps s e f = record { server = rw f; written = rw f }

-- the malformed Hello: a packet refused with 10 whose type octet is 5
pub record MalformedHello (s : Server) (e : Event) : Type 0 where
  pub slot : ℕ
  pub now : ℕ
  pub octets : List ℕ
  pub room : ℕ
  pub event : e ≡ packet slot now octets room
  pub code : code_of s e ≡ 10
  pub type : octet octets 1 ≡ 5

-- a refused event keeps all and writes nothing, or is the malformed Hello
pub refusal : (s : Server) (e : Event) → (code_of s e ≡ 0 → ⊥) → Kept s e ⊎ MalformedHello s e
refusal s (add_peer k id) n = inl (refusal_keeps s (add_peer k id) (ne_eqb (code_of s (add_peer k id)) 0 n))
refusal s (link_up k now) n = inl (refusal_keeps s (link_up k now) (ne_eqb (code_of s (link_up k now)) 0 n))
refusal s (link_down k now) n = inl (refusal_keeps s (link_down k now) (ne_eqb (code_of s (link_down k now)) 0 n))
refusal s (packet k now p room) n = by (eqb (code_of s (packet k now p room)) 10) refl (is_hello_type p) refl where
  by : (a : Bool) → eqb (code_of s (packet k now p room)) 10 ≡ a → (b : Bool) → is_hello_type p ≡ b
      → Kept s (packet k now p room) ⊎ MalformedHello s (packet k now p room)
  by true e true f = inr record {
    slot = k;
    now = now;
    octets = p;
    room = room;
    event = refl;
    code = eqb-true (code_of s (packet k now p room)) 10 e;
    type = eqb-true (octet p 1) 5 f;
  }
  by true e false f = inl (refusal_keeps s (packet k now p room) (rw (ne_eqb (code_of s (packet k now p room)) 0 n, e, f)))
  by false e b f = inl (refusal_keeps s (packet k now p room) (rw (ne_eqb (code_of s (packet k now p room)) 0 n, e)))
refusal s (poll k now room) n = inl (refusal_keeps s (poll k now room) (ne_eqb (code_of s (poll k now room)) 0 n))
refusal s (set key payload) n = inl (refusal_keeps s (set key payload) (ne_eqb (code_of s (set key payload)) 0 n))
refusal s (withdraw key) n = inl (refusal_keeps s (withdraw key) (ne_eqb (code_of s (withdraw key)) 0 n))
refusal s (purge key) n = inl (refusal_keeps s (purge key) (ne_eqb (code_of s (purge key)) 0 n))

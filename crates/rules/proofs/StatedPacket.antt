-- The codes of a packet, each in its stated case and in no other (document 01, 'Answers to an event').
-- Assumes nothing.
use Prim.Native.Nat.{ℕ, zero, suc, ◌≤◌, ◌<◌}
use mathlib.Core.Path.{◌≡◌, refl, ap, ◌∙◌}
use mathlib.Core.Bool.{Bool, true, false, not, ◌&&◌}
use mathlib.Core.List.{List, [], ◌∷◌}
use mathlib.Core.Logic.Iff
use mathlib.Core.Logic.{◌↔◌, ◌⊎◌, inl, inr, ⊎_elim}
use native.Mathlib.Omega.{arith}
use lib.Dec.{eqb}
use Rattle.laws.specs.Tables.{same}
use Rattle.std.specs.Prelude.{Ok, Err}
use Rattle.protocol.specs.Checks.{Checked}
use Rattle.protocol.specs.Checks.{Fine, Breaks}
use Rattle.protocol.specs.Sizes.{id_length}
use Rattle.protocol.specs.Fields.{octet}
use Rattle.protocol.specs.Checksum.{good_sum}
use Rattle.protocol.specs.Messages.{Message}
use Rattle.protocol.specs.Checks.{mandatory_check}
use Rattle.protocol.specs.Answers.{Refusal, refuse, first_code, length_good, version_good, type_good, no_extensions, fixed_code}
use Rattle.protocol.specs.Reading as reading
use Rattle.protocol.specs.Reading.{Reading, refused, malformed, message, by_code, by_check, kind_of, read_packet}
use Rattle.protocol.proofs.Codes as read
use Rattle.protocol.proofs.Codes.{AnyCode, FixedGood}
use Rattle.rules.specs.Server.{Settings, Slot, slot_at, Server}
use Rattle.rules.specs.Refusals.{or_else, no_peer, early, no_room, link_is_down, poll_code, is_hello, unusable, message_code, reading_code}
use Rattle.rules.specs.Events.{packet, code_of}
use Rattle.rules.proofs.Stated.{NoCase, stated, none_stated, first_most, slot_missing, time_before, out_small, link_down_at}

-- ---- one code behind another
or_zero : (a b : ℕ) → (or_else a b ≡ 0) ↔ ((a ≡ 0) × (b ≡ 0))
or_zero zero b = (λ e. (refl, e), λ f. f.1)
or_zero (suc a) b = (λ e. absurd (omega (arith, e)), λ f. absurd (omega (arith, f.0)))

-- a code that the first does not give
or_later : (a b n : ℕ) → a < n → (or_else a b ≡ n) ↔ ((a ≡ 0) × (b ≡ n))
or_later zero b n l = (λ e. (refl, e), λ f. f.1)
or_later (suc a) b n l = (λ e. absurd (omega (arith, e)), λ f. absurd (omega (arith, f.0)))

-- a code that the second does not give
or_first : (a b n : ℕ) → 0 < n → (b ≡ n → ⊥) → (or_else a b ≡ n) ↔ (a ≡ n)
or_first zero b n l f = (λ e. absurd (f e), λ e. absurd (omega (arith, e)))
or_first (suc a) b n l f = (λ e. e, λ e. e)

-- ---- codes 11 to 14
-- 11: 'other Protocol ID or Server Group ID'; 12: 'not Hello, receiver not us'; 13: 'sender is not this slot's peer'
abbrev pub other_group : Settings → Message → Bool
other_group s m = not (eqb m.protocol s.protocol && eqb m.group s.group)

abbrev pub other_receiver : Settings → Message → Bool
other_receiver s m = not (is_hello m.body) && not (same m.receiver s.id)

abbrev pub other_sender : Slot → Message → Bool
other_sender x m = not (same m.sender x.peer)

-- 14: 'type not usable in this state'
abbrev pub not_usable : Settings → Slot → Message → Bool
not_usable s x m = unusable s m x m.body

abbrev pub message_refusals : Settings → Slot → Message → List Refusal
message_refusals s x m =
    refuse (other_group s m) 11 ∷ refuse (other_receiver s m) 12 ∷ refuse (other_sender x m) 13 ∷ refuse (not_usable s x m) 14 ∷ []

-- 0, or above 10
pub message_range : (s : Settings) (x : Slot) (m : Message) → (message_code s x m ≡ 0) ⊎ (10 < message_code s x m)
message_range s x m = by (other_group s m) (other_receiver s m) (other_sender x m) (not_usable s x m) where
  by : (a b c d : Bool) → let n = first_code (refuse a 11 ∷ refuse b 12 ∷ refuse c 13 ∷ refuse d 14 ∷ []) in (n ≡ 0) ⊎ (10 < n)
  by true b c d = inr (omega arith)
  by false true c d = inr (omega arith)
  by false false true d = inr (omega arith)
  by false false false true = inr (omega arith)
  by false false false false = inl refl

-- ---- codes 5 to 14
-- a packet is not refused with 0
never_zero : (w : ℕ) (p : List ℕ) (c : ℕ) → read_packet w p ≡ refused c → c ≡ 0 → ⊥
unfolding read_packet
never_zero w p c e z = by_code_lem (fixed_code w p) e where
  by_check_lem : (d : Checked) → by_check d w (kind_of (octet p 1)) p ≡ refused c → ⊥
  by_check_lem (Ok _) h = let y : ◌≡◌ {A = ℕ} 0 1 = cc in omega arith
  by_check_lem (Err b) h = let y : ◌≡◌ {A = ℕ} 0 1 = cc in omega arith

  by_code_lem : (n : ℕ) → by_code n w (kind_of (octet p 1)) p ≡ refused c → ⊥
  by_code_lem zero h = by_check_lem (mandatory_check w (kind_of (octet p 1)) p) h
  by_code_lem (suc n) h = let y : suc n ≡ c = cc in omega arith

-- the codes of the reader: 0, or 5 to 10
reader_range : (n : ℕ) → AnyCode n → (n ≡ 0) ⊎ ((4 < n) × (n ≤ 10))
reader_range n (inl e) = inl e
reader_range n (inr (inl e)) = inr (omega arith, omega arith)
reader_range n (inr (inr (inl e))) = inr (omega arith, omega arith)
reader_range n (inr (inr (inr (inl e)))) = inr (omega arith, omega arith)
reader_range n (inr (inr (inr (inr (inl e))))) = inr (omega arith, omega arith)
reader_range n (inr (inr (inr (inr (inr (inl e)))))) = inr (omega arith, omega arith)
reader_range n (inr (inr (inr (inr (inr (inr e)))))) = inr (omega arith, omega arith)

pub refused_most : (p : List ℕ) (c : ℕ) → read_packet id_length p ≡ refused c → c ≤ 10
refused_most p c e =
    let q : reading.refusal_of (read_packet id_length p) ≡ c = ap reading.refusal_of e in
    ⊎_elim (λ z. omega arith) (λ z. let y = z.1 in omega arith) (reader_range (reading.refusal_of (read_packet id_length p)) (read.no_other id_length p))

module _ (s : Settings) (x : Slot) where
  -- a code of the reader
  by_reader : (r : Reading) (n : ℕ) → 0 < n → n ≤ 10 → (reading_code s x r ≡ n) ↔ (reading.refusal_of r ≡ n)
  by_reader (refused c) n l h = (λ e. e, λ e. e)
  by_reader (malformed at) n l h = (λ e. e, λ e. e)
  by_reader (message m) n l h =
      (λ e. ⊎_elim (λ z. absurd (omega (arith, e))) (λ g. absurd (omega (arith, e))) (message_range s x m), λ e. absurd (omega (arith, e)))

  -- a code of the message that was read
  by_message : (r : Reading) (n : ℕ) (C : Message → Type 0) → ((c : ℕ) → r ≡ refused c → c ≡ n → ⊥) → (10 ≡ n → ⊥)
      → ((m : Message) → (message_code s x m ≡ n) ↔ C m) → (reading_code s x r ≡ n) ↔ ((m : Message) × ((r ≡ message m) × C m))
  by_message (refused c) n C f g h =
      (λ e. absurd (f c refl e), λ t. let q = t.1.0 in let y : ◌≡◌ {A = ℕ} 0 1 = cc in absurd (omega arith))
  by_message (malformed at) n C f g h =
      (λ e. absurd (g e), λ t. let q = t.1.0 in let y : ◌≡◌ {A = ℕ} 0 1 = cc in absurd (omega arith))
  by_message (message m) n C f g h = (
    λ e. (m, (refl, (h m).0 e)),
    λ t. let q : message m ≡ message t.0 = t.1.0 in let y : m ≡ t.0 = cc in ap (message_code s x) y ∙ (h t.0).1 t.1.1,
  )

-- ---- all of them
module _ (s : Server) (k now : ℕ) (p : List ℕ) (room : ℕ) where
  abbrev pub packet_code_of : ℕ
  packet_code_of = code_of s (packet k now p room)

  -- none of 1 to 4
  abbrev pub Open : Type 0
  Open = poll_code s k now room ≡ 0

  -- none of 5 to 10: the packet is a message, of which this holds
  abbrev pub Read : (Message → Type 0) → Type 0
  Read C = (m : Message) × ((read_packet id_length p ≡ message m) × C m)

  pub record PacketCodes : Type 0 where
    pub code_1 : (packet_code_of ≡ 1) ↔ (slot_missing s k ≡ true)
    pub code_2 : (packet_code_of ≡ 2) ↔ ((slot_missing s k ≡ false) × (time_before s now ≡ true))
    pub code_3 : (packet_code_of ≡ 3) ↔ ((slot_missing s k ≡ false) × ((time_before s now ≡ false) × (out_small room ≡ true)))
    pub code_4 : (packet_code_of ≡ 4)
        ↔ ((slot_missing s k ≡ false) × ((time_before s now ≡ false) × ((out_small room ≡ false) × (link_down_at s k ≡ true))))
    pub code_5 : (packet_code_of ≡ 5) ↔ (Open × (length_good id_length p ≡ false))
    pub code_6 : (packet_code_of ≡ 6) ↔ (Open × ((length_good id_length p ≡ true) × (version_good p ≡ false)))
    pub code_7 : (packet_code_of ≡ 7) ↔ (Open × ((length_good id_length p ≡ true) × (version_good p ≡ true) × (type_good p ≡ false)))
    pub code_8 : (packet_code_of ≡ 8)
        ↔ (Open × ((length_good id_length p ≡ true) × (version_good p ≡ true) × (type_good p ≡ true) × (good_sum p ≡ false)))
    pub code_9 : (packet_code_of ≡ 9)
        ↔ (Open × ((length_good id_length p ≡ true) × (version_good p ≡ true) × (type_good p ≡ true) × (good_sum p ≡ true) × (no_extensions p ≡ false)))
    pub code_10 : (packet_code_of ≡ 10)
        ↔ (Open × (FixedGood id_length p × ((at : ℕ) × (mandatory_check id_length (kind_of (octet p 1)) p ≡ Breaks at))))
    pub code_11 : (packet_code_of ≡ 11) ↔ (Open × Read (λ m. other_group s.settings m ≡ true))
    pub code_12 : (packet_code_of ≡ 12) ↔ (Open × Read (λ m. (other_group s.settings m ≡ false) × (other_receiver s.settings m ≡ true)))
    pub code_13 : (packet_code_of ≡ 13)
        ↔ (Open × Read (λ m. (other_group s.settings m ≡ false) × ((other_receiver s.settings m ≡ false) × (other_sender (slot_at s k) m ≡ true))))
    pub code_14 : (packet_code_of ≡ 14)
        ↔ (Open × Read (λ m. (other_group s.settings m ≡ false) × ((other_receiver s.settings m ≡ false)
        × ((other_sender (slot_at s k) m ≡ false) × (not_usable s.settings (slot_at s k) m ≡ true)))))
    pub code_0 : (packet_code_of ≡ 0) ↔ (Open × Read (λ m. NoCase (message_refusals s.settings (slot_at s k) m)))

  few : poll_code s k now room ≤ 4
  few = first_most 4 (no_peer s k ∷ early s now ∷ no_room room ∷ link_is_down s k ∷ []) (omega arith, (omega arith, (omega arith, (omega arith, tt))))

  abbrev rest : ℕ
  rest = reading_code s.settings (slot_at s k) (read_packet id_length p)

  in_range : (reading.refusal_of (read_packet id_length p)
      ≡ 0) ⊎ ((4 < reading.refusal_of (read_packet id_length p)) × (reading.refusal_of (read_packet id_length p) ≤ 10))
  in_range = reader_range (reading.refusal_of (read_packet id_length p)) (read.no_other id_length p)

  -- a code of 1 to 4
  first : (n : ℕ) {C : Type 0} → 0 < n → n ≤ 4 → (poll_code s k now room ≡ n) ↔ C → (packet_code_of ≡ n) ↔ C
  unfolding code_of
  first n l h f =
      Iff.trans (or_first (poll_code s k now room) rest n l
      (λ e. let g : reading.refusal_of (read_packet id_length p) ≡ n = (by_reader s.settings (slot_at s k) (read_packet id_length p) n l (omega arith)).0 e in
      ⊎_elim (λ z. omega arith) (λ z. let y = z.0 in omega arith) in_range)) f

  later : (n : ℕ) {C : Type 0} → 4 < n → (rest ≡ n) ↔ C → (packet_code_of ≡ n) ↔ (Open × C)
  unfolding code_of
  later n l f =
      let m = few in
      Iff.trans (or_later (poll_code s k now room) rest n (omega arith)) (λ e. (e.0, f.0 e.1), λ e. (e.0, f.1 e.1))

  -- a code of 5 to 10
  middle : (n : ℕ) {C : Type 0} → 4 < n → n ≤ 10 → (reading.refusal_of (read_packet id_length p) ≡ n) ↔ C → (packet_code_of ≡ n) ↔ (Open × C)
  middle n l h f = later n l (Iff.trans (by_reader s.settings (slot_at s k) (read_packet id_length p) n (omega arith) h) f)

  -- a code of 11 to 14
  last : (n : ℕ) {C : Message → Type 0} → 10 < n → ((m : Message) → (message_code s.settings (slot_at s k) m ≡ n) ↔ C m)
      → (packet_code_of ≡ n) ↔ (Open × Read C)
  last n {C} l f =
      later n (omega arith) (by_message s.settings (slot_at s k) (read_packet id_length p) n C
      (λ c e g. omega (arith, refused_most p c e))
      (λ e. omega arith) f)

  none : (packet_code_of ≡ 0) ↔ (Open × Read (λ m. NoCase (message_refusals s.settings (slot_at s k) m)))
  unfolding code_of
  none =
      let f : (rest ≡ 0) ↔ Read (λ m. NoCase (message_refusals s.settings (slot_at s k) m)) =
      by_message s.settings (slot_at s k) (read_packet id_length p) 0 (λ m. NoCase (message_refusals s.settings (slot_at s k) m))
      (never_zero id_length p) (λ e. omega arith) (λ m. none_stated (message_refusals s.settings (slot_at s k) m) refl) in
      Iff.trans (or_zero (poll_code s k now room) rest) (λ e. (e.0, f.0 e.1), λ e. (e.0, f.1 e.1))

  pub packet_codes : PacketCodes
  packet_codes =
      let rs : List Refusal = no_peer s k ∷ early s now ∷ no_room room ∷ link_is_down s k ∷ [] in
      let ms : Message → List Refusal = message_refusals s.settings (slot_at s k) in
      record {
        code_1 = first 1 (omega arith) (omega arith) (stated rs refl 0 (omega arith));
        code_2 = first 2 (omega arith) (omega arith) (stated rs refl 1 (omega arith));
        code_3 = first 3 (omega arith) (omega arith) (stated rs refl 2 (omega arith));
        code_4 = first 4 (omega arith) (omega arith) (stated rs refl 3 (omega arith));
        code_5 = middle 5 (omega arith) (omega arith) (read.code_5 id_length p);
        code_6 = middle 6 (omega arith) (omega arith) (read.code_6 id_length p);
        code_7 = middle 7 (omega arith) (omega arith) (read.code_7 id_length p);
        code_8 = middle 8 (omega arith) (omega arith) (read.code_8 id_length p);
        code_9 = middle 9 (omega arith) (omega arith) (read.code_9 id_length p);
        code_10 = middle 10 (omega arith) (omega arith) (read.code_10 id_length p);
        code_11 = last 11 (omega arith) (λ m. stated (ms m) refl 0 (omega arith));
        code_12 = last 12 (omega arith) (λ m. stated (ms m) refl 1 (omega arith));
        code_13 = last 13 (omega arith) (λ m. stated (ms m) refl 2 (omega arith));
        code_14 = last 14 (omega arith) (λ m. stated (ms m) refl 3 (omega arith));
        code_0 = none;
      }

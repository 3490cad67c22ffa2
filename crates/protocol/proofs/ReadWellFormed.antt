-- What is read is well formed.
-- Assumes nothing.
use Prim.Native.Nat.{ℕ, zero, suc, ◌+◌, ◌≤◌}
use mathlib.Core.Path.{◌≡◌, refl, sym, ap, ◌∙◌, subst}
use mathlib.Core.Bool.{true, false, false≢true}
use mathlib.Core.List.{List, []}
use mathlib.Core.Logic.{◌⊎◌, inl, inr, ⊎_elim}
use native.Mathlib.Omega.{arith}
use lib.ListN.{length}
use mir.Syntax.{w32}
use mir.ValLaws.{of_z-to_z}
use Rattle.laws.specs.Lists.{part, All}
use Rattle.laws.proofs.Lists.{part_length}
use Rattle.laws.proofs.Integers.{to_z_any}
use Rattle.protocol.specs.declared.CsaNumber.{CsaNumber}
use Rattle.protocol.specs.declared.Kind.{Kind}
use Rattle.protocol.specs.declared.Kind.TheVariants.{Ca, CsuRequest, CsuReply, Csus, Hello}
use Rattle.protocol.specs.Checks.{Fine}
use Rattle.protocol.specs.Sizes.{record_size, common_size, records_most}
use Rattle.protocol.specs.Fields.{octet, field4}
use Rattle.protocol.specs.Numbers as numbers
use Rattle.protocol.specs.Messages.{Message}
use Rattle.protocol.specs.Checks.{is_hello_kind, summary_size, payload_size, count_at, elements_at, elements_check}
use Rattle.protocol.specs.Reading.{kind_of, record_at, records_at, receivers_at, message_at, message, read_packet}
use Rattle.protocol.specs.WellFormed.{Octets, Id, GoodRecord, GoodRecords, WellFormed}
use Rattle.protocol.proofs.Codes.{read_as}
use Rattle.protocol.proofs.Peel.{field2_fits, field4_fits, part_octets, bits_fit}
use Rattle.protocol.proofs.Told.{RecordTold, next_receiver, HeadTold, Told, told, each_record}
use Rattle.protocol.proofs.RecordExact.{key_length, originator_length, payload_length_lem}
use Rattle.protocol.proofs.Exact.{sender_length, receiver_length_lem, records_length, receivers_length}

-- ---- a record
module _ (w : ℕ) (k : Kind) (p : List ℕ) (o : Octets p) (r : ℕ) (t : RecordTold w k p r) where
  bits_are : (n : CsaNumber) → numbers.csa_of (field4 p (r + 8)) ≡ n → field4 p (r + 8) ≡ numbers.bits_of n
  bits_are n e = sym (of_z-to_z w32 (field4 p (r + 8)) (bits_fit p o (r + 8))) ∙ ap numbers.bits_of e

  empty : payload_size w p r ≡ 0 → part p (r + summary_size w p r) (payload_size w p r) ≡ []
  empty e = ap (part p (r + summary_size w p r)) e

  good_record : GoodRecord w k (record_at w p r)
  unfolding record_at
  good_record =
      let key : length (part p (r + record_size) (octet p (r + 4))) ≡ octet p (r + 4) = key_length w k p r t in
      let pay : length (part p (r + summary_size w p r) (payload_size w p r)) ≡ payload_size w p r = payload_length_lem w k p r t in
      record {
        some_hops = t.hops;
        hops_fit = field2_fits p o r;
        some_key = rw key t.some_key;
        key_fits = rw key t.key_fits;
        key_octets = part_octets p o (r + record_size) (octet p (r + 4));
        originator = record { size = originator_length w k p r t; octets = part_octets p o (r + record_size + octet p (r + 4)) w };
        number_fits = to_z_any (field4 p (r + 8));
        not_reserved = λ e. t.number (bits_are numbers.reserved e);
        payload_fits = rw pay t.payload_fits;
        payload_octets = part_octets p o (r + summary_size w p r) (payload_size w p r);
        null_empty = λ e. empty (t.null_empty e);
        purged_empty = λ e. empty (t.purged_empty (bits_are numbers.purged e));
        summary_plain = t.plain;
        summary_empty = λ e. empty (let f = t.no_more e in omega arith);
      }

-- ---- records and receivers
module _ (w : ℕ) (p : List ℕ) (o : Octets p) where
  good_records : (k : Kind) → is_hello_kind k ≡ false → (n at : ℕ) → n ≤ records_most → elements_check w k p n at ≡ Fine
      → GoodRecords w k (records_at w p n at)
  good_records k e n at l h = record { few = rw (← (records_length w p n at)) l; each = each_record w k p (GoodRecord w k) (good_record w k p o) e n at h }

  each_receiver : (n at : ℕ) → elements_check w Hello p n at ≡ Fine → All (Id w) (receivers_at w p n at)
  unfolding receivers_at
  each_receiver zero at h = tt
  each_receiver (suc n) at h =
      let f = next_receiver w p n at h in
      (record { size = part_length p (at + 1) w f.0.1; octets = part_octets p o (at + 1) w }, each_receiver n (at + (1 + w)) f.1)

  -- ---- the head
  id_sender : (k : Kind) (c : ℕ) → HeadTold w k p c → Id w (part p (c + common_size) w)
  id_sender k c t = record { size = sender_length w k p c t; octets = part_octets p o (c + common_size) w }

  good_receiver : (k : Kind) (c : ℕ) → HeadTold w k p c
      → Id w (part p (c + common_size + w) (octet p (c + 9))) ⊎ ((is_hello_kind k ≡ true) × (part p (c + common_size + w) (octet p (c + 9)) ≡ []))
  good_receiver k c t = ⊎_elim
      (λ e. inl record { size = receiver_length_lem w k p c t ∙ e; octets = part_octets p o (c + common_size + w) (octet p (c + 9)) })
      (λ e. inr (e.0, ap (part p (c + common_size + w)) e.1))
      t.receiver

  id_receiver : (k : Kind) (c : ℕ) → is_hello_kind k ≡ false → HeadTold w k p c → Id w (part p (c + common_size + w) (octet p (c + 9)))
  id_receiver k c n t = ⊎_elim (λ e. e) (λ e. absurd (false≢true (sym n ∙ e.0))) (good_receiver k c t)

  -- ---- the message
  pub well_formed : (k : Kind) → Told w k p → WellFormed w (message_at w k p)
  unfolding message_at
  well_formed Ca t = record {
    protocol_fits = field2_fits p o 12;
    group_fits = field2_fits p o 14;
    sender = id_sender Ca 12 t.common;
    receiver = id_receiver Ca 12 refl t.common;
    body = (field4_fits p o 8, good_records Ca refl (count_at Ca p) (elements_at w Ca p) t.common.few t.elements);
  }
  well_formed CsuRequest t = record {
    protocol_fits = field2_fits p o 8;
    group_fits = field2_fits p o 10;
    sender = id_sender CsuRequest 8 t.common;
    receiver = id_receiver CsuRequest 8 refl t.common;
    body = good_records CsuRequest refl (count_at CsuRequest p) (elements_at w CsuRequest p) t.common.few t.elements;
  }
  well_formed CsuReply t = record {
    protocol_fits = field2_fits p o 8;
    group_fits = field2_fits p o 10;
    sender = id_sender CsuReply 8 t.common;
    receiver = id_receiver CsuReply 8 refl t.common;
    body = good_records CsuReply refl (count_at CsuReply p) (elements_at w CsuReply p) t.common.few t.elements;
  }
  well_formed Csus t = record {
    protocol_fits = field2_fits p o 8;
    group_fits = field2_fits p o 10;
    sender = id_sender Csus 8 t.common;
    receiver = id_receiver Csus 8 refl t.common;
    body = good_records Csus refl (count_at Csus p) (elements_at w Csus p) t.common.few t.elements;
  }
  well_formed Hello t = record {
    protocol_fits = field2_fits p o 16;
    group_fits = field2_fits p o 18;
    sender = id_sender Hello 16 t.common;
    receiver = ⊎_elim (λ e. inl e) (λ e. inr e.1) (good_receiver Hello 16 t.common);
    body = record {
      some_interval = (t.before refl).0;
      interval_fits = field2_fits p o 8;
      some_factor = (t.before refl).1;
      factor_fits = field2_fits p o 10;
      few = rw (← (receivers_length w p (count_at Hello p) (elements_at w Hello p))) t.common.few;
      each = each_receiver (count_at Hello p) (elements_at w Hello p) t.elements;
    };
  }

pub read_well_formed : (w : ℕ) (p : List ℕ) (m : Message) → Octets p → read_packet w p ≡ message m → WellFormed w m
read_well_formed w p m o e =
    let f = read_as w p m e in
    subst (WellFormed w) f.2 (well_formed w p o (kind_of (octet p 1)) (told w (kind_of (octet p 1)) p f.1))

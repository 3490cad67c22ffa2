-- What a check that is fine tells of the fields that it read.
-- Assumes nothing.
use Prim.Native.Nat.{ℕ, zero, suc, ◌+◌, ◌≤◌, ◌<◌}
use mathlib.Core.Path.{◌≡◌, refl}
use mathlib.Core.Bool.{Bool, true, false, not, ◌&&◌, ◌||◌, true≢false, false≢true}
use mathlib.Core.List.{List, [], ◌∷◌, ◌++◌}
use mathlib.Core.Logic.{◌⊎◌, inl, inr, ⊎_elim}
use native.Mathlib.Omega.{arith}
use lib.ListN.{length}
use lib.Dec.{eqb, leb, ltb}
use borrow.Author.Tests.{ltb-true, leb-true, eqb-true, eqb-false, not-true, eq-eqb}
use Rattle.laws.specs.Lists.{All}
use Rattle.laws.proofs.Bools.{and_true, one_true}
use Rattle.protocol.specs.declared.Kind.{Kind}
use Rattle.protocol.specs.declared.Kind.TheVariants.{Ca, CsuRequest, CsuReply, Csus, Hello}
use Rattle.std.specs.Prelude.{Ok, Err}
use Rattle.protocol.specs.Checks.{Checked}
use Rattle.protocol.specs.Checks.{Fine}
use Rattle.protocol.specs.Sizes.{key_most, payload_most}
use Rattle.protocol.specs.Fields.{octet, field2, field4}
use Rattle.protocol.specs.Checks.{rule, field, and_then, first_break, is_request_kind, is_hello_kind, common_at, before_checks, receiver_length_good}
use Rattle.protocol.specs.Checks.{count_most, common_checks, head_check, null_at, summary_size, payload_size, key_length_good, reserved_bits, purged_bits}
use Rattle.protocol.specs.Checks.{payload_good, record_checks, receiver_checks, element_check, element_size, elements_check, count_at, elements_at}
use Rattle.protocol.specs.Checks.{after_head, mandatory_check}
use Rattle.protocol.specs.Messages.{CsaRecord}
use Rattle.protocol.specs.Reading.{record_at, records_at}

-- ---- checks
pub both_fine : (c d : Checked) → and_then c d ≡ Fine → (c ≡ Fine) × (d ≡ Fine)
both_fine (Ok _) d h = (refl, h)
both_fine (Err at) d h = ((cc), (cc))

pub rule_true : (b : Bool) (at : ℕ) → rule b at ≡ Fine → b ≡ true
rule_true true at h = refl
rule_true false at h = cc

all_fine : (cs : List Checked) → first_break cs ≡ Fine → All (λ (c : Checked). c ≡ Fine) cs
all_fine [] h = tt
all_fine (c ∷ cs) h = let f = both_fine c (first_break cs) h in (f.0, all_fine cs f.1)

split_fine : (cs ds : List Checked) → first_break (cs ++ ds) ≡ Fine → (first_break cs ≡ Fine) × (first_break ds ≡ Fine)
split_fine [] ds h = (refl, h)
split_fine (c ∷ cs) ds h =
    let f = both_fine c (first_break (cs ++ ds)) h in
    let g = split_fine cs ds f.1 in
    (rw f.0 g.0, g.1)

module _ (p : List ℕ) (at n : ℕ) (good : Bool) (h : field p at n good ≡ Fine) where
  tests : (leb (at + n) (length p) ≡ true) × (good ≡ true)
  tests = and_true (leb (at + n) (length p)) good (rule_true (leb (at + n) (length p) && good) at h)

  inside : at + n ≤ length p
  inside = leb-true (at + n) (length p) tests.0

  obeyed : good ≡ true
  obeyed = tests.1

-- ---- a record
pub record RecordTold (w : ℕ) (k : Kind) (p : List ℕ) (r : ℕ) : Type 0 where
  pub hops : 0 < field2 p r
  pub ends : r + field2 p (r + 2) ≤ length p
  pub some_key : 0 < octet p (r + 4)
  pub key_fits : octet p (r + 4) ≤ key_most
  pub covers : summary_size w p r ≤ field2 p (r + 2)
  pub no_more : is_request_kind k ≡ false → field2 p (r + 2) ≡ summary_size w p r
  pub originator : octet p (r + 5) ≡ w
  pub plain : is_request_kind k ≡ false → null_at p r ≡ false
  pub number : field4 p (r + 8) ≡ reserved_bits → ⊥
  pub payload_fits : payload_size w p r ≤ payload_most
  pub null_empty : null_at p r ≡ true → payload_size w p r ≡ 0
  pub purged_empty : field4 p (r + 8) ≡ purged_bits → payload_size w p r ≡ 0

key_told : (q : Bool) (key size len : ℕ) → ((ltb 0 key && leb key key_most) && (eqb len size || (q && leb size len))) ≡ true
    → (0 < key) × (key ≤ key_most) × (size ≤ len) × (q ≡ false → len ≡ size)
key_told q key size len h =
    let a = and_true (ltb 0 key && leb key key_most) (eqb len size || (q && leb size len)) h in
    let b = and_true (ltb 0 key) (leb key key_most) a.0 in
    let c : (size ≤ len) × (q ≡ false → len ≡ size) = ⊎_elim
    (λ e. let f : len ≡ size = eqb-true len size e in (omega arith, λ n. f))
    (λ e. let f = and_true q (leb size len) e in (leb-true size len f.1, λ n. cc f.0))
    (one_true (eqb len size) (q && leb size len) a.1) in
    (ltb-true 0 key b.0, leb-true key key_most b.1, c.0, c.1)

plain_told : (q null : Bool) → (q || not null) ≡ true → q ≡ false → null ≡ false
plain_told true null h e = cc
plain_told false null h e = not-true null h

payload_told : (null : Bool) (bits n : ℕ) → payload_good null bits n ≡ true
    → (n ≤ payload_most) × (null ≡ true → n ≡ 0) × (bits ≡ purged_bits → n ≡ 0)
payload_told null bits n h =
    let a = and_true (leb n payload_most) (eqb n 0 || (not null && not (eqb bits purged_bits))) h in
    let c : (null ≡ true → n ≡ 0) × (bits ≡ purged_bits → n ≡ 0) = ⊎_elim
    (λ e. let f : n ≡ 0 = eqb-true n 0 e in ((λ t. f), (λ t. f)))
    (λ e. let f = and_true (not null) (not (eqb bits purged_bits)) e in
    ((λ t. cc (not-true null f.0)), (λ t. cc (not-true (eqb bits purged_bits) f.1, eq-eqb bits purged_bits t))))
    (one_true (eqb n 0) (not null && not (eqb bits purged_bits)) a.1) in
    (leb-true n payload_most a.0, c.0, c.1)

pub record_told : (w : ℕ) (k : Kind) (p : List ℕ) (r : ℕ) → first_break (record_checks w k p r) ≡ Fine → RecordTold w k p r
record_told w k p r h =
    let f = all_fine (record_checks w k p r) h in
    let len : ℕ = field2 p (r + 2) in
    let key = key_told (is_request_kind k) (octet p (r + 4)) (summary_size w p r) len
    (obeyed p (r + 4) 1 (key_length_good k (octet p (r + 4)) (summary_size w p r) len) f.1.1.0) in
    let n : ℕ = payload_size w p r in
    let pay = payload_told (null_at p r) (field4 p (r + 8)) n
    (obeyed p (r + summary_size w p r) n (payload_good (null_at p r) (field4 p (r + 8)) n) f.1.1.1.1.1.1.1.1.0) in
    record {
      hops = ltb-true 0 (field2 p r) (obeyed p r 2 (ltb 0 (field2 p r)) f.0);
      ends = leb-true (r + len) (length p) (obeyed p (r + 2) 2 (leb (r + len) (length p)) f.1.0);
      some_key = key.0;
      key_fits = key.1;
      covers = key.2;
      no_more = key.3;
      originator = eqb-true (octet p (r + 5)) w (obeyed p (r + 5) 1 (eqb (octet p (r + 5)) w) f.1.1.1.0);
      plain = plain_told (is_request_kind k) (null_at p r) (obeyed p (r + 6) 2 (is_request_kind k || not (null_at p r)) f.1.1.1.1.0);
      number = eqb-false (field4 p (r + 8)) reserved_bits (not-true (eqb (field4 p (r + 8)) reserved_bits)
          (obeyed p (r + 8) 4 (not (eqb (field4 p (r + 8)) reserved_bits)) f.1.1.1.1.1.0));
      payload_fits = pay.0;
      null_empty = pay.1;
      purged_empty = pay.2;
    }

-- ---- a receiver
pub receiver_told : (w : ℕ) (p : List ℕ) (at : ℕ) → first_break (receiver_checks w p at) ≡ Fine → (octet p at ≡ w) × ((at + 1) + w ≤ length p)
receiver_told w p at h =
    let f = all_fine (receiver_checks w p at) h in
    (eqb-true (octet p at) w (obeyed p at 1 (eqb (octet p at) w) f.0), inside p (at + 1) w true f.1.0)

-- ---- records or receivers
-- behind the last one the packet ends
pub end_told : (w : ℕ) (k : Kind) (p : List ℕ) (at : ℕ) → elements_check w k p zero at ≡ Fine → at ≡ length p
unfolding elements_check
end_told w k p at h = eqb-true at (length p) (rule_true (eqb at (length p)) at h)

pub next_told : (w : ℕ) (k : Kind) (p : List ℕ) (n at : ℕ) → elements_check w k p (suc n) at ≡ Fine
    → (element_check w k p at ≡ Fine) × (elements_check w k p n (at + element_size w k p at) ≡ Fine)
unfolding elements_check
next_told w k p n at h = both_fine (element_check w k p at) (elements_check w k p n (at + element_size w k p at)) h

-- in all kinds but Hello they are records
pub record_check : (w : ℕ) (k : Kind) (p : List ℕ) (at : ℕ) → is_hello_kind k ≡ false → element_check w k p at ≡ first_break (record_checks w k p at)
unfolding element_check
record_check w Ca p at h = refl
record_check w CsuRequest p at h = refl
record_check w CsuReply p at h = refl
record_check w Csus p at h = refl
record_check w Hello p at h = absurd (true≢false h)

pub record_size_lem : (w : ℕ) (k : Kind) (p : List ℕ) (at : ℕ) → is_hello_kind k ≡ false → element_size w k p at ≡ field2 p (at + 2)
record_size_lem w Ca p at h = refl
record_size_lem w CsuRequest p at h = refl
record_size_lem w CsuReply p at h = refl
record_size_lem w Csus p at h = refl
record_size_lem w Hello p at h = absurd (true≢false h)

pub next_record : (w : ℕ) (k : Kind) (p : List ℕ) (n at : ℕ) → is_hello_kind k ≡ false → elements_check w k p (suc n) at ≡ Fine
    → RecordTold w k p at × (elements_check w k p n (at + field2 p (at + 2)) ≡ Fine)
next_record w k p n at e h =
    let f = next_told w k p n at h in
    (record_told w k p at (rw (record_check w k p at e) at f.0), rw (record_size_lem w k p at e) at f.1)

-- so what holds of each that is fine holds of all that are read
pub each_record : (w : ℕ) (k : Kind) (p : List ℕ) (P : CsaRecord → Type 0) → ((r : ℕ) → RecordTold w k p r → P (record_at w p r)) → is_hello_kind k ≡ false
    → (n at : ℕ) → elements_check w k p n at ≡ Fine → All P (records_at w p n at)
unfolding records_at
each_record w k p P g e zero at h = tt
each_record w k p P g e (suc n) at h =
    let f = next_record w k p n at e h in
    (g at f.0, each_record w k p P g e n (at + field2 p (at + 2)) f.1)

pub next_receiver : (w : ℕ) (p : List ℕ) (n at : ℕ) → elements_check w Hello p (suc n) at ≡ Fine
    → ((octet p at ≡ w) × ((at + 1) + w ≤ length p)) × (elements_check w Hello p n (at + (1 + w)) ≡ Fine)
unfolding element_check
next_receiver w p n at h = let f = next_told w Hello p n at h in (receiver_told w p at f.0, f.1)

-- ---- the head, its common part at c
pub record HeadTold (w : ℕ) (k : Kind) (p : List ℕ) (c : ℕ) : Type 0 where
  pub sender : octet p (c + 8) ≡ w
  pub receiver : (octet p (c + 9) ≡ w) ⊎ ((is_hello_kind k ≡ true) × (octet p (c + 9) ≡ 0))
  pub few : field2 p (c + 10) ≤ count_most k
  pub ends : c + 12 + w + octet p (c + 9) ≤ length p

common_told : (w : ℕ) (k : Kind) (p : List ℕ) (c : ℕ) → first_break (common_checks w k p c) ≡ Fine → HeadTold w k p c
common_told w k p c h =
    let f = all_fine (common_checks w k p c) h in
    let n : ℕ = octet p (c + 9) in
    record {
      sender = eqb-true (octet p (c + 8)) w (obeyed p (c + 8) 1 (eqb (octet p (c + 8)) w) f.1.1.1.1.0);
      receiver = ⊎_elim
          (λ e. inl (eqb-true n w e))
          (λ e. let g = and_true (is_hello_kind k) (eqb n 0) e in inr (g.0, eqb-true n 0 g.1))
          (one_true (eqb n w) (is_hello_kind k && eqb n 0) (obeyed p (c + 9) 1 (receiver_length_good w k n) f.1.1.1.1.1.0));
      few = leb-true (field2 p (c + 10)) (count_most k)
          (obeyed p (c + 10) 2 (leb (field2 p (c + 10)) (count_most k)) f.1.1.1.1.1.1.0);
      ends = inside p (c + 12 + w) n true f.1.1.1.1.1.1.1.1.0;
    }

-- a Hello's interval and DeadFactor
abbrev pub BeforeTold : Kind → List ℕ → Type 0
BeforeTold k p = is_hello_kind k ≡ true → (0 < field2 p 8) × (0 < field2 p 10)

before_told : (k : Kind) (p : List ℕ) → first_break (before_checks k p) ≡ Fine → BeforeTold k p
before_told Ca p h e = absurd (false≢true e)
before_told CsuRequest p h e = absurd (false≢true e)
before_told CsuReply p h e = absurd (false≢true e)
before_told Csus p h e = absurd (false≢true e)
before_told Hello p h e =
    let f = all_fine (before_checks Hello p) h in (
      ltb-true 0 (field2 p 8) (obeyed p 8 2 (ltb 0 (field2 p 8)) f.0),
      ltb-true 0 (field2 p 10) (obeyed p 10 2 (ltb 0 (field2 p 10)) f.1.0),
    )

-- ---- all behind the fixed part
pub record Told (w : ℕ) (k : Kind) (p : List ℕ) : Type 0 where
  pub before : BeforeTold k p
  pub common : HeadTold w k p (common_at k)
  pub elements : elements_check w k p (count_at k p) (elements_at w k p) ≡ Fine

after_head_lem : (c : Checked) (w : ℕ) (k : Kind) (p : List ℕ) → after_head c w k p ≡ Fine
    → (c ≡ Fine) × (elements_check w k p (count_at k p) (elements_at w k p) ≡ Fine)
after_head_lem (Ok _) w k p h = (refl, h)
after_head_lem (Err at) w k p h = ((cc), (cc))

pub told : (w : ℕ) (k : Kind) (p : List ℕ) → mandatory_check w k p ≡ Fine → Told w k p
unfolding mandatory_check head_check
told w k p h =
    let f = after_head_lem (head_check w k p) w k p h in
    let g = split_fine (before_checks k p) (common_checks w k p (common_at k)) f.0 in
    record { before = before_told k p g.0; common = common_told w k p (common_at k) g.1; elements = f.1 }

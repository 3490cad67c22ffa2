-- Requests of a slot put as records.
-- Assumes nothing.
use Prim.Native.Nat.{ℕ, ◌+◌, ◌≤◌, ◌<◌, min}
use mathlib.Core.Path.{◌≡◌, refl, sym, ap, ◌∙◌}
use mathlib.Core.Bool.{false}
use mathlib.Core.List.{List, [], ◌∷◌, ◌++◌, map}
use native.Mathlib.Numerals.{add-one}
use native.Mathlib.Omega.{arith}
use lib.ListN.{length, take, get_or, length-take, length-map}
use lib.Seq.{take-suc, get_or-take}
use Rattle.laws.proofs.Lists.{take_taken, map_append}
use Rattle.protocol.specs.declared.CsaNumber.{CsaNumber}
use Rattle.protocol.specs.Messages.{CsaRecord}
use Rattle.protocol.specs.Fields.{field2}
use Rattle.rules.specs.Server.{Request}
use Rattle.rules.specs.Poll.{request_record}
use Rattle.memory.specs.Layout.{memory_size, list_place}
use Rattle.memory.specs.Memory.{entry_named, request_in, requests_in}
use Rattle.memory.specs.Lists.{rooms_in, no_request}
use Rattle.memory.proofs.NameLaws.{named_entry}
use Rattle.memory.proofs.Rooms.{requests_in_lem, rooms_length, rooms_get, asked_originator_long}
use Rattle.records.specs.Places.{entry_record, Puts, Places}
use Rattle.records.proofs.PutLaws.{puts_none, puts_then, puts_as}

-- ---- one request
pub request_put : (s : List ℕ) (k i : ℕ) (name : List ℕ) (number : CsaNumber) → length s ≡ memory_size → k < 8 → i < 64
    → name ≡ (request_in s k i).entry.key ++ (request_in s k i).entry.originator → number ≡ (request_in s k i).number
    → entry_record 1 false number (entry_named name) [] ≡ request_record (request_in s k i)
request_put s k i name number l h g e n =
    let w = asked_originator_long s k i (omega arith) in
    let q = named_entry (request_in s k i).entry.key (request_in s k i).entry.originator name w e in
    λ j. entry_record 1 false (n j) (q j) []

-- ---- the loop
module _ (s : List ℕ) (k : ℕ) where
  request_get : (i : ℕ) → i < length (requests_in s k) → get_or (requests_in s k) i no_request ≡ request_in s k i
  request_get i h =
      let n : ℕ = field2 s (list_place k) in
      let e : length (requests_in s k) ≡ min n (length (rooms_in s k)) = ap length (requests_in_lem s k) ∙ length-take n (rooms_in s k) in
      let f : length (rooms_in s k) ≡ 64 = rooms_length s k in
      ap (λ (l : List Request). get_or l i no_request) (requests_in_lem s k) ∙ get_or-take n (rooms_in s k) i no_request (omega arith)
      ∙ rooms_get s k i (omega arith)

  abbrev firsts : ℕ → List CsaRecord
  firsts i = map request_record (take i (requests_in s k))

  firsts_length : (i : ℕ) → i ≤ length (requests_in s k) → length (firsts i) ≡ i
  firsts_length i h =
      let e : length (take i (requests_in s k)) ≡ min i (length (requests_in s k)) = length-take i (requests_in s k) in
      length-map (take i (requests_in s k)) request_record ∙ omega arith

  module _ (most : ℕ) (out₀ : List ℕ) where
    -- of the first `most` requests i were put
    pub record Asking (out : List ℕ) (next i : ℕ) : Type 0 where
      pub long : length out ≡ length out₀
      pub within : i ≤ most
      pub puts : Puts 32 (firsts i) 28 out₀ out next

    pub asking_none : Asking out₀ 28 0
    asking_none = record { long = refl; within = omega arith; puts = puts_none 32 28 out₀ }

    module _ (c : ℕ) (size : c ≡ length (requests_in s k)) (is : most ≡ min c 4) (out : List ℕ) (next i : ℕ) (a : Asking out next i) where
      pub asking_all : (few : most ≤ 4) → most ≤ i
          → Places 32 (map request_record (take 4 (requests_in s k))) 28 out₀ out (record { count = most; next = next; few = few })
      asking_all few h =
          let l : List Request = requests_in s k in
          let w : i ≤ most = a.within in
          let e : length (take 4 l) ≡ min 4 (length l) = length-take 4 l in
          let z : i ≡ length (take 4 l) = omega arith in
          let same : firsts i ≡ map request_record (take 4 l) = ap (map request_record) (ap (λ (x : ℕ). take x l) z ∙ (take_taken 4 l).1) in
          let n : most ≡ length (take 4 l) = omega arith in
          record { count = n ∙ sym (length-map (take 4 l) request_record); puts = puts_as 32 28 out₀ out next same a.puts }

      module _ (h : i < most) (room : 284 ≤ length out₀) where
        pub asking_room : next + 64 ≤ length out
        asking_room =
            let n = a.puts.near in
            let f : length (firsts i) ≡ i = firsts_length i (omega arith) in
            let g = a.long in
            omega arith

        pub asking_more : (out' : List ℕ) (n : ℕ) → length out' ≡ length out → Puts 32 (request_record (request_in s k i) ∷ []) next out out' n
            → Asking out' n (i + 1)
        asking_more out' n kept one =
            let l : List Request = requests_in s k in
            let below : i < length l = omega arith in
            let near = asking_room in
            let g = a.long in
            let v : CsaRecord = request_record (request_in s k i) in
            let more : firsts i ++ (v ∷ []) ≡ firsts (i + 1) =
            sym (ap (λ (z : ℕ). map request_record (take z l)) (add-one i)
            ∙ ap (map request_record) (take-suc l i no_request below)
            ∙ map_append request_record (take i l) (get_or l i no_request ∷ [])
            ∙ ap (λ (q : Request). firsts i ++ (request_record q ∷ [])) (request_get i below)) in
            record {
              long = kept ∙ g;
              within = omega arith;
              puts = puts_as 32 28 out₀ out' n more (puts_then 32 28 out₀ (firsts i) (v ∷ []) out out' next n (omega arith) a.puts one);
            }

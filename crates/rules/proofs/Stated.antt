-- Each refusal is given in its stated case and in no other (document 01, 'Answers to an event').
-- Assumes nothing.
use Prim.Native.Nat.{ℕ, zero, suc, ◌≤◌, ◌<◌}
use mathlib.Core.Path.{◌≡◌, refl, sym}
use mathlib.Core.Bool.{Bool, true, false, not, ◌&&◌, ◌||◌, false≢true}
use mathlib.Core.List.{List, [], ◌∷◌}
use mathlib.Core.Logic.{◌↔◌}
use native.Mathlib.Nat.{not-suc-le-zero}
use native.Mathlib.Omega.{arith}
use lib.Dec.{eqb, ltb}
use lib.ListN.{length, get_or}
use borrow.Author.Tests.{eqb-false, not-true}
use Rattle.laws.specs.Choice.{pick}
use Rattle.laws.specs.Lists.{All}
use Rattle.laws.specs.Tables.{has, same}
use Rattle.protocol.specs.Sizes.{id_length}
use Rattle.protocol.specs.Answers.{Refusal, refuse, first_code}
use Rattle.rules.specs.Server.{slots_most, is_free, Server, slot_at}
use Rattle.rules.specs.Rows.{entry_row}
use Rattle.rules.specs.Refusals.{no_peer, early, no_room, link_is_down, link_code, is_peer, own_key_good, own_payload_good, own_entry, row_spent, row_purged, row_empty}
use Rattle.rules.specs.Events.{add_peer, link_up, link_down, poll, set, withdraw, purge, code_of}

-- ---- over a list of refusals
-- the case of refusal n: its own, and of none before it
abbrev pub Case : List Refusal → ℕ → Type 0
Case [] n = ⊥
Case (r ∷ rs) zero = r.when ≡ true
Case (r ∷ rs) (suc n) = (r.when ≡ false) × Case rs n

-- the case of none
abbrev pub NoCase : List Refusal → Type 0
NoCase rs = All (λ r. r.when ≡ false) rs

abbrev pub code_at : List Refusal → ℕ → ℕ
code_at rs n = (get_or rs n (refuse false 0)).code

abbrev pub coded_as : ℕ → Refusal → Bool
coded_as c r = eqb c r.code

-- no code is 0, and no two are the same
abbrev pub distinct : List Refusal → Bool
distinct [] = true
distinct (r ∷ rs) = not (coded_as 0 r) && (not (has (coded_as r.code) rs) && distinct rs)

pub both : (a b : Bool) → (a && b) ≡ true → (a ≡ true) × (b ≡ true)
both true b e = (refl, e)
both false b e = absurd (false≢true e)

neither : (a b : Bool) → (a || b) ≡ false → (a ≡ false) × (b ≡ false)
neither true b e = absurd (false≢true (sym e))
neither false b e = (refl, e)

-- what the first code of distinct ones is not
record Apart (r : Refusal) (rs : List Refusal) : Type 0 where
  some : 0 ≡ r.code → ⊥
  alone : has (coded_as r.code) rs ≡ false
  rest : distinct rs ≡ true

apart : (r : Refusal) (rs : List Refusal) → distinct (r ∷ rs) ≡ true → Apart r rs
apart r rs d =
    let f = both (not (coded_as 0 r)) (not (has (coded_as r.code) rs) && distinct rs) d in
    let g = both (not (has (coded_as r.code) rs)) (distinct rs) f.1 in
    record {
      some = eqb-false 0 r.code (not-true (coded_as 0 r) f.0);
      alone = not-true (has (coded_as r.code) rs) g.0;
      rest = g.1;
    }

not_there : (c : ℕ) (rs : List Refusal) (n : ℕ) → n < length rs → has (coded_as c) rs ≡ false → c ≡ code_at rs n → ⊥
not_there c [] n l h e = not-suc-le-zero l
not_there c (r ∷ rs) zero l h e = eqb-false c r.code (neither (coded_as c r) (has (coded_as c) rs) h).0 e
not_there c (r ∷ rs) (suc n) l h e = not_there c rs n (omega arith) (neither (coded_as c r) (has (coded_as c) rs) h).1 e

not_picked : (w : Bool) (a b c : ℕ) → (a ≡ c → ⊥) → (b ≡ c → ⊥) → pick w a b ≡ c → ⊥
not_picked true a b c f g e = f e
not_picked false a b c f g e = g e

not_first : (c : ℕ) (rs : List Refusal) → (0 ≡ c → ⊥) → has (coded_as c) rs ≡ false → first_code rs ≡ c → ⊥
not_first c [] z h e = z e
not_first c (r ∷ rs) z h e =
    let f = neither (coded_as c r) (has (coded_as c) rs) h in
    not_picked r.when r.code (first_code rs) c (λ g. eqb-false c r.code f.0 (sym g)) (not_first c rs z f.1) e

-- the first of a list, and the others
picked_first : (w : Bool) (a b : ℕ) → (b ≡ a → ⊥) → (pick w a b ≡ a) ↔ (w ≡ true)
picked_first true a b f = (λ e. refl, λ e. refl)
picked_first false a b f = (λ e. absurd (f e), λ e. absurd (false≢true e))

picked_later : {C : Type 0} (w : Bool) (a b c : ℕ) → (a ≡ c → ⊥) → (b ≡ c) ↔ C → (pick w a b ≡ c) ↔ ((w ≡ false) × C)
picked_later true a b c f g = (λ e. absurd (f e), λ h. absurd (false≢true (sym h.0)))
picked_later false a b c f g = (λ e. (refl, g.0 e), λ h. g.1 h.1)

-- a code is given in the case of its refusal and in no other
pub stated : (rs : List Refusal) → distinct rs ≡ true → (n : ℕ) → n < length rs → (first_code rs ≡ code_at rs n) ↔ Case rs n
stated [] d n l = absurd (not-suc-le-zero l)
stated (r ∷ rs) d zero l =
    let a = apart r rs d in
    picked_first r.when r.code (first_code rs) (not_first r.code rs a.some a.alone)
stated (r ∷ rs) d (suc n) l =
    let a = apart r rs d in
    picked_later r.when r.code (first_code rs) (code_at rs n) (not_there r.code rs n (omega arith) a.alone)
    (stated rs a.rest n (omega arith))

-- code 0 is given in the case of none
pub none_stated : (rs : List Refusal) → distinct rs ≡ true → (first_code rs ≡ 0) ↔ NoCase rs
none_stated [] d = (λ e. tt, λ e. refl)
none_stated (r ∷ rs) d =
    let a = apart r rs d in
    picked_later r.when r.code (first_code rs) 0 (λ e. a.some (sym e)) (none_stated rs a.rest)

-- no code is above the largest
pub first_most : (b : ℕ) (rs : List Refusal) → All (λ r. r.code ≤ b) rs → first_code rs ≤ b
first_most b [] h = omega arith
first_most b (r ∷ rs) h = by r.when h.0 (first_most b rs h.1) where
  by : (w : Bool) {x y : ℕ} → x ≤ b → y ≤ b → pick w x y ≤ b
  by true f g = f
  by false f g = g

-- ---- the events but for a packet: the case of each code, in the order of the table
abbrev pub slot_missing : Server → ℕ → Bool
slot_missing s k = (no_peer s k).when

abbrev pub time_before : Server → ℕ → Bool
time_before s now = (early s now).when

abbrev pub out_small : ℕ → Bool
out_small room = (no_room room).when

abbrev pub link_down_at : Server → ℕ → Bool
link_down_at s k = (link_is_down s k).when

pub record PollCodes (s : Server) (k now room : ℕ) : Type 0 where
  pub code_1 : (code_of s (poll k now room) ≡ 1) ↔ (slot_missing s k ≡ true)
  pub code_2 : (code_of s (poll k now room) ≡ 2) ↔ ((slot_missing s k ≡ false) × (time_before s now ≡ true))
  pub code_3 : (code_of s (poll k now room) ≡ 3) ↔ ((slot_missing s k ≡ false) × ((time_before s now ≡ false) × (out_small room ≡ true)))
  pub code_4 : (code_of s (poll k now room) ≡ 4)
      ↔ ((slot_missing s k ≡ false) × ((time_before s now ≡ false) × ((out_small room ≡ false) × (link_down_at s k ≡ true))))
  pub code_0 : (code_of s (poll k now room) ≡ 0) ↔ NoCase (no_peer s k ∷ early s now ∷ no_room room ∷ link_is_down s k ∷ [])

pub poll_codes : (s : Server) (k now room : ℕ) → PollCodes s k now room
unfolding code_of
poll_codes s k now room =
    let rs : List Refusal = no_peer s k ∷ early s now ∷ no_room room ∷ link_is_down s k ∷ [] in
    record {
      code_1 = stated rs refl 0 (omega arith);
      code_2 = stated rs refl 1 (omega arith);
      code_3 = stated rs refl 2 (omega arith);
      code_4 = stated rs refl 3 (omega arith);
      code_0 = none_stated rs refl;
    }

-- link up and link down
pub record LinkCodes (s : Server) (k now code : ℕ) : Type 0 where
  pub code_1 : (code ≡ 1) ↔ (slot_missing s k ≡ true)
  pub code_2 : (code ≡ 2) ↔ ((slot_missing s k ≡ false) × (time_before s now ≡ true))
  pub code_0 : (code ≡ 0) ↔ NoCase (no_peer s k ∷ early s now ∷ [])

pub link_codes : (s : Server) (k now : ℕ) → LinkCodes s k now (code_of s (link_up k now)) × LinkCodes s k now (code_of s (link_down k now))
unfolding code_of
link_codes s k now =
    let rs : List Refusal = no_peer s k ∷ early s now ∷ [] in
    let c : LinkCodes s k now (link_code s k now) =
    record { code_1 = stated rs refl 0 (omega arith); code_2 = stated rs refl 1 (omega arith); code_0 = none_stated rs refl } in
    (c, c)

-- 1: 'a slot above 7'; 17: an ID that is none, 'a slot in use, our own ID, or another slot's ID'
abbrev pub slot_above : ℕ → Bool
slot_above k = not (ltb k slots_most)

abbrev pub peer_bad : Server → ℕ → List ℕ → Bool
peer_bad s k id = not (eqb (length id) id_length) || ((slot_at s k).used || (same id s.settings.id || has (is_peer id) s.slots))

pub record AddPeerCodes (s : Server) (k : ℕ) (id : List ℕ) : Type 0 where
  pub code_1 : (code_of s (add_peer k id) ≡ 1) ↔ (slot_above k ≡ true)
  pub code_17 : (code_of s (add_peer k id) ≡ 17) ↔ ((slot_above k ≡ false) × (peer_bad s k id ≡ true))
  pub code_0 : (code_of s (add_peer k id) ≡ 0) ↔ NoCase (refuse (slot_above k) 1 ∷ refuse (peer_bad s k id) 17 ∷ [])

pub add_peer_codes : (s : Server) (k : ℕ) (id : List ℕ) → AddPeerCodes s k id
unfolding code_of
add_peer_codes s k id =
    let rs : List Refusal = refuse (slot_above k) 1 ∷ refuse (peer_bad s k id) 17 ∷ [] in
    record { code_1 = stated rs refl 0 (omega arith); code_17 = stated rs refl 1 (omega arith); code_0 = none_stated rs refl }

-- 17: 'bad .. key or payload length'; 16: 'the number is 2147483646 or more', or a purge of a purged entry; 15: 'new entry, no free
-- row'; 18: 'absent', or for a withdrawal 'already empty'
abbrev pub key_bad : List ℕ → Bool
key_bad key = not (own_key_good key)

abbrev pub set_bad : List ℕ → List ℕ → Bool
set_bad key payload = not (own_key_good key && own_payload_good payload)

abbrev pub number_spent : Server → List ℕ → Bool
number_spent s key = row_spent (entry_row (own_entry s.settings key) s.rows)

abbrev pub already_purged : Server → List ℕ → Bool
already_purged s key = row_purged (entry_row (own_entry s.settings key) s.rows)

abbrev pub absent : Server → List ℕ → Bool
absent s key = is_free (entry_row (own_entry s.settings key) s.rows)

abbrev pub absent_or_empty : Server → List ℕ → Bool
absent_or_empty s key = row_empty (entry_row (own_entry s.settings key) s.rows)

abbrev pub no_free_row : Server → Bool
no_free_row s = not (has is_free s.rows)

pub record SetCodes (s : Server) (key payload : List ℕ) : Type 0 where
  pub code_17 : (code_of s (set key payload) ≡ 17) ↔ (set_bad key payload ≡ true)
  pub code_16 : (code_of s (set key payload) ≡ 16) ↔ ((set_bad key payload ≡ false) × (number_spent s key ≡ true))
  pub code_15 : (code_of s (set key payload) ≡ 15)
      ↔ ((set_bad key payload ≡ false) × ((number_spent s key ≡ false) × ((absent s key && no_free_row s) ≡ true)))
  pub code_0 : (code_of s (set key payload) ≡ 0)
      ↔ NoCase (refuse (set_bad key payload) 17 ∷ refuse (number_spent s key) 16 ∷ refuse (absent s key && no_free_row s) 15 ∷ [])

pub set_codes : (s : Server) (key payload : List ℕ) → SetCodes s key payload
unfolding code_of
set_codes s key payload =
    let rs : List Refusal = refuse (set_bad key payload) 17 ∷ refuse (number_spent s key) 16 ∷ refuse (absent s key && no_free_row s) 15 ∷ [] in
    record {
      code_17 = stated rs refl 0 (omega arith);
      code_16 = stated rs refl 1 (omega arith);
      code_15 = stated rs refl 2 (omega arith);
      code_0 = none_stated rs refl;
    }

pub record WithdrawCodes (s : Server) (key : List ℕ) : Type 0 where
  pub code_17 : (code_of s (withdraw key) ≡ 17) ↔ (key_bad key ≡ true)
  pub code_18 : (code_of s (withdraw key) ≡ 18) ↔ ((key_bad key ≡ false) × (absent_or_empty s key ≡ true))
  pub code_16 : (code_of s (withdraw key) ≡ 16)
      ↔ ((key_bad key ≡ false) × ((absent_or_empty s key ≡ false) × (number_spent s key ≡ true)))
  pub code_0 : (code_of s (withdraw key) ≡ 0)
      ↔ NoCase (refuse (key_bad key) 17 ∷ refuse (absent_or_empty s key) 18 ∷ refuse (number_spent s key) 16 ∷ [])

pub withdraw_codes : (s : Server) (key : List ℕ) → WithdrawCodes s key
unfolding code_of
withdraw_codes s key =
    let rs : List Refusal = refuse (key_bad key) 17 ∷ refuse (absent_or_empty s key) 18 ∷ refuse (number_spent s key) 16 ∷ [] in
    record {
      code_17 = stated rs refl 0 (omega arith);
      code_18 = stated rs refl 1 (omega arith);
      code_16 = stated rs refl 2 (omega arith);
      code_0 = none_stated rs refl;
    }

pub record PurgeCodes (s : Server) (key : List ℕ) : Type 0 where
  pub code_17 : (code_of s (purge key) ≡ 17) ↔ (key_bad key ≡ true)
  pub code_18 : (code_of s (purge key) ≡ 18) ↔ ((key_bad key ≡ false) × (absent s key ≡ true))
  pub code_16 : (code_of s (purge key) ≡ 16) ↔ ((key_bad key ≡ false) × ((absent s key ≡ false) × (already_purged s key ≡ true)))
  pub code_0 : (code_of s (purge key) ≡ 0)
      ↔ NoCase (refuse (key_bad key) 17 ∷ refuse (absent s key) 18 ∷ refuse (already_purged s key) 16 ∷ [])

pub purge_codes : (s : Server) (key : List ℕ) → PurgeCodes s key
unfolding code_of
purge_codes s key =
    let rs : List Refusal = refuse (key_bad key) 17 ∷ refuse (absent s key) 18 ∷ refuse (already_purged s key) 16 ∷ [] in
    record {
      code_17 = stated rs refl 0 (omega arith);
      code_18 = stated rs refl 1 (omega arith);
      code_16 = stated rs refl 2 (omega arith);
      code_0 = none_stated rs refl;
    }

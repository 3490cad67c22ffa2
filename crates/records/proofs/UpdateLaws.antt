-- The records of a CSU Request: what one does by its rule, and record after record.
-- Assumes nothing.
use Prim.Native.Nat.{ℕ, suc, ◌+◌, ◌≤◌, ◌<◌}
use mathlib.Core.Path.{◌≡◌, refl, sym, ap, ◌∙◌}
use mathlib.Core.Bool.{Bool, true, false}
use mathlib.Core.Logic.{◌⊎◌, inl, inr}
use mathlib.Core.List.{List, [], ◌∷◌, ◌++◌, map, append-nil}
use native.Mathlib.Omega.{arith}
use lib.ListN.{length, length-append, length-map}
use Rattle.laws.specs.Choice.{pick}
use Rattle.laws.specs.Tables.{change}
use Rattle.laws.proofs.Lists.{map_append}
use Rattle.protocol.specs.Messages.{CsaRecord, summary_of}
use Rattle.rules.specs.Server.{holds}
use Rattle.rules.specs.Rows.{unmarked}
use Rattle.rules.specs.Requests.{entry_of}
use Rattle.rules.specs.Updates as rules
use Rattle.rules.specs.Updates.{update_rule, rows_by, requests_by, is_acknowledged, waits_again, Updated, by_rule, all_updated}
use Rattle.memory.specs.Memory.{rows_in, Memory, memory_of, with_rows, requests_put, requests_of}
use Rattle.memory.specs.Entries.{rows_as}
use Rattle.memory.proofs.RowInsert.{all_rows}
use Rattle.records.specs.declared.put.Placed.{Placed}
use Rattle.records.specs.declared.standing.UpdateRule.{UpdateRule}
use Rattle.records.specs.declared.standing.UpdateRule.TheVariants.{Null, PurgeAbsent, Full, Equal, Older}
use Rattle.records.specs.Walks.{update_rule_of, updated_now, UpdatesOne, Updates, UpdatesAll}
use Rattle.records.specs.Places.{Adds, Places, reply_of, Puts}
use Rattle.records.proofs.MemoryLaws.{requests_same, both_rows, both_requests, both_twice}
use Rattle.records.proofs.PutLaws.{places_none, places_then, places_as, adds_one, adds_none, adds_as}

-- ---- the rows
module _ (rule : UpdateRule) (live : ℕ → Bool) (k : ℕ) (v : CsaRecord) (s : List ℕ) where
  rows_as_lem : (t : List ℕ) (u : UpdateRule) → rule ≡ u → memory_of t ≡ rows_as (rows_by (update_rule_of u) live k v) s
      → memory_of t ≡ rows_as (rows_by (update_rule_of rule) live k v) s
  rows_as_lem t u e h = rw e h

  pub rows_equal : (t : List ℕ) → rule ≡ Equal → memory_of t ≡ rows_as (change (holds (entry_of v)) (unmarked k)) s
      → memory_of t ≡ rows_as (rows_by (update_rule_of rule) live k v) s
  rows_equal t e h = rows_as_lem t Equal e h

  pub rows_older : (t : List ℕ) → rule ≡ Older → memory_of t ≡ rows_as (change (holds (entry_of v)) (waits_again k)) s
      → memory_of t ≡ rows_as (rows_by (update_rule_of rule) live k v) s
  rows_older t e h = rows_as_lem t Older e h

  -- three rules leave the rows as they are
  pub rows_left : (rule ≡ Null) ⊎ ((rule ≡ PurgeAbsent) ⊎ (rule ≡ Full)) → memory_of s ≡ rows_as (rows_by (update_rule_of rule) live k v) s
  rows_left (inl e) = rows_as_lem s Null e (all_rows s)
  rows_left (inr (inl e)) = rows_as_lem s PurgeAbsent e (all_rows s)
  rows_left (inr (inr e)) = rows_as_lem s Full e (all_rows s)

-- ---- the reply
module _ (rule : rules.UpdateRule) (v : CsaRecord) (b : Bool) (is : b ≡ is_acknowledged rule) (to : Placed) (out : List ℕ) where
  pub reply_put : (w : CsaRecord) (after : List ℕ) (m : ℕ) (few : to.count + 1 ≤ 4) → w ≡ summary_of v → b ≡ true
      → Puts 32 (w ∷ []) to.next out after m → Adds 32 (reply_of rule v) to out after (record { count = to.count + 1; next = m; few = few })
  reply_put w after m few e t p =
      adds_as 32 to out after (record { count = to.count + 1; next = m; few = few })
      ((λ j. e j ∷ []) ∙ sym (ap (λ (z : Bool). pick z (summary_of v ∷ []) []) (sym is ∙ t))) (adds_one 32 to out w after m few p)

  pub reply_none : b ≡ false → Adds 32 (reply_of rule v) to out out to
  reply_none t = adds_as 32 to out out to (sym (ap (λ (z : Bool). pick z (summary_of v ∷ []) []) (sym is ∙ t))) (adds_none 32 to out)

-- ---- one record
module _ (live : ℕ → Bool) (k : ℕ) (v : CsaRecord) (s : List ℕ) (rule : rules.UpdateRule) where
  pub one_applied : (t u : List ℕ) → rule ≡ update_rule v (rows_in s) → memory_of t ≡ rows_as (rows_by rule live k v) s
      → memory_of u ≡ requests_put k (requests_by rule v (requests_of (memory_of t) k)) (memory_of t) → UpdatesOne live k v s u rule
  one_applied t u e rows requests = record {
    rule = e;
    memory = requests ∙ ap (λ (m : Memory). requests_put k (requests_by rule v (requests_of m k)) m) rows;
  }

  pub one_updated : (t out after : List ℕ) (to x : Placed) → UpdatesOne live k v s t rule → Adds 32 (reply_of rule v) to out after x
      → Updates live k v s t out after to x
  one_updated t out after to x one reply = record {
    memory =
        one.memory
        ∙ ap (λ (u : rules.UpdateRule). with_rows (rows_by u live k v (rows_in s))
        (requests_put k (requests_by u v (requests_of (memory_of s) k)) (memory_of s)))
        one.rule;
    reply = adds_as 32 to out after x (ap (λ (u : rules.UpdateRule). reply_of u v) one.rule) reply;
  }

-- ---- record after record
-- the replies with one more or none
more_replies : (b : Bool) (done : List CsaRecord) (v : CsaRecord) → map summary_of done ++ pick b (summary_of v ∷ []) []
    ≡ map summary_of (pick b (done ++ (v ∷ [])) done)
more_replies true done v = sym (map_append summary_of done (v ∷ []))
more_replies false done v = append-nil (map summary_of done)

more_length : (b : Bool) (done : List CsaRecord) (v : CsaRecord) → length (pick b (done ++ (v ∷ [])) done) ≤ length done + 1
more_length true done v = let e : length (done ++ (v ∷ [])) ≡ length done + 1 = length-append done (v ∷ []) in omega arith
more_length false done v = omega arith

module _ (live : ℕ → Bool) (k : ℕ) (rs : List CsaRecord) (before out₀ : List ℕ) where
  -- what was there, with the records before `left` done
  pub record Updating (s out : List ℕ) (left : List CsaRecord) (to : Placed) : Type 0 where
    pub long : length out ≡ length out₀
    pub done : List CsaRecord
    pub few : length done + length left ≤ 4
    pub so_far : all_updated live k rs (updated_now k [] before) ≡ all_updated live k left (updated_now k done s)
    pub others : memory_of s ≡ with_rows (rows_in s) (requests_put k (requests_of (memory_of s) k) (memory_of before))
    pub placed : Places 32 (map summary_of done) 28 out₀ out to

  pub updating_none : length rs ≤ 4 → (x : Placed) → (x.count ≡ 0) × (x.next ≡ 28) → Updating before out₀ rs x
  updating_none f x h = record {
    long = refl;
    done = [];
    few = omega arith;
    so_far = refl;
    others = all_rows before ∙ ap (with_rows (rows_in before)) (sym (requests_same (memory_of before) k));
    placed = places_none 32 28 out₀ x h;
  }

  module _ (s out : List ℕ) (left : List CsaRecord) (to : Placed) (i : Updating s out left to) where
    ended : left ≡ [] → all_updated live k rs (updated_now k [] before) ≡ updated_now k i.done s
    ended h = i.so_far ∙ ap (λ (l : List CsaRecord). all_updated live k l (updated_now k i.done s)) h

    pub updating_end : left ≡ [] → UpdatesAll live k rs before s
        × (Places 32 (map summary_of (all_updated live k rs (updated_now k [] before)).replies) 28 out₀ out to × (to.count ≤ 4))
    updating_end h = (
      i.others ∙ ap (λ (z : Updated). with_rows z.rows (requests_put k z.requests (memory_of before))) (sym (ended h)),
      (
        places_as 32 28 out₀ out to (ap (λ (z : Updated). map summary_of z.replies) (sym (ended h))) i.placed,
        omega (arith, i.placed.count, i.few, length-map i.done summary_of),
      ),
    )

    module _ (v : CsaRecord) (rest : List CsaRecord) (step : left ≡ v ∷ rest) (room : 284 ≤ length out₀) where
      pub updating_room : (to.next + 64 ≤ length out) × (to.count < 4)
      updating_room =
          let f = i.few in
          let l = i.long in
          let n = i.placed.puts.near in
          let m = i.placed.count in
          let h : length left ≡ suc (length rest) = ap length step in
          let e : length (map summary_of i.done) ≡ length i.done = length-map i.done summary_of in
          (omega arith, omega arith)

      module _ (below : k < 8) (t out' : List ℕ) (x : Placed) (kept : length out' ≡ length out) (one : Updates live k v s t out out' to x) where
        rule : rules.UpdateRule
        rule = update_rule v (rows_in s)

        after : Updated
        after = by_rule (update_rule v (rows_in s)) live k v (updated_now k i.done s)

        now_updated : updated_now k after.replies t ≡ after
        unfolding after
        now_updated =
            let rows = both_rows s t k after.rows after.requests one.memory in
            let qs = both_requests s t k after.rows after.requests one.memory below in
            λ j. record { rows = rows j; requests = qs j; replies = after.replies }

        pub updating_more : Updating t out' rest x
        unfolding after rule
        updating_more =
            let f = i.few in
            let near = updating_room.0 in
            let l = i.long in
            let h : length left ≡ suc (length rest) = ap length step in
            let g = more_length (is_acknowledged rule) i.done v in
            record {
              long = kept ∙ i.long;
              done = after.replies;
              few = omega arith;
              so_far =
                  i.so_far ∙ ap (λ (l : List CsaRecord). all_updated live k l (updated_now k i.done s)) step
                  ∙ ap (all_updated live k rest) (sym now_updated);
              others =
                  one.memory
                  ∙ both_twice before s k (rows_in s) (requests_of (memory_of s) k) i.others after.rows after.requests
                  ∙ (λ j. with_rows (sym now_updated j).rows (requests_put k (sym now_updated j).requests (memory_of before)));
              placed =
                  places_as 32 28 out₀ out' x (more_replies (is_acknowledged rule) i.done v)
                  (places_then 32 28 out₀ (map summary_of i.done) (reply_of rule v) out out' to x (omega arith) i.placed one.reply);
            }

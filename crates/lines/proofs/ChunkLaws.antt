-- A chunk of records and the text of their lines.
-- Assumes nothing.
use Rattle.std.proofs.Common.{◌≡◌, ℕ, zero, suc, ◌+◌, ◌*◌, ◌/◌, ◌%◌, ◌≤◌, Bool, true, false, not, ◌&&◌, ltb, leb, List, [], ◌∷◌, ◌++◌, length, take, drop}
use Rattle.std.proofs.Common.{sym, refl, ap, ◌∙◌, subst, append_assoc, append-nil, arith, length-append, drop_of_length-le, drop-cons, drop-drop, take-append-drop, length-take-le}
use Rattle.std.proofs.lemmas.List.{nil_from_length}
use Rattle.std.proofs.Common.{ltb-false, ltb-true, leb-false, leb-true}
use Rattle.laws.specs.Choice.{pick}
use Rattle.laws.specs.Lists.{is_empty}
use Rattle.laws.specs.Puts.{Put}
use Rattle.laws.proofs.Puts.{put_none, then_put}
use Rattle.rules.specs.Server as rules
use Rattle.rules.specs.Server.{rows_used, fresh}
use Rattle.rules.specs.Events.{run, items}
use Rattle.rules.specs.Replay.{replay_record, settings_in, RecordKind, record_kind, Line, a_line, cut, line_of, server_after, starts_good, lines_from}
use Rattle.memory.specs.Memory.{rows_in}
use Rattle.slots.specs.declared.state.Server.{Server}
use Rattle.slots.specs.Codes.{code_number, written_of}
use Rattle.server.specs.declared.answers.Answer.{Answer}
use Rattle.server.specs.State.{server_of}
use Rattle.server.specs.Hosts.{Hosted}
use Rattle.lines.specs.declared.chunk.Stepped.{Stepped}
use Rattle.lines.specs.Text.{NumbersText, PutsNumbers, numbers_most, cut_text, LineText, LinesText, Prints}
use Rattle.lines.specs.Lines.{Takes, Begins, events_from}
use Rattle.lines.proofs.RunLaws.{run_kind, Went, went_run, went_host, first_of, behind_first}
use Rattle.lines.specs.Chunks.{records_in, lines_in, ends_with, first_line, Lined, Opens, Chunks}
use Rattle.slots.specs.declared.state.Slot.{Slot}

-- ---- text
one_line : (l : Line) (t : List ℕ) → LineText l.numbers t → LinesText (l ∷ []) t
one_line l t h = (t, [], h, refl, sym (append-nil t))

-- some lines, and others behind them
pub lines_append : (ls ms : List Line) (t u : List ℕ) → LinesText ls t → LinesText ms u → LinesText (ls ++ ms) (t ++ u)
lines_append [] ms t u h g = subst (λ (v : List ℕ). LinesText ms (v ++ u)) (sym h) g
lines_append (l ∷ ls) ms t u h g =
    (h.0, h.1 ++ u, h.2, lines_append ls ms h.1 u h.3 g, ap (λ (v : List ℕ). v ++ u) h.4 ∙ append_assoc h.0 h.1 u)

-- whether something is left from a place on
pub some_left : (at : ℕ) (input : List ℕ) → ltb at (length input) ≡ not (is_empty (drop at input))
some_left at input = by (ltb at (length input)) refl where
  by : (b : Bool) → ltb at (length input) ≡ b → b ≡ not (is_empty (drop at input))
  by true e = rw (drop-cons input at 0 (ltb-true at (length input) e))
  by false e = rw (drop_of_length-le input (ltb-false at (length input) e))

-- the line of a record that was taken
pub lined : {kind : RecordKind} {number : ℕ} {s : Server} {slots slots' : List Slot} {before after out out' : List ℕ} {a : Answer} {at end : ℕ} {text text' : List ℕ}
    → Takes kind s slots slots' before after out out' a
    → PutsNumbers (number ∷ code_number a.outcome ∷ written_of a.outcome ∷ rows_used (rows_in after) ∷ []) at text text' end → end ≤ at + 84
    → Lined kind number s slots slots' before after at text text' (record { server = a.server; text = end })
lined {kind} {number} {s} {slots} {slots'} {before} {after} {out} {out'} {a} {at} {end} {text} {text'} t p m = record {
  server = t.server;
  host = t.host;
  prints = record {
    octets = p.octets;
    means = λ k e. one_line (line_of kind k (server_of s slots before)) p.octets
        (subst (λ (l : List ℕ). LineText l p.octets) (t.line k)
        (subst (λ (n : ℕ). NumbersText (n ∷ code_number a.outcome ∷ written_of a.outcome ∷ rows_used (rows_in after) ∷ []) p.octets) e p.means));
    put = p.put;
  };
  most = m;
}

-- ---- the loop: what is said of the first `done` records, and what it makes of the text of the rest
pub record Said (ends : Bool) (input : List ℕ) (n number : ℕ) (x₀ : rules.Server) (text₀ : List ℕ) (x : rules.Server) (rest : List ℕ) (left done end : ℕ)
    (text : List ℕ) : Type 0 where
  pub sum : done + left ≡ n
  pub octets : List ℕ
  pub put : Put octets 0 text₀ text end
  pub fits : length octets ≤ 84 * done
  pub tells : (i : ℕ) → number ≡ i % numbers_most → (u : List ℕ) → LinesText (lines_in ends left (i + done) x rest) u
      → LinesText (lines_in ends n i x₀ input) (octets ++ u)

said_start : (ends : Bool) (input : List ℕ) (n number : ℕ) (x : rules.Server) (text : List ℕ) → Said ends input n number x text x input n 0 0 text
said_start ends input n number x text = record {
  sum = omega arith;
  octets = [];
  put = put_none text 0;
  fits = omega arith;
  tells = λ i e u h. let z : i + 0 ≡ i = omega arith in subst (λ (j : ℕ). LinesText (lines_in ends n j x input) u) z h;
}

pub said_none : (ends : Bool) (input : List ℕ) (n number : ℕ) (x : rules.Server) (text rest : List ℕ) (left done : ℕ) → rest ≡ input → left ≡ n → done ≡ 0
    → Said ends input n number x text x rest left done 0 text
said_none ends input n number x text rest left done e l z = rw (e, l, z) (said_start ends input n number x text)

module _ {ends : Bool} {input : List ℕ} {n number : ℕ} {x₀ : rules.Server} {text₀ : List ℕ} {s : Server} {slots : List Slot} {before rest : List ℕ} {left done end : ℕ}
    {text : List ℕ}
    (w : Said ends input n number x₀ text₀ (server_of s slots before) rest left done end text) where
  -- one record more: `first` is the first of the rest
  module _ (first behind : List ℕ) (less : ℕ) {k : ℕ} {slots' : List Slot} {after text' : List ℕ} {r : Stepped} (room : 84 * n ≤ length text₀)
      (f : rest ≡ first ++ behind) (whole : length first ≡ 292) (e : left ≡ suc less)
      (l : Lined (record_kind first) k s slots slots' before after end text text' r) where
    abbrev x : rules.Server
    x = server_of s slots before

    abbrev y : rules.Server
    y = server_of r.server slots' after

    split : (i : ℕ) → lines_in ends left i x rest ≡ line_of (record_kind first) i x ∷ lines_in ends less (suc i) y behind
    unfolding lines_in
    split i =
        ap (λ (m : ℕ). lines_in ends m i x rest) e
        ∙ ap (λ (v : List ℕ). line_of (record_kind (take replay_record v)) i x
        ∷ lines_in ends less (suc i) (server_after (record_kind (take replay_record v)) x) (drop replay_record v)) f
        ∙ ap (λ (v : List ℕ). line_of (record_kind v) i x
        ∷ lines_in ends less (suc i) (server_after (record_kind v) x) (drop replay_record (first ++ behind))) (first_of first behind whole)
        ∙ ap (λ (v : List ℕ). line_of (record_kind first) i x ∷ lines_in ends less (suc i) (server_after (record_kind first) x) v)
        (behind_first first behind whole)
        ∙ ap (λ (z : rules.Server). line_of (record_kind first) i x ∷ lines_in ends less (suc i) z behind) (sym l.server)

    pub said_more : {next : ℕ} → k ≡ (number + done) % numbers_most → next ≡ done + 1 → Said ends input n number x₀ text₀ y behind less next r.text text'
    said_more {next} count to =
        let p = l.prints in
        let a : end ≡ 0 + length w.octets = w.put.next in
        let b : r.text ≡ end + length p.octets = p.put.next in
        let m = l.most in
        let c = w.fits in
        let d = w.sum in
        subst (λ (j : ℕ). Said ends input n number x₀ text₀ y behind less j r.text text') (sym to) (record {
          sum = omega arith;
          octets = w.octets ++ p.octets;
          put = then_put text₀ 0 w.octets p.octets (omega arith) w.put p.put;
          fits = simp length-append (omega arith);
          tells = λ i q u h.
              let g : i + (done + 1) ≡ suc (i + done) = omega arith in
              rw (append_assoc w.octets p.octets u)
              (w.tells i q (p.octets ++ u)
              (subst (λ (ls : List Line). LinesText ls (p.octets ++ u)) (sym (split (i + done)))
              (lines_append (line_of (record_kind first) (i + done) x ∷ []) (lines_in ends less (suc (i + done)) y behind) p.octets u
              (p.means (i + done) (omega (arith, count, q))) (subst (λ (j : ℕ). LinesText (lines_in ends less j y behind) u) g h))));
        })

-- none is left: `cut`, if something is left of an input that ends here
cut_text_lem : (c : Bool) → LinesText (pick c (cut ∷ []) []) (pick c cut_text [])
cut_text_lem true = (cut_text, [], refl, refl, refl)
cut_text_lem false = refl

rest_text : (ends b : Bool) (input rest : List ℕ) (at left i : ℕ) (x : rules.Server) → left ≡ 0 → rest ≡ drop at input → b ≡ (ends && ltb at (length input))
    → LinesText (lines_in ends left i x rest) (pick b cut_text [])
unfolding lines_in
rest_text ends b input rest at left i x z e h =
    rw (z, e, h ∙ ap (λ (c : Bool). ends && c) (some_left at input)) (cut_text_lem (ends && not (is_empty (drop at input))))

pub said_all : (at : ℕ) {ends b : Bool} {input rest : List ℕ} {n number : ℕ} {x₀ x : rules.Server} {left done end : ℕ} {text₀ text text' : List ℕ} {r : ℕ}
    → Said ends input n number x₀ text₀ x rest left done end text → left ≡ 0 → rest ≡ drop at input → b ≡ (ends && ltb at (length input))
    → 84 * n ≤ length text₀
    → Put (pick b cut_text []) end text text' r → Prints number (λ i. lines_in ends n i x₀ input) 0 text₀ text' r
said_all at {ends} {b} {input} {rest} {n} {number} {x₀} {x} {left} {done} {end} {text₀} {text} {text'} {r} w z e h room p =
    let c = w.fits in
    let d = w.sum in
    record {
      octets = w.octets ++ pick b cut_text [];
      means = λ i q. w.tells i q (pick b cut_text []) (rest_text ends b input rest at left (i + done) x z e h);
      put = then_put text₀ 0 w.octets (pick b cut_text []) (omega arith) w.put p;
    }

-- ---- the first record
first_means : (input : List ℕ) (b : Bool) → starts_good input ≡ b → (t : List ℕ)
    → LineText (pick b (a_line 0 0 [] (fresh (settings_in input))) cut).numbers t → LinesText (first_line input ∷ []) t
first_means input b e t h = rw e (one_line (pick b (a_line 0 0 [] (fresh (settings_in input))) cut) t h)

module _ {input : List ℕ} {slots slots' : List Slot} {before after text text' : List ℕ} {a : Answer} {n : ℕ} (b : Begins input slots slots' before after a) where
  pub opens : starts_good input ≡ true → PutsNumbers (0 ∷ 0 ∷ 0 ∷ 0 ∷ []) 0 text text' n
      → Opens input slots slots' before after text text' (record { answer = a; text = n })
  opens g p = record { begins = b; prints = record { octets = p.octets; means = λ k e. first_means input true g p.octets p.means; put = p.put } }

  pub opens_cut : starts_good input ≡ false → Put cut_text 0 text text' n → Opens input slots slots' before after text text' (record { answer = a; text = n })
  opens_cut g p = record { begins = b; prints = record { octets = cut_text; means = λ k e. first_means input false g cut_text refl; put = p } }

-- ---- a whole input is the lines of its chunks: `lines_in` of its end is the rules' `lines_from`, and goes on where a chunk before it stopped
pub ends_lines : (n k : ℕ) (s : rules.Server) (input : List ℕ) → lines_in true n k s input ≡ lines_from n k s input
unfolding lines_in lines_from
ends_lines zero k s input = by (is_empty input) where
  by : (b : Bool) → pick (not b) (cut ∷ []) [] ≡ pick b [] (cut ∷ [])
  by true = refl
  by false = refl
ends_lines (suc n) k s input =
    ap (λ (l : List Line). line_of (record_kind (take replay_record input)) k s ∷ l)
    (ends_lines n (suc k) (server_after (record_kind (take replay_record input)) s) (drop replay_record input))

pub in_chunks : (ends : Bool) (n m k : ℕ) (s : rules.Server) (input : List ℕ)
    → lines_in ends (n + m) k s input ≡ lines_in false n k s input ++ lines_in ends m (k + n) (run s (events_from n input)) (drop (replay_record * n) input)
unfolding lines_in events_from
in_chunks ends zero m k s input =
    let a : 0 + m ≡ m = omega arith in
    let b : k + 0 ≡ k = omega arith in
    rw (a, b)
in_chunks ends (suc n) m k s input =
    let a : suc n + m ≡ suc (n + m) = omega arith in
    let b : k + suc n ≡ suc k + n = omega arith in
    let d : 292 + 292 * n ≡ 292 * suc n = omega arith in
    let first : RecordKind = record_kind (take replay_record input) in
    let rest : List ℕ = drop replay_record input in
    rw a
    (ap (λ (l : List Line). line_of first k s ∷ l)
    (in_chunks ends n m (suc k) (server_after first s) rest
    ∙ (λ i. lines_in false n (suc k) (server_after first s) rest
    ++ lines_in ends m (sym b i) (sym (run_kind first s (events_from n rest)) i) ((drop-drop (292 * n) 292 input ∙ ap (λ (j : ℕ). drop j input) d) i))))

-- ---- a chunk
-- the records that are taken are few, and inside the chunk
pub records_few : (len n : ℕ) → n ≡ pick (leb (len / 292) 224) (len / 292) 224 → (n ≤ 224) × (292 * n ≤ len)
records_few len n e = by (leb (len / 292) 224) refl e where
  by : (b : Bool) → leb (len / 292) 224 ≡ b → n ≡ pick b (len / 292) 224 → (n ≤ 224) × (292 * n ≤ len)
  by true h q = (omega (arith, leb-true (len / 292) 224 h), omega arith)
  by false h q = (omega arith, omega (arith, leb-false (len / 292) 224 h))

-- the part that is cut into records, and what is behind it
pub part_whole : (input cut : List ℕ) (n : ℕ) → cut ≡ take (n * 292) input → 292 * n ≤ length input
    → (cut ++ drop (n * 292) input ≡ input) × (length cut ≡ n * 292)
part_whole input cut n e h = (
  ap (λ (v : List ℕ). v ++ drop (n * 292) input) e ∙ take-append-drop (n * 292) input,
  ap length e ∙ length-take-le (n * 292) input (omega (arith, h)),
)

pub chunks : (part : List ℕ) {input : List ℕ} {last b : Bool} {number n m done end r : ℕ} {s x : Server} {slots slots' : List Slot} {before after text mid text' : List ℕ}
    → n ≡ records_in input
    → Said (ends_with last input) input n number (server_of s slots before) text (server_of x slots' after) (part ++ drop (n * 292) input) (length part / 292)
    done end mid
    → Went input n s slots before (part ++ drop (n * 292) input) (length part / 292) x slots' after → length part ≡ 0 → 84 * n ≤ length text
    → m ≡ (number + n) % numbers_most → b ≡ (ends_with last input && ltb (n * 292) (length input)) → Put (pick b cut_text []) end mid text' r
    → Chunks input last number s slots slots' before after text text' (record { server = x; number = m; taken = n * 292; text = r })
chunks part {input} {last} {b} {number} {n} {m} {done} {end} {r} {s} {x} {slots} {slots'} {before} {after} {text} {mid} {text'} e w g z room q h p =
    let none : length part / 292 ≡ 0 = omega (arith, z) in
    let rest : part ++ drop (n * 292) input ≡ drop (n * 292) input = ap (λ (v : List ℕ). v ++ drop (n * 292) input) (nil_from_length part z) in
    record {
      server = went_run g none ∙ ap (λ (j : ℕ). run (server_of s slots before) (events_from j input)) e;
      host = λ c is f. subst (λ (j : ℕ). Hosted c x slots' after (is ++ items (server_of s slots before) (events_from j input))) e (went_host g none c is f);
      next = λ i k. subst (λ (j : ℕ). m ≡ (i + j) % numbers_most) e (omega (arith, q, k));
      rest = subst (λ (j : ℕ). n * 292 ≡ 292 * j) e (omega arith);
      prints = subst (λ (j : ℕ). Prints number (λ i. lines_in (ends_with last input) j i (server_of s slots before) input) 0 text text' r) e
          (said_all (n * 292) w none rest h room p);
    }

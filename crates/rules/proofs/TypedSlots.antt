-- The slot of a peer stays as `Typed` says, and what is written to the peer is a packet of ours to it.
-- Assumes nothing.
use Prim.Native.Nat.{ℕ, ◌<◌}
use mathlib.Core.Path.{◌≡◌, refl, sym, subst}
use mathlib.Core.Bool.{Bool, ◌&&◌}
use mathlib.Core.List.{List}
use mathlib.Core.Logic.{inl}
use native.Mathlib.Omega.{arith}
use Rattle.protocol.specs.declared.CaNumber.{CaNumber}
use Rattle.protocol.specs.declared.HelloState.{HelloState}
use Rattle.protocol.specs.declared.HelloState.TheVariants.{Waiting, Unidirectional, Bidirectional}
use Rattle.protocol.specs.declared.Link.{Link}
use Rattle.protocol.specs.declared.Timers.{Timers}
use Rattle.protocol.specs.Sizes.{id_length}
use Rattle.protocol.specs.Hello.{stale}
use Rattle.protocol.specs.Numbers.{next_ca}
use Rattle.protocol.specs.WellFormed.{Id}
use Rattle.rules.specs.Server.{Settings, Request, Slot}
use Rattle.rules.specs.Links as links
use Rattle.rules.specs.Links.{with_hello, recorded, negotiating, to_bidirectional, to_other, up_move, hello_move, check_move, enters, is_down}
use Rattle.rules.specs.Links.{is_bidirectional, hears_peer, CaRule, ca_move}
use Rattle.rules.specs.Slots.{with_link, with_timers, with_kept, with_listed, with_cursor, with_requests, with_updates, emptied, moved, completed}
use Rattle.laws.proofs.Bools.{pick_of}
use Rattle.rules.proofs.Typed.{KeptFor, GoodLink, TypedSlot}
use Rattle.rules.proofs.TypedRecords.{GoodRequests}

-- a slot of this peer
pub record SlotFor (s : Settings) (peer : List ℕ) (x : Slot) : Type 0 where
  pub peer_is : x.peer ≡ peer
  pub link : GoodLink x.link
  pub requests : GoodRequests x.requests
  pub kept : KeptFor s peer x.kept

pub slot_for_lem : (s : Settings) (x : Slot) → TypedSlot s x → SlotFor s x.peer x
slot_for_lem s x t = record { peer_is = refl; link = t.link; requests = t.requests; kept = t.kept }

pub typed_for : (s : Settings) (peer : List ℕ) (x : Slot) → Id id_length peer → SlotFor s peer x → TypedSlot s x
typed_for s peer x i f = record {
  peer = λ u. subst (Id id_length) (sym f.peer_is) i;
  link = f.link;
  requests = f.requests;
  kept = subst (λ (q : List ℕ). KeptFor s q x.kept) (sym f.peer_is) f.kept;
}

-- ---- links
next_fits : (n : CaNumber) → (next_ca n).0 < 4294967296
next_fits n = omega arith

pub other_good : (h : HelloState) (l : Link) → GoodLink l → GoodLink (to_other h l)
other_good h l g = record { number = g.number; last = g.last }

negotiating_good : (l : Link) → GoodLink l → GoodLink (negotiating l)
negotiating_good l g = record { number = next_fits l.number; last = g.last }

pub up_good : (l : Link) → GoodLink l → GoodLink (up_move l)
up_good l g = pick_of GoodLink (is_down l.hello) (to_other Waiting l) l (other_good Waiting l g) g

pub hello_good : (time interval factor : ℕ) (named : Bool) (l : Link) → GoodLink l → GoodLink (hello_move time interval factor named l)
hello_good time interval factor named l g =
    let m : Link = recorded time interval factor l in
    let h : GoodLink m = record { number = g.number; last = g.last } in
    pick_of GoodLink named (to_bidirectional m) (to_other Unidirectional m)
    (pick_of GoodLink (is_bidirectional m.hello) m (negotiating (with_hello Bidirectional m)) h
    (negotiating_good (with_hello Bidirectional m) (record { number = g.number; last = g.last })))
    (other_good Unidirectional m h)

pub check_good : (time : ℕ) (l : Link) → GoodLink l → GoodLink (check_move time l)
check_good time l g = pick_of GoodLink (hears_peer l.hello && stale l.interval l.factor l.heard time) (to_other Waiting l) l
    (other_good Waiting l g) g

pub ca_good : (u : CaRule) (c : links.CaIn) (more : Bool) (l : Link) → c.head.number.0 < 4294967296 → GoodLink l → GoodLink (ca_move u c more l)
ca_good links.refuse_ca c more l h g = g
ca_good links.become_slave c more l h g = record { number = h; last = h }
ca_good links.become_master c more l h g = record { number = next_fits l.number; last = h }
ca_good links.repeat c more l h g = g
ca_good links.slave_on c more l h g = record { number = h; last = h }
ca_good links.master_on c more l h g = record { number = next_fits l.number; last = h }
ca_good links.master_done c more l h g = record { number = g.number; last = h }
ca_good links.ignore c more l h g = g
ca_good links.restart c more l h g = negotiating_good l g

-- ---- parts of a slot
module _ (s : Settings) (peer : List ℕ) where
  pub link_kept : (l : Link) (x : Slot) → GoodLink l → SlotFor s peer x → SlotFor s peer (with_link l x)
  link_kept l x h g = record { peer_is = g.peer_is; link = h; requests = g.requests; kept = g.kept }

  pub timers_kept : (t : Timers) (x : Slot) → SlotFor s peer x → SlotFor s peer (with_timers t x)
  timers_kept t x g = record { peer_is = g.peer_is; link = g.link; requests = g.requests; kept = g.kept }

  pub kept_kept : (p : List ℕ) (x : Slot) → KeptFor s peer p → SlotFor s peer x → SlotFor s peer (with_kept p x)
  kept_kept p x h g = record { peer_is = g.peer_is; link = g.link; requests = g.requests; kept = h }

  pub listed_kept : (n : ℕ) (x : Slot) → SlotFor s peer x → SlotFor s peer (with_listed n x)
  listed_kept n x g = record { peer_is = g.peer_is; link = g.link; requests = g.requests; kept = g.kept }

  pub cursor_kept : (n : ℕ) (x : Slot) → SlotFor s peer x → SlotFor s peer (with_cursor n x)
  cursor_kept n x g = record { peer_is = g.peer_is; link = g.link; requests = g.requests; kept = g.kept }

  pub updates_kept : (n : ℕ) (x : Slot) → SlotFor s peer x → SlotFor s peer (with_updates n x)
  updates_kept n x g = record { peer_is = g.peer_is; link = g.link; requests = g.requests; kept = g.kept }

  pub requests_kept : (qs : List Request) (n : ℕ) (x : Slot) → GoodRequests qs → SlotFor s peer x → SlotFor s peer (with_requests qs n x)
  requests_kept qs n x h g = record { peer_is = g.peer_is; link = g.link; requests = h; kept = g.kept }

  pub moved_kept : (l : Link) (x : Slot) → GoodLink l → SlotFor s peer x → SlotFor s peer (moved l x)
  moved_kept l x h g =
      pick_of (SlotFor s peer) (enters x.link.alignment l.alignment) (emptied (with_link l x)) (with_link l x)
      (record { peer_is = g.peer_is; link = h; requests = tt; kept = inl refl })
      (link_kept l x h g)

  pub completed_kept : (x : Slot) → SlotFor s peer x → SlotFor s peer (completed x)
  completed_kept x g = record {
    peer_is = g.peer_is;
    link = record { number = g.link.number; last = g.link.last };
    requests = g.requests;
    kept = g.kept;
  }

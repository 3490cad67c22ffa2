-- The fields of a packet that are ignored when it is read (document 01: 'unused fields, Family ID and undefined flags').
-- Assumes nothing.
use Rattle.std.specs.Prelude.{ℕ, zero, suc, ◌+◌, ◌%◌, List, [], ◌∷◌}
use Rattle.protocol.specs.declared.Kind.{Kind}
use Rattle.protocol.specs.declared.Kind.TheVariants.{Ca, CsuRequest, CsuReply, Csus, Hello}
use Rattle.protocol.specs.Fields.{field2}
use Rattle.protocol.specs.Layouts.{Ignored}
use Rattle.protocol.specs.Checks.{common_at, count_at, elements_at}

-- the flags that the kind does not define: all but M, I and O in a CA
abbrev pub other_flags : Kind → ℕ → ℕ
other_flags Ca x = x % 8192
other_flags CsuRequest x = x
other_flags CsuReply x = x
other_flags Csus x = x
other_flags Hello x = x

-- the bits beside N of n records from a position on
unfoldable pub beside_at : List ℕ → ℕ → ℕ → List ℕ
beside_at p zero at = []
beside_at p (suc n) at = field2 p (at + 6) % 32768 ∷ beside_at p n (at + field2 p (at + 2))

abbrev pub beside_of : ℕ → Kind → List ℕ → List ℕ
beside_of w Ca p = beside_at p (count_at Ca p) (elements_at w Ca p)
beside_of w CsuRequest p = beside_at p (count_at CsuRequest p) (elements_at w CsuRequest p)
beside_of w CsuReply p = beside_at p (count_at CsuReply p) (elements_at w CsuReply p)
beside_of w Csus p = beside_at p (count_at Csus p) (elements_at w Csus p)
beside_of w Hello p = []

unfoldable pub ignored_of : ℕ → Kind → List ℕ → Ignored
ignored_of w k p = record {
  unused = field2 p (common_at k + 4);
  flags = other_flags k (field2 p (common_at k + 6));
  hello_unused = field2 p 12;
  family = field2 p 14;
  beside = beside_of w k p;
}

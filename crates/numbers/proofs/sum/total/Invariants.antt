-- The loop keeps: the sum and what is left add up to what all words do, and a word is a number of 32 bits.
use Rattle.std.proofs.Common.{◌≡◌, ◌+◌, ◌*◌, ◌≤◌, drop}
use Rattle.numbers.specs.Words.{low_total}
use Rattle.numbers.proofs.sum.total.Given as goal

abbrev pub invariant-loop-i : goal.invariant-loop-i
invariant-loop-i l = record {
  most : l.sum ≤ 4294967296 * l.i;
  same : low_total l.p ≡ l.sum + low_total (drop (l.i * 4) l.p);
}

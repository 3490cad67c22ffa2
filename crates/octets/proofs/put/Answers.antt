-- The part from `at` on is what was copied, and the rest is as it was.
use Rattle.std.proofs.Common.{◌+◌, length, refl, arith}
use Rattle.laws.specs.Puts.{put_at}
use Rattle.laws.proofs.Puts.{put_part}
use Rattle.octets.proofs.put.Goals as goal

pub returns : goal.returns
unfolding put_at
returns c =
    let a = c.args in
    record {
      next = refl;
      octets = put_part a.out.now a.src.now c.copy_from_slice.new.self a.at (a.at + length a.src.now) (omega arith) (omega arith)
          c.copy_from_slice.ensures.after;
    }

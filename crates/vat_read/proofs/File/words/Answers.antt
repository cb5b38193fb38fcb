use Rattle.std.proofs.Common.{refl, arith}
use Rattle.vat_read.proofs.Bytes.{length_small, some_words}
use Rattle.vat_read.proofs.File.words.Goals as goal

pub overflow_mul-v : goal.overflow_mul-v
overflow_mul-v c = let n = length_small _ _ _ c.args.self.now.filed in omega arith

pub overflow_mul-wanted : goal.overflow_mul-wanted
overflow_mul-wanted c = let n = length_small _ _ _ c.args.self.now.filed in omega arith

pub returns : goal.returns
returns c = rw c.min.ensures (some_words _ _ _ c.bytes_from-run.ensures c.args.v c.args.n refl c.requires.0 c.requires.1)

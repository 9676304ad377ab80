-- `record::put_words` meets its contract. Assumes nothing.
use native.Mathlib.Omega.{arith}
use Rattle.record.specs.View.{words_in}
use Rattle.record_defs.proofs.Records.{put_record}
use Rattle.record.proofs.put_words.Goals as goal

pub returns : goal.returns
returns c = cc (put_record c.args.out.now (words_in c.args.r) (omega arith))
